-- The patch round a thin circular shell at one depth given beside the sheet, and what its call answers. Document 02, C-16; source 001, equations
-- 5.10 to 5.12. c names the entries of the table of cosines, which document 02 leaves free.
use Rattle.std.specs.Prelude.{ℕ, ◌-◌, ◌<◌, min, ◌≡◌, Bool, true, false, List, [], ◌∷◌, ◌++◌, leb, eqb, length, get_or, ℤ, pos, neg_ℤ}
use Rattle.fraction.specs.Fraction.{Fraction, ◌⊘◌, whole, ◌⊗◌, ◌÷◌, up}
use Rattle.cosine.specs.Cosine.{billionths}
use Rattle.janssen.specs.declared.Section.{Section}
use Rattle.janssen.specs.declared.Section.TheVariants.{Circle, Rectangle}
use Rattle.janssen.specs.Section.{d_c, metres}
use Rattle.janssen.specs.Numbers.{FillingNumbers}
use Rattle.records.specs.Rules.{Rule, ◌unless◌}
use Rattle.description.specs.Silo.{section_of}
use Rattle.sheet.specs.Refusal.{sheet_rules_at}
use Rattle.loads.specs.Load.{load_number}
use Rattle.loads.specs.Load.Load.{p_p}
use Rattle.answers.specs.Answers.{silo_of}

-- the angle between θ and 0, from 0 to 180 degrees
unfoldable pub apart : ℕ → ℕ
apart θ = min θ (360 - θ)

-- the angle from 0 to 90 degrees whose cosine has the same size
unfoldable pub folded : ℕ → ℕ
folded θ = min (apart θ) (180 - apart θ)

-- the patch pushes outward up to 90 degrees from 0, inward beyond
unfoldable pub outward : ℕ → Bool
outward θ = leb (apart θ) 90

-- a size with its sign, outward positive
abbrev pub signed : Bool → ℕ → ℤ
signed true n = pos n
signed false n = neg_ℤ (pos n)

-- the size of p_p·cos d, rounded away from zero; p in Pa, d from 0 to 90 degrees
unfoldable pub size : (ℕ → ℕ) → ℕ → ℕ → ℕ
size c p d = up (whole p ⊗ billionths (c d))

-- p_ps = p_p·cos θ (5.11), Pa
unfoldable pub p_ps : (ℕ → ℕ) → ℕ → ℕ → ℤ
p_ps c p θ = signed (outward θ) (size c p (folded θ))

-- s = 0.2·d_c (5.10), m; d_c in mm
abbrev pub patch_height : ℕ → Fraction
patch_height dc = (2 ⊘ 10) ⊗ metres dc

-- F_p = π/2·s·d_c·p_p (5.12) with 355/113 for π, N, rounded up once; d_c in mm, p_p in Pa
unfoldable pub F_p : ℕ → ℕ → ℕ
F_p dc p = up ((355 ⊘ 113) ÷ whole 2 ⊗ patch_height dc ⊗ metres dc ⊗ whole p)

-- the reply list for the patch p of a circle, its diameter d_c in mm: 360 pressures, and the force
pub record ReplyList (c : ℕ → ℕ) (dc p : ℕ) (list : List ℤ) : Type 0 where
  pub sized : length list ≡ 361
  pub pressures : (θ : ℕ) → θ < 360 → get_or list θ (pos 0) ≡ p_ps c p θ
  pub force : get_or list 360 (pos 0) ≡ pos (F_p dc p)

-- the reply list of a sheet and the depth z mm below the brim, with p_p as the answer list has it there
abbrev pub ReplyListOf : FillingNumbers → (ℕ → ℕ) → List ℕ → ℕ → List ℤ → Type 0
ReplyListOf f c s z list = ReplyList c (d_c (section_of s)) (load_number f (silo_of s) p_p z) list

unfoldable pub is_circle : Section → Bool
is_circle (Circle d) = true
is_circle (Rectangle a b) = false

-- the rules of the call, given the depth z and lent a list of n numbers: those of the sheet and the depth, then 19 and 14
unfoldable pub shell_rules : List ℕ → ℕ → ℕ → List Rule
shell_rules s z n = sheet_rules_at s z ++ (19 unless is_circle (section_of s) ∷ 14 unless eqb n 361 ∷ [])

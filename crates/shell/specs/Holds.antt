-- What holds of the patch round the shell: each size is at or above its exact value and less than 5 Pa above it. Document 02, C-16.
use Rattle.std.specs.Prelude.{ℕ, ◌<◌, ◌≡◌, List, get_or, ℤ, pos}
use Rattle.fraction.specs.Fraction.{Fraction, whole, ◌⊗◌}
use Rattle.cosine.specs.Cosine.{Difference, AtMost, LessAbove, cosine_above, cosine_below}
use Rattle.janssen.specs.Filling.Kind.{horizontal}
use Rattle.janssen.specs.Numbers.{FillingNumbers}
use Rattle.loads.specs.Holds.{LowerAt, exact_patch}
use Rattle.answers.specs.Answers.{silo_of}
use Rattle.answers.specs.Claim.{Claim}
use Rattle.shell.specs.Shell.{folded, outward, signed, ReplyListOf}

abbrev pub scaled : Fraction → Difference → Difference
scaled F c = record { more = F ⊗ c.more; less = F ⊗ c.less }

-- a size beside F·cos d, F being p_p's unrounded formula over lower fractions and d from 0 to 90 degrees
pub record SizeHolds {A : Type 0} (Low : A → Type 0) (F : A → Fraction) (w d size : ℕ) : Type 0 where
  -- at or above every product of F over a lower fraction and some upper sum, which the cosine is not above
  pub at_or_above : (v : A) → Low v → (n : ℕ) × AtMost (scaled (F v) (cosine_above d n)) (whole size)
  -- less than w above some product of F over a lower fraction and a lower sum
  pub less_above : (v : A) × Low v × (n : ℕ) × LessAbove (whole w) (scaled (F v) (cosine_below d n)) (whole size)

-- the reply list for the depth z
pub record ShellClaim (f : FillingNumbers) (c : ℕ → ℕ) (s : List ℕ) (z : ℕ) (list : List ℤ) : Type 0 where
  -- every number in its place; each pressure has its sign, and its size keeps the allowance
  pub filled : ReplyListOf f c s z list
  pub sizes : (θ : ℕ) → θ < 360
      → (n : ℕ) × (get_or list θ (pos 0) ≡ signed (outward θ) n) × SizeHolds (LowerAt horizontal (silo_of s) z) (exact_patch (silo_of s)) 5 (folded θ) n
  -- demand 3 holds of the same filling numbers in the answer list
  pub demand : (answers : List ℕ) × Claim f s answers

-- The four quadrants: the pressure at a degree by the angle between it and 0 (`near`, `far`), and the list in which the sizes of a quadrant are stored one
-- by one (`placed_next`).
use Prim.Native.Nat.{ℕ, ◌+◌, ◌-◌, ◌*◌, ◌≤◌, ◌<◌, min}
use mathlib.Core.Path.{◌≡◌, refl, sym, ap, ◌∙◌}
use mathlib.Core.List.{List}
use native.Mathlib.Omega.{arith}
use native.Mathlib.Decide.{dec_le, dec_lt, ℕ_discrete}
use borrow.Author.Tests.{le-leb, lt-leb}
use lib.ListN.{length, get_or, set, length-set}
use lib.Seq.{get_or-set_same, get_or-set_other}
use lib.IntN.{ℤ, pos, neg_ℤ}
use Rattle.fraction.specs.Fraction.{◌⊘◌, up}
use Rattle.fraction.proofs.Up.{up_zero}
use Rattle.cosine.specs.Cosine.{CosineTable}
use Rattle.cosine.specs.program.Table.{entry}
use Rattle.cosine.proofs.CosineLaws.{tabulated}
use Rattle.shell.specs.Shell.{apart, folded, outward, size, p_ps, F_p, ReplyList}
use Rattle.shell.specs.program.Fill.{placed}

pub folded_small : (θ : ℕ) → θ < 360 → folded θ < 91
unfolding folded apart
folded_small θ h = omega arith

-- there is none at 90 degrees
size_none : (c : ℕ → ℕ) (p : ℕ) → c 90 ≡ 0 → size c p 90 ≡ 0
unfolding size
size_none c p z =
    let e : p * c 90 ≡ 0 = ap (λ (x : ℕ). p * x) z ∙ omega arith in
    ap (λ (x : ℕ). up (x ⊘ 1000000000)) e ∙ up_zero 1000000000 (omega arith)

-- at most 90 degrees from 0, and at most 90 degrees from 180
pub near : (c : ℕ → ℕ) (p θ d : ℕ) → apart θ ≡ d → d < 91 → p_ps c p θ ≡ pos (size c p d)
unfolding p_ps outward folded
near c p θ d e h =
    let f : min d (180 - d) ≡ d = omega arith in
    rw (e, f) (simp (le-leb d 90 (omega arith)))

pub far : (p θ d : ℕ) → apart θ ≡ 180 - d → d < 91 → p_ps entry p θ ≡ neg_ℤ (pos (size entry p d))
unfolding p_ps outward folded
far p θ d e h = go (dec_le d 89)
  where
    go : Dec (d ≤ 89) → p_ps entry p θ ≡ neg_ℤ (pos (size entry p d))
    go (yes l) =
        let f : min (180 - d) (180 - (180 - d)) ≡ d = omega arith in
        rw (e, f) (simp (lt-leb (180 - d) 90 (omega arith)))
    go (no l) =
        let g : d ≡ 90 = omega arith in
        near entry p θ 90 (e ∙ omega arith) (omega arith) ∙ rw (g, size_none entry p tabulated.exact.2) refl

-- none at 90 and 270 degrees, by any table that keeps its rule
pub none : (c : ℕ → ℕ) (d p : ℕ) (list : List ℤ) → CosineTable c → ReplyList c d p list → (get_or list 90 (pos 0) ≡ pos 0) × (get_or list 270 (pos 0) ≡ pos 0)
unfolding apart
none c d p list t r =
    let zero_size = ap pos (size_none c p t.exact.2) in
    (r.pressures 90 (omega arith) ∙ near c p 90 90 refl (omega arith) ∙ zero_size, r.pressures 270 (omega arith) ∙ near c p 270 90 refl (omega arith) ∙ zero_size)

-- a number stored that is right in its place is right there, and keeps what is right elsewhere
set_right : (l : List ℤ) (k θ : ℕ) (v x : ℤ) → k < length l → θ ≡ k → v ≡ x → get_or (set l k v) θ (pos 0) ≡ x
set_right l k θ v x h g right = ap (λ (i : ℕ). get_or (set l k v) i (pos 0)) g ∙ get_or-set_same l k v (pos 0) h ∙ right

set_keeps : (l : List ℤ) (k θ : ℕ) (v x : ℤ) → k < length l → (θ ≡ k → v ≡ x) → get_or l θ (pos 0) ≡ x → get_or (set l k v) θ (pos 0) ≡ x
set_keeps l k θ v x h right e = go (ℕ_discrete θ k)
  where
    go : Dec (θ ≡ k) → get_or (set l k v) θ (pos 0) ≡ x
    go (yes g) = set_right l k θ v x h g (right g)
    go (no g) = get_or-set_other l k θ v (pos 0) g ∙ e

-- the pressures are right at every degree whose angle in the first quadrant is below d
abbrev pub RightBelow : ℕ → ℕ → List ℤ → Type 0
RightBelow d p l = (θ : ℕ) → θ < 360 → folded θ < d → get_or l θ (pos 0) ≡ p_ps entry p θ

module _ (d p : ℕ) (l : List ℤ) (long : length l ≡ 361) (h : d < 91) where
  abbrev n : ℕ
  n = size entry p d

  abbrev first : List ℤ
  first = set l d (pos n)

  abbrev second : List ℤ
  second = set first (360 - d) (pos n)

  abbrev third : List ℤ
  third = set second (180 - d) (neg_ℤ (pos n))

  first_long : length first ≡ 361
  first_long = length-set l d (pos n) ∙ long

  second_long : length second ≡ 361
  second_long = length-set first (360 - d) (pos n) ∙ first_long

  third_long : length third ≡ 361
  third_long = length-set second (180 - d) (neg_ℤ (pos n)) ∙ second_long

  -- the four places, and what stands there
  at_first : (θ : ℕ) → θ ≡ d → pos n ≡ p_ps entry p θ
  unfolding apart
  at_first θ e = sym (near entry p θ d (omega arith) h)

  at_second : (θ : ℕ) → θ < 360 → θ ≡ 360 - d → pos n ≡ p_ps entry p θ
  unfolding apart
  at_second θ g e = sym (near entry p θ d (omega arith) h)

  at_third : (θ : ℕ) → θ ≡ 180 - d → neg_ℤ (pos n) ≡ p_ps entry p θ
  unfolding apart
  at_third θ e = sym (far p θ d (omega arith) h)

  at_fourth : (θ : ℕ) → θ ≡ 180 + d → neg_ℤ (pos n) ≡ p_ps entry p θ
  unfolding apart
  at_fourth θ e = sym (far p θ d (omega arith) h)

  module _ (θ : ℕ) (g : θ < 360) where
    abbrev Right : List ℤ → Type 0
    Right list = get_or list θ (pos 0) ≡ p_ps entry p θ

    by_first : Right l → Right first
    by_first = set_keeps l d θ (pos n) (p_ps entry p θ) (omega arith) (at_first θ)

    by_second : Right first → Right second
    by_second = set_keeps first (360 - d) θ (pos n) (p_ps entry p θ) (omega (arith, first_long)) (at_second θ g)

    by_third : Right second → Right third
    by_third = set_keeps second (180 - d) θ (neg_ℤ (pos n)) (p_ps entry p θ) (omega (arith, second_long)) (at_third θ)

    by_fourth : Right third → Right (placed l d n)
    by_fourth = set_keeps third (180 + d) θ (neg_ℤ (pos n)) (p_ps entry p θ) (omega (arith, third_long)) (at_fourth θ)

  -- one size more
  pub placed_next : RightBelow d p l → RightBelow (d + 1) p (placed l d n)
  unfolding folded apart
  placed_next right θ g f = go (dec_lt (folded θ) d)
    where
      places : folded θ ≡ d → Dec (θ ≤ 90) → Dec (θ ≤ 180) → Dec (θ ≤ 270) → Right θ g (placed l d n)
      places e (yes a) b c = by_fourth θ g (by_third θ g (by_second θ g (set_right l d θ (pos n) _ (omega arith) (omega arith) (at_first θ (omega arith)))))
      places e (no a) (yes b) c = by_fourth θ g (set_right second (180 - d) θ _ _ (omega (arith, second_long)) (omega arith) (at_third θ (omega arith)))
      places e (no a) (no b) (yes c) = set_right third (180 + d) θ _ _ (omega (arith, third_long)) (omega arith) (at_fourth θ (omega arith))
      places e (no a) (no b) (no c) = by_fourth θ g (by_third θ g (set_right first (360 - d) θ _ _ (omega (arith, first_long)) (omega arith) (at_second θ g (omega arith))))

      go : Dec (folded θ < d) → Right θ g (placed l d n)
      go (yes e) = by_fourth θ g (by_third θ g (by_second θ g (by_first θ g (right θ g e))))
      go (no e) = places (omega arith) (dec_le θ 90) (dec_le θ 180) (dec_le θ 270)

-- all sizes stored, and the force behind them
pub filled : (d p k : ℕ) (l : List ℤ) (v : ℤ) → length l ≡ 361 → 91 ≤ k → RightBelow k p l → v ≡ pos (F_p d p) → ReplyList entry d p (set l 360 v)
filled d p k l v long past right e = record {
  sized = length-set l 360 v ∙ long;
  pressures = λ θ g. get_or-set_other l 360 θ v (pos 0) (λ o. omega (arith, o)) ∙ right θ g (omega (arith, folded_small θ g));
  force = get_or-set_same l 360 v (pos 0) (omega arith) ∙ e;
}

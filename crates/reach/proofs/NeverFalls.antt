-- Rule 21 in plain inequalities: met exactly by 1 to 32 pressures of which none is below the one before (`never_falls`, `meets_21`).
use Prim.Native.Nat.{ℕ, zero, suc, ◌≤◌, ◌<◌}
use mathlib.Core.Bool.{Bool, true, false}
use Rattle.std.specs.List.{IsAllAdjacentAnswer}
use Rattle.std.specs.Prelude.{Some}
use Rattle.std.specs.Ordering.{is_le, is_some_and, nat_cmp}
use Rattle.std.proofs.lemmas.List.Sorted.{non_decreasing_from_is_sorted}
use mathlib.Core.List.{List, [], ◌∷◌}
use mathlib.Core.Path.{◌≡◌, refl, sym, ◌∙◌}
use native.Mathlib.Numerals.{add-one}
use native.Mathlib.Omega.{arith}
use borrow.Author.Tests.{leb-true, le-leb}
use lib.Dec.{leb}
use lib.ListN.{length, get_or}
use Rattle.records.specs.Rules.{within}
use Rattle.records.proofs.Tests.{both_true}
use Rattle.reach.specs.Reach.{never_falls_from, pressures_met}
use Rattle.reach.specs.Order.{NeverFalls}

from_below : (low : ℕ) (l : List ℕ) → never_falls_from low l ≡ true → NeverFalls l
unfolding never_falls_from
from_below low [] h i g = absurd (omega arith)
from_below low (p ∷ []) h i g = absurd (omega arith)
from_below low (p ∷ q ∷ l) h zero g =
    leb-true p q (both_true (leb p q) (never_falls_from q l) (both_true (leb low p) (never_falls_from p (q ∷ l)) h).1).0
from_below low (p ∷ q ∷ l) h (suc i) g = from_below p (q ∷ l) (both_true (leb low p) (never_falls_from p (q ∷ l)) h).1 i (omega arith)

back_below : (low : ℕ) (l : List ℕ) → (0 < length l → low ≤ get_or l 0 0) → NeverFalls l → never_falls_from low l ≡ true
unfolding never_falls_from
back_below low [] h n = refl
back_below low (p ∷ l) h n =
    rw (le-leb low p (h (omega arith))) (back_below p l (λ g. n 0 (omega (arith, g))) (λ i g. n (suc i) (omega (arith, g))))

-- what `is_sorted` tells of 1 to 32 pressures
rising : (l : List ℕ) (r : Bool) → IsAllAdjacentAnswer (λ x y b. is_some_and is_le (Some (nat_cmp x y)) ≡ b) l r → r ≡ never_falls_from 0 l
rising l true a = sym (back_below 0 l (λ _. omega arith) (λ i h. non_decreasing_from_is_sorted l true a i (suc i) 0 (omega arith) h))
rising l false a = at (never_falls_from 0 l) refl
  where
    at : (b : Bool) → never_falls_from 0 l ≡ b → false ≡ b
    at true e =
        let (k, inside, falls) = non_decreasing_from_is_sorted l false a in
        absurd (omega (arith, from_below 0 l e k (omega (arith, inside)), rw add-one at (falls 0)))
    at false e = refl

pub sorted : (l : List ℕ) (r : Bool) → 1 ≤ length l → length l ≤ 32 → IsAllAdjacentAnswer (λ x y b. is_some_and is_le (Some (nat_cmp x y)) ≡ b) l r → r ≡ pressures_met l
unfolding pressures_met
sorted l r some few a = rising l r a ∙ sym (simp (le-leb 1 (length l) some, le-leb (length l) 32 few))

pub never_falls : (l : List ℕ) → pressures_met l ≡ true → NeverFalls l
unfolding pressures_met
never_falls l h = from_below 0 l (both_true (within 1 32 (length l)) (never_falls_from 0 l) h).1

pub meets_21 : (l : List ℕ) → 1 ≤ length l → length l ≤ 32 → NeverFalls l → pressures_met l ≡ true
unfolding pressures_met
meets_21 l some few n = simp (le-leb 1 (length l) some, le-leb (length l) 32 few, back_below 0 l (λ _. omega arith) n)

-- The rules on strakes and depths: at the first number of a list, and at each.
use Prim.Native.Nat.{ℕ, zero, suc, ◌+◌, ◌≤◌, ◌<◌}
use mathlib.Core.Bool.{true, ◌&&◌}
use mathlib.Core.List.{List, [], ◌∷◌}
use mathlib.Core.Path.{◌≡◌, refl, ap}
use native.Mathlib.Omega.{arith}
use lib.ListN.{length, get_or}
use Rattle.std.specs.List.{list_all}
use Rattle.records.specs.Rules.{within}
use Rattle.records.proofs.Tests.{absurd, both_true, within_true, true_within}
use Rattle.sheet.specs.Refusal.{strakes_met, depths_met}

-- each strake of a list
pub all_met : (l : List ℕ) → list_all (λ (x : ℕ). within 200 3000 x) l ≡ strakes_met l
unfolding strakes_met
all_met [] = refl
all_met (x ∷ l) = ap (λ b. within 200 3000 x && b) (all_met l)

pub depths_next : (top low z : ℕ) (l : List ℕ) → depths_met top low (z ∷ l) ≡ (within low top z && depths_met top (z + 1) l)
unfolding depths_met
depths_next top low z l = refl

-- every strake of a list inside its limits
pub strakes_met_at : (l : List ℕ) → strakes_met l ≡ true → (i : ℕ) → i < length l → (200 ≤ get_or l i 0) × (get_or l i 0 ≤ 3000)
unfolding strakes_met
strakes_met_at [] h i m = absurd (omega arith)
strakes_met_at (x ∷ l) h zero m = within_true 200 3000 x (both_true (within 200 3000 x) (strakes_met l) h).0
strakes_met_at (x ∷ l) h (suc i) m = strakes_met_at l (both_true (within 200 3000 x) (strakes_met l) h).1 i (omega arith)

pub at_strakes_met : (l : List ℕ) → ((i : ℕ) → i < length l → (200 ≤ get_or l i 0) × (get_or l i 0 ≤ 3000)) → strakes_met l ≡ true
unfolding strakes_met
at_strakes_met [] h = refl
at_strakes_met (x ∷ l) h =
    let p = h 0 (omega arith) in
    simp (true_within 200 3000 x p.0 p.1, at_strakes_met l (λ i m. h (suc i) (omega arith)))

-- depths that rise: the first is at least low, none is over top, each is less than the next
pub rising_first : (top low : ℕ) (l : List ℕ) → depths_met top low l ≡ true → 0 < length l → low ≤ get_or l 0 0
unfolding depths_met
rising_first top low [] h m = absurd (omega arith)
rising_first top low (z ∷ l) h m = (within_true low top z (both_true (within low top z) (depths_met top (z + 1) l) h).0).0

pub rising_most : (top low : ℕ) (l : List ℕ) → depths_met top low l ≡ true → (i : ℕ) → i < length l → get_or l i 0 ≤ top
unfolding depths_met
rising_most top low [] h i m = absurd (omega arith)
rising_most top low (z ∷ l) h zero m = (within_true low top z (both_true (within low top z) (depths_met top (z + 1) l) h).0).1
rising_most top low (z ∷ l) h (suc i) m = rising_most top (z + 1) l (both_true (within low top z) (depths_met top (z + 1) l) h).1 i (omega arith)

pub rising_next : (top low : ℕ) (l : List ℕ) → depths_met top low l ≡ true → (i : ℕ) → suc i < length l → get_or l i 0 < get_or l (suc i) 0
unfolding depths_met
rising_next top low [] h i m = absurd (omega arith)
rising_next top low (z ∷ l) h zero m =
    let f = rising_first top (z + 1) l (both_true (within low top z) (depths_met top (z + 1) l) h).1 (omega arith) in
    omega arith
rising_next top low (z ∷ l) h (suc i) m = rising_next top (z + 1) l (both_true (within low top z) (depths_met top (z + 1) l) h).1 i (omega arith)

pub next_rising : (top low : ℕ) (l : List ℕ) → (0 < length l → low ≤ get_or l 0 0) → ((i : ℕ) → i < length l → get_or l i 0 ≤ top) → ((i : ℕ) → suc i < length l → get_or l i 0 < get_or l (suc i) 0) → depths_met top low l ≡ true
unfolding depths_met
next_rising top low [] f t n = refl
next_rising top low (z ∷ l) f t n =
    simp (
      true_within low top z (f (omega arith)) (t 0 (omega arith)),
      next_rising top (z + 1) l (λ m. let h = n 0 (omega arith) in omega arith) (λ i m. t (suc i) (omega arith)) (λ i m. n (suc i) (omega arith)),
    )

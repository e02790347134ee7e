-- Sums of the first heights of a wall: the next edge, and that no edge lies above one before it.
-- Assumes nothing.
use Prim.Native.Nat.{ℕ, zero, suc, ◌+◌, ◌≤◌, ◌<◌}
use mathlib.Core.Path.{◌≡◌}
use mathlib.Core.List.{List, [], ◌∷◌}
use native.Mathlib.Nat.{not-suc-le-zero, le_of_suc-le-suc}
use native.Mathlib.Omega.{arith}
use lib.ListN.{length, get_or, take}
use Rattle.description.specs.Silo.{sum}

pub sum_next : (l : List ℕ) (k : ℕ) → k < length l → sum (take (suc k) l) ≡ sum (take k l) + get_or l k 0
unfolding sum
sum_next [] k h = absurd (not-suc-le-zero h)
sum_next (x ∷ l) zero h = omega arith
sum_next (x ∷ l) (suc k) h = omega (arith, sum_next l k (le_of_suc-le-suc h))

pub sum_under : (l : List ℕ) (k n : ℕ) → k ≤ n → sum (take k l) ≤ sum (take n l)
unfolding sum
sum_under l zero n h = omega arith
sum_under l (suc k) zero h = absurd (not-suc-le-zero h)
sum_under [] (suc k) (suc n) h = omega arith
sum_under (x ∷ l) (suc k) (suc n) h = omega (arith, sum_under l k n (le_of_suc-le-suc h))

pub sum_take : (l : List ℕ) (k : ℕ) → sum (take k l) ≤ sum l
unfolding sum
sum_take l zero = omega arith
sum_take [] (suc k) = omega arith
sum_take (x ∷ l) (suc k) = omega (arith, sum_take l k)

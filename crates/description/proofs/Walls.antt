-- The 24 places of a wall: the strakes from the front, and zeros behind them. Going down it:
--     passed_after     after k steps k strakes are passed
--     edge_after       after k steps the edge is the sum of the first k heights, for each k up to their count
--     edge_of_sheet    so after k steps down a sheet's strakes the edge is the lower edge of the k-th
use Prim.Native.Nat.{ℕ, zero, suc, ◌+◌, ◌-◌, ◌≤◌}
use mathlib.Core.List.{List, ◌++◌}
use mathlib.Core.Path.{◌≡◌, refl, ap, ◌∙◌}
use native.Mathlib.Numerals.{add-one}
use native.Mathlib.Omega.{arith}
use lib.ListN.{length, take, drop, replicate, length-append, length-replicate}
use lib.Seq.{sets, sets-eq, take_at}
use Rattle.records.specs.Rules.{first_unmet}
use Rattle.records.specs.Format.{u16, layout_rules}
use Rattle.description.specs.Silo.{strake_count, strakes_of, sum, edge_of}
use Rattle.description.specs.program.Described.{wall_of}
use Rattle.description.specs.program.Wall.{wall_top, wall_lowered, wall_after}
use Rattle.description.proofs.Sums.{sum_next}
use Rattle.records.proofs.Fine.{strakes_few}
use Rattle.records.proofs.Numbers.{numbers_length}

zeros : ℕ → List ℕ
zeros n = replicate n 0

drop_zeros : (k n : ℕ) → drop k (zeros n) ≡ zeros (n - k)
unfolding zeros
drop_zeros zero n = let e : n ≡ n - 0 = omega arith in ap zeros e
drop_zeros (suc k) zero = let e : 0 ≡ 0 - suc k = omega arith in ap zeros e
drop_zeros (suc k) (suc n) = let e : n - k ≡ suc n - suc k = omega arith in drop_zeros k n ∙ ap zeros e

pub strakes_length : (s : List ℕ) → length (strakes_of s) ≡ strake_count s
unfolding strakes_of
strakes_length s = numbers_length (u16 s) 2 _ (strake_count s)

-- no rule on the records allows more
pub strakes_most : (s : List ℕ) → first_unmet (layout_rules s) ≡ 0 → strake_count s ≤ 24
unfolding strake_count
strakes_most s met = omega (arith, strakes_few s met)

pub heights_filled : (s : List ℕ) → strake_count s ≤ 24 → sets (replicate 24 0) 0 (strakes_of s) ≡ strakes_of s ++ replicate (24 - strake_count s) 0
unfolding zeros
heights_filled s h =
    let l = strakes_of s in
    let n = strakes_length s in
    let e : 0 + length l ≡ strake_count s = omega arith in
    sets-eq l (zeros 24) 0 (omega (arith, length-replicate {A = ℕ} 24 0))
    ∙ ap (λ (r : List ℕ). l ++ r) (drop_zeros (0 + length l) 24 ∙ ap (λ m. zeros (24 - m)) e)

pub wall_counted : (s : List ℕ) → (wall_of s).count ≡ strake_count s
unfolding wall_of
wall_counted s = refl

-- the heights are the strakes, and zeros up to 24
pub wall_fits : (s : List ℕ) → strake_count s ≤ 24 → (length (wall_of s).heights ≡ 24) × (take (wall_of s).count (wall_of s).heights ≡ strakes_of s)
unfolding wall_of
wall_fits s h = (
  simp (length-append, length-replicate) (omega (arith, strakes_length s, h)),
  take_at (strakes_of s) (replicate (24 - strake_count s) 0) (strake_count s) (strakes_length s),
)

pub passed_after : (heights : List ℕ) (k : ℕ) → (wall_after heights k).passed ≡ k
unfolding wall_after wall_top wall_lowered
passed_after heights zero = refl
passed_after heights (suc k) = ap (λ (n : ℕ). n + 1) (passed_after heights k) ∙ add-one k

pub edge_after : (heights : List ℕ) (k : ℕ) → k ≤ length heights → (wall_after heights k).edge ≡ sum (take k heights)
unfolding wall_after wall_top wall_lowered sum
edge_after heights zero h = refl
edge_after heights (suc k) h = omega (arith, edge_after heights k (omega (arith, h)), sum_next heights k h)

pub edge_of_sheet : (s : List ℕ) (k : ℕ) → k ≤ strake_count s → (wall_after (strakes_of s) k).edge ≡ edge_of s k
unfolding edge_of
edge_of_sheet s k h = edge_after (strakes_of s) k (omega (arith, h, strakes_length s))

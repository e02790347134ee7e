-- The table's rule, proved once: entry 0 is 2^40, and one computed test over neighbours carries the rule from each entry to the
-- next. 679526571/668991488 is at least every S_n(1/64); 130878095681/128849018880 is S_5(1/64).
-- Assumes nothing.
use mathlib.Core.Path.{◌≡◌, refl, ap}
use mathlib.Core.Bool.{Bool, true, ◌&&◌}
use mathlib.Core.List.{List, [], ◌∷◌}
use Prim.Native.Nat.{ℕ, zero, suc, ◌+◌, ◌*◌, ◌^◌, ◌≤◌, ◌<◌}
use native.Mathlib.Nat.{add-zero, add-suc, zero-add, le_trans, le_refl, not-suc-le-zero, le_of_suc-le-suc}
use native.Mathlib.Numerals.{add-one}
use native.Mathlib.Omega.{arith}
use lib.Dec.{T, leb, leb→le, lit<, lit≤}
use mir.Facts.{and_yes}
use lib.ListN.{length, get_or}
use Rattle.fraction.specs.Fraction.{◌⊘◌, whole, ◌⊗◌, ◌⪯◌}
use Rattle.exponential.specs.Series.{factorial, term, S}
use Rattle.exponential.specs.Table.{Tabulated}
use Rattle.exponential.specs.program.Table.{table}
use Rattle.exponential.specs.program.Lower.{Below, Above, entry_in, entry}
use Rattle.exponential.proofs.Terms.{terms, terms_are}
use Rattle.exponential.proofs.Weighted.{wsum, weighted_bound, sum_at_most}
use Rattle.exponential.proofs.SeriesLaws.{S_one}
use Rattle.exponential.proofs.Joins.{below_join, above_join}

-- (5 - 1/64)·S_n(1/64) is at most the first terms of (5 - y)·e^y
pub step_above : (n : ℕ) → whole 668991488 ⊗ S n (1 ⊘ 64) ⪯ whole 679526571
unfolding wsum
step_above n =
    let u = terms (5 + n) 1 64 in
    let is = terms_are (5 + n) 1 64 in
    sum_at_most (5 + n) 1 64 n 668991488 679526571 (omega arith) (omega arith)
    (omega (
      arith,
      weighted_bound (5 + n) 1 64 319 5 u is refl n (le_refl (5 + n)),
      is 0 (omega arith),
      is 1 (omega arith),
      is 2 (omega arith),
      is 3 (omega arith),
    ))

pub step_below : whole 130878095681 ⪯ whole 128849018880 ⊗ S 5 (1 ⊘ 64)
unfolding S term factorial
step_below = record { left = lit< tt; right = lit< tt; order = lit≤ tt }

-- y may follow x in the table
follows : ℕ → ℕ → Bool
follows x y = leb (y * 679526571) (x * 668991488) && leb ((x + 256) * 128849018880) ((y + 256) * 130878095681)

neighbours : ℕ → List ℕ → Bool
neighbours x [] = true
neighbours x (y ∷ ys) = follows x y && neighbours y ys

may_follow : (x y : ℕ) → T (follows x y) →
    (y * 679526571 ≤ x * 668991488) × ((x + 256) * 128849018880 ≤ (y + 256) * 130878095681)
unfolding follows
may_follow x y t =
    let l = and_yes (leb (y * 679526571) (x * 668991488)) (leb ((x + 256) * 128849018880) ((y + 256) * 130878095681)) t in
    (leb→le _ _ l.0, leb→le _ _ l.1)

-- the rule of the entry t at k
abbrev Enclosed : ℕ → ℕ → Type 0
Enclosed k t = Below t (k ⊘ 64) × Above (t + 256) (k ⊘ 64)

-- one step along the table
enclosed_next : (k x y : ℕ) → T (follows x y) → Enclosed k x → Enclosed (suc k) y
enclosed_next k x y t (b, a) =
    rw (← add-one k) (
      below_join k 1 64 x y 668991488 679526571 (omega arith) (omega arith) b step_above (may_follow x y t).0,
      above_join k 1 64 (x + 256) (y + 256) 130878095681 128849018880 5 (omega arith) (omega arith) a step_below (may_follow x y t).1,
    )

neighbour : (x : ℕ) (ys : List ℕ) → T (neighbours x ys) → (i : ℕ) → suc i < length (x ∷ ys)
    → T (follows (get_or (x ∷ ys) i 0) (get_or (x ∷ ys) (suc i) 0))
unfolding neighbours
neighbour x [] t i l = absurd (not-suc-le-zero (le_of_suc-le-suc l))
neighbour x (y ∷ ys) t zero l = (and_yes (follows x y) (neighbours y ys) t).0
neighbour x (y ∷ ys) t (suc i) l = neighbour y ys (and_yes (follows x y) (neighbours y ys) t).1 i (le_of_suc-le-suc l)

tail : List ℕ → List ℕ
tail [] = []
tail (x ∷ xs) = xs

-- the computed test, over the whole table
tested : T (neighbours (2 ^ 40) (tail table))
unfolding neighbours follows tail table
tested = tt

table_starts : table ≡ 2 ^ 40 ∷ tail table
unfolding table tail
table_starts = refl

pub table_length : length table ≡ 3393
unfolding table
table_length = refl

follow : (k : ℕ) → suc k < 3393 → T (follows (entry k) (entry (suc k)))
unfolding entry_in
follow k l =
    rw table_starts
    (neighbour (2 ^ 40) (tail table) tested k (omega (arith, table_length, ap length table_starts)))

pub entry_zero : entry 0 ≡ 2 ^ 40
unfolding entry_in
entry_zero = rw table_starts

-- S_n(0) is 1
S_at_zero : (n : ℕ) → whole 1 ⊗ S n (0 ⊘ 64) ⪯ whole 1
unfolding wsum
S_at_zero n =
    sum_at_most (1 + n) 0 64 n 1 1 (omega arith) (omega arith)
    (omega (arith, weighted_bound (1 + n) 0 64 64 1 (terms (1 + n) 0 64) (terms_are (1 + n) 0 64) refl n (le_refl (1 + n))))

enclosed_zero : Enclosed 0 (2 ^ 40)
enclosed_zero = (
  λ n. record { left = (S_at_zero n).left; right = omega arith; order = omega (arith, (S_at_zero n).order) },
  (0, record { left = omega arith; right = (S_at_zero 0).left; order = omega (arith, (S_one 0 (0 ⊘ 64) (omega arith)).order, (S_one 0 (0 ⊘ 64) (omega arith)).right) }),
)

-- the rule, at every entry
pub enclosed : (k : ℕ) → k < 3393 → Enclosed k (entry k)
enclosed zero l = rw entry_zero enclosed_zero
enclosed (suc k) l = enclosed_next k (entry k) (entry (suc k)) (follow k l) (enclosed k (omega arith))

pub tabulated : Tabulated table
unfolding entry_in
tabulated = record { count = table_length; first = entry_zero; never_above = λ k l. (enclosed k l).0; less_below = λ k l. (enclosed k l).1 }

-- the table never rises
pub entry_falls : (k : ℕ) → suc k < 3393 → entry (suc k) ≤ entry k
entry_falls k l = omega (arith, (may_follow (entry k) (entry (suc k)) (follow k l)).0)

pub entry_falls_by : (d k : ℕ) → k + d < 3393 → entry (k + d) ≤ entry k
entry_falls_by zero k l = rw add-zero (le_refl (entry k))
entry_falls_by (suc d) k l =
    rw add-suc (le_trans (entry_falls (k + d) (omega arith)) (entry_falls_by d k (omega arith)))

pub entry_le : (k : ℕ) → k < 3393 → entry k ≤ 2 ^ 40
entry_le k l = rw (← entry_zero) (rw zero-add at (entry_falls_by k 0 (omega arith)))

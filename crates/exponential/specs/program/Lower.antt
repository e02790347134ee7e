-- The lower bound of 2^40·e^(-q) at q = Q/2^33 that the program uses, as the program computes it. What holds of it is proved in
-- `proofs/LowerLaws.antt`: it lies below, it lies less than 354 below, it never rises with Q, and it is 2^40 at Q = 0.
use Rattle.std.specs.Prelude.{ℕ, ◌+◌, ◌-◌, ◌*◌, ◌/◌, ◌%◌, ◌^◌, max, List, get_or}
use Rattle.fraction.specs.Fraction.{Fraction, ◌⊘◌, whole, ◌⊗◌, ◌⪯◌, ◌≺◌, up}
use Rattle.exponential.specs.Series.{S}
use Rattle.exponential.specs.program.Table.{table}

-- t is at most 2^40·e^(-q): t·S_n ≤ 2^40 for every n
abbrev pub Below : ℕ → Fraction → Type 0
Below t q = (n : ℕ) → whole t ⊗ S n q ⪯ whole (2 ^ 40)

-- t is more than 2^40·e^(-q): t·S_n > 2^40 for some n
abbrev pub Above : ℕ → Fraction → Type 0
Above t q = (n : ℕ) × (whole (2 ^ 40) ≺ whole t ⊗ S n q)

-- 2^33 times the first terms 4 + 3y + y² + y³/6 of (4 - y)·e^y at y = j/2^33, each rounded up
unfoldable pub denominator : ℕ → ℕ
denominator j = 2 ^ 35 + 3 * j + up ((j * j) ⊘ 2 ^ 33) + up ((j * up ((j * j) ⊘ 2 ^ 33)) ⊘ (6 * 2 ^ 33))

-- from the entry t at k/64 to the point j/2^33 further, and never below the next entry
unfoldable pub between : ℕ → ℕ → ℕ → ℕ
between t next j = max (t * (2 ^ 35 - j) / denominator j) next

-- the entry at k/64 of a table
unfoldable pub entry_in : List ℕ → ℕ → ℕ
entry_in t k = get_or t k 0

-- 2^40·e^(-Q/2^33) from below, by a table
unfoldable pub lower_by : List ℕ → ℕ → ℕ
lower_by t Q = between (entry_in t (Q / 2 ^ 27)) (entry_in t (Q / 2 ^ 27 + 1)) (Q % 2 ^ 27)

-- by the one that the program holds
abbrev pub entry : ℕ → ℕ
entry k = entry_in table k

abbrev pub lower : ℕ → ℕ
lower Q = lower_by table Q

-- The rule of the table: the values e^(-k/64) for k from 0 to 3,392 as whole numbers, in 2^-40. Document 01, "Filling".
use Rattle.std.specs.Prelude.{ℕ, ◌+◌, ◌^◌, ◌<◌, ◌≡◌, List, length, get_or}
use Rattle.fraction.specs.Fraction.{◌⊘◌, whole, ◌⊗◌, ◌⪯◌, ◌≺◌}
use Rattle.exponential.specs.Series.{S}

pub record Tabulated (entries : List ℕ) : Type 0 where
  pub count : length entries ≡ 3393
  -- the entry for k = 0 is 2^40
  pub first : get_or entries 0 0 ≡ 2 ^ 40
  -- an entry t is never above 2^40·e^(-k/64): t·S_n ≤ 2^40 for every n
  pub never_above : (k : ℕ) → k < 3393 → (n : ℕ) → whole (get_or entries k 0) ⊗ S n (k ⊘ 64) ⪯ whole (2 ^ 40)
  -- and less than 256 below it: (t + 256)·S_n > 2^40 for some n
  pub less_below : (k : ℕ) → k < 3393 → (n : ℕ) × (whole (2 ^ 40) ≺ whole (get_or entries k 0 + 256) ⊗ S n (k ⊘ 64))

-- What a search has found so far; depths in mm below the brim.
use Rattle.std.specs.Prelude.{ℕ, ◌≤◌, ◌<◌}
use Rattle.reach.specs.declared.search.Bracket.{Bracket}

-- the greatest depth that carries p lies in the bracket
pub record Between (load : ℕ → ℕ) (foot p : ℕ) (b : Bracket) : Type 0 where
  pub order : b.low ≤ b.high
  pub inside : b.high ≤ foot
  pub carries : load b.low ≤ p
  pub beyond : (z : ℕ) → b.high < z → z ≤ foot → p < load z

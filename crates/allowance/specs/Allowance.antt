-- A load made from filling, compared through lower fractions. Document 01, "Filling".
use Rattle.std.specs.Prelude.{ℕ}
use Rattle.fraction.specs.Fraction.{Fraction, whole, ◌⊕◌, ◌⊗◌, ◌⪯◌, ◌≺◌}
use Rattle.exponential.specs.Series.{S}

-- v is a lower fraction of the filling pressure P·(1 - e^(-q)): (P - v)·S_n ≥ P for some n
pub record Lower (P q v : Fraction) : Type 0 where
  pub below : (n : ℕ) × (P ⊕ v ⊗ S n q ⪯ P ⊗ S n q)

-- a load is at or above every result of its unrounded formula F over lower fractions, and less than w above some such result
pub record Allowance {A : Type 0} (Low : A → Type 0) (F : A → Fraction) (w load : ℕ) : Type 0 where
  pub at_or_above : (v : A) → Low v → F v ⪯ whole load
  pub less_above : (v : A) × Low v × (whole load ≺ F v ⊕ whole w)

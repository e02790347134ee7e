-- The bands in which the pressures and P_w lie. Document 01, "Filling". Nothing is subtracted: each comparison has its negative terms
-- on the other side.
use Rattle.std.specs.Prelude.{ℕ, ◌<◌, ◌≡◌}
use Rattle.fraction.specs.Fraction.{Fraction, whole, ◌⊕◌, ◌⊗◌, ◌⪯◌}
use Rattle.exponential.specs.Series.{S}
use Rattle.janssen.specs.declared.Section.{Section}
use Rattle.janssen.specs.Filling.{Grain, Kind, factors, q, P, D, N}
use Rattle.janssen.specs.Filling.Kind.{wall_friction}

-- the pressure is at or above P·(1 - e^(-q)), and less than w above it
pub record FillingBand (w : Fraction) (k : Kind) (s : Section) (p : Grain) (z pressure : ℕ) : Type 0 where
  -- (P - p)·S_n ≤ P for every n
  pub above : (n : ℕ) → P k s p ⊗ S n (q (factors k) s p z) ⪯ P k s p ⊕ whole pressure ⊗ S n (q (factors k) s p z)
  -- (P - p + w)·S_n ≥ P for some n
  pub close : 0 < z → (n : ℕ) × (P k s p ⊕ whole pressure ⊗ S n (q (factors k) s p z) ⪯ (P k s p ⊕ w) ⊗ S n (q (factors k) s p z))
  -- at z = 0 it is 0
  pub surface : z ≡ 0 → pressure ≡ 0

-- the load w is at or above γR·(z - z0·(1 - e^(-q))), and less than 2 above it (5.7)
pub record WallLoadBand (s : Section) (p : Grain) (z w : ℕ) : Type 0 where
  -- (w + D - N)·S_n ≥ D for some n
  pub above : (n : ℕ) × (D s p ⊕ N s p z ⊗ S n (q (factors wall_friction) s p z) ⪯ (whole w ⊕ D s p) ⊗ S n (q (factors wall_friction) s p z))
  -- (w - 2 + D - N)·S_n ≤ D for every n
  pub close : (n : ℕ) → (whole w ⊕ D s p) ⊗ S n (q (factors wall_friction) s p z) ⪯ D s p ⊕ (N s p z ⊕ whole 2) ⊗ S n (q (factors wall_friction) s p z)
  -- at z = 0 it is 0
  pub surface : z ≡ 0 → w ≡ 0

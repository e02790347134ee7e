-- The sections, products and depths for which the pressures are promised. Document 01, "Who can be refused", 6, 7, 11 and 12.
use Rattle.std.specs.Prelude.{ℕ, ◌*◌, ◌^◌, ◌≤◌, ◌<◌}
use Rattle.janssen.specs.declared.Section.{Section}
use Rattle.janssen.specs.Section.{side_a, side_b, d_c}
use Rattle.janssen.specs.Filling.{Grain}

-- a number from low to high
pub record Within (low high n : ℕ) : Type 0 where
  pub least : low ≤ n
  pub most : n ≤ high

-- d, a and b in mm, γ in N/m³, Ks and μ in hundredths
pub record InRange (s : Section) (p : Grain) : Type 0 where
  pub a_in : Within 500 50000 (side_a s)
  pub b_in : Within 500 50000 (side_b s)
  pub γ_in : Within 1000 30000 p.weight
  pub Ks_in : Within 20 100 p.ratio
  pub μ_in : Within 10 100 p.friction

-- a depth less than ten widths down, mm; no wall is as high as 2^17 mm
pub record InDepth (s : Section) (z : ℕ) : Type 0 where
  pub below_ten : z < 10 * d_c s
  pub wall : z ≤ 2 ^ 17

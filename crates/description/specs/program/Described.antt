-- The silo as the program holds it: its values, the wall in 24 places, and where the depths stand.
use Rattle.std.specs.Prelude.{ℕ, ◌-◌, ◌≤◌, ◌<◌, List, ◌++◌, ◌≡◌, length, replicate}
use Rattle.janssen.specs.Section.{side_a, side_b}
use Rattle.janssen.specs.declared.Product.{Product}
use Rattle.description.specs.declared.Wall.{Wall}
use Rattle.description.specs.declared.Depths.{Depths}
use Rattle.description.specs.declared.Described.{Described}
use Rattle.records.specs.Format.{payload}
use Rattle.description.specs.Silo.{section_of, product_sent, factor_read, eccentricities_of, bottom_of, strake_count, strakes_of, V_of, depth_count, headroom_of}

-- the product as its loads see it
abbrev pub product_read : Product → Product
product_read p = record { weight = p.weight; ratio = p.ratio; friction = p.friction; factor = factor_read p.factor }

-- 24 places for the heights, how many of them are strakes, and V
unfoldable pub wall_of : List ℕ → Wall
wall_of s = record { heights = strakes_of s ++ replicate (24 - strake_count s) 0; count = strake_count s; foot = V_of s }

abbrev pub depths_in : List ℕ → Depths
depths_in s = record { start = payload s 5; count = depth_count s }

abbrev pub described_of : List ℕ → Described
described_of s =
    record {
      section = section_of s;
      product = product_sent s;
      eccentricities = eccentricities_of s;
      bottom = bottom_of s;
      wall = wall_of s;
      depths = depths_in s;
      headroom = headroom_of s;
    }

-- what every description holds, whatever its sheet: numbers that no sum or product of the rules makes too large, and its 24 places
pub record Sized (d : Described) : Type 0 where
  pub a_small : side_a d.section < 4294967296
  pub b_small : side_b d.section < 4294967296
  pub inlet_small : d.eccentricities.inlet < 4294967296
  pub outlet_small : d.eccentricities.outlet < 4294967296
  pub height_small : d.bottom.height < 4294967296
  pub run_small : d.bottom.run < 4294967296
  pub foot_small : d.wall.foot < 4294967296
  pub places : length d.wall.heights ≡ 24
  pub strakes_few : d.wall.count ≤ 24
  pub start_near : d.depths.start ≤ 1024
  pub depths_few : d.depths.count ≤ 1024
  pub headroom_small : d.headroom < 4294967296

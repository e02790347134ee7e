-- What the silo of an accepted sheet meets, and the numbers of a depth in the program's order.
use Rattle.std.specs.Prelude.{ℕ, ◌*◌, ◌≤◌, List, map}
use Rattle.janssen.specs.Section.{d_c}
use Rattle.janssen.specs.Filling.{grain_of}
use Rattle.janssen.specs.program.Range.{Within, InRange, InDepth}
use Rattle.janssen.specs.program.Pressure.{computed}
use Rattle.loads.specs.declared.Silo.{Silo}
use Rattle.loads.specs.Load.{eight, load_depth, load_number}

-- a depth at which loads are worked out
abbrev pub Reached : Silo → ℕ → Type 0
Reached c depth = InDepth c.section (load_depth c depth)

-- the silo of an accepted sheet
pub record Fits (c : Silo) : Type 0 where
  pub range : InRange c.section (grain_of c.product)
  pub factor_in : Within 100 200 c.product.factor
  pub eccentricity_most : 4 * c.eccentricity ≤ d_c c.section
  pub height_most : c.height ≤ 25000
  pub run_most : c.run ≤ 25000
  pub foot_reached : Reached c c.foot

-- the numbers of a depth
unfoldable pub depth_numbers : Silo → ℕ → List ℕ
depth_numbers c depth = map (λ l. load_number computed c l depth) eight

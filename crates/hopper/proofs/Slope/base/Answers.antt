-- The section's sides and γ·Ks go into one division.
use mathlib.Core.Path.{sym}
use Rattle.janssen.specs.Filling.{grain_of}
use Rattle.hopper.proofs.Hopper.{base_answer}
use Rattle.hopper.proofs.Slope.base.Goals as goal

pub returns : goal.returns
returns c =
    let a = c.args in
    base_answer a.section (grain_of a.product) a.self.height a.self.run _ _ _ c.requires a.self.run_least (sym c.side_a-a.ensures) (sym c.side_b-b.ensures) c.base_of_sides.ensures

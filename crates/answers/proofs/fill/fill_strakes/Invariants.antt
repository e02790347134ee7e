use mathlib.Core.Path.{◌≡◌}
use lib.ListN.{take}
use Rattle.description.specs.program.Wall.{wall_after}
use Rattle.answers.specs.Each.{each}
use Rattle.answers.specs.program.Fill.{at_strake}
use Rattle.answers.proofs.fill.fill_strakes.Given as goal

abbrev pub invariant-loop-k : goal.invariant-loop-k
invariant-loop-k l = (l.state ≡ wall_after l.heights l.k) × (take l.k l.strakes ≡ each (at_strake l.basis.silo l.heights) 0 l.k)

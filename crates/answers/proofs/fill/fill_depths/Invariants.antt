use Rattle.description.specs.Silo.{depth_count}
use Rattle.answers.specs.program.Fill.{number_of}
use Rattle.answers.proofs.Placing.{PlacedTo}
use Rattle.answers.proofs.fill.fill_depths.Given as goal

abbrev pub invariant-loop-i : goal.invariant-loop-i
invariant-loop-i l = PlacedTo (depth_count l.accepted.sheet.now) l.i (number_of l.accepted.sheet.now) l.columns

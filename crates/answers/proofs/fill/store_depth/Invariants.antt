use Rattle.answers.specs.program.Place.{Placed}
use Rattle.answers.proofs.fill.store_depth.Given as goal

abbrev pub invariant-loop-r : goal.invariant-loop-r
invariant-loop-r l = Placed l.places.depths l.i l.r l.number-items l.initial.list l.list

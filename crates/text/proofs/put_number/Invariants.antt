use mathlib.Core.Path.{◌≡◌}
use lib.Seq.{sets}
use Rattle.text.specs.program.Mark.{padded}
use Rattle.text.proofs.put_number.Given as goal

abbrev pub invariant-loop-i : goal.invariant-loop-i
invariant-loop-i l = sets l.initial.out l.at (padded 8 l.initial.rest) ≡ sets l.out l.at (padded l.i l.rest)

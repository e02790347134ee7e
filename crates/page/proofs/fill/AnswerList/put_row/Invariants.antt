use Prim.Native.Nat.{◌+◌, ◌-◌, ◌*◌}
use mathlib.Core.Path.{◌≡◌}
use lib.Seq.{sets}
use Rattle.answers.specs.Each.{each}
use Rattle.answers.specs.Place.{load_place}
use Rattle.page.specs.program.Text.{at_column}
use Rattle.page.proofs.fill.AnswerList.put_row.Given as goal

abbrev pub invariant-loop-j : goal.invariant-loop-j
invariant-loop-j l = sets l.initial.out l.at (each (at_column load_place l.self.numbers.now l.self.places.depths l.i) 0 8) ≡ sets l.out (l.at + 9 * l.j) (each (at_column load_place l.self.numbers.now l.self.places.depths l.i) l.j (8 - l.j))

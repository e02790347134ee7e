use Prim.Native.Nat.{◌+◌, ◌-◌, ◌*◌}
use mathlib.Core.Path.{◌≡◌}
use lib.Seq.{sets}
use Rattle.answers.specs.Each.{each}
use Rattle.answers.specs.Place.{load_place}
use Rattle.page.specs.program.Text.{row_text, rows}
use Rattle.page.proofs.fill.AnswerList.put_rows.Given as goal

abbrev pub invariant-loop-i : goal.invariant-loop-i
invariant-loop-i l = sets l.initial.out 73 (rows load_place l.self.numbers.now l.self.places.depths) ≡ sets l.out (73 + 73 * l.i) (each (row_text load_place l.self.numbers.now l.self.places.depths) l.i (l.self.places.depths - l.i))

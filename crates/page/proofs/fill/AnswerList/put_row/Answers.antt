-- The invariant: what is to be stored in all from `at` is what is still to be stored from `at + 9·j`, the columns from j on.
use Prim.Native.Nat.{ℕ, ◌+◌, ◌-◌, ◌*◌}
use mathlib.Core.Path.{ap, sym, ◌∙◌}
use mathlib.Core.List.{List}
use native.Mathlib.Omega.{arith}
use lib.ListN.{get_or}
use lib.Seq.{sets}
use Rattle.text.specs.program.Mark.{number_field}
use Rattle.answers.specs.Each.{each}
use Rattle.answers.specs.Place.{load_place}
use Rattle.answers.proofs.Stores.{each_next}
use Rattle.page.specs.program.Text.{at_column}
use Rattle.page.proofs.Lines.{column_length}
use Rattle.page.proofs.fill.AnswerList.put_row.Goals as goal

pub loop-j-preserved : goal.loop-j-preserved
loop-j-preserved c =
    let l = c.loop-j in
    let a = c.args in
    let answers = a.self.now in
    let list = answers.numbers.now in
    let e = c.put_number.ensures ∙ ap (λ (k : ℕ). sets l.out (a.at + 9 * l.j) (number_field (get_or list k 0))) c.load.ensures.0 in
    l.invariant
    ∙ each_next (at_column load_place list answers.places.depths a.i) l.out (a.at + 9 * l.j) (a.at + 9 * (l.j + 1)) 8 l.j c.loop-j-test.true (omega (arith, column_length load_place list answers.digits answers.places.depths a.i l.j))
    ∙ ap (λ (x : List ℕ). sets x (a.at + 9 * (l.j + 1)) (each (at_column load_place list answers.places.depths a.i) (l.j + 1) (8 - (l.j + 1)))) (sym e)

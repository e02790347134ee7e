-- The invariant: what is to be stored in all from `at` is what is still to be stored of the i characters on the left. The last digit is stored first,
-- so that 0 has one.
use mathlib.Core.Path.{sym, ◌∙◌}
use Rattle.text.proofs.Fields.{padded_step, padded_done, field_left}
use Rattle.text.proofs.put_number.Goals as goal

pub loop-i-preserved : goal.loop-i-preserved
loop-i-preserved c =
    let l = c.loop-i in
    l.invariant ∙ padded_step l.out c.args.at l.i l.rest c.mark_of.result c.loop-i-test.true c.mark_of.ensures

pub returns : goal.returns
returns c =
    let l = c.loop-i in
    let a = c.args in
    sym (padded_done l.out a.at l.i l.rest c.loop-i-test.false)
    ∙ sym l.invariant
    ∙ field_left a.n c.requires.0 a.out.now a.at

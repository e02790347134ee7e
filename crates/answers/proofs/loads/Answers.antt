-- `answers::loads` meets its contract, in its cases (`Call`): refused for the sheet, for the list's length, or filled.
use mathlib.Core.Path.{sym, ap, ◌∙◌}
use Rattle.std.proofs.lemmas.Result.{err_from_is_err_and}
use Rattle.records.proofs.Refusals.{no_zero}
use Rattle.sheet.proofs.Chains.{at_brim}
use Rattle.answers.specs.program.Fill.{answers}
use Rattle.answers.proofs.Call.{refused, unfit, filled}
use Rattle.answers.proofs.LengthLaws.{accepted_met, accepted_due}
use Rattle.answers.proofs.loads.Goals as goal

pub returns-in_err-accepted : goal.returns-in_err-accepted
returns-in_err-accepted c =
    let s = c.args.sheet.now in
    let p = err_from_is_err_and c.from_residual.result c.from_residual.ensures.1 in
    rw (p.1, p.2) (refused s c.args.answers.now _ (c.in_err-accepted.ensures.refusal ∙ at_brim s) (no_zero _))

pub returns-then-answers-length_due : goal.returns-then-answers-length_due
returns-then-answers-length_due c =
    let a = c.in_ok-accepted.accepted in
    let same = ap (λ b. b.now) c.in_ok-accepted.ensures.accepted.0 in
    unfit c.args.sheet.now c.args.answers.now (accepted_met a same) (λ z. c.if-answers-length_due.true (z ∙ sym (accepted_due a same c.length_due.ensures.0)))

pub returns : goal.returns
returns c =
    let a = c.in_ok-accepted.accepted in
    let same = ap (λ b. b.now) c.in_ok-accepted.ensures.accepted.0 in
    filled c.args.sheet.now c.args.answers.now c.fill.new.list (accepted_met a same)
    (c.if-answers-length_due.false ∙ accepted_due a same c.length_due.ensures.0)
    (c.fill.ensures ∙ ap answers same)

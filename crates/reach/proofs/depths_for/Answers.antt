-- In its cases (`Call`): refused for the sheet, for the pressures, for the list's length, or filled.
use Rattle.std.proofs.Common.{sym, ap, subst, ◌∙◌}
use Rattle.std.proofs.lemmas.Result.{err_from_is_err_and}
use Rattle.janssen.specs.program.Pressure.{computed}
use Rattle.records.proofs.Refusals.{no_zero}
use Rattle.description.specs.Silo.{V_of}
use Rattle.sheet.proofs.Chains.{at_brim}
use Rattle.answers.specs.Answers.{silo_of}
use Rattle.reach.specs.Reach.{p_he_of, Depths}
use Rattle.reach.proofs.Call.{refused, falling, other_length, filled}
use Rattle.reach.proofs.depths_for.Goals as goal

pub returns-in_err-accepted : goal.returns-in_err-accepted
returns-in_err-accepted c =
    let p = err_from_is_err_and c.from_residual.result c.from_residual.ensures.1 in
    rw (p.1, p.2) (refused _ _ _ _ (c.in_err-accepted.ensures.refusal ∙ at_brim c.args.sheet.now) (no_zero _))

pub returns-then-not-pressures_met : goal.returns-then-not-pressures_met
returns-then-not-pressures_met c =
    let met = sym (c.in_ok-accepted.ensures.refusal ∙ at_brim c.args.sheet.now) in
    falling _ _ _ met (sym c.pressures_met.ensures ∙ c.if-not-pressures_met.true)

pub returns-then-depths-pressures : goal.returns-then-depths-pressures
returns-then-depths-pressures c =
    let met = sym (c.in_ok-accepted.ensures.refusal ∙ at_brim c.args.sheet.now) in
    other_length _ _ _ met (sym c.pressures_met.ensures ∙ c.if-not-pressures_met.false) c.if-depths-pressures.true

pub returns : goal.returns
returns c =
    let met = sym (c.in_ok-accepted.ensures.refusal ∙ at_brim c.args.sheet.now) in
    let same = ap (λ b. b.now) c.in_ok-accepted.ensures.accepted.0 in
    filled _ _ _ met (sym c.pressures_met.ensures ∙ c.if-not-pressures_met.false) _ c.if-depths-pressures.false
    (subst (λ s. Depths (p_he_of computed (silo_of s)) (V_of s) c.args.pressures.now c.fill.new.depths) same c.fill.ensures)

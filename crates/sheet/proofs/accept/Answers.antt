-- No rule refuses a sheet that is not refused, and its wall is not short of the depth (`accepted_at`).
use Rattle.std.proofs.Common.{refl, sym}
use Rattle.sheet.proofs.Chains.{accepted_at}
use Rattle.sheet.proofs.accept.Goals as goal

pub invariant_of-result : goal.invariant_of-result
invariant_of-result c =
    let examined = c.in_ok-described.ensures in
    record { not_refused = (accepted_at c.args.sheet.now c.args.depth (sym examined.refusal)).0; silo = examined.silo; sized = examined.sized }

pub returns-clause-accepted : goal.returns-clause-accepted
returns-clause-accepted c = (refl, (accepted_at c.args.sheet.now c.args.depth (sym c.in_ok-described.ensures.refusal)).1)

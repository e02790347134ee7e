-- The call with this pressure alone (`Call`): its refusal, or its depth.
use Rattle.std.proofs.Common.{refl}
use Rattle.std.proofs.lemmas.Result.{err_from_is_err_and}
use Rattle.reach.proofs.Call.{refused_alone, found_alone}
use Rattle.reach.proofs.depth_for.Goals as goal

pub returns-in_err-depths_for : goal.returns-in_err-depths_for
returns-in_err-depths_for c =
    let p = err_from_is_err_and c.from_residual.result c.from_residual.ensures.1 in
    rw (p.1, p.2) (refused_alone _ _ _ _ c.in_err-depths_for.ensures _ refl)

pub returns : goal.returns
returns c = found_alone _ _ _ _ c.in_ok-depths_for.ensures refl

-- Each call gives the number of its definition.
use Rattle.janssen.specs.Filling.{grain_of}
use Rattle.janssen.proofs.PreparedNumbers.{prepared_are}
use Rattle.janssen.proofs.Prepared.of.Goals as goal

pub returns : goal.returns
returns c =
    prepared_are c.args.section (grain_of c.args.product) c.requires c.side_a.result c.side_b.result _ _ _ _ _ _ _ c.side_a.ensures
    c.side_b.ensures c.step.ensures c.limit.ensures c.step-2.ensures c.limit-2.ensures c.step-3.ensures c.limit-3.ensures c.z0.ensures

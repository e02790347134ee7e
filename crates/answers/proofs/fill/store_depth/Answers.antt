-- One number more in its place.
use Rattle.answers.proofs.Placing.{placed_next}
use Rattle.answers.proofs.fill.store_depth.Goals as goal

pub loop-r-preserved : goal.loop-r-preserved
loop-r-preserved c =
    let l = c.loop-r in
    let a = c.args in
    placed_next a.places.depths a.i a.numbers a.list.now l.r _ l.list c.load.ensures.0 c.loop-r-test.true c.requires.0 c.requires.1 l.invariant

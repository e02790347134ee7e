-- The invariant: the answer lies in the bracket, whose width is below 2^(17 - i) after i halvings; so 17 are enough for a wall below 2^17 mm.
use Prim.Native.Nat.{◌-◌}
use native.Mathlib.Omega.{arith}
use Rattle.reach.proofs.Halving.{halving}
use Rattle.reach.proofs.search.Search.deepest_from.Goals as goal

pub loop-preserved : goal.loop-preserved
loop-preserved c =
    let l = c.loop in
    let half = c.halved-bracket.ensures in
    (half.0, omega arith, halving (l.bracket.high - l.bracket.low) _ 17 l.counter c.loop-test.true l.invariant.2 half.2)

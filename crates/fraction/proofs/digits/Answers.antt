use native.Mathlib.Numerals.{add-one}
use native.Mathlib.Nat.{pow-suc}
use native.Mathlib.Omega.{arith}
use Rattle.fraction.proofs.Division.{room}
use Rattle.fraction.proofs.digits.Goals as goal

pub times-q-requires : goal.times-q-requires
times-q-requires c =
    let a = c.args in
    let q = c.loop.q in
    let i = c.loop.invariant in
    (omega arith, omega (arith, room a.n a.d q.whole q.rest c.loop.counter a.count c.requires.0 c.loop-test.true i.0 c.requires.2))

pub loop-preserved : goal.loop-preserved
loop-preserved c =
    let i = c.loop.invariant in
    let e = c.times-q.ensures in
    ((rw (add-one, pow-suc) (omega (arith, rw i.1 at e.0, i.0))), omega arith)

use mathlib.Core.Path.{refl, sym}
use native.Mathlib.Omega.{arith}
use Rattle.fraction.proofs.Division.{up_exact, up_next}
use Rattle.fraction.proofs.Quotient.rounded_up.Goals as goal

pub overflow_add-result : goal.overflow_add-result
overflow_add-result c =
    let q = c.args.self in
    omega (arith, c.requires, up_next _ q.divisor q.whole q.rest refl q.rest_small (omega arith))

pub returns-then-self-eq0 : goal.returns-then-self-eq0
returns-then-self-eq0 c = let q = c.args.self in sym (up_exact _ q.divisor q.whole q.rest refl q.rest_small c.if-self-eq0.true)

pub returns-else-self-eq0 : goal.returns-else-self-eq0
returns-else-self-eq0 c = let q = c.args.self in sym (up_next _ q.divisor q.whole q.rest refl q.rest_small (omega arith))

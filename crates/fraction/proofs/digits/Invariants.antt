use Prim.Native.Nat.{◌+◌, ◌*◌, ◌^◌}
use mathlib.Core.Path.{◌≡◌}
use Rattle.fraction.proofs.digits.Given as goal

abbrev pub invariant-loop : goal.invariant-loop
invariant-loop l = (l.q.whole * l.d + l.q.rest ≡ l.n * 2048 ^ l.counter) × (l.q.divisor ≡ l.d)

use Prim.Native.Nat.{◌-◌, ◌^◌, ◌≤◌, ◌<◌}
use Rattle.janssen.specs.program.Pressure.{computed}
use Rattle.reach.specs.Reach.{p_he_of}
use Rattle.reach.specs.program.Search.{Between}
use Rattle.reach.proofs.search.Search.deepest_from.Given as goal

abbrev pub invariant-loop : goal.invariant-loop
invariant-loop l = Between (p_he_of computed l.self.basis.now.silo) l.self.basis.now.silo.foot l.pressure l.bracket × (l.low ≤ l.bracket.low) × (l.bracket.high - l.bracket.low < 2 ^ (17 - l.counter))

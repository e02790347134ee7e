use Rattle.janssen.specs.program.Pressure.{computed}
use Rattle.reach.specs.Reach.{p_he_of}
use Rattle.reach.proofs.Pass.{Passed}
use Rattle.reach.proofs.search.Search.pass.Given as goal

abbrev pub invariant-loop-i : goal.invariant-loop-i
invariant-loop-i l = Passed (p_he_of computed l.self.basis.now.silo) l.self.basis.now.silo.foot l.pressures l.depths l.low l.i

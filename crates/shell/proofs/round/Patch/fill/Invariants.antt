use Rattle.shell.proofs.Quadrants.{RightBelow}
use Rattle.shell.proofs.round.Patch.fill.Given as goal

abbrev pub invariant-loop-degrees : goal.invariant-loop-degrees
invariant-loop-degrees l = RightBelow l.degrees l.self.load.0 l.reply

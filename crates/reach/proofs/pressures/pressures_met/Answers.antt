-- What is sorted never falls.
use native.Mathlib.Omega.{arith}
use borrow.Author.Rules.{rules}
use Rattle.std.proofs.lemmas.Grind.{common_steps}
use Rattle.reach.proofs.NeverFalls.{sorted}
use Rattle.reach.proofs.pressures.pressures_met.Goals as goal

pub returns-then-contains : goal.returns-then-contains
returns-then-contains c = sorted c.args.pressures.now _ (grind (arith, common_steps)) (grind (arith, common_steps)) (search rules)

-- The invariant: the pressures are right at every degree whose angle in the first quadrant has been passed.
use Prim.Native.Nat.{◌+◌}
use mathlib.Core.Path.{sym, ap, subst, ◌∙◌}
use mir.Syntax.{w32}
use mir.ValLaws.{to_z_pos}
use lib.IntN.{pos}
use Rattle.shell.specs.program.Fill.{placed}
use Rattle.shell.proofs.Quadrants.{RightBelow, placed_next, filled}
use Rattle.shell.proofs.round.Patch.fill.Goals as goal

pub loop-degrees-preserved : goal.loop-degrees-preserved
loop-degrees-preserved c =
    let l = c.loop-degrees in
    let p = c.args.self.load.0 in
    let e = c.place.ensures ∙ ap (placed l.reply l.degrees) c.size.ensures.0 in
    subst (RightBelow (l.degrees + 1) p) (sym e) (placed_next l.degrees p l.reply (l.auto.reply ∙ c.requires) c.loop-degrees-test.true l.invariant)

pub returns : goal.returns
returns c =
    let l = c.loop-degrees in
    let a = c.args in
    filled a.self.diameter a.self.load.0 l.degrees l.reply _ (l.auto.reply ∙ c.requires) c.loop-degrees-test.false l.invariant
    (to_z_pos w32 c.force.result.0 c.force.ensures.1 ∙ ap pos c.force.ensures.0)

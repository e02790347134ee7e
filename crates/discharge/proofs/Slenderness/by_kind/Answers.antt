-- Each branch is the definition's own case.
use mathlib.Core.Path.{ap, sym, ◌∙◌}
use native.Mathlib.Omega.{arith}
use Rattle.discharge.specs.program.Magnifier.{held}
use Rattle.discharge.proofs.Magnifiers.{slender, squat_high, squat_low, squat_held}
use Rattle.discharge.proofs.Slenderness.by_kind.Goals as goal

pub returns-then-d-h : goal.returns-then-d-h
returns-then-d-h c =
    let a = c.args in
    ap held (sym (slender a.c a.rate a.self.height a.self.width c.if-d-h.true))

pub returns-then-d-h-2 : goal.returns-then-d-h-2
returns-then-d-h-2 c =
    let a = c.args in
    let s = a.self in
    squat_held a.rate s.height s.width ∙ ap held (sym (squat_high a.c a.rate s.height s.width (omega arith) c.if-d-h-2.true))

pub returns : goal.returns
returns c =
    let a = c.args in
    ap held (sym (squat_low a.c a.rate a.self.height a.self.width (omega arith) (omega arith)))

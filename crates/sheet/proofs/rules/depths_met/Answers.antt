-- The depth at i is tried, and those behind it are left.
use mathlib.Core.Path.{◌≡◌, ap, sym, ◌∙◌}
use Prim.Native.Nat.{◌+◌, ◌*◌}
use native.Mathlib.Omega.{arith}
use Rattle.records.specs.Format.{u32}
use Rattle.records.proofs.Numbers.{numbers_start, numbers_step, numbers_end}
use Rattle.description.specs.declared.Depths.{Depths}
use Rattle.description.specs.Silo.{depths_of}
use Rattle.sheet.specs.Refusal.{depths_met}
use Rattle.sheet.proofs.Heights.{depths_next}
use Rattle.sheet.proofs.rules.depths_met.Goals as goal

pub loop-i-init : goal.loop-i-init
unfolding depths_of
loop-i-init c =
    let a = c.args in
    let first : a.depths.start + 4 * 0 ≡ a.depths.start = omega arith in
    ap (depths_met a.foot 0)
    (numbers_start (u32 a.sheet.now) 4 (first ∙ ap (λ (d : Depths). d.start) c.requires.0) (ap (λ (d : Depths). d.count) c.requires.0))

pub returns-then-not-between : goal.returns-then-not-between
returns-then-not-between c =
    let l = c.loop-i in
    let a = c.args in
    let at = a.depths.start + 4 * l.i in
    let e = sym c.between.ensures ∙ c.if-not-between.true in
    sym
    (l.invariant
    ∙ ap (depths_met a.foot l.low) (numbers_step (u32 a.sheet.now) 4 a.depths.start a.depths.count l.i c.loop-i-test.true)
    ∙ depths_next a.foot l.low (u32 a.sheet.now at) _
    ∙ simp (← c.read-z.ensures.0, e))

pub loop-i-preserved : goal.loop-i-preserved
loop-i-preserved c =
    let l = c.loop-i in
    let a = c.args in
    let at = a.depths.start + 4 * l.i in
    let e = sym c.between.ensures ∙ c.if-not-between.false in
    l.invariant
    ∙ ap (depths_met a.foot l.low) (numbers_step (u32 a.sheet.now) 4 a.depths.start a.depths.count l.i c.loop-i-test.true)
    ∙ depths_next a.foot l.low (u32 a.sheet.now at) _
    ∙ simp (← c.read-z.ensures.0, e)

pub returns : goal.returns
unfolding depths_met
returns c =
    let l = c.loop-i in
    let a = c.args in
    sym (l.invariant ∙ ap (depths_met a.foot l.low) (numbers_end (u32 a.sheet.now) 4 (a.depths.start + 4 * l.i) a.depths.count l.i c.loop-i-test.false))

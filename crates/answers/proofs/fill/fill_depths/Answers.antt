-- `answers::fill::fill_depths` meets its contract. The invariant: the numbers of the depths before the depth i are in their places.
use Prim.Native.Nat.{ℕ, ◌<◌}
use mathlib.Core.Path.{◌≡◌, refl, ap, subst, ◌∙◌}
use mathlib.Core.List.{List}
use native.Mathlib.Omega.{arith}
use lib.ListN.{get_or}
use Rattle.description.specs.declared.Described.{Described}
use Rattle.description.specs.Silo.{depth_count}
use Rattle.sheet.proofs.Acceptance.{accepted}
use Rattle.answers.specs.program.Place.{Placed}
use Rattle.answers.specs.program.Fill.{at_depth, number_of}
use Rattle.answers.proofs.Placing.{depths_next}
use Rattle.answers.proofs.Demand.{depth_reached}
use Rattle.answers.proofs.Whole.{depth_read}
use Rattle.answers.proofs.fill.fill_depths.Goals as goal

pub depth_numbers-numbers-requires : goal.depth_numbers-numbers-requires
depth_numbers-numbers-requires c =
    let i = c.loop-i.i in
    let a = c.args.accepted.now in
    let s = a.sheet.now in
    let listed : i < depth_count s = omega (arith, ap (λ (d : Described). d.depths.count) a.silo) in
    let z = c.read.ensures.0 ∙ rw a.silo (depth_read s i _ listed refl) in
    (rw (c.requires.0, z) (depth_reached s (accepted s a.not_refused).measured i listed), c.read.ensures.1)

pub loop-i-preserved : goal.loop-i-preserved
loop-i-preserved c =
    let stored = c.store_depth in
    let row = c.depth_numbers-numbers in
    let l = c.loop-i in
    let a = c.args.accepted.now in
    let s = a.sheet.now in
    let count : a.described.depths.count ≡ depth_count s = ap (λ (d : Described). d.depths.count) a.silo in
    let listed : l.i < depth_count s = omega (arith, count) in
    let z = c.read.ensures.0 ∙ rw a.silo (depth_read s l.i _ listed refl) in
    let e : row.result ≡ at_depth s l.i = row.ensures ∙ rw (c.requires.0, z) refl in
    depths_next (depth_count s) (number_of s) l.i row.result l.columns stored.new.list listed (λ r g. ap (λ (x : List ℕ). get_or x r 0) e)
    l.invariant
    (subst (λ (n : ℕ). Placed n l.i 8 row.result l.columns stored.new.list) count stored.ensures)

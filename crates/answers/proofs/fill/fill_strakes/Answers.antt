-- `answers::fill::fill_strakes` meets its contract. The invariant: the state is that after the first k strakes, whose numbers are stored. A strake's edge
-- is the sum of the heights down to it (`next_edge`).
use mathlib.Core.Path.{refl, ap, sym, ◌∙◌}
use native.Mathlib.Numerals.{add-one}
use native.Mathlib.Omega.{arith}
use Rattle.description.specs.program.Wall.{wall_after}
use Rattle.answers.specs.program.Fill.{at_strake}
use lib.Seq.{take-suc-set}
use Rattle.answers.specs.Each.{each}
use Rattle.answers.proofs.Stores.{each_more}
use Rattle.answers.proofs.Edges.{above_foot, next_edge, next_inside, next_state}
use Rattle.answers.proofs.fill.fill_strakes.Goals as goal

pub loop-k-init : goal.loop-k-init
unfolding wall_after each
loop-k-init c = (c.top-state.ensures, refl)

pub horizontal_discharge-p_he-requires : goal.horizontal_discharge-p_he-requires
horizontal_discharge-p_he-requires c =
    let k = c.loop-k.k in
    let heights = c.args.heights.now in
    let test = c.loop-k-test.true in
    let down = c.lowered-state.ensures ∙ next_state heights k test c.loop-k.invariant.0 in
    rw down (above_foot c.args.basis.now.silo c.requires.1 (next_inside heights k test))

pub loop-k-preserved : goal.loop-k-preserved
loop-k-preserved c =
    let l = c.loop-k in
    let a = c.args in
    let heights = a.heights.now in
    let test = c.loop-k-test.true in
    let down = c.lowered-state.ensures ∙ next_state heights l.k test l.invariant.0 in (
      down ∙ ap (wall_after heights) (sym (add-one l.k)),
      rw (add-one, take-suc-set l.strakes l.k c.horizontal_discharge-p_he.result.0 (omega arith), l.invariant.1)
          (rw (c.horizontal_discharge-p_he.ensures.0, down, next_edge heights l.k test) (sym (each_more (at_strake a.basis.now.silo heights) l.k))),
    )

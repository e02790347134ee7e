-- What the call for the strakes asks holds of an accepted sheet and of its wall, and the three parts are the answer list (`whole_list`).
use mathlib.Core.Path.{refl, ap, ◌∙◌}
use native.Mathlib.Omega.{arith}
use lib.ListN.{length}
use Rattle.description.specs.declared.Described.{Described}
use Rattle.description.proofs.Walls.{strakes_length}
use Rattle.answers.proofs.Whole.{room, whole_list, strakes_few, described_wall, wall_reached}
use Rattle.answers.proofs.fill.fill.Goals as goal

pub fill_strakes-requires : goal.fill_strakes-requires
fill_strakes-requires c =
    let a = c.args.accepted.now in
    let s = a.sheet.now in
    let h = a.not_refused in
    let heights = c.strakes.ensures ∙ (described_wall s h a.described a.silo).2 in
    let count = strakes_length s in
    let has = room s (length c.args.list.now) c.requires in (
      rw heights (omega (arith, count, strakes_few s h)),
      rw (c.basis-basis.ensures, heights) (wall_reached s h).0,
      rw heights (omega (arith, count, has, c.bottom.ensures, c.split_at_mut-columns.ensures.back_len, c.split_at_mut-bottom.ensures.back_len, ap (λ (d : Described). d.depths.count) a.silo)),
      rw heights (wall_reached s h).1,
    )

pub returns : goal.returns
returns c =
    let a = c.args.accepted.now in
    let s = a.sheet.now in
    let silo = c.basis-basis.ensures in
    let heights = c.strakes.ensures ∙ (described_wall s a.not_refused a.described a.silo).2 in
    whole_list s c.fill_depths.ensures (c.copy_from_slice.ensures.after ∙ c.bottom_numbers.ensures ∙ rw silo refl) (c.fill_strakes.ensures ∙ rw (silo, heights) refl)

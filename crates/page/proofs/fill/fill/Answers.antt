-- Where the length of the list is told, it lies inside the array.
use mathlib.Core.Path.{refl, sym, ◌∙◌}
use native.Mathlib.Omega.{arith}
use lib.Seq.{length-take-le}
use Rattle.answers.proofs.LengthLaws.{accepted_due}
use Rattle.page.proofs.Room.{list_inside}
use Rattle.page.proofs.fill.fill.Goals as goal

pub slice_bounds-room-end : goal.slice_bounds-room-end
slice_bounds-room-end c = omega (arith, list_inside c.args.accepted.now c.length_due-due.ensures.0, c.blank-room.ensures)

pub slice_bounds-numbers-end : goal.slice_bounds-numbers-end
slice_bounds-numbers-end c = sym (length-take-le _ _ (omega (arith, list_inside c.args.accepted.now c.length_due-due.ensures.0, c.blank-room.ensures)))

pub fill-requires : goal.fill-requires
fill-requires c =
    length-take-le _ _ (omega (arith, list_inside c.args.accepted.now c.length_due-due.ensures.0, c.blank-room.ensures))
    ∙ accepted_due c.args.accepted.now refl c.length_due-due.ensures.0

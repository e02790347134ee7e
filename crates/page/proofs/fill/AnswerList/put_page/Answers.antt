-- Heading, rows and rest, one behind the other.
use Prim.Native.Nat.{◌+◌, ◌*◌}
use mathlib.Core.Path.{refl, ap, sym, ◌∙◌}
use native.Mathlib.Omega.{arith}
use lib.ListN.{length}
use lib.Seq.{length-take-le}
use Rattle.answers.specs.Place.{load_place}
use Rattle.records.proofs.Stores.{sets_copied}
use Rattle.page.proofs.Lines.{heading_length, parts_stored}
use Rattle.page.proofs.fill.AnswerList.put_page.Goals as goal

pub slice_bounds-copy_from_slice-end-2 : goal.slice_bounds-copy_from_slice-end-2
slice_bounds-copy_from_slice-end-2 c = sym (length-take-le 73 c.args.out.now (omega arith))

pub copy_from_slice-requires : goal.copy_from_slice-requires
copy_from_slice-requires c = length-take-le 73 c.args.out.now (omega arith) ∙ sym (ap length c.heading.ensures ∙ heading_length)

pub returns : goal.returns
returns c =
    let rows = c.put_rows in
    let rest = c.put_rest in
    let list = c.args.self.now in
    parts_stored load_place list.numbers.now list.digits c.args.out.now _ rows.new.out rest.new.out list.places.depths (73 + 73 * list.places.depths) refl
    (sets_copied _ _ _ _ _ (omega (arith, heading_length)) (sym heading_length) (c.copy_from_slice.ensures.after ∙ c.heading.ensures)) rows.ensures
    rest.ensures

-- What the lines ask holds of an accepted sheet: its answer list fits into 1,650 numbers, none of them has more than nine digits, and a buffer of the
-- page's length has room for every line.
-- Assumes nothing.
use Prim.Native.Nat.{ℕ, ◌+◌, ◌-◌, ◌*◌, ◌≤◌}
use mathlib.Core.Path.{◌≡◌, refl}
use mathlib.Core.List.{List}
use native.Mathlib.Omega.{arith}
use lib.ListN.{length}
use Rattle.janssen.specs.program.Pressure.{computed}
use Rattle.description.specs.Silo.{depth_count}
use Rattle.sheet.specs.declared.accepted.AcceptedSheet.{AcceptedSheet}
use Rattle.sheet.specs.Refusal.{refusal_of}
use Rattle.answers.specs.Place.{bottom_place, strake_place}
use Rattle.answers.specs.Length.{length_due}
use Rattle.answers.specs.program.Fill.{answers}
use Rattle.answers.proofs.LengthLaws.{accepted_due}
use Rattle.answers.proofs.Places.{length_answers, answers_filled}
use Rattle.answers.proofs.Demand.{claim}
use Rattle.answers.proofs.Digits.{nine_digits}
use Rattle.answers.proofs.Whole.{depths_near, strakes_few}
use Rattle.page.specs.Page.{page_due}
use Rattle.page.proofs.Lines.{Few}

-- the lines of depths, bottom and strakes
pub page_room : (s list : List ℕ) → length list ≡ length_due s → 73 * (1 + depth_count s) + 10 * (length list - bottom_place (depth_count s) 0) ≡ page_due s
unfolding length_due page_due
page_room s list e = omega (arith, e)

module _ (s : List ℕ) (h : refusal_of s ≡ 0) where
  pub answers_few : Few (answers s)
  answers_few = nine_digits computed s (answers s) h (claim s (answers s) h (answers_filled s))

  pub due_most : length_due s ≤ 1650
  unfolding length_due
  due_most = omega (arith, (depths_near s h).1, strakes_few s h)

  pub rows_inside : bottom_place (depth_count s) 0 ≤ length (answers s)
  unfolding length_due
  rows_inside = omega (arith, length_answers s)

  -- a page of 200 depths and 24 strakes has 15,013 bytes
  pub page_most : page_due s ≤ 16384
  unfolding page_due
  page_most = omega (arith, (depths_near s h).1, strakes_few s h)

-- the length due lies inside the array
pub list_inside : (a : AcceptedSheet) {n : ℕ} → n ≡ strake_place a.described.depths.count a.described.wall.count → n ≤ 1650
list_inside a e = omega (arith, accepted_due a refl e, due_most a.sheet.now a.not_refused)

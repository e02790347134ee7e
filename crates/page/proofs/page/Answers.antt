-- In its cases (`Call`): refused for the sheet, for the buffer's length, or written.
use Prim.Native.Nat.{ℕ}
use mathlib.Core.List.{List}
use mathlib.Core.Path.{refl, ap, ◌∙◌}
use native.Mathlib.Omega.{arith}
use lib.Seq.{sets}
use Rattle.std.proofs.lemmas.Result.{err_from_is_err_and}
use Rattle.records.proofs.Refusals.{no_zero}
use Rattle.description.specs.Silo.{depth_count}
use Rattle.sheet.proofs.Chains.{at_brim}
use Rattle.answers.specs.Place.{load_place}
use Rattle.answers.specs.program.Fill.{answers}
use Rattle.answers.proofs.LengthLaws.{accepted_met}
use Rattle.page.specs.program.Text.{page_text}
use Rattle.page.proofs.Call.{accepted_size, refused, short, written}
use Rattle.page.proofs.page.Goals as goal

pub returns-in_err-accepted : goal.returns-in_err-accepted
returns-in_err-accepted c =
    let s = c.args.sheet.now in
    let p = err_from_is_err_and c.from_residual.result c.from_residual.ensures.1 in
    rw (p.1, p.2) (refused s c.args.out.now _ (c.in_err-accepted.ensures.refusal ∙ at_brim s) (no_zero _))

pub returns-then-out-page_due : goal.returns-then-out-page_due
returns-then-out-page_due c =
    let a = c.in_ok-accepted.accepted in
    let same = ap (λ b. b.now) c.in_ok-accepted.ensures.accepted.0 in
    short c.args.sheet.now c.args.out.now (accepted_met a same) (omega (arith, c.if-out-page_due.true, accepted_size a same c.page_due.ensures.0))

pub fill-requires : goal.fill-requires
fill-requires c = omega (arith, c.if-out-page_due.false, accepted_size c.in_ok-accepted.accepted refl c.page_due.ensures.0)

pub returns : goal.returns
returns c =
    let a = c.in_ok-accepted.accepted in
    let same = ap (λ b. b.now) c.in_ok-accepted.ensures.accepted.0 in
    written c.args.sheet.now c.args.out.now c.fill.new.out (accepted_met a same)
    (omega (arith, c.if-out-page_due.false, accepted_size a same c.page_due.ensures.0))
    (c.fill.ensures ∙ ap (λ (s : List ℕ). sets c.args.out.now 0 (page_text load_place (answers s) (depth_count s))) same)

-- In its cases (`Call`): refused for the sheet or the depth, for a rectangle, for the list's length, or filled.
use Rattle.std.proofs.Common.{◌≡◌, Bool, List, ℕ, sym, ap, subst, ◌∙◌}
use Rattle.std.proofs.lemmas.Result.{err_from_is_err_and}
use Rattle.cosine.specs.program.Table.{entry}
use Rattle.janssen.specs.program.Pressure.{computed}
use Rattle.records.proofs.Refusals.{no_zero}
use Rattle.description.specs.declared.Described.{Described}
use Rattle.description.specs.Silo.{section_of}
use Rattle.description.specs.program.Described.{described_of}
use Rattle.shell.specs.Shell.{is_circle, ReplyListOf}
use Rattle.shell.proofs.Call.{refused, rectangle, other_length, filled}
use Rattle.shell.proofs.shell_patch.Goals as goal

-- the section that is told of the sheet accepted, which is the sheet lent
circle : {s s' : List ℕ} {d : Described} {told b : Bool} → s' ≡ s → d ≡ described_of s' → told ≡ is_circle d.section → told ≡ b → is_circle (section_of s) ≡ b
circle same described h e = ap (λ s. is_circle (section_of s)) (sym same) ∙ ap (λ (d : Described). is_circle d.section) (sym described) ∙ sym h ∙ e

pub returns-in_err-accepted : goal.returns-in_err-accepted
returns-in_err-accepted c =
    let p = err_from_is_err_and c.from_residual.result c.from_residual.ensures.1 in
    rw (p.1, p.2) (refused _ _ _ _ c.in_err-accepted.ensures.refusal (no_zero _))

pub returns-then-not-is_circle : goal.returns-then-not-is_circle
returns-then-not-is_circle c =
    let accepted = c.in_ok-accepted in
    let same = ap (λ b. b.now) accepted.ensures.accepted.0 in
    rectangle _ _ _ (sym accepted.ensures.refusal) (circle same accepted.accepted.silo c.is_circle.ensures c.if-not-is_circle.true)

pub returns-then-reply-ne361 : goal.returns-then-reply-ne361
returns-then-reply-ne361 c =
    let accepted = c.in_ok-accepted in
    let same = ap (λ b. b.now) accepted.ensures.accepted.0 in
    other_length _ _ _ (sym accepted.ensures.refusal) (circle same accepted.accepted.silo c.is_circle.ensures c.if-not-is_circle.false) c.if-reply-ne361.true

pub returns : goal.returns
returns c =
    let accepted = c.in_ok-accepted in
    let same = ap (λ b. b.now) accepted.ensures.accepted.0 in
    filled _ _ _ (sym accepted.ensures.refusal) (circle same accepted.accepted.silo c.is_circle.ensures c.if-not-is_circle.false) _ c.if-reply-ne361.false
    (subst (λ s. ReplyListOf computed entry s c.args.depth c.fill.new.reply) same c.fill.ensures)

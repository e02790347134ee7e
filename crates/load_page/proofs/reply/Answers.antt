-- The page call's answer is the sheet's refusal, since the buffer has room; its text stands at the buffer's start.
use mathlib.Core.Path.{refl}
use Rattle.records.proofs.Refusals.{no_zero}
use Rattle.load_page.proofs.Texts.{refusal_printed, page_left}
use Rattle.load_page.proofs.reply.Goals as goal

pub returns-in-Ok : goal.returns-in-Ok
returns-in-Ok c =
    let called = c.page in
    let start = page_left c.args.sheet.now c.args.out.now called.new.out 0 c.requires c.in-Ok.ensures c.page_bytes.result refl c.page_bytes.ensures in
    record { count = start.0; text = start.1 }

pub returns-in-Err : goal.returns-in-Err
returns-in-Err c =
    let called = c.page in
    let put = c.put_refused in
    let start =
    refusal_printed c.args.sheet.now c.args.out.now called.new.out c.into.result c.requires (rw c.into.ensures c.in-Err.ensures) put.result put.new.out
    (λ o. no_zero c.in-Err.refusal (rw c.into.ensures at o)) called.auto.out put.ensures.count put.ensures.text in
    record { count = start.0; text = start.1 }

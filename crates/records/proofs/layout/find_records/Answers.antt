-- The reader goes from record to record (`walk_next`); behind the last, or where the sixth ends the sheet, no rule refuses.
use Rattle.std.proofs.Common.{◌≤◌, length, ap, refl, arith}
use Rattle.records.proofs.Walks.{walk_start, walk_next, walk_located, seventh_behind, seventh_last, sixth_last}
use Rattle.records.proofs.layout.find_records.Goals.{then-reader-sheet+in_ok-last+else-last-sheet, else-reader-sheet}
use Rattle.records.proofs.layout.find_records.Goals as goal

pub loop-k-init : goal.loop-k-init
loop-k-init c = walk_start _ (omega arith) (ap (λ b. b.now) c.start-reader.ensures.0) c.start-reader.ensures.1 refl refl

pub loop-k-preserved : goal.loop-k-preserved
loop-k-preserved c =
    walk_next _ (omega arith) c.loop-k.invariant c.in_ok-reader.ensures.refusal c.in_ok-reader.ensures.passed c.loop-k-test.true

pub returns-then-last-sheet-clause-refusal : goal.returns-then-last-sheet-clause-refusal
returns-then-last-sheet-clause-refusal c =
    seventh_behind _ (omega arith) c.loop-k.invariant c.loop-k-test.false c.loop-k.auto.k-end c.if-reader-sheet.true c.in_ok-last.ensures.refusal c.in_ok-last.ensures.passed c.if-last-sheet.true

pub invariant_of-result : goal.invariant_of-result
invariant_of-result c =
    let short : length c.args.sheet.now ≤ 1024 = omega arith in
    let walked = c.loop-k.invariant in
    let least = c.loop-k-test.false in
    let most = c.loop-k.auto.k-end in
    record {
      met =
          elim c.if-reader-sheet.branch [
            | then-reader-sheet+in_ok-last+else-last-sheet w ↦
                seventh_last _ short walked least most w.if-reader-sheet.true w.in_ok-last.ensures.refusal w.in_ok-last.ensures.passed w.if-last-sheet.false
            | else-reader-sheet w ↦ sixth_last _ short walked least most w.if-reader-sheet.false
          ];
      located = walk_located _ short walked least most;
    }

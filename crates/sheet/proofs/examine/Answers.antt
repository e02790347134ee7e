-- By the refusal: of the records, or of the values.
use Rattle.std.proofs.Common.{◌∙◌, ap}
use Rattle.std.proofs.lemmas.Result.{err_from_is_err_and}
use Rattle.description.specs.program.Described.{described_of}
use Rattle.sheet.proofs.Examining.{by_records, by_values}
use Rattle.sheet.proofs.examine.Goals as goal

pub returns-in_err-records : goal.returns-in_err-records
returns-in_err-records c =
    let p = err_from_is_err_and c.from_residual.result c.from_residual.ensures.1 in
    rw (p.1, p.2) (record { refusal = by_records c.args.asked _ c.args.depth _ c.in_err-records.ensures.refusal; silo = tt; sized = tt })

pub returns-in_err-values_refusal : goal.returns-in_err-values_refusal
returns-in_err-values_refusal c =
    let p = err_from_is_err_and c.from_residual-in_err-values_refusal.result c.from_residual-in_err-values_refusal.ensures.1 in
    let same = ap (λ b. b.now) c.in_ok-records.ensures.found in
    rw (p.1, p.2)
    (record {
      refusal = by_values c.args.asked _ c.args.depth same c.in_ok-records.records.met c.describe-described.ensures.0 c.in_err-values_refusal.ensures;
      silo = tt;
      sized = tt;
    })

pub returns : goal.returns
returns c =
    let same = ap (λ b. b.now) c.in_ok-records.ensures.found in
    record {
      refusal = by_values c.args.asked _ c.args.depth same c.in_ok-records.records.met c.describe-described.ensures.0 c.in_ok-values_refusal.ensures;
      silo = c.describe-described.ensures.0 ∙ ap described_of same;
      sized = c.describe-described.ensures.1;
    }

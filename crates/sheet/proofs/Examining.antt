-- A sheet examined: the rules tried on the silo described are those of the sheet, where none refuses its records.
use Prim.Native.Nat.{ℕ}
use mathlib.Core.List.{List}
use mathlib.Core.Path.{◌≡◌, ap, sym, ◌∙◌}
use lib.Dec.{leb}
use Rattle.records.specs.Rules.{first_unmet}
use Rattle.records.specs.Refusal.{number}
use Rattle.records.specs.Format.{layout_rules}
use Rattle.records.specs.declared.refusal.Refusal.{Refusal}
use Rattle.records.proofs.Refusals.{no_zero}
use Rattle.description.specs.declared.Described.{Described}
use Rattle.description.specs.Silo.{depths_of, V_of}
use Rattle.description.specs.program.Described.{described_of}
use Rattle.description.proofs.Walls.{strakes_most}
use Rattle.sheet.specs.declared.Asked.{Asked}
use Rattle.sheet.specs.Refusal.{rules_with}
use Rattle.sheet.specs.program.Examined.{tells, described_rules}
use Rattle.sheet.proofs.Chains.{records_refused, values_refused}
use Rattle.sheet.proofs.Described.{described_judged}

module _ (asked : Asked) (s : List ℕ) (z : ℕ) where
  -- the refusal of the records is the sheet's
  pub by_records : (e : Refusal) → number e ≡ first_unmet (layout_rules s) → number e ≡ first_unmet (rules_with (tells asked) (leb z (V_of s)) s)
  by_records e h = records_refused (tells asked) z s h (no_zero e)

  -- so is that of the values, of the sheet from which the records are
  pub by_values : {s' : List ℕ} {d : Described} {r : ℕ} → s' ≡ s → first_unmet (layout_rules s') ≡ 0 → d ≡ described_of s'
      → r ≡ first_unmet (described_rules asked d (depths_of s) z) → r ≡ first_unmet (rules_with (tells asked) (leb z (V_of s)) s)
  by_values same met described e =
      let found : first_unmet (layout_rules s) ≡ 0 = ap (λ (x : List ℕ). first_unmet (layout_rules x)) (sym same) ∙ met in
      values_refused (tells asked) z s found
      (e
      ∙ ap (λ (d : Described). first_unmet (described_rules asked d (depths_of s) z)) (described ∙ ap described_of same)
      ∙ ap first_unmet (described_judged asked s z (strakes_most s found)))

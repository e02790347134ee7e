-- What the load call answers and leaves, in its three cases: refused for the sheet, refused for the list's length, filled.
-- Assumes nothing.
use Prim.Native.Nat.{ℕ}
use mathlib.Core.Bool.{true}
use mathlib.Core.Logic.{◌⊎◌}
use mathlib.Core.Path.{◌≡◌, refl, sym, ◌∙◌, subst}
use mathlib.Core.List.{List, [], ◌∷◌}
use native.Mathlib.Omega.{arith}
use borrow.Author.Tests.{eq-eqb, ne_eqb}
use lib.Dec.{eqb}
use lib.ListN.{length}
use Rattle.std.specs.Prelude.{Ok, Err}
use Rattle.exponential.specs.program.Table.{table}
use Rattle.exponential.proofs.TableLaws.{tabulated}
use Rattle.janssen.specs.Numbers.{FillingNumbers}
use Rattle.janssen.specs.program.Pressure.{computed_by, computed}
use Rattle.records.specs.Rules.{◌unless◌, first_unmet}
use Rattle.records.proofs.Fills.{fills_refused, fills_done}
use Rattle.sheet.specs.Refusal.{refusal_of}
use Rattle.sheet.proofs.Chains.{sheet_first, sheet_passed, sheet_met, call_never_13}
use Rattle.answers.specs.Length.{length_due, answers_length}
use Rattle.answers.specs.Answers.{Filled, loads_rules}
use Rattle.answers.specs.Claim.{Claim}
use Rattle.answers.specs.Order.{LeftFor}
use Rattle.answers.specs.Promise.{Promise}
use Rattle.answers.specs.program.Fill.{answers}
use Rattle.answers.proofs.LengthLaws.{beside_refused, beside_due}
use Rattle.answers.proofs.Places.{answers_filled}
use Rattle.answers.proofs.Demand.{claim}

-- what the load call answers for a list of n numbers: the sheet's refusal, or 14; never 13
module _ (s : List ℕ) (n : ℕ) where
  pub loads_never_13 : first_unmet (loads_rules s n) ≡ 13 → ⊥
  unfolding loads_rules
  loads_never_13 = call_never_13 true s _ refl

  pub refused_answer : (refusal_of s ≡ 0 → ⊥) → first_unmet (loads_rules s n) ≡ refusal_of s
  unfolding loads_rules
  refused_answer h = sheet_first s _ h

  pub last_rule : refusal_of s ≡ 0 → first_unmet (loads_rules s n) ≡ first_unmet (14 unless eqb n (length_due s) ∷ [])
  unfolding loads_rules
  last_rule h = sheet_passed s _ h

  pub not_refused : first_unmet (loads_rules s n) ≡ 0 → refusal_of s ≡ 0
  unfolding loads_rules
  not_refused h = sheet_met s _ h

-- what the call leaves where it answers 0
pub left_for : (f : List ℕ → FillingNumbers) (t s lent left : List ℕ) (r : ℕ) → Promise f t s lent r left → r ≡ 0 → LeftFor (f t) s left
left_for f t s lent left r p e = record { accepted = not_refused s (length lent) (sym p.1.answer ∙ e); filled = (p.1.done e).filled }

-- beside the length call (document 02, C-17): the refusal that it answers, or 20; and 20 where it tells a length, which the list has
module _ (f : List ℕ → FillingNumbers) (t s lent left : List ℕ) (r : ℕ) (p : Promise f t s lent r left) where
  pub refused_or_20 : (k : ℕ) → answers_length s ≡ Err k → (r ≡ k) ⊎ (r ≡ 20)
  unfolding loads_rules
  refused_or_20 = beside_refused s _ (length_due s) p.1.answer

  pub measured_refused : answers_length s ≡ Ok (length lent) → (r ≡ 0 → ⊥) → r ≡ 20
  unfolding loads_rules first_unmet
  measured_refused e = beside_due s _ (length_due s) p.1.answer (length lent) e (λ o. simp (eq-eqb (length lent) (length_due s) (sym o)))

module _ (s lent : List ℕ) where
  -- any refusal leaves the list as it was
  refused_with : (r : ℕ) → r ≡ first_unmet (loads_rules s (length lent)) → (r ≡ 0 → ⊥) → Promise computed_by table s lent r lent
  refused_with r e n = (tabulated, fills_refused (loads_rules s (length lent)) (Claim computed s) lent r e n)

  pub refused : (r : ℕ) → r ≡ refusal_of s → (r ≡ 0 → ⊥) → Promise computed_by table s lent r lent
  refused r e n = refused_with r (e ∙ sym (refused_answer s (length lent) (λ o. n (e ∙ o)))) n

  pub unfit : refusal_of s ≡ 0 → (length lent ≡ length_due s → ⊥) → Promise computed_by table s lent 14 lent
  unfolding first_unmet
  unfit h n = refused_with 14 (sym (last_rule s (length lent) h ∙ simp (ne_eqb (length lent) (length_due s) n))) (λ o. omega arith)

  pub filled : (list : List ℕ) → refusal_of s ≡ 0 → length lent ≡ length_due s → list ≡ answers s → Promise computed_by table s lent 0 list
  unfolding first_unmet
  filled list h n e =
      let fill : Filled computed s list = subst (Filled computed s) (sym e) (answers_filled s) in
      let met : first_unmet (loads_rules s (length lent)) ≡ 0 = last_rule s (length lent) h ∙ simp (eq-eqb (length lent) (length_due s) n) in
      (tabulated, fills_done (loads_rules s (length lent)) (Claim computed s) lent list met (claim s list h fill))

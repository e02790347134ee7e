-- The length due by the silo described, and the answers of the length call: a refused sheet's refusal, an accepted sheet's length.
use Prim.Native.Nat.{ℕ, suc, ◌≤◌, ◌<◌}
use mathlib.Core.List.{List, ◌++◌}
use mathlib.Core.Logic.{◌⊎◌}
use mathlib.Core.Path.{◌≡◌, ◌∙◌, ap, sym, subst}
use native.Mathlib.Decide.{dec_le}
use native.Mathlib.Omega.{arith}
use borrow.Author.Tests.{eq-eqb, ne_eqb}
use Rattle.std.specs.Prelude.{Result, Ok, Err}
use Rattle.records.specs.declared.refusal.Refusal.{Refusal}
use Rattle.records.specs.Refusal.{number, numbered}
use Rattle.records.proofs.Refusals.{no_zero}
use Rattle.description.specs.declared.Described.{Described}
use Rattle.description.specs.program.Described.{wall_of, described_of}
use Rattle.records.specs.Rules.{Rule, first_unmet}
use Rattle.sheet.specs.declared.accepted.AcceptedSheet.{AcceptedSheet}
use Rattle.sheet.specs.Refusal.{sheet_rules, length_refusal, refusal_of}
use Rattle.sheet.proofs.Chains.{never_13, never_20, call_or_20, call_measured_20}
use Rattle.answers.specs.Place.{strake_place}
use Rattle.answers.specs.Length.{length_due, told, length_number}

-- the length due by the counts of the silo described
pub described_due : (s : List ℕ) (d : Described) (n : ℕ) → d ≡ described_of s → n ≡ strake_place d.depths.count d.wall.count → n ≡ length_due s
unfolding length_due wall_of
described_due s d n e f = f ∙ ap (λ (d : Described). strake_place d.depths.count d.wall.count) e

-- a sheet accepted is the one lent: no rule refuses it, and the length due is by the counts that it describes
module _ {s : List ℕ} (a : AcceptedSheet) (same : a.sheet.now ≡ s) where
  pub accepted_met : refusal_of s ≡ 0
  accepted_met = subst (λ (x : List ℕ). refusal_of x ≡ 0) same a.not_refused

  pub accepted_due : {n : ℕ} → n ≡ strake_place a.described.depths.count a.described.wall.count → n ≡ length_due s
  accepted_due e = described_due s a.described _ (a.silo ∙ ap described_of same) e

module _ (r n : ℕ) where
  pub told_refused : (r ≡ 0 → ⊥) → told r n ≡ Err r
  unfolding told
  told_refused h = simp (ne_eqb r 0 h)

  pub told_due : r ≡ 0 → told r n ≡ Ok n
  unfolding told
  told_due h = simp (eq-eqb r 0 h)

-- one refusal, and one length where there is none
pub told_same : {r r' n n' : ℕ} → r ≡ r' → (r ≡ 0 → n ≡ n') → told r n ≡ told r' n'
told_same {r} {r'} {n} {n'} e f = go (dec_le r 0)
  where
    go : Dec (r ≤ 0) → told r n ≡ told r' n'
    go (yes z) = let h : r ≡ 0 = omega arith in told_due r n h ∙ ap Ok (f h) ∙ sym (told_due r' n' (sym e ∙ h))
    go (no z) = told_refused r n (λ o. omega arith) ∙ ap Err e ∙ sym (told_refused r' n' (λ o. omega (arith, e)))

-- what a call answers by name: the refusal due, or with no refusal the length due
pub refused_by_name : (refused n : ℕ) (e : Refusal) → number e ≡ refused → numbered (Err e) ≡ told refused n
refused_by_name refused n e h = ap Err h ∙ sym (told_refused refused n (λ o. no_zero e (h ∙ o)))

pub due_answered : (refused n m : ℕ) → 0 ≡ refused → m ≡ n → numbered (Ok m) ≡ told refused n
due_answered refused n m h e = ap Ok e ∙ sym (told_due refused n (sym h))

-- back from an answer: a length is told where there is no refusal, and a refusal is the one there is
abbrev length_in : Result ℕ ℕ → ℕ
length_in (Ok n) = suc n
length_in (Err r) = 0

abbrev refusal_in : Result ℕ ℕ → ℕ
refusal_in (Ok n) = 0
refusal_in (Err r) = r

module _ (r n k : ℕ) where
  due_told : told r n ≡ Ok k → (r ≡ 0) × (n ≡ k)
  due_told e = at (dec_le r 0)
    where
      at : Dec (r ≤ 0) → (r ≡ 0) × (n ≡ k)
      at (yes z) =
          let h : r ≡ 0 = omega arith in
          let same : suc n ≡ suc k = ap length_in (sym (told_due r n h) ∙ e) in
          (h, omega (arith, same))
      at (no z) =
          let none : 0 ≡ suc k = ap length_in (sym (told_refused r n (λ o. omega arith)) ∙ e) in
          absurd (omega (arith, none))

  refused_told : told r n ≡ Err k → (r ≡ 0 → ⊥) × (r ≡ k)
  refused_told e = at (dec_le r 0)
    where
      at : Dec (r ≤ 0) → (r ≡ 0 → ⊥) × (r ≡ k)
      at (yes z) =
          let some : suc n ≡ 0 = ap length_in (sym (told_due r n (omega arith)) ∙ e) in
          absurd (omega (arith, some))
      at (no z) =
          let refused : r ≡ 0 → ⊥ = λ o. omega arith in
          (refused, ap refusal_in (sym (told_refused r n refused) ∙ e))

-- a call that works loads out, with rules of its own, beside one that tells the length n (document 02, C-17): the refusal that this answers, or 20; and 20
-- where it tells a length with which those rules are met
module _ (s : List ℕ) (own : List Rule) (n : ℕ) {r : ℕ} (answer : r ≡ first_unmet (sheet_rules s ++ own)) where
  pub beside_refused : (k : ℕ) → told (length_refusal s) n ≡ Err k → (r ≡ k) ⊎ (r ≡ 20)
  beside_refused k e =
      let known = refused_told (length_refusal s) n k e in
      rw (answer, sym known.1) (call_or_20 s own known.0)

  pub beside_due : (k : ℕ) → told (length_refusal s) n ≡ Ok k → (n ≡ k → first_unmet own ≡ 0) → (r ≡ 0 → ⊥) → r ≡ 20
  beside_due k e met refused =
      let known = due_told (length_refusal s) n k e in
      answer ∙ call_measured_20 s own known.0 (met known.1) (λ o. refused (answer ∙ o))

-- the number of an answer is that of its refusal, or more than any
pub told_number : (r n k : ℕ) → k < 4294967296 → length_number (told r n) ≡ k → r ≡ k
unfolding length_number
told_number r n k small e = at (dec_le r 0)
  where
    at : Dec (r ≤ 0) → r ≡ k
    at (yes z) = let due = rw (told_due r n (omega arith)) at e in absurd (omega (arith, due, small))
    at (no z) = rw (told_refused r n (λ o. omega arith)) at e

-- 13 is retired, and 20 is only for loads: no call that tells a length answers them
module _ (s : List ℕ) (n : ℕ) where
  pub length_never_13 : length_number (told (length_refusal s) n) ≡ 13 → ⊥
  length_never_13 e = never_13 s (told_number (length_refusal s) n 13 (omega arith) e)

  pub length_never_20 : length_number (told (length_refusal s) n) ≡ 20 → ⊥
  length_never_20 e = never_20 s (told_number (length_refusal s) n 20 (omega arith) e)

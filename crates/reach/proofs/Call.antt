-- What the calls answer and leave: the call with a list in its four cases, refused for the sheet, for the pressures, for the list's length, or filled; and
-- the single question, which is the call with this pressure alone.
use Prim.Native.Nat.{ℕ, ◌≤◌, ◌<◌}
use mathlib.Core.Path.{◌≡◌, refl, sym, ap, ◌∙◌}
use mathlib.Core.Bool.{true, false}
use mathlib.Core.List.{List, [], ◌∷◌}
use native.Mathlib.Decide.{dec_le}
use native.Mathlib.Omega.{arith}
use borrow.Author.Tests.{eq-eqb, ne_eqb, eqb-true, le-leb}
use lib.Dec.{eqb}
use lib.ListN.{length, get_or}
use Rattle.std.specs.Prelude.{Ok, Err}
use Rattle.records.specs.declared.refusal.Refusal.{Refusal}
use Rattle.records.specs.Refusal.{number, numbered}
use Rattle.records.specs.Rules.{◌unless◌, first_unmet}
use Rattle.records.proofs.Fills.{fills_refused, fills_done}
use Rattle.records.proofs.Chain.{met, apart}
use Rattle.exponential.specs.program.Table.{table}
use Rattle.exponential.proofs.TableLaws.{tabulated}
use Rattle.janssen.specs.program.Pressure.{computed_by, computed}
use Rattle.description.specs.Silo.{V_of}
use Rattle.sheet.specs.Refusal.{sheet_rules, refusal_of}
use Rattle.sheet.proofs.Chains.{sheet_first, sheet_passed, sheet_met, rules_numbered, call_never_13}
use Rattle.sheet.proofs.Acceptance.{accepted}
use Rattle.sheet.proofs.Described.{V_most}
use Rattle.answers.specs.Answers.{silo_of}
use Rattle.answers.specs.Length.{told, length_number}
use Rattle.answers.specs.program.Fill.{answers}
use Rattle.answers.proofs.Places.{answers_filled}
use Rattle.answers.proofs.Demand.{claim}
use Rattle.answers.proofs.LengthLaws.{refused_by_name, due_answered}
use Rattle.reach.specs.Reach.{p_he_of, Depths, never_falls_from, pressures_met, depths_rules}
use Rattle.reach.specs.Promise.{Free, DepthPromise, DepthsPromise}

-- the wall of an accepted sheet is under 2^17 mm
pub foot_near : (s : List ℕ) → refusal_of s ≡ 0 → V_of s < 131072
foot_near s h = omega (arith, V_most s (accepted s h).measured)

-- what the documents leave free
free : (s : List ℕ) → Free computed_by table s
free s = (tabulated, λ h. (answers s, claim s (answers s) h (answers_filled s)))

-- what the call with a list answers, lent n numbers; never 13
module _ (s pressures : List ℕ) (n : ℕ) where
  pub depths_never_13 : first_unmet (depths_rules s pressures n) ≡ 13 → ⊥
  unfolding depths_rules
  depths_never_13 = call_never_13 true s _ refl

  refused_depths : (refusal_of s ≡ 0 → ⊥) → first_unmet (depths_rules s pressures n) ≡ refusal_of s
  unfolding depths_rules
  refused_depths h = sheet_first s _ h

  own_of_depths : refusal_of s ≡ 0
      → first_unmet (depths_rules s pressures n) ≡ first_unmet (21 unless pressures_met pressures ∷ 22 unless eqb n (length pressures) ∷ [])
  unfolding depths_rules
  own_of_depths h = sheet_passed s _ h

  -- it answers 0 exactly for an accepted sheet, pressures that meet 21, and a number for each
  pub depths_accepted : first_unmet (depths_rules s pressures n) ≡ 0 → (refusal_of s ≡ 0) × (pressures_met pressures ≡ true) × (n ≡ length pressures)
  unfolding depths_rules
  depths_accepted h =
      let own = 21 unless pressures_met pressures ∷ 22 unless eqb n (length pressures) ∷ [] in
      let m = met own refl (apart own (sheet_rules s) (rules_numbered true s) h).1 in
      (sheet_met s own h, m 0, eqb-true n (length pressures) (m 1))

  pub depths_not_refused : refusal_of s ≡ 0 → pressures_met pressures ≡ true → n ≡ length pressures → first_unmet (depths_rules s pressures n) ≡ 0
  unfolding first_unmet
  depths_not_refused h m e = own_of_depths h ∙ simp (m, eq-eqb n (length pressures) e)

module _ (s pressures lent : List ℕ) where
  -- any refusal leaves the list as it was
  refused_with : (r : ℕ) → r ≡ first_unmet (depths_rules s pressures (length lent)) → (r ≡ 0 → ⊥) → DepthsPromise computed_by table s pressures lent r lent
  refused_with r e n =
      (free s, fills_refused (depths_rules s pressures (length lent)) (Depths (p_he_of computed (silo_of s)) (V_of s) pressures) lent r e n)

  pub refused : (r : ℕ) → r ≡ refusal_of s → (r ≡ 0 → ⊥) → DepthsPromise computed_by table s pressures lent r lent
  refused r e n = refused_with r (e ∙ sym (refused_depths s pressures (length lent) (λ o. n (e ∙ o)))) n

  module _ (h : refusal_of s ≡ 0) where
    pub falling : pressures_met pressures ≡ false → DepthsPromise computed_by table s pressures lent 21 lent
    unfolding first_unmet
    falling m = refused_with 21 (sym (own_of_depths s pressures (length lent) h ∙ simp m)) (λ o. omega arith)

    module _ (m : pressures_met pressures ≡ true) where
      pub other_length : (length lent ≡ length pressures → ⊥) → DepthsPromise computed_by table s pressures lent 22 lent
      unfolding first_unmet
      other_length n =
          refused_with 22 (sym (own_of_depths s pressures (length lent) h ∙ simp (m, ne_eqb (length lent) (length pressures) n))) (λ o. omega arith)

      pub filled : (left : List ℕ) → length lent ≡ length pressures → Depths (p_he_of computed (silo_of s)) (V_of s) pressures left
          → DepthsPromise computed_by table s pressures lent 0 left
      filled left n x =
          let rules = depths_rules s pressures (length lent) in
          (free s, fills_done rules (Depths (p_he_of computed (silo_of s)) (V_of s) pressures) lent left (depths_not_refused s pressures (length lent) h m n) x)

-- one pressure is a list that meets 21, whatever it is
one_met : (p : ℕ) → pressures_met (p ∷ []) ≡ true
unfolding pressures_met never_falls_from
one_met p = simp (le-leb 0 p (omega arith))

one_refusal : (s : List ℕ) (p : ℕ) → first_unmet (depths_rules s (p ∷ []) 1) ≡ refusal_of s
one_refusal s p = at (dec_le (refusal_of s) 0)
  where
    at : Dec (refusal_of s ≤ 0) → first_unmet (depths_rules s (p ∷ []) 1) ≡ refusal_of s
    at (yes z) = let h : refusal_of s ≡ 0 = omega arith in depths_not_refused s (p ∷ []) 1 h (one_met p) refl ∙ sym h
    at (no z) = refused_depths s (p ∷ []) 1 (λ o. omega arith)

-- asked alone: its refusals are the sheet's, and its depth is the one that the list has
module _ (s : List ℕ) (p r : ℕ) (left : List ℕ) (x : DepthsPromise computed_by table s (p ∷ []) (0 ∷ []) r left) where
  same_refusal : r ≡ refusal_of s
  same_refusal = x.1.answer ∙ one_refusal s p

  pub asked_alone : DepthPromise computed_by table s p (length_number (told r (get_or left 0 0)))
  asked_alone =
      (x.0, (get_or left 0 0, ap (λ (k : ℕ). length_number (told k (get_or left 0 0))) same_refusal, λ h. (x.1.done (same_refusal ∙ h)).each 0 (omega arith)))

  -- by name
  pub refused_alone : (e : Refusal) → number e ≡ r → DepthPromise computed_by table s p (length_number (numbered (Err e)))
  refused_alone e h = rw (refused_by_name r (get_or left 0 0) e h) asked_alone

  pub found_alone : 0 ≡ r → DepthPromise computed_by table s p (length_number (numbered (Ok (get_or left 0 0))))
  found_alone h = rw (due_answered r (get_or left 0 0) (get_or left 0 0) h refl) asked_alone

-- The refusals of calls that work loads out and of calls that only tell a length or a count, which are those of the first's rules less 20 (`less_20`); and
-- what is due of a sheet that is examined.
--     loads_or_20         the first's refusal is the second's, or 20
--     measured_20         a sheet that is measured and refused for loads is refused with 20
--     accepted_measured   a sheet that is not refused for loads is measured
--     in_proportion       where no side is too long, both have one refusal; so for every circle
--     call_or_20, call_measured_20   the same of a call with rules of its own behind
--     never_20            20 is no refusal of the second, nor are 13, which is retired, and 14
--     given_met           a depth given beside the sheet that is at most V changes no refusal
use Prim.Native.Nat.{ℕ, ◌≤◌, ◌<◌}
use mathlib.Core.Bool.{Bool, true, false, cond}
use mathlib.Core.List.{List, [], ◌∷◌, ◌++◌, append_assoc}
use mathlib.Core.Logic.{◌⊎◌, ⊎_elim}
use mathlib.Core.Path.{◌≡◌, refl, sym, ap, ◌∙◌}
use native.Mathlib.Omega.{arith}
use borrow.Author.Tests.{leb-true, le-leb}
use lib.Dec.{leb, eqb}
use lib.ListN.{drop}
use Rattle.janssen.specs.declared.Section.TheVariants.{Circle}
use Rattle.records.specs.Rules.{Rule, ◌unless◌, first_unmet}
use Rattle.std.specs.Prelude.{Result}
use Rattle.records.specs.declared.refusal.Refusal.{Refusal}
use Rattle.records.specs.Refusal.{answer}
use Rattle.records.specs.Format.{record_rules, records_rules, layout_rules}
use Rattle.records.proofs.Tests.{absurd, both_true}
use Rattle.records.proofs.Chain.{numbered, met, apart, skipped, stopped, chains_alike, inserted, has, absent, below, first_below}
use Rattle.description.specs.Silo.{section_of, depths_of, V_of}
use Rattle.description.specs.declared.Described.{Described}
use Rattle.sheet.specs.declared.Asked.TheVariants.{Length}
use Rattle.sheet.specs.Refusal.{sides_met, proportion_met, depths_met, value_rules, rules_with, sheet_rules, sheet_rules_at, length_refusal, refusal_of}
use Rattle.sheet.specs.program.Examined.{Examined}
use Rattle.records.proofs.Fine.{by_count, layout_numbered}

-- a chain without the rules of one number
abbrev pub less : ℕ → List Rule → List Rule
less n [] = []
less n (r ∷ l) = cond (eqb r.refusal n) (less n l) (r ∷ less n l)

module _ (s : List ℕ) where
  abbrev six : Rule
  six = 6 unless sides_met (section_of s)

  abbrev twenty : Rule
  twenty = 20 unless proportion_met (section_of s)

  -- the rules behind 20, and those of a length without it
  abbrev later : List Rule
  later = drop 2 (value_rules false true s)

  length_rules : List Rule
  length_rules = layout_rules s ++ (six ∷ later)

  without_20 : length_refusal s ≡ first_unmet length_rules
  unfolding length_refusal length_rules rules_with value_rules first_unmet
  without_20 = chains_alike (layout_rules s) (layout_rules s) _ _ (layout_numbered s) (layout_numbered s) refl (λ _. refl)

  pub less_20 : length_refusal s ≡ first_unmet (less 20 (sheet_rules s))
  unfolding length_rules rules_with records_rules record_rules value_rules
  less_20 = without_20 ∙ ap first_unmet (by_count s (λ (l : List Rule). (l ++ (six ∷ later)) ≡ less 20 (l ++ value_rules false true s)) refl refl)

  pub loads_or_20 : (refusal_of s ≡ length_refusal s) ⊎ (refusal_of s ≡ 20)
  unfolding refusal_of rules_with value_rules length_rules
  loads_or_20 =
      let to-6 = layout_rules s ++ (six ∷ []) in
      rw (without_20, sym (append_assoc (layout_rules s) (six ∷ []) (twenty ∷ later)), sym (append_assoc (layout_rules s) (six ∷ []) later)) (inserted to-6 twenty later)

  pub measured_20 : length_refusal s ≡ 0 → (refusal_of s ≡ 0 → ⊥) → refusal_of s ≡ 20
  measured_20 h n = ⊎_elim (λ e. absurd (n (e ∙ h))) (λ e. e) loads_or_20

  pub accepted_measured : refusal_of s ≡ 0 → length_refusal s ≡ 0
  accepted_measured h = ⊎_elim (λ e. sym e ∙ h) (λ e. absurd (omega (arith, e, h))) loads_or_20

  pub in_proportion : proportion_met (section_of s) ≡ true → refusal_of s ≡ length_refusal s
  unfolding refusal_of length_refusal rules_with value_rules first_unmet
  in_proportion h =
      chains_alike (layout_rules s) (layout_rules s) _ _ (layout_numbered s) (layout_numbered s) refl (λ _. rw h refl)

  pub circle_alike : (d : ℕ) → section_of s ≡ Circle d → refusal_of s ≡ length_refusal s
  unfolding proportion_met
  circle_alike d e = in_proportion (ap proportion_met e)

  -- no rule of a length has the number n
  never : (n : ℕ) → 0 < n → has length_rules n ≡ false → length_refusal s ≡ n → ⊥
  never n pos h e = absent length_rules n pos h (sym without_20 ∙ e)

  abbrev behind : ℕ → List Rule → Type 0
  behind n l = has (l ++ (six ∷ later)) n ≡ false

  pub never_13 : length_refusal s ≡ 13 → ⊥
  unfolding length_rules records_rules record_rules value_rules
  never_13 = never 13 (omega arith) (by_count s (behind 13) refl refl)

  pub never_14 : length_refusal s ≡ 14 → ⊥
  unfolding length_rules records_rules record_rules value_rules
  never_14 = never 14 (omega arith) (by_count s (behind 14) refl refl)

  pub never_20 : length_refusal s ≡ 20 → ⊥
  unfolding length_rules records_rules record_rules value_rules
  never_20 = never 20 (omega arith) (by_count s (behind 20) refl refl)

pub rules_numbered : (given : Bool) (s : List ℕ) → numbered (rules_with false given s) ≡ true
unfolding rules_with records_rules record_rules value_rules
rules_numbered given s = by_count s (λ (l : List Rule). numbered (l ++ value_rules false given s) ≡ true) refl refl

-- every refusal has at most two digits
pub refusal_small : (s : List ℕ) → refusal_of s < 100
unfolding refusal_of rules_with records_rules record_rules value_rules
refusal_small s = first_below 100 (sheet_rules s) (omega arith) (by_count s (λ (l : List Rule). below 100 (l ++ value_rules false true s) ≡ true) refl refl)

-- a call's own rules stand behind those of the sheet
module _ (s : List ℕ) (own : List Rule) where
  pub sheet_first : (refusal_of s ≡ 0 → ⊥) → first_unmet (sheet_rules s ++ own) ≡ refusal_of s
  unfolding refusal_of
  sheet_first h = stopped own (sheet_rules s) h

  pub sheet_passed : refusal_of s ≡ 0 → first_unmet (sheet_rules s ++ own) ≡ first_unmet own
  unfolding refusal_of
  sheet_passed h = skipped own (sheet_rules s) (rules_numbered true s) h

  pub sheet_met : first_unmet (sheet_rules s ++ own) ≡ 0 → refusal_of s ≡ 0
  unfolding refusal_of
  sheet_met h = (apart own (sheet_rules s) (rules_numbered true s) h).0

  -- beside a call that tells a length
  abbrev call : ℕ
  call = first_unmet (sheet_rules s ++ own)

  pub call_or_20 : (length_refusal s ≡ 0 → ⊥) → (call ≡ length_refusal s) ⊎ (call ≡ 20)
  call_or_20 n = rw (sheet_first (λ h. n (accepted_measured s h))) (loads_or_20 s)

  pub call_measured_20 : length_refusal s ≡ 0 → first_unmet own ≡ 0 → (call ≡ 0 → ⊥) → call ≡ 20
  call_measured_20 h met n =
      let refused : refusal_of s ≡ 0 → ⊥ = λ o. n (sheet_passed o ∙ met) in
      sheet_first refused ∙ measured_20 s h refused

-- 13 is retired
pub call_never_13 : (given : Bool) (s : List ℕ) (own : List Rule) → has own 13 ≡ false → first_unmet (rules_with false given s ++ own) ≡ 13 → ⊥
unfolding rules_with records_rules record_rules value_rules
call_never_13 given s own h =
    absent (rules_with false given s ++ own) 13 (omega arith) (by_count s (λ (l : List Rule). has ((l ++ value_rules false given s) ++ own) 13 ≡ false) h h)

-- a depth z given beside a sheet is at most V, and then it changes no refusal
module _ (s : List ℕ) (z : ℕ) where
  pub given_met : z ≤ V_of s → first_unmet (sheet_rules_at s z) ≡ refusal_of s
  unfolding refusal_of
  given_met h = ap (λ (given : Bool). first_unmet (rules_with false given s)) (le-leb z (V_of s) h)

  pub accepted_at : first_unmet (sheet_rules_at s z) ≡ 0 → (refusal_of s ≡ 0) × (z ≤ V_of s)
  unfolding rules_with value_rules
  accepted_at h =
      let given = leb z (V_of s) in
      let rules = (apart (value_rules false given s) (layout_rules s) (layout_numbered s) h).1 in
      let both = both_true given (depths_met (V_of s) 0 (depths_of s)) (met (value_rules false given s) refl rules 6) in
      let under = leb-true z (V_of s) both.0 in
      (sym (given_met under) ∙ h, under)

pub at_brim : (s : List ℕ) → first_unmet (sheet_rules_at s 0) ≡ refusal_of s
at_brim s = given_met s 0 (omega arith)

-- two sheets with one refusal, and the same of a call's own rules where there is none
pub answers_alike : (s s' : List ℕ) (own own' : List Rule) → refusal_of s ≡ refusal_of s' → (refusal_of s ≡ 0 → first_unmet own ≡ first_unmet own')
    → first_unmet (sheet_rules s ++ own) ≡ first_unmet (sheet_rules s' ++ own')
unfolding refusal_of
answers_alike s s' own own' e alike = chains_alike (sheet_rules s) (sheet_rules s') own own' (rules_numbered true s) (rules_numbered true s') e alike

-- the first refusal is that of the records or, where they have none, that of the values
module _ (told : Bool) (z : ℕ) (s : List ℕ) where
  abbrev values : List Rule
  values = value_rules told (leb z (V_of s)) s

  abbrev all : List Rule
  all = rules_with told (leb z (V_of s)) s

  pub records_refused : {r : ℕ} → r ≡ first_unmet (layout_rules s) → (r ≡ 0 → ⊥) → r ≡ first_unmet all
  unfolding rules_with
  records_refused e n = e ∙ sym (stopped values (layout_rules s) (λ o. n (e ∙ o)))

  pub values_refused : {r : ℕ} → first_unmet (layout_rules s) ≡ 0 → r ≡ first_unmet values → r ≡ first_unmet all
  unfolding rules_with
  values_refused h e = e ∙ sym (skipped values (layout_rules s) (layout_numbered s) h)

-- where a length is asked for, the depth 0 is given
pub length_asked : (s : List ℕ) → first_unmet (rules_with true (leb 0 (V_of s)) s) ≡ length_refusal s
unfolding length_refusal
length_asked s = ap (λ (given : Bool). first_unmet (rules_with true given s)) (le-leb 0 (V_of s) (omega arith))

-- what is due of a sheet that was examined, and what it describes where it is not refused
module _ (s : List ℕ) (r : Result Described Refusal) where
  pub length_examined : Examined Length s 0 r → answer r ≡ length_refusal s
  length_examined e = e.refusal ∙ length_asked s

-- What document 02, C-19, says beyond the contracts, for any filling numbers that meet demand 3.
--     brim               p_he is 0 at depth 0, which so always qualifies
--     always_one         there is exactly one greatest depth
--     surface_carries    it never lies above the grain's surface
--     some_below, nothing_reaches   below the surface p_he is not 0, so a pressure of 0 reaches the surface exactly
--     listed_exactly     p_he of a listed depth is at most the pressure exactly where the depth is at most the reply
--     strakes_exactly    and so is a strake's number, by its lower edge
--     as_asked_alone     the depths of a list are those of the separate questions
--     reply_never_falls  and they never fall
--     question_never_13, question_never_21, question_never_22   what the single question does not answer; 13 is retired
use Prim.Native.Nat.{ℕ, suc, ◌+◌, ◌≤◌, ◌<◌}
use mathlib.Core.Bool.{true, false}
use mathlib.Core.List.{List, ◌++◌}
use mathlib.Core.Path.{◌≡◌, refl, ap, sym, subst, ◌∙◌}
use native.Mathlib.Decide.{dec_le}
use native.Mathlib.Nat.{le_antisymm}
use native.Mathlib.Omega.{arith}
use lib.ListN.{length, get_or}
use Rattle.janssen.specs.Numbers.{FillingNumbers}
use Rattle.description.specs.Silo.{depth_count, strake_count, edge_of, V_of, headroom_of}
use Rattle.records.specs.Rules.{Rule}
use Rattle.records.specs.Format.{record_rules, records_rules}
use Rattle.records.proofs.Chain.{has, absent}
use Rattle.sheet.specs.Refusal.{value_rules, rules_with, sheet_rules, refusal_of}
use Rattle.records.proofs.Fine.{by_count}
use Rattle.sheet.proofs.Acceptance.{accepted}
use Rattle.sheet.proofs.Described.{edge_most}
use Rattle.loads.specs.Load.{load_depth}
use Rattle.loads.specs.Load.Load.{p_hf, p_he}
use Rattle.loads.proofs.LoadLaws.{load_depth_rises}
use Rattle.answers.specs.Answers.{silo_of, depth, strake_in}
use Rattle.answers.specs.Claim.{Claim}
use Rattle.answers.specs.Order.{load_in}
use Rattle.answers.specs.Length.{length_number}
use Rattle.answers.proofs.Places.{at_load}
use Rattle.answers.proofs.Demand.{silo_fits}
use Rattle.answers.proofs.Order.{p_he_load}
use Rattle.answers.proofs.LengthLaws.{told_due, told_number}
use Rattle.reach.specs.Reach.{p_he_of, Deepest}
use Rattle.reach.specs.Order.{NeverFalls}
use Rattle.reach.specs.Promise.{DepthPromise, DepthsPromise}
use Rattle.reach.proofs.Depth.{exists, reaches, deeper, unique, exactly}
use Rattle.reach.proofs.PressureLaws.{none_by_band, some_by_band}
use Rattle.reach.proofs.NeverFalls.{never_falls}
use Rattle.reach.proofs.Call.{depths_accepted}

module _ (f : FillingNumbers) (s list : List ℕ) (h : refusal_of s ≡ 0) (claim : Claim f s list) where
  abbrev load : ℕ → ℕ
  load = p_he_of f (silo_of s)

  pub brim : load 0 ≡ 0
  brim = none_by_band (silo_of s) (silo_fits s (accepted s h).measured) f (claim.holds p_hf 0 (omega arith))

  pub always_one : (p : ℕ) → (d : ℕ) × Deepest load (V_of s) p d × ((d' : ℕ) → Deepest load (V_of s) p d' → d' ≡ d)
  always_one p =
      let one = exists load (V_of s) p (omega (arith, brim)) in
      (one.0, one.1, λ d' x. unique load x one.1)

  goes_down : (y z : ℕ) → y ≤ z → z ≤ V_of s → load y ≤ load z
  goes_down y z l g = claim.down p_he p_he_load y z g (load_depth_rises (silo_of s) y z l)

  pub some_below : (z : ℕ) → headroom_of s < z → z ≤ V_of s → 0 < load z
  some_below z g l = some_by_band (silo_of s) (silo_fits s (accepted s h).measured) f z g (claim.holds p_hf z l)

  module _ (p d : ℕ) (x : Deepest load (V_of s) p d) where
    pub surface_carries : headroom_of s ≤ d
    unfolding load_depth
    surface_carries =
        let under : headroom_of s ≤ V_of s = omega (arith, (accepted s h).measured.headroom_less) in
        reaches load x (headroom_of s) under (omega (arith, brim, claim.down p_he p_he_load (headroom_of s) 0 (omega arith) (omega arith)))

    carries_exactly : (z n : ℕ) → z ≤ V_of s → n ≡ load z → (n ≤ p → z ≤ d) × (z ≤ d → n ≤ p)
    carries_exactly z n g e = subst (λ (n : ℕ). (n ≤ p → z ≤ d) × (z ≤ d → n ≤ p)) (sym e) (exactly load goes_down x z g)

    pub listed_exactly : (i : ℕ) → i < depth_count s → (load_in s list p_he i ≤ p → depth s i ≤ d) × (depth s i ≤ d → load_in s list p_he i ≤ p)
    listed_exactly i g =
        carries_exactly (depth s i) (load_in s list p_he i) ((accepted s h).measured.depths_most i g) (at_load claim.filled p_he i g)

    pub strakes_exactly : (k : ℕ) → k < strake_count s
        → (strake_in s list k ≤ p → edge_of s (suc k) ≤ d) × (edge_of s (suc k) ≤ d → strake_in s list k ≤ p)
    strakes_exactly k g = carries_exactly (edge_of s (suc k)) (strake_in s list k) (edge_most s (suc k)) (claim.filled.at_strakes k g)

  pub nothing_reaches : (d : ℕ) → Deepest load (V_of s) 0 d → d ≡ headroom_of s
  nothing_reaches d x = at (dec_le d (headroom_of s))
    where
      at : Dec (d ≤ headroom_of s) → d ≡ headroom_of s
      at (yes l) = le_antisymm l (surface_carries 0 d x)
      at (no l) = absurd (omega (arith, some_below d (omega arith) x.inside, x.carries))

module _ (f : List ℕ → FillingNumbers) (t s pressures lent left : List ℕ) (listed : DepthsPromise f t s pressures lent 0 left) where
  met : (refusal_of s ≡ 0) × (NeverFalls pressures) × (length lent ≡ length pressures)
  met =
      let m = depths_accepted s pressures (length lent) (sym listed.1.answer) in
      (m.0, never_falls pressures m.1, m.2)

  pub as_asked_alone : (i r : ℕ) → i < length pressures → DepthPromise f t s (get_or pressures i 0) r → r ≡ 4294967296 + get_or left i 0
  unfolding length_number
  as_asked_alone i r g (_, (d, e, x)) =
      e ∙ ap length_number (told_due (refusal_of s) d met.0) ∙ ap (λ (n : ℕ). 4294967296 + n) (unique _ (x met.0) ((listed.1.done refl).each i g))

  pub reply_never_falls : NeverFalls left
  reply_never_falls i g =
      let depths = listed.1.done refl in
      let inside : suc i < length pressures = omega (arith, g, depths.sized) in
      deeper _ (met.1 i inside) (depths.each i (omega (arith, inside))) (depths.each (suc i) inside)

-- the answer to the single question, whatever the pressure
module _ (f : List ℕ → FillingNumbers) (t s : List ℕ) (p r : ℕ) (asked : DepthPromise f t s p r) where
  never : (n : ℕ) → 0 < n → n < 4294967296 → has (sheet_rules s) n ≡ false → r ≡ n → ⊥
  unfolding refusal_of
  never n some small none e = absent (sheet_rules s) n some none (told_number (refusal_of s) asked.1.0 n small (sym asked.1.1 ∙ e))

  abbrev without : ℕ → List Rule → Type 0
  without n l = has (l ++ value_rules false true s) n ≡ false

  pub question_never_13 : r ≡ 13 → ⊥
  unfolding rules_with records_rules record_rules value_rules
  question_never_13 = never 13 (omega arith) (omega arith) (by_count s (without 13) refl refl)

  pub question_never_21 : r ≡ 21 → ⊥
  unfolding rules_with records_rules record_rules value_rules
  question_never_21 = never 21 (omega arith) (omega arith) (by_count s (without 21) refl refl)

  pub question_never_22 : r ≡ 22 → ⊥
  unfolding rules_with records_rules record_rules value_rules
  question_never_22 = never 22 (omega arith) (omega arith) (by_count s (without 22) refl refl)

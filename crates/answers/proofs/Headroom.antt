-- What a seventh record means.
--     level_record      one with g = 0: the load call answers the same and leaves the same list as for the sheet without it; the length call too (`level_length`)
--     level_sheet       z - g, listed on an accepted sheet without headroom, has the filling pressures and P_w of z on the sheet with it
--     foot_listed       floor and hopper rest on the pressure that the list has for z = V
-- Assumes nothing.
use Prim.Native.Nat.{ℕ, suc, ◌+◌, ◌-◌, ◌≤◌, ◌<◌}
use mathlib.Core.List.{List, ◌++◌}
use mathlib.Core.Path.{◌≡◌, refl, ap, sym, ◌∙◌}
use native.Mathlib.Decide.{dec_le}
use native.Mathlib.Omega.{arith}
use lib.ListN.{length, length-append}
use Rattle.janssen.specs.Numbers.{FillingNumbers}
use Rattle.records.specs.Rules.{first_unmet}
use Rattle.records.specs.Format.{u16, u32, four_bytes, record_bytes, record_place, payload, allowed, record_rules, layout_rules}
use Rattle.records.proofs.Records.{seven_records}
use Rattle.records.proofs.Alike.{SameRecord}
use Rattle.records.proofs.Followed.{place_kept, record_kept, u32_behind, followed_passed, followed_refused}
use Rattle.description.specs.Silo.{product_sent, product_of, depth_count, V_of, headroom_of}
use Rattle.description.proofs.Headroom.{six_level, seventh_headroom}
use Rattle.sheet.specs.Refusal.{product_met, refusal_of}
use Rattle.sheet.specs.Accepted.{Layout}
use Rattle.sheet.proofs.Parts.{SameParts, product_same, same_parts, SameRules, values_same, refused_alike}
use Rattle.loads.specs.Load.{Load}
use Rattle.loads.specs.Load.{FillingLoad, load_depth, load_number}
use Rattle.loads.specs.Load.Load.{p_vf}
use Rattle.answers.specs.Length.{answers_length}
use Rattle.answers.specs.Answers.{silo_of, depth, Filled}
use Rattle.answers.specs.Order.{load_in, LeftFor}
use Rattle.answers.specs.Claim.{SameSectionAndProduct, Claim}
use Rattle.answers.specs.Promise.{Promise}
use Rattle.answers.proofs.Places.{at_load}
use Rattle.answers.proofs.Order.{lists_ordered}
use Rattle.answers.proofs.OneSilo.{Alike, one_length, one_call}

-- a record with headroom 0
abbrev pub level : List ℕ
level = record_bytes 8 (four_bytes 0)

module _ (s : List ℕ) (six : record_place s 6 ≡ length s) where
  -- each of the six records is the same
  kept : (k n : ℕ) → k + suc n ≡ 6 → SameRecord s (s ++ level) k
  kept = record_kept s level six

  none : headroom_of (s ++ level) ≡ 0
  unfolding payload u32 u16
  none =
      let more = length-append s level in
      let end : record_place (s ++ level) 6 ≡ length s = sym (place_kept s level six 6 0 refl) ∙ six in
      seventh_headroom (s ++ level) (seven_records (s ++ level) (λ e. omega (arith, e, more, end)))
      ∙ ap (λ (a : ℕ). u32 (s ++ level) (a + 4)) end
      ∙ u32_behind s level 4

  headroom_kept : headroom_of s ≡ headroom_of (s ++ level)
  headroom_kept = six_level s six ∙ sym none

  -- what the longer sheet describes, where the records of s are not refused
  module _ (l : Layout s) where
    parts_kept : SameParts s (s ++ level)
    parts_kept = same_parts s (s ++ level) l (λ k h _. let e : k + suc (5 - k) ≡ 6 = omega arith in kept k (5 - k) e) headroom_kept

    product_kept : product_sent s ≡ product_sent (s ++ level)
    product_kept = product_same s (s ++ level) l (kept 1 4 refl)

    values_kept : SameRules s (s ++ level)
    values_kept = values_same s (s ++ level) parts_kept (ap product_met product_kept)

    silo_kept : silo_of s ≡ silo_of (s ++ level)
    unfolding product_of V_of
    silo_kept =
        let p = parts_kept in
        rw (p.sections, product_kept, p.eccentricities, p.bottoms, p.strakes, p.headrooms) refl

  -- no rule refuses the longer sheet that does not refuse s
  module _ (short : length s + 8 ≤ 1024) where
    records_by : Dec (first_unmet (layout_rules s) ≤ 0) → first_unmet (layout_rules s) ≡ first_unmet (layout_rules (s ++ level))
    unfolding first_unmet record_rules allowed record_place u16
    records_by (yes z) =
        let h : first_unmet (layout_rules s) ≡ 0 = omega (arith, z) in
        h ∙ sym (followed_passed s level six (omega arith) short h)
    records_by (no z) = sym (followed_refused s level six (omega arith) short (λ o. z (omega (arith, o))))

    records_alike : first_unmet (layout_rules s) ≡ first_unmet (layout_rules (s ++ level))
    records_alike = records_by (dec_le (first_unmet (layout_rules s)) 0)

    pub level_alike : Alike s (s ++ level)
    level_alike =
        record {
          refusals = refused_alike s (s ++ level) records_alike values_kept;
          silo = λ l. record { parts = parts_kept l; silos = silo_kept l };
        }

    pub level_length : answers_length s ≡ answers_length (s ++ level)
    level_length = one_length s (s ++ level) level_alike

    pub level_record : (f : List ℕ → FillingNumbers) (t lent left left' : List ℕ) (r r' : ℕ) → Promise f t s lent r left → Promise f t (s ++ level) lent r' left'
        → (r ≡ r') × (left ≡ left')
    level_record = one_call s (s ++ level) level_alike

-- z - g, listed on an accepted sheet without headroom, beside z
pub level_sheet : (f : FillingNumbers) (s s' list list' : List ℕ) → refusal_of s ≡ 0 → Claim f s list → LeftFor f s' list'
    → SameSectionAndProduct s s' → headroom_of s' ≡ 0 → (l : Load) → FillingLoad l → (i j : ℕ) → i < depth_count s → j < depth_count s' → depth s' j ≡ depth s i - headroom_of s
    → load_in s list l i ≡ load_in s' list' l j
unfolding load_depth
level_sheet f s s' list list' ok a b same brim l o i j h k e =
    (lists_ordered f s s' list list' ok a b same l o i j h k).same (omega (arith, e, brim))

-- the pressure on floor and hopper is the one that the list has for z = V
pub foot_listed : (f : FillingNumbers) (s list : List ℕ) → Filled f s list → (i : ℕ) → i < depth_count s → depth s i ≡ V_of s
    → load_number f (silo_of s) p_vf (silo_of s).foot ≡ load_in s list p_vf i
foot_listed f s list a i h e = sym (at_load a p_vf i h ∙ ap (load_number f (silo_of s) p_vf) e)

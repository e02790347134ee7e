-- Records read in order, none refused so far; the next is record k, where a reader stands.
--     walk_start        before the first
--     walk_next         one of the first six is not refused: behind it the next is due
--     early_refused     one of the first six is refused: that is the sheet's refusal
--     seventh_refused   so where bytes follow the sixth, and the seventh is refused
--     seventh_behind    where it is not, and bytes follow it: 5
--     seventh_last      where none follow it, no rule on the records refuses
--     sixth_last        nor where none follow the sixth
use Prim.Native.Nat.{ℕ, ◌+◌, ◌-◌, ◌≤◌, ◌<◌}
use mathlib.Core.List.{List}
use mathlib.Core.Path.{◌≡◌, refl, sym, ◌∙◌, ap, ap₂, subst}
use native.Mathlib.Omega.{arith}
use borrow.Author.Tests.{le-leb, eq-eqb, ne_eqb}
use lib.ListN.{length, get_or, set, length-set}
use Rattle.records.specs.Rules.{first_unmet}
use Rattle.records.specs.Format.{u16, record_place, payload_length, record_rules, records_rules, record_count, layout_rules}
use Rattle.records.specs.Refusal.{number}
use Rattle.records.specs.program.Reader.{Behind, Reading, Located}
use Rattle.records.specs.declared.reader.Reader.{Reader}
use Rattle.records.specs.declared.refusal.Refusal.{Refusal}
use Rattle.records.proofs.Refusals.{no_zero}
use Rattle.records.proofs.Records.{place_first, place_next, noted, six_records, seven_records, six_least, records_step, records_stop, records_end}
use Rattle.records.proofs.Fine.{fine}

module _ (s : List ℕ) (short : length s ≤ 1024) where
  by_records : first_unmet (layout_rules s) ≡ first_unmet (records_rules s (record_count s) 0)
  unfolding layout_rules first_unmet
  by_records = rw (le-leb (length s) 1024 short) refl

  pub walk_start : {r : Reader} {places : List ℕ} → r.sheet.now ≡ s → r.at ≡ 0 → length places ≡ 7 → get_or places 0 0 ≡ 0 → Reading s 0 r places
  walk_start same e seven zero_first =
      record {
        same = same;
        there = e ∙ sym (place_first s);
        near = omega arith;
        sized = seven;
        noted = λ j h. let z : j ≡ 0 = omega (arith, h) in rw z (zero_first ∙ sym (place_first s));
        left = ap (λ (n : ℕ). first_unmet (records_rules s n 0)) (omega arith);
      }

  module _ {k : ℕ} {r : Reader} {places : List ℕ} (w : Reading s k r places) where
    here : first_unmet (record_rules r.sheet.now r.at k) ≡ first_unmet (record_rules s (record_place s k) k)
    here = ap₂ (λ (x : List ℕ) (n : ℕ). first_unmet (record_rules x n k)) w.same w.there

    refused : (e : Refusal) → k < record_count s → number e ≡ first_unmet (record_rules r.sheet.now r.at k) → number e ≡ first_unmet (layout_rules s)
    refused e due h =
        h ∙ here ∙ sym (by_records ∙ w.left ∙ records_stop s (record_count s) k due (λ z. no_zero e (h ∙ here ∙ z)))

    pub early_refused : (e : Refusal) → k < 6 → number e ≡ first_unmet (record_rules r.sheet.now r.at k) → number e ≡ first_unmet (layout_rules s)
    early_refused e few h = refused e (omega (arith, few, six_least s)) h

    module _ (met : 0 ≡ first_unmet (record_rules r.sheet.now r.at k)) {next : Reader} (behind : Behind r next) where
      met_here : first_unmet (record_rules s (record_place s k) k) ≡ 0
      met_here = sym (met ∙ here)

      next_there : next.at ≡ record_place s (k + 1)
      next_there = behind.1 ∙ ap₂ (λ (x : List ℕ) (n : ℕ). n + 4 + u16 x n) w.same w.there ∙ sym (place_next s k)

      stepped : k < record_count s → first_unmet (layout_rules s) ≡ first_unmet (records_rules s (record_count s - (k + 1)) (k + 1))
      stepped due = by_records ∙ w.left ∙ records_step s (record_count s) k due met_here

      pub walk_next : k < 6 → Reading s (k + 1) next (set places (k + 1) next.at)
      unfolding payload_length
      walk_next few =
          record {
            same = ap (λ b. b.now) behind.0 ∙ w.same;
            there = next_there;
            near = omega (arith, next_there, place_next s k, (fine s k met_here).inside);
            sized = length-set places (k + 1) next.at ∙ w.sized;
            noted = noted s places (k + 1) next.at (omega (arith, few, w.sized)) next_there (λ j h. w.noted j (omega (arith, h)));
            left = w.left ∙ records_step s (record_count s) k (omega (arith, few, six_least s)) met_here;
          }

  -- the first six are passed
  module _ {k : ℕ} {r : Reader} {places : List ℕ} (walked : Reading s k r places) (least : 6 ≤ k) (most : k ≤ 6) where
    w : Reading s 6 r places
    w = let six : k ≡ 6 = omega arith in subst (λ (n : ℕ). Reading s n r places) six walked

    pub walk_located : Located s places
    walk_located = record { located = w.noted; inside = omega (arith, w.there, w.near) }

    pub sixth_last : r.at ≡ length s → first_unmet (layout_rules s) ≡ 0
    sixth_last e =
        let whole : record_place s 6 ≡ length s = sym w.there ∙ e in
        by_records ∙ w.left ∙ records_end s (record_count s) 6 (omega (arith, six_records s whole)) ∙ rw (eq-eqb (record_place s 6) (length s) whole) refl

    module _ (more : r.at ≡ length s → ⊥) where
      seven : record_count s ≡ 7
      seven = seven_records s (λ e. more (w.there ∙ e))

      pub seventh_refused : (e : Refusal) → number e ≡ first_unmet (record_rules r.sheet.now r.at 6) → number e ≡ first_unmet (layout_rules s)
      seventh_refused e h = refused w e (omega (arith, seven)) h

      module _ (met : 0 ≡ first_unmet (record_rules r.sheet.now r.at 6)) {next : Reader} (behind : Behind r next) where
        all : first_unmet (layout_rules s) ≡ first_unmet (records_rules s (record_count s - 7) 7)
        all = stepped w met behind (omega (arith, seven))

        pub seventh_behind : (next.at ≡ length s → ⊥) → 5 ≡ first_unmet (layout_rules s)
        seventh_behind n =
            sym (all ∙ records_end s (record_count s) 7 (omega (arith, seven))
            ∙ rw (ne_eqb (record_place s 7) (length s) (λ e. n (next_there w met behind ∙ e))) refl)

        pub seventh_last : next.at ≡ length s → first_unmet (layout_rules s) ≡ 0
        seventh_last h =
            all ∙ records_end s (record_count s) 7 (omega (arith, seven))
            ∙ rw (eq-eqb (record_place s 7) (length s) (sym (next_there w met behind) ∙ h)) refl

-- What two sheets describe alike. Each part of the silo is read from one record, so a record that both have at one place with equal bytes
-- (`SameRecord`) makes its part the same; s has its records in order. With every part but the product the same (`SameParts`) the rules are the same but
-- for 7 (`values_same`), and sheets with the same rules are refused alike (`refused_alike`).
use Prim.Native.Nat.{ℕ, ◌+◌, ◌/◌, ◌≤◌, ◌<◌}
use mathlib.Core.Bool.{Bool, true, false}
use mathlib.Core.List.{List}
use mathlib.Core.Logic.{⊎_elim}
use mathlib.Core.Path.{◌≡◌, refl, ap, sym, ◌∙◌}
use native.Mathlib.Decide.{dec_le}
use lib.Dec.{leb}
use native.Mathlib.Omega.{arith}
use Rattle.records.specs.Rules.{first_unmet}
use Rattle.records.specs.Format.{u16, u32, record_place, kind, payload, payload_length, layout_rules}
use Rattle.records.proofs.Records.{place_next}
use Rattle.records.proofs.Alike.{SameBytes, SameRecord, u16_same, u32_same, two_in, four_in, payload_length_same, kind_same, pair_same, list_same}
use Rattle.description.specs.Silo.{section_of, product_sent, eccentricities_of, bottom_of, strake_count, strakes_of, depth_count, depths_of, V_of, headroom_of, h_of}
use Rattle.sheet.specs.Refusal.{product_met, value_rules, rules_with, sheet_rules_at, length_refusal, refusal_of}
use Rattle.sheet.specs.Accepted.{Layout}
use Rattle.sheet.proofs.Layouts.{layout_of}
use Rattle.sheet.proofs.Chains.{records_refused, values_refused, length_asked, at_brim}

-- γ, Ks and μ stand in the twelve bytes of the second record before C0
pub means_same : (s s' : List ℕ) → record_place s 1 ≡ record_place s' 1 → SameBytes s s' (record_place s 1) (record_place s 1 + 12)
    → ((product_sent s).weight ≡ (product_sent s').weight) × (((product_sent s).ratio ≡ (product_sent s').ratio) × ((product_sent s).friction ≡ (product_sent s').friction))
unfolding product_sent payload
means_same s s' there same =
    let low = record_place s 1 in
    let two : (n : ℕ) → low ≤ n → n + 2 ≤ low + 12 → u16 s n ≡ u16 s' n = u16_same s s' low (low + 12) same in (
      u32_same s s' low (low + 12) same (low + 4) (omega arith) (omega arith) ∙ ap (λ (p : ℕ). u32 s' (p + 4)) there,
      (
        two (low + 4 + 4) (omega arith) (omega arith) ∙ ap (λ (p : ℕ). u16 s' (p + 4 + 4)) there,
        two (low + 4 + 6) (omega arith) (omega arith) ∙ ap (λ (p : ℕ). u16 s' (p + 4 + 6)) there,
      ),
    )

module _ (s s' : List ℕ) (l : Layout s) where
  module _ (r : SameRecord s s' 0) where
    circle_same : kind s 0 ≡ 1 → section_of s ≡ section_of s'
    unfolding section_of payload payload_length
    circle_same k =
        let end = place_next s 0 in
        let a = four_in s s' 0 r (record_place s 0 + 4) (omega arith) (omega (arith, end, l.circle_length k)) in
        rw (sym (kind_same s s' 0 r), k, a, r.there) refl

    rectangle_same : kind s 0 ≡ 2 → section_of s ≡ section_of s'
    unfolding section_of payload payload_length
    rectangle_same k =
        let p = pair_same s s' 0 r (l.rectangle_length k) in
        rw (sym (kind_same s s' 0 r), k, p.0, p.1) refl

    pub section_same : section_of s ≡ section_of s'
    section_same = ⊎_elim circle_same rectangle_same l.section_kind

  pub product_same : SameRecord s s' 1 → product_sent s ≡ product_sent s'
  unfolding product_sent payload payload_length
  product_same r =
      let end : record_place s 2 ≡ record_place s 1 + 14 = omega (arith, place_next s 1, l.product_length) in
      let m = means_same s s' r.there (λ i low high. r.bytes i low (omega (arith, high, end))) in
      let C0 = two_in s s' 1 r (record_place s 1 + 4 + 8) (omega arith) (omega (arith, end)) ∙ ap (λ (p : ℕ). u16 s' (p + 4 + 8)) r.there in
      λ i. record { weight = m.0 i; ratio = m.1.0 i; friction = m.1.1 i; factor = C0 i }

  eccentricities_same : SameRecord s s' 2 → eccentricities_of s ≡ eccentricities_of s'
  unfolding eccentricities_of
  eccentricities_same r = let p = pair_same s s' 2 r l.filling_length in λ i. record { inlet = p.0 i; outlet = p.1 i }

  bottom_same : SameRecord s s' 3 → bottom_of s ≡ bottom_of s'
  unfolding bottom_of
  bottom_same r = let p = pair_same s s' 3 r l.bottom_length in λ i. record { height = p.0 i; run = p.1 i }

  strake_count_same : SameRecord s s' 4 → strake_count s ≡ strake_count s'
  unfolding strake_count
  strake_count_same r = ap (λ (n : ℕ). n / 2) (payload_length_same s s' 4 r)

  strakes_same : SameRecord s s' 4 → strakes_of s ≡ strakes_of s'
  unfolding strakes_of
  strakes_same r = list_same s s' 4 r (u16 s) (u16 s') 2 (strake_count s) (strake_count s') (two_in s s' 4 r) l.strakes_length (strake_count_same r)

  depth_count_same : SameRecord s s' 5 → depth_count s ≡ depth_count s'
  unfolding depth_count
  depth_count_same r = ap (λ (n : ℕ). n / 4) (payload_length_same s s' 5 r)

  depths_same : SameRecord s s' 5 → depths_of s ≡ depths_of s'
  unfolding depths_of
  depths_same r = list_same s s' 5 r (u32 s) (u32 s') 4 (depth_count s) (depth_count s') (four_in s s' 5 r) l.depths_length (depth_count_same r)

-- everything but the product
pub record SameParts (s s' : List ℕ) : Type 0 where
  pub sections : section_of s ≡ section_of s'
  pub eccentricities : eccentricities_of s ≡ eccentricities_of s'
  pub bottoms : bottom_of s ≡ bottom_of s'
  pub strake_counts : strake_count s ≡ strake_count s'
  pub strakes : strakes_of s ≡ strakes_of s'
  pub depth_counts : depth_count s ≡ depth_count s'
  pub depths : depths_of s ≡ depths_of s'
  pub headrooms : headroom_of s ≡ headroom_of s'

-- one refusal in every call, with any depth given beside the sheets
pub record RefusedAlike (s s' : List ℕ) : Type 0 where
  pub lengths : length_refusal s ≡ length_refusal s'
  pub loads_at : (z : ℕ) → first_unmet (sheet_rules_at s z) ≡ first_unmet (sheet_rules_at s' z)

module _ (s s' : List ℕ) where
  pub same_parts : Layout s → ((k : ℕ) → k < 6 → (k ≡ 1 → ⊥) → SameRecord s s' k) → headroom_of s ≡ headroom_of s' → SameParts s s'
  same_parts l r g =
      let wall = r 4 (omega arith) (λ e. omega (arith, e)) in
      let listed = r 5 (omega arith) (λ e. omega (arith, e)) in
      record {
        sections = section_same s s' l (r 0 (omega arith) (λ e. omega (arith, e)));
        eccentricities = eccentricities_same s s' l (r 2 (omega arith) (λ e. omega (arith, e)));
        bottoms = bottom_same s s' l (r 3 (omega arith) (λ e. omega (arith, e)));
        strake_counts = strake_count_same s s' l wall;
        strakes = strakes_same s s' l wall;
        depth_counts = depth_count_same s s' l listed;
        depths = depths_same s s' l listed;
        headrooms = g;
      }

  -- the rules of the values, whatever is asked for and with any depth given
  abbrev pub SameRules : Type 0
  SameRules = (told : Bool) (z : ℕ) → value_rules told (leb z (V_of s)) s ≡ value_rules told (leb z (V_of s')) s'

  pub values_same : SameParts s s' → product_met (product_sent s) ≡ product_met (product_sent s') → SameRules
  unfolding value_rules h_of V_of
  values_same p e told z = rw (p.sections, e, p.eccentricities, p.bottoms, p.strakes, p.depths, p.headrooms) refl

  -- rules 1 to 5 answer the same, and the others are the same where those pass
  module _ (records : first_unmet (layout_rules s) ≡ first_unmet (layout_rules s')) (values : Layout s → SameRules) where
    module _ (told : Bool) (z : ℕ) where
      same_by : Dec (first_unmet (layout_rules s) ≤ 0) → first_unmet (rules_with told (leb z (V_of s)) s) ≡ first_unmet (rules_with told (leb z (V_of s')) s')
      same_by (yes o) =
          let h : first_unmet (layout_rules s) ≡ 0 = omega arith in
          sym (values_refused told z s h refl) ∙ ap first_unmet (values (layout_of s h) told z) ∙ values_refused told z s' (sym records ∙ h) refl
      same_by (no o) =
          let n : first_unmet (layout_rules s) ≡ 0 → ⊥ = λ e. o (omega (arith, e)) in
          sym (records_refused told z s refl n) ∙ records ∙ records_refused told z s' refl (λ e. n (records ∙ e))

      asked_same : first_unmet (rules_with told (leb z (V_of s)) s) ≡ first_unmet (rules_with told (leb z (V_of s')) s')
      asked_same = same_by (dec_le (first_unmet (layout_rules s)) 0)

    pub refused_alike : RefusedAlike s s'
    refused_alike =
        record {
          lengths = sym (length_asked s) ∙ asked_same true 0 ∙ length_asked s';
          loads_at = asked_same false;
        }

  pub loads_alike : RefusedAlike s s' → refusal_of s ≡ refusal_of s'
  loads_alike r = sym (at_brim s) ∙ r.loads_at 0 ∙ at_brim s'

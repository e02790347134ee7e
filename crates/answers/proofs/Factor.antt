-- What a blank factor means (document 02, C-14), and what C0 moves.
--     blank_refused      C0 = c written in, 100 to 200: refused alike
--     acts_as_155        155 written in: the load call answers the same and leaves the same list; the length call too (`blank_length`)
--     smaller_factor     a smaller C0 written in: no greater p_he, patch or strake load, and every other load the same
--     blank_beside_135   so of 135 written in
-- The two bytes of C0 lie in the second record behind everything else that is read from it: nothing but C0 changes with them.
-- Assumes nothing.
use Prim.Native.Nat.{ℕ, suc, ◌+◌, ◌/◌, ◌%◌, ◌≤◌, ◌<◌}
use mathlib.Core.List.{List}
use mathlib.Core.Path.{◌≡◌, refl, ap, sym, ◌∙◌}
use native.Mathlib.Omega.{arith}
use borrow.Author.Tests.{le-leb, eq-eqb, ne_eqb}
use lib.ListN.{length, get_or, set, length-set}
use lib.Seq.{get_or-set_same, get_or-set_other}
use Rattle.janssen.specs.Numbers.{FillingNumbers}
use Rattle.records.specs.Rules.{first_unmet}
use Rattle.records.specs.Format.{u16, u32, record_place, payload, payload_length, layout_rules}
use Rattle.records.proofs.Records.{place_next, place_most}
use Rattle.records.proofs.Alike.{SameBytes, SameRecord, u32_same}
use Rattle.records.proofs.Written.{place_written, other_record, layout_written}
use Rattle.description.specs.Silo.{product_sent, product_of, factor_read, depth_count, V_of, headroom_of, edge_of}
use Rattle.description.proofs.Headroom.{headroom_read}
use Rattle.sheet.specs.Refusal.{product_met}
use Rattle.sheet.specs.Accepted.{Layout}
use Rattle.sheet.proofs.Acceptance.{accepted}
use Rattle.sheet.proofs.Described.{factor_in}
use Rattle.sheet.proofs.Parts.{SameParts, means_same, same_parts, SameRules, values_same, RefusedAlike, refused_alike}
use Rattle.loads.specs.declared.Silo.{Silo}
use Rattle.loads.specs.Load.{Load}
use Rattle.loads.specs.Load.{load_number, bottom_numbers}
use Rattle.loads.specs.Load.Load.{p_he, p_we, p_p}
use Rattle.loads.proofs.WithFactor.{product_with, silo_with, number_with, p_we_with, bottom_with, p_he_less, p_p_less}
use Rattle.answers.specs.Length.{answers_length}
use Rattle.answers.specs.Answers.{silo_of, depth}
use Rattle.answers.specs.Order.{load_in, LeftFor}
use Rattle.answers.specs.Promise.{Promise}
use Rattle.answers.specs.Factor.{with_factor, Blank, NoSmaller}
use Rattle.answers.proofs.Places.{at_load}
use Rattle.answers.proofs.Demand.{two_records, silo_fits}
use Rattle.answers.proofs.OneSilo.{Alike, depths_by, strakes_by, one_length, one_call}

module _ (s : List ℕ) (c : ℕ) (ten : payload_length s 1 ≡ 10) where
  abbrev s' : List ℕ
  s' = with_factor c s

  size : length s ≡ length s'
  unfolding with_factor
  size = sym (length-set (set s (payload s 1 + 8) (c % 256)) (payload s 1 + 9) (c / 256 % 256) ∙ length-set s (payload s 1 + 8) (c % 256))

  -- every byte but those of C0
  apart : (i : ℕ) → (i ≡ payload s 1 + 8 → ⊥) → (i ≡ payload s 1 + 9 → ⊥) → get_or s i 0 ≡ get_or s' i 0
  unfolding with_factor
  apart i n m =
      sym (get_or-set_other (set s (payload s 1 + 8) (c % 256)) (payload s 1 + 9) i (c / 256 % 256) 0 m ∙ get_or-set_other s (payload s 1 + 8) i (c % 256) 0 n)

  before : SameBytes s s' 0 (record_place s 1 + 12)
  unfolding payload
  before i _ h = apart i (λ e. omega (arith, e, h)) (λ e. omega (arith, e, h))

  after : (i : ℕ) → record_place s 1 + 14 ≤ i → get_or s i 0 ≡ get_or s' i 0
  unfolding payload
  after i h = apart i (λ e. omega (arith, e, h)) (λ e. omega (arith, e, h))

  next : record_place s 2 ≡ record_place s 1 + 14
  unfolding payload_length
  next = omega (arith, place_next s 1, ten)

  there : (k : ℕ) → record_place s k ≡ record_place s' k
  there = place_written s s' 1 (record_place s 1 + 12) (record_place s 1 + 14) size (omega arith) (omega (arith, next)) before after

  other : (k : ℕ) → (k ≡ 1 → ⊥) → SameRecord s s' k
  other = other_record s s' 1 (record_place s 1 + 12) (record_place s 1 + 14) size (omega arith) (omega (arith, next)) before after

  records_same : layout_rules s ≡ layout_rules s'
  records_same = layout_written s s' 1 (record_place s 1 + 12) (record_place s 1 + 14) size (omega arith) (omega (arith, next)) before after

  headroom_same : headroom_of s ≡ headroom_of s'
  unfolding payload
  headroom_same =
      let a = record_place s 6 + 4 in
      let four = u32_same s s' (record_place s 1 + 14) (a + 4) (λ i l _. after i l) a (omega (arith, next, most)) (omega arith) in
      headroom_read s ∙ four ∙ ap (λ (p : ℕ). u32 s' (p + 4)) (there 6) ∙ sym (headroom_read s')
    where
      most : record_place s 2 ≤ record_place s 6
      most = place_most s 2 4

  -- what both describe, where the records are not refused
  parts_kept : Layout s → SameParts s s'
  parts_kept l = same_parts s s' l (λ k _ n. other k n) headroom_same

  -- γ, Ks and μ are the same, and C0 is c
  module _ (inside : record_place s 2 ≤ length s) (least : 100 ≤ c) (most : c ≤ 200) where
    factor_back : u16 s' (record_place s 1 + 12) ≡ c
    unfolding u16 with_factor payload
    factor_back =
        let a = record_place s 1 + 4 + 8 in
        let b = record_place s 1 + 4 + 9 in
        let e : record_place s 1 + 12 ≡ a = omega arith in
        let f : a + 1 ≡ b = omega arith in
        let low : get_or (set (set s a (c % 256)) b (c / 256 % 256)) a 0 ≡ c % 256 =
        get_or-set_other (set s a (c % 256)) b a (c / 256 % 256) 0 (λ z. omega (arith, z)) ∙ get_or-set_same s a (c % 256) 0 (omega (arith, inside, next)) in
        let high : get_or (set (set s a (c % 256)) b (c / 256 % 256)) b 0 ≡ c / 256 % 256 =
        get_or-set_same (set s a (c % 256)) b (c / 256 % 256) 0 (omega (arith, inside, next, length-set s a (c % 256))) in
        rw (e, f, low, high) (omega (arith, most))

    product_written : product_sent s' ≡ product_with c (product_sent s)
    unfolding product_sent payload
    product_written =
        let m = means_same s s' (there 1) (λ i _ h. before i (omega arith) h) in
        let e : record_place s 1 + 4 + 8 ≡ record_place s 1 + 12 = omega arith in
        let C0 = ap (λ (p : ℕ). u16 s' (p + 4 + 8)) (sym (there 1)) ∙ ap (u16 s') e ∙ factor_back in
        λ i. record { weight = sym m.0 i; ratio = sym m.1.0 i; friction = sym m.1.1 i; factor = C0 i }

    product_of_written : product_of s' ≡ product_with c (product_of s)
    unfolding product_of factor_read
    product_of_written = rw product_written (simp (ne_eqb c 0 (λ e. omega (arith, e, least))))

    silo_written : Layout s → silo_of s' ≡ silo_with c (silo_of s)
    unfolding V_of
    silo_written l =
        let p = parts_kept l in
        rw (product_of_written, sym p.sections, sym p.eccentricities, sym p.bottoms, sym p.strakes, sym p.headrooms) refl

-- a blank factor beside c, 100 to 200
module _ (s : List ℕ) (b : Blank s) (c : ℕ) (least : 100 ≤ c) (most : c ≤ 200) where
  product_met_kept : product_met (product_sent s) ≡ product_met (product_sent (with_factor c s))
  product_met_kept =
      rw (product_written s c b.ten b.inside least most, b.blank)
      (simp (ne_eqb c 0 (λ e. omega (arith, e, least)), le-leb 100 c least, le-leb c 200 most))

  values_kept : Layout s → SameRules s (with_factor c s)
  values_kept l = values_same s (with_factor c s) (parts_kept s c b.ten l) product_met_kept

  pub blank_refused : RefusedAlike s (with_factor c s)
  blank_refused = refused_alike s (with_factor c s) (ap first_unmet (records_same s c b.ten)) values_kept

-- a blank factor is 155
blank_factor : (s : List ℕ) → (product_sent s).factor ≡ 0 → (product_of s).factor ≡ 155
unfolding product_of factor_read
blank_factor s e = simp (eq-eqb (product_sent s).factor 0 e)

module _ (s : List ℕ) (b : Blank s) where
  abbrev written : List ℕ
  written = with_factor 155 s

  pub blank_alike : Alike s written
  blank_alike =
      record {
        refusals = blank_refused s b 155 (omega arith) (omega arith);
        silo =
            λ l.
            record {
              parts = parts_kept s 155 b.ten l;
              silos = sym (silo_written s 155 b.ten b.inside (omega arith) (omega arith) l ∙ ap (λ (n : ℕ). silo_with n (silo_of s)) (sym (blank_factor s b.blank)));
            };
      }

  pub blank_length : answers_length s ≡ answers_length written
  blank_length = one_length s written blank_alike

  pub acts_as_155 : (f : List ℕ → FillingNumbers) (t lent left left' : List ℕ) (r r' : ℕ) → Promise f t s lent r left → Promise f t written lent r' left'
      → (r ≡ r') × (left ≡ left')
  acts_as_155 = one_call s written blank_alike

-- a smaller C0 written into an accepted sheet, whatever the filling pressures are
module _ (f : FillingNumbers) (s : List ℕ) (c : ℕ) (least : 100 ≤ c) (most : c ≤ (product_of s).factor) (list list' : List ℕ) where
  pub smaller_factor : LeftFor f s list → LeftFor f (with_factor c s) list' → NoSmaller s list (with_factor c s) list'
  smaller_factor a a' =
      let ok = (accepted s a.accepted).measured in
      let ten = ok.layout.product_length in
      let s' = with_factor c s in
      let two_hundred : c ≤ 200 = omega (arith, most, (factor_in s ok).most) in
      let inside : record_place s 2 ≤ length s = two_records s ok in
      let silo : silo_of s' ≡ silo_with c (silo_of s) = silo_written s c ten inside least two_hundred ok.layout in
      let m : SameParts s s' = parts_kept s c ten ok.layout in
      let fits = silo_fits s ok in
      let at : (l : Load) (i : ℕ) → i < depth_count s → load_in s' list' l i ≡ load_number f (silo_with c (silo_of s)) l (depth s i) =
      λ l i h. depths_by s s' m f list' a'.filled l i h ∙ ap (λ (x : Silo). load_number f x l (depth s i)) silo in
      record {
        p_he_no_smaller = λ i h. rw (at p_he i h, at_load a.filled p_he i h) (p_he_less f c (silo_of s) fits least most (depth s i));
        patch_no_smaller = λ i h. rw (at p_p i h, at_load a.filled p_p i h) (p_p_less f c (silo_of s) fits least most (depth s i));
        strakes_no_smaller =
            λ k h.
            let there = strakes_by s s' m f list' a'.filled k h ∙ ap (λ (x : Silo). load_number f x p_he (edge_of s (suc k))) silo in
            rw (there, a.filled.at_strakes k h) (p_he_less f c (silo_of s) fits least most (edge_of s (suc k)));
        filling_same = λ l o i h. at_load a.filled l i h ∙ sym (at l i h ∙ number_with f c (silo_of s) o (depth s i));
        p_we_same = λ i h. at_load a.filled p_we i h ∙ sym (at p_we i h ∙ p_we_with f c (silo_of s) (depth s i));
        bottom_same =
            λ k h. a.filled.at_bottom k h
            ∙ sym (a'.filled.at_bottom k h ∙ ap (λ (x : Silo). get_or (bottom_numbers f x) k 0) silo ∙ ap (λ (x : List ℕ). get_or x k 0) (bottom_with f c (silo_of s)));
      }

pub blank_beside_135 : (f : FillingNumbers) (s : List ℕ) → (product_sent s).factor ≡ 0 → (list list' : List ℕ) → LeftFor f s list → LeftFor f (with_factor 135 s) list'
    → NoSmaller s list (with_factor 135 s) list'
blank_beside_135 f s blank list list' a a' = smaller_factor f s 135 (omega arith) (omega (arith, blank_factor s blank)) list list' a a'

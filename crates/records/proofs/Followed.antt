-- Bytes behind the sixth record. A sheet whose sixth record ends it has, with bytes t behind it, the refusal of its six records (`followed_refused`);
-- where they have none, the first refusal of t, judged by itself as the seventh record and then for bytes left over (`followed_passed`). So less
-- than a header there is 2 (`left_over`).
use Prim.Native.Nat.{ℕ, zero, suc, ◌+◌, ◌≤◌, ◌<◌}
use mathlib.Core.List.{List, [], ◌∷◌, ◌++◌}
use mathlib.Core.Path.{◌≡◌, refl, ap, sym, ◌∙◌, subst}
use native.Mathlib.Decide.{dec_le}
use native.Mathlib.Omega.{arith}
use borrow.Author.Tests.{le-leb, lt-leb, eq-eqb, ne_eqb}
use lib.Dec.{leb, eqb}
use lib.ListN.{length, get_or, length-append, get_or-append}
use lib.Seq.{get_or-append-add}
use Rattle.records.specs.Rules.{Rule, ◌unless◌, first_unmet}
use Rattle.records.specs.Format.{u16, u32, record_place, record_rules, records_rules, layout_rules}
use Rattle.records.proofs.Tests.{absurd}
use Rattle.records.proofs.Chain.{apart, skipped, stopped}
use Rattle.records.proofs.Records.{place_next, place_most, record_numbered, six_records, seven_records}
use Rattle.records.proofs.Alike.{SameBytes, SameRecord, u16_same, place_same, record_same}

-- the rules of what stands behind the sixth record, judged by itself
abbrev pub seventh_rules : List ℕ → List Rule
seventh_rules t = record_rules t 0 6 ++ (5 unless eqb (record_place t 1) (length t) ∷ [])

leb_shift : (a x y : ℕ) → leb (a + x) (a + y) ≡ leb x y
leb_shift a x y = shifted (dec_le x y)
  where
    shifted : Dec (x ≤ y) → leb (a + x) (a + y) ≡ leb x y
    shifted (yes h) = le-leb (a + x) (a + y) (omega (arith, h)) ∙ sym (le-leb x y h)
    shifted (no h) = lt-leb (a + x) (a + y) (omega (arith, h)) ∙ sym (lt-leb x y (omega (arith, h)))

eqb_shift : (a x y : ℕ) → eqb (a + x) (a + y) ≡ eqb x y
eqb_shift a x y = shifted (dec_le x y) (dec_le y x)
  where
    shifted : Dec (x ≤ y) → Dec (y ≤ x) → eqb (a + x) (a + y) ≡ eqb x y
    shifted (yes h) (yes g) = eq-eqb (a + x) (a + y) (omega (arith, h, g)) ∙ sym (eq-eqb x y (omega (arith, h, g)))
    shifted (yes h) (no g) = ne_eqb (a + x) (a + y) (λ e. g (omega (arith, e))) ∙ sym (ne_eqb x y (λ e. g (omega (arith, e))))
    shifted (no h) g = ne_eqb (a + x) (a + y) (λ e. h (omega (arith, e))) ∙ sym (ne_eqb x y (λ e. h (omega (arith, e))))

-- numbers behind the end of s are those of t
module _ (s t : List ℕ) where
  byte_behind : (n : ℕ) → get_or (s ++ t) (length s + n) 0 ≡ get_or t n 0
  byte_behind n = get_or-append-add s t n 0

  pub u16_behind : (n : ℕ) → u16 (s ++ t) (length s + n) ≡ u16 t n
  unfolding u16
  u16_behind n = let e : length s + n + 1 ≡ length s + (n + 1) = omega arith in rw (e, byte_behind n, byte_behind (n + 1)) refl

  pub u32_behind : (n : ℕ) → u32 (s ++ t) (length s + n) ≡ u32 t n
  unfolding u32
  u32_behind n = let e : length s + n + 2 ≡ length s + (n + 2) = omega arith in rw (e, u16_behind n, u16_behind (n + 2)) refl

  same_bytes : SameBytes s (s ++ t) 0 (length s)
  same_bytes i _ h = sym (get_or-append s t 0 i h)

  module _ (six : record_place s 6 ≡ length s) where
    place_inside : (k n : ℕ) → k + n ≡ 6 → record_place s k ≤ length s
    place_inside k n e = omega (arith, six, subst (λ (m : ℕ). record_place s k ≤ record_place s m) e (place_most s k n))

    pub place_kept : (k n : ℕ) → k + n ≡ 6 → record_place s k ≡ record_place (s ++ t) k
    place_kept k n e = place_same s (s ++ t) (length s) same_bytes k (place_inside k n e)

    pub record_kept : (k n : ℕ) → k + suc n ≡ 6 → SameRecord s (s ++ t) k
    record_kept k n e = record_same s (s ++ t) (length s) same_bytes k (place_inside (k + 1) n (omega (arith, e)))

    -- each of the six records is judged alike
    rules_kept : (k n : ℕ) → k + suc n ≡ 6 → record_rules (s ++ t) (record_place (s ++ t) k) k ≡ record_rules s (record_place s k) k
    unfolding record_rules
    rules_kept k n e =
        let a = record_place s k in
        let inside = place_inside (k + 1) n (omega (arith, e)) in
        let next = place_next s k in
        let all : length (s ++ t) ≡ length s + length t = length-append s t in
        rw (
          sym (place_kept k (suc n) e),
          sym (u16_same s (s ++ t) 0 (length s) same_bytes a (omega arith) (omega (arith, inside, next))),
          sym (u16_same s (s ++ t) 0 (length s) same_bytes (a + 2) (omega arith) (omega (arith, inside, next))),
          le-leb (a + 4) (length (s ++ t)) (omega (arith, inside, next, all)),
          le-leb (a + 4) (length s) (omega (arith, inside, next)),
          le-leb (a + 4 + u16 s a) (length (s ++ t)) (omega (arith, inside, next, all)),
          le-leb (a + 4 + u16 s a) (length s) (omega (arith, inside, next)),
        )
        refl

    -- from record k on, with n of the six left
    passed_from : (n k : ℕ) → k + n ≡ 6 → first_unmet (records_rules s n k) ≡ 0
        → first_unmet (records_rules (s ++ t) (suc n) k) ≡ first_unmet (records_rules (s ++ t) 1 6)
    unfolding records_rules
    passed_from zero k e h = let last : k ≡ 6 = omega (arith, e) in rw last refl
    passed_from (suc n) k e h =
        let p = apart (records_rules s n (suc k)) (record_rules s (record_place s k) k) (record_numbered s k) h in
        rw (rules_kept k n e) (skipped (records_rules (s ++ t) (suc n) (suc k)) (record_rules s (record_place s k) k) (record_numbered s k) p.0)
        ∙ passed_from n (suc k) (omega (arith, e)) p.1

    refused_next : (n k : ℕ) → k + suc n ≡ 6 → (first_unmet (records_rules s (suc n) k) ≡ 0 → ⊥)
        → ((first_unmet (records_rules s n (suc k)) ≡ 0 → ⊥) → first_unmet (records_rules (s ++ t) (suc n) (suc k)) ≡ first_unmet (records_rules s n (suc k)))
        → Dec (first_unmet (record_rules s (record_place s k) k) ≤ 0) → first_unmet (records_rules (s ++ t) (suc (suc n)) k) ≡ first_unmet (records_rules s (suc n) k)
    unfolding records_rules
    refused_next n k e h rest (yes z) =
        let met : first_unmet (record_rules s (record_place s k) k) ≡ 0 = omega (arith, z) in
        let here = skipped (records_rules s n (suc k)) (record_rules s (record_place s k) k) (record_numbered s k) met in
        rw (rules_kept k n e) (skipped (records_rules (s ++ t) (suc n) (suc k)) (record_rules s (record_place s k) k) (record_numbered s k) met)
        ∙ rest (λ o. h (here ∙ o))
        ∙ sym here
    refused_next n k e h rest (no z) =
        let unmet : first_unmet (record_rules s (record_place s k) k) ≡ 0 → ⊥ = λ o. z (omega (arith, o)) in
        rw (rules_kept k n e) (stopped (records_rules (s ++ t) (suc n) (suc k)) (record_rules s (record_place s k) k) unmet)
        ∙ sym (stopped (records_rules s n (suc k)) (record_rules s (record_place s k) k) unmet)

    refused_from : (n k : ℕ) → k + n ≡ 6 → (first_unmet (records_rules s n k) ≡ 0 → ⊥)
        → first_unmet (records_rules (s ++ t) (suc n) k) ≡ first_unmet (records_rules s n k)
    unfolding records_rules first_unmet
    refused_from zero k e h =
        let last : k ≡ 6 = omega (arith, e) in
        absurd (h (simp (eq-eqb (record_place s k) (length s) (ap (record_place s) last ∙ six))))
    refused_from (suc n) k e h = refused_next n k e h (refused_from n (suc k) (omega (arith, e))) (dec_le (first_unmet (record_rules s (record_place s k) k)) 0)

    tail_judged : first_unmet (records_rules (s ++ t) 1 6) ≡ first_unmet (seventh_rules t)
    unfolding records_rules record_rules record_place
    tail_judged =
        let none : length s + 0 ≡ length s = omega arith in
        let at : record_place (s ++ t) 6 ≡ length s = sym (place_kept 6 0 refl) ∙ six in
        let size : u16 (s ++ t) (length s) ≡ u16 t 0 = rw none at (u16_behind 0) in
        let end : length s + 4 + u16 t 0 ≡ length s + (4 + u16 t 0) = omega arith in
        rw (
          at,
          length-append s t,
          size,
          u16_behind 2,
          end,
          leb_shift (length s) 4 (length t),
          leb_shift (length s) (4 + u16 t 0) (length t),
          eqb_shift (length s) (4 + u16 t 0) (length t),
        )
        refl

    pub six_passed : first_unmet (records_rules s 6 0) ≡ 0 → first_unmet (records_rules (s ++ t) 7 0) ≡ first_unmet (seventh_rules t)
    six_passed h = passed_from 6 0 refl h ∙ tail_judged

    pub six_refused : (first_unmet (records_rules s 6 0) ≡ 0 → ⊥) → first_unmet (records_rules (s ++ t) 7 0) ≡ first_unmet (records_rules s 6 0)
    six_refused h = refused_from 6 0 refl h

    -- rules 1 to 5 of the sheet and of the longer one
    module _ (more : 0 < length t) (short : length s + length t ≤ 1024) where
      rules_six : first_unmet (layout_rules s) ≡ first_unmet (records_rules s 6 0)
      unfolding layout_rules first_unmet
      rules_six = rw (six_records s six, le-leb (length s) 1024 (omega arith)) refl

      rules_seven : first_unmet (layout_rules (s ++ t)) ≡ first_unmet (records_rules (s ++ t) 7 0)
      unfolding layout_rules first_unmet
      rules_seven =
          let all : length (s ++ t) ≡ length s + length t = length-append s t in
          let at : record_place (s ++ t) 6 ≡ length s = sym (place_kept 6 0 refl) ∙ six in
          rw (seven_records (s ++ t) (λ e. omega (arith, e, all, at, more)), le-leb (length (s ++ t)) 1024 (omega (arith, all, short))) refl

      pub followed_passed : first_unmet (layout_rules s) ≡ 0 → first_unmet (layout_rules (s ++ t)) ≡ first_unmet (seventh_rules t)
      followed_passed h = rules_seven ∙ six_passed (sym rules_six ∙ h)

      pub followed_refused : (first_unmet (layout_rules s) ≡ 0 → ⊥) → first_unmet (layout_rules (s ++ t)) ≡ first_unmet (layout_rules s)
      followed_refused h = rules_seven ∙ six_refused (λ o. h (rules_six ∙ o)) ∙ sym rules_six

      -- less than a header left over behind six records that are not refused: 2
      pub left_over : first_unmet (layout_rules s) ≡ 0 → length t < 4 → first_unmet (layout_rules (s ++ t)) ≡ 2
      unfolding first_unmet record_rules
      left_over h few = followed_passed h ∙ rw (lt-leb 4 (length t) few) refl

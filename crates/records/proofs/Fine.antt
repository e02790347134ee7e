-- What a sheet has that no rule on its records refuses: each record is taken by itself, and its kind tells which lengths it may have.
--     fine, unrefused             no rule of record k refuses, and what that says of it
--     records_fine, fine_records  the same of the records in order, with nothing behind them
--     layout_size, strakes_few    so the sheet has at most 1,024 bytes, and at most 24 strakes
--     place_near                  each place noted is that of a record, inside those bytes
use Prim.Native.Nat.{ℕ, zero, suc, ◌+◌, ◌-◌, ◌%◌, ◌≤◌, ◌<◌}
use mathlib.Core.Bool.{true}
use mathlib.Core.List.{List, [], ◌∷◌}
use mathlib.Core.Logic.{◌⊎◌, inl, inr, ⊎_elim}
use mathlib.Core.Path.{◌≡◌, refl, ap, sym, ◌∙◌, subst}
use native.Mathlib.Decide.{dec_le}
use native.Mathlib.Omega.{arith}
use borrow.Author.Tests.{leb-true, eqb-true, le-leb, eq-eqb}
use lib.Dec.{leb, eqb}
use lib.ListN.{length, get_or}
use Rattle.records.specs.Rules.{within, Rule, ◌unless◌, first_unmet}
use Rattle.records.specs.Format.{u16, record_place, kind, payload_length, kind_due, step_of, most_of, allowed, record_rules, records_rules, record_count, layout_rules}
use Rattle.records.specs.program.Reader.{Located}
use Rattle.records.proofs.Tests.{both_true, within_true, true_within, absurd}
use Rattle.records.proofs.Chain.{numbered, met_at, met, apart, skipped}
use Rattle.records.proofs.Records.{due_cases, place_most, record_numbered, record_counts, six_least}

pub allowed_range : (t n : ℕ) → allowed t n ≡ true → (step_of t ≤ n) × (n ≤ most_of t) × (n % step_of t ≡ 0)
unfolding allowed
allowed_range t n h =
    let p = both_true (within (step_of t) (most_of t) n) (eqb (n % step_of t) 0) h in
    let q = within_true (step_of t) (most_of t) n p.0 in
    (q.0, q.1, eqb-true (n % step_of t) 0 p.1)

pub range_allowed : (t n : ℕ) → step_of t ≤ n → n ≤ most_of t → n % step_of t ≡ 0 → allowed t n ≡ true
unfolding allowed
range_allowed t n l h d = simp (true_within (step_of t) (most_of t) n l h, eq-eqb (n % step_of t) 0 d)

-- what record k has when none of its rules refuses
pub record Fine (s : List ℕ) (k : ℕ) : Type 0 where
  pub due_kind : kind_due k (kind s k) ≡ true
  pub due_length : allowed (kind s k) (payload_length s k) ≡ true
  pub inside : record_place s k + 4 + payload_length s k ≤ length s

pub fine : (s : List ℕ) (k : ℕ) → first_unmet (record_rules s (record_place s k) k) ≡ 0 → Fine s k
unfolding record_rules kind payload_length
fine s k h =
    let a = record_place s k in
    let m : (i : ℕ) → met_at (record_rules s a k) i ≡ true = met (record_rules s a k) refl h in
    record { due_kind = m 1; due_length = m 2; inside = leb-true (a + 4 + u16 s a) (length s) (m 3) }

pub unrefused : (s : List ℕ) (k : ℕ) → Fine s k → first_unmet (record_rules s (record_place s k) k) ≡ 0
unfolding first_unmet record_rules kind payload_length
unrefused s k f =
    let a = record_place s k in
    let i = f.inside in
    let h : a + 4 ≤ length s = omega arith in
    simp (le-leb (a + 4) (length s) h, f.due_kind, f.due_length, le-leb (a + 4 + u16 s a) (length s) i)

or_later : (s : List ℕ) (k j : ℕ) → Dec (suc k ≤ j) → k ≤ j → Fine s k → (suc k ≤ j → Fine s j) → Fine s j
or_later s k j (yes l) h f g = g l
or_later s k j (no l) h f g = let e : k ≡ j = omega arith in subst (Fine s) e f

-- the n records from k on, and nothing behind them
pub records_fine : (s : List ℕ) (n k : ℕ) → first_unmet (records_rules s n k) ≡ 0 → ((j : ℕ) → k ≤ j → j < k + n → Fine s j) × (record_place s (k + n) ≡ length s)
unfolding records_rules
records_fine s zero k h =
    let e : k + 0 ≡ k = omega arith in
    (λ j l m. absurd (omega arith), rw e (eqb-true (record_place s k) (length s) (met (5 unless eqb (record_place s k) (length s) ∷ []) refl h 0)))
records_fine s (suc n) k h =
    let p = apart (records_rules s n (suc k)) (record_rules s (record_place s k) k) (record_numbered s k) h in
    let rest = records_fine s n (suc k) p.1 in
    let e : k + suc n ≡ suc k + n = omega arith in
    (λ j l m. or_later s k j (dec_le (suc k) j) l (fine s k p.0) (λ g. rest.0 j g (omega arith)), rw e rest.1)

pub fine_records : (s : List ℕ) (n k : ℕ) → ((j : ℕ) → k ≤ j → j < k + n → Fine s j) → record_place s (k + n) ≡ length s → first_unmet (records_rules s n k) ≡ 0
unfolding records_rules first_unmet
fine_records s zero k f e =
    let i : k + 0 ≡ k = omega arith in
    simp (eq-eqb (record_place s k) (length s) (rw i at e))
fine_records s (suc n) k f e =
    let i : k + suc n ≡ suc k + n = omega arith in
    skipped (records_rules s n (suc k)) (record_rules s (record_place s k) k) (record_numbered s k) (unrefused s k (f k (omega arith) (omega arith)))
    ∙ fine_records s n (suc k) (λ j l m. f j (omega arith) (omega arith)) (rw i at e)

-- the kinds in order, and the bounds that a record's kind sets for its length
pub later_kind : (s : List ℕ) (k : ℕ) → 0 < k → Fine s k → kind s k ≡ k + 2
later_kind s k l f = ⊎_elim (λ e. e) (λ p. absurd (omega arith)) (due_cases k (kind s k) f.due_kind)

pub first_kind : (s : List ℕ) → Fine s 0 → (kind s 0 ≡ 1) ⊎ (kind s 0 ≡ 2)
first_kind s f = ⊎_elim (λ e. inr e) (λ p. inl p.1) (due_cases 0 (kind s 0) f.due_kind)

pub bounds : (s : List ℕ) (k t : ℕ) → Fine s k → kind s k ≡ t → (step_of t ≤ payload_length s k) × (payload_length s k ≤ most_of t) × (payload_length s k % step_of t ≡ 0)
bounds s k t f e = allowed_range t (payload_length s k) (ap (λ u. allowed u (payload_length s k)) (sym e) ∙ f.due_length)

-- what holds of the rules of six records and of those of seven
module _ (s : List ℕ) (Holds : List Rule → Type 0) where
  pub by_count : Holds (1 unless leb (length s) 1024 ∷ records_rules s 6 0) → Holds (1 unless leb (length s) 1024 ∷ records_rules s 7 0) → Holds (layout_rules s)
  unfolding layout_rules
  by_count six seven = ⊎_elim (λ e. rw e.1 six) (λ e. rw e seven) (record_counts s)

pub layout_numbered : (s : List ℕ) → numbered (layout_rules s) ≡ true
unfolding records_rules record_rules
layout_numbered s = by_count s (λ (l : List Rule). numbered l ≡ true) refl refl

-- rule 1, and the records in order
module _ (s : List ℕ) (h : first_unmet (layout_rules s) ≡ 0) where
  layout_parts : (first_unmet (1 unless leb (length s) 1024 ∷ []) ≡ 0) × (first_unmet (records_rules s (record_count s) 0) ≡ 0)
  unfolding layout_rules
  layout_parts = apart (records_rules s (record_count s) 0) (1 unless leb (length s) 1024 ∷ []) refl h

  pub layout_size : length s ≤ 1024
  layout_size = leb-true (length s) 1024 (met (1 unless leb (length s) 1024 ∷ []) refl layout_parts.0 0)

  pub layout_fine : (k : ℕ) → k < record_count s → Fine s k
  layout_fine k l = (records_fine s (record_count s) 0 layout_parts.1).0 k (omega arith) (omega (arith, l))

  pub layout_ends : record_place s (record_count s) ≡ length s
  layout_ends =
      let none : 0 + record_count s ≡ record_count s = omega arith in
      rw none at (records_fine s (record_count s) 0 layout_parts.1).1

  pub strakes_few : payload_length s 4 ≤ 48
  strakes_few =
      let f = layout_fine 4 (omega (arith, six_least s)) in
      (bounds s 4 6 f (later_kind s 4 (omega arith) f)).1

  pub place_near : {places : List ℕ} → Located s places → (k : ℕ) → k ≤ 6 → (get_or places k 0 ≡ record_place s k) × (get_or places k 0 ≤ 1024)
  place_near l k few =
      let e : k + (6 - k) ≡ 6 = omega (arith, few) in
      let most : record_place s k ≤ record_place s 6 = subst (λ (n : ℕ). record_place s k ≤ record_place s n) e (place_most s k (6 - k)) in
      (l.located k few, omega (arith, l.located k few, most, l.inside, layout_size))

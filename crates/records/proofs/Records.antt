-- The records of a sheet: what a due kind is, and the first refusal among the records left.
use Prim.Native.Nat.{ℕ, zero, suc, ◌+◌, ◌-◌, ◌%◌, ◌≤◌, ◌<◌}
use mathlib.Core.Bool.{true, cond, ◌&&◌}
use mathlib.Core.List.{List}
use mathlib.Core.Logic.{◌⊎◌, inl, inr, ⊎_elim}
use mathlib.Core.Path.{◌≡◌, refl, ◌∙◌}
use native.Mathlib.Decide.{dec_le, dec_lt}
use native.Mathlib.Numerals.{add-one}
use native.Mathlib.Omega.{arith}
use borrow.Author.Tests.{eqb-true, eq-eqb, le-leb, lt-leb, ne_eqb}
use lib.Dec.{eqb}
use lib.ListN.{length, get_or, set}
use lib.Seq.{get_or-set_same, get_or-set_other}
use Rattle.records.specs.Rules.{within, first_unmet}
use Rattle.records.specs.Format.{u16, record_place, kind_due, step_of, most_of, allowed, record_rules, records_rules, record_count}
use Rattle.records.proofs.Tests.{both_true, either_true}
use Rattle.records.proofs.Chain.{numbered, skipped, stopped}

-- m bytes and no more
exactly : (m n : ℕ) → m % m ≡ 0 → (within m m n && eqb (n % m) 0) ≡ eqb n m
exactly m n whole = at_least (dec_le m n)
  where
    at_most : m ≤ n → Dec (n ≤ m) → (within m m n && eqb (n % m) 0) ≡ eqb n m
    at_most l (yes h) = let e : n ≡ m = omega (arith, l, h) in rw e (simp (le-leb m m (omega arith), eq-eqb (m % m) 0 whole, eq-eqb m m refl))
    at_most l (no h) = simp (le-leb m n l, lt-leb n m (omega (arith, h)), ne_eqb n m (λ e. h (omega (arith, e))))

    at_least : Dec (m ≤ n) → (within m m n && eqb (n % m) 0) ≡ eqb n m
    at_least (yes l) = at_most l (dec_le n m)
    at_least (no l) = simp (lt-leb m n (omega (arith, l)), ne_eqb n m (λ e. l (omega (arith, e))))

-- a kind of one length alone
pub one_length : (t m n : ℕ) → step_of t ≡ m → most_of t ≡ m → m % m ≡ 0 → allowed t n ≡ eqb n m
unfolding allowed
one_length t m n a b whole = rw (a, b) (exactly m n whole)

-- a kind that is due: k + 2, or 1 for record 0
pub due_cases : (k t : ℕ) → kind_due k t ≡ true → (t ≡ k + 2) ⊎ ((k ≡ 0) × (t ≡ 1))
due_cases k t h =
    ⊎_elim (λ p. inl (eqb-true t (k + 2) p))
    (λ p. let q = both_true (eqb k 0) (eqb t 1) p in inr (eqb-true k 0 q.0, eqb-true t 1 q.1))
    (either_true (eqb t (k + 2)) (eqb k 0 && eqb t 1) h)

pub place_first : (s : List ℕ) → record_place s 0 ≡ 0
unfolding record_place
place_first s = refl

-- the record after k begins behind its header and payload
pub place_next : (s : List ℕ) (k : ℕ) → record_place s (k + 1) ≡ record_place s k + 4 + u16 s (record_place s k)
unfolding record_place
place_next s k = rw add-one refl

-- no record begins behind the end of the last
pub place_most : (s : List ℕ) (k n : ℕ) → record_place s k ≤ record_place s (k + n)
place_most s k zero = let e : k + 0 ≡ k = omega arith in rw e (omega arith)
place_most s k (suc n) = let e : k + suc n ≡ k + n + 1 = omega arith in rw e (omega (arith, place_most s k n, place_next s (k + n)))

-- the places noted so far, and that of record k behind them
pub noted : (s places : List ℕ) (k at : ℕ) → k < length places → at ≡ record_place s k → ((j : ℕ) → j < k → get_or places j 0 ≡ record_place s j)
    → (j : ℕ) → j ≤ k → get_or (set places k at) j 0 ≡ record_place s j
noted s places k at l e before j h = at_place (dec_lt j k)
  where
    at_place : Dec (j < k) → get_or (set places k at) j 0 ≡ record_place s j
    at_place (yes p) = get_or-set_other places k j at 0 (λ z. omega (arith, z, p)) ∙ before j p
    at_place (no p) = let z : j ≡ k = omega (arith, h, p) in rw z (get_or-set_same places k at 0 l ∙ e)

-- six records, where the sixth ends the sheet, or seven
module _ (s : List ℕ) where
  pub six_records : record_place s 6 ≡ length s → record_count s ≡ 6
  unfolding record_count
  six_records e = simp (eq-eqb (record_place s 6) (length s) e)

  pub seven_records : (record_place s 6 ≡ length s → ⊥) → record_count s ≡ 7
  unfolding record_count
  seven_records n = simp (ne_eqb (record_place s 6) (length s) n)

  pub record_counts : ((record_place s 6 ≡ length s) × (record_count s ≡ 6)) ⊎ (record_count s ≡ 7)
  record_counts = counted (dec_le (length s) (record_place s 6)) (dec_le (record_place s 6) (length s))
    where
      counted : Dec (length s ≤ record_place s 6) → Dec (record_place s 6 ≤ length s) → ((record_place s 6 ≡ length s) × (record_count s ≡ 6)) ⊎ (record_count s ≡ 7)
      counted (yes l) (yes h) = let e : record_place s 6 ≡ length s = omega (arith, l, h) in inl (e, six_records e)
      counted (yes l) (no h) = inr (seven_records (λ e. omega (arith, e, h)))
      counted (no l) h = inr (seven_records (λ e. omega (arith, e, l)))

  pub six_least : 6 ≤ record_count s
  six_least = ⊎_elim (λ e. omega (arith, e.1)) (λ e. omega (arith, e)) record_counts

  pub seven_most : record_count s ≤ 7
  seven_most = ⊎_elim (λ e. omega (arith, e.1)) (λ e. omega (arith, e)) record_counts

pub record_numbered : (s : List ℕ) (k : ℕ) → numbered (record_rules s (record_place s k) k) ≡ true
unfolding record_rules
record_numbered s k = refl

-- of n records those left, from record k on: the next one passed, refused, or none left
module _ (s : List ℕ) (n k : ℕ) where
  pub records_step : k < n → first_unmet (record_rules s (record_place s k) k) ≡ 0
      → first_unmet (records_rules s (n - k) k) ≡ first_unmet (records_rules s (n - (k + 1)) (k + 1))
  unfolding records_rules
  records_step l h =
      let e : n - k ≡ suc (n - suc k) = omega arith in
      rw (add-one, e) (skipped _ (record_rules s (record_place s k) k) (record_numbered s k) h)

  pub records_stop : k < n → (first_unmet (record_rules s (record_place s k) k) ≡ 0 → ⊥)
      → first_unmet (records_rules s (n - k) k) ≡ first_unmet (record_rules s (record_place s k) k)
  unfolding records_rules
  records_stop l h =
      let e : n - k ≡ suc (n - suc k) = omega arith in
      rw e (stopped _ (record_rules s (record_place s k) k) h)

  pub records_end : n ≤ k → first_unmet (records_rules s (n - k) k) ≡ cond (eqb (record_place s k) (length s)) 0 5
  unfolding records_rules first_unmet
  records_end l = let e : n - k ≡ 0 = omega arith in rw e refl

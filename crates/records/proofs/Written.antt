-- Bytes written over inside the payload of one record. No header lies there: every record begins where it did (`place_written`), every other record is the
-- same (`other_record`), and rules 1 to 5 are the same (`layout_written`).
use Prim.Native.Nat.{ℕ, zero, suc, ◌+◌, ◌-◌, ◌≤◌}
use mathlib.Core.List.{List, ◌++◌}
use mathlib.Core.Path.{◌≡◌, refl, ap₂, subst}
use native.Mathlib.Decide.{dec_le}
use native.Mathlib.Omega.{arith}
use lib.ListN.{length, get_or}
use Rattle.records.specs.Format.{u16, record_place, record_rules, records_rules, record_count, layout_rules}
use Rattle.records.proofs.Tests.{absurd}
use Rattle.records.proofs.Records.{place_most}
use Rattle.records.proofs.Alike.{SameBytes, SameRecord, u16_same}

place_rises : (s : List ℕ) (k m : ℕ) → k ≤ m → record_place s k ≤ record_place s m
place_rises s k m h = let e : k + (m - k) ≡ m = omega arith in subst (λ (x : ℕ). record_place s k ≤ record_place s x) e (place_most s k (m - k))

-- two sheets of one length, equal but for the bytes from a up to b, which lie in the payload of record j
module _ (s s' : List ℕ) (j a b : ℕ) (size : length s ≡ length s') (behind : record_place s j + 4 ≤ a) (inside : b ≤ record_place s (j + 1))
    (before : SameBytes s s' 0 a) (after : (i : ℕ) → b ≤ i → get_or s i 0 ≡ get_or s' i 0) where
  -- the two numbers of a header
  header_same : (k at : ℕ) → record_place s k ≤ at → at ≤ record_place s k + 2 → u16 s at ≡ u16 s' at
  header_same k at l h = by (dec_le k j)
    where
      by : Dec (k ≤ j) → u16 s at ≡ u16 s' at
      by (yes e) = u16_same s s' 0 a before at (omega arith) (omega (arith, h, behind, place_rises s k j e))
      by (no e) = u16_same s s' b (at + 2) (λ i g _. after i g) at (omega (arith, l, inside, place_rises s (j + 1) k (omega (arith, e)))) (omega arith)

  pub place_written : (k : ℕ) → record_place s k ≡ record_place s' k
  unfolding record_place
  place_written zero = refl
  place_written (suc k) = rw (header_same k (record_place s k) (omega arith) (omega arith), place_written k) refl

  pub other_record : (k : ℕ) → (k ≡ j → ⊥) → SameRecord s s' k
  other_record k n = record { there = place_written k; bytes = bytes (dec_le k j) }
    where
      bytes : Dec (k ≤ j) → SameBytes s s' (record_place s k) (record_place s (k + 1))
      bytes (yes e) i l g = before i (omega arith) (omega (arith, g, behind, place_rises s (k + 1) j (next (dec_le (k + 1) j))))
        where
          next : Dec (k + 1 ≤ j) → k + 1 ≤ j
          next (yes h) = h
          next (no h) = absurd (n (omega (arith, e, h)))
      bytes (no e) i l g = after i (omega (arith, l, inside, place_rises s (j + 1) k (omega (arith, e))))

  rules_written : (k : ℕ) → record_rules s (record_place s k) k ≡ record_rules s' (record_place s' k) k
  unfolding record_rules
  rules_written k =
      rw (header_same k (record_place s k) (omega arith) (omega arith), header_same k (record_place s k + 2) (omega arith) (omega arith), place_written k, size) refl

  records_written : (n k : ℕ) → records_rules s n k ≡ records_rules s' n k
  unfolding records_rules
  records_written zero k = rw (place_written k, size) refl
  records_written (suc n) k = ap₂ ◌++◌ (rules_written k) (records_written n (suc k))

  pub count_written : record_count s ≡ record_count s'
  unfolding record_count
  count_written = rw (place_written 6, size) refl

  pub layout_written : layout_rules s ≡ layout_rules s'
  unfolding layout_rules
  layout_written = rw (size, count_written, records_written (record_count s') 0) refl

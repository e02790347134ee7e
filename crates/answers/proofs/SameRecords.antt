-- Two sheets whose first two records are equal have those records at one place with equal bytes.
-- Assumes nothing.
use Prim.Native.Nat.{ℕ, ◌≤◌}
use mathlib.Core.Path.{◌≡◌, ap, sym, ◌∙◌}
use mathlib.Core.List.{List}
use native.Mathlib.Omega.{arith}
use lib.ListN.{length, get_or, take}
use lib.Seq.{get_or-take, length-take-le}
use Rattle.records.specs.Format.{record_place}
use Rattle.records.proofs.Records.{place_next}
use Rattle.records.proofs.Alike.{SameBytes, SameRecord, record_same}

module _ (s s' : List ℕ) (h : record_place s 2 ≤ length s) (h' : record_place s' 2 ≤ length s') (e : take (record_place s 2) s ≡ take (record_place s' 2) s') where
  same_bytes : SameBytes s s' 0 (record_place s 2)
  same_bytes i _ l =
      let n : record_place s 2 ≡ record_place s' 2 = sym (length-take-le (record_place s 2) s h) ∙ ap length e ∙ length-take-le (record_place s' 2) s' h' in
      sym (get_or-take (record_place s 2) s i 0 l) ∙ ap (λ (x : List ℕ). get_or x i 0) e ∙ get_or-take (record_place s' 2) s' i 0 (omega arith)

  pub first_record : SameRecord s s' 0
  first_record = record_same s s' (record_place s 2) same_bytes 0 (omega (arith, place_next s 1))

  pub second_record : SameRecord s s' 1
  second_record = record_same s s' (record_place s 2) same_bytes 1 (omega arith)

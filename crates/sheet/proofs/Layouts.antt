-- The rules on the records, equal to 0, say what the record `Layout` says, and the other way round: each record is
-- taken by itself, and its kind tells which lengths it may have.
use Prim.Native.Nat.{ℕ, zero, suc, ◌+◌, ◌%◌, ◌≤◌, ◌<◌}
use mathlib.Core.Bool.{true}
use mathlib.Core.List.{List}
use mathlib.Core.Logic.{⊎_elim}
use mathlib.Core.Path.{◌≡◌, refl, ap, ◌∙◌}
use native.Mathlib.Omega.{arith}
use borrow.Author.Tests.{le-leb, eq-eqb}
use lib.ListN.{length}
use Rattle.records.specs.Rules.{first_unmet}
use Rattle.records.specs.Format.{record_place, kind, payload_length, kind_due, step_of, most_of, allowed, record_count, layout_rules}
use Rattle.description.specs.Silo.{strake_count, depth_count}
use Rattle.sheet.specs.Accepted.{Layout}
use Rattle.records.proofs.Tests.{absurd}
use Rattle.records.proofs.Records.{six_least, seven_most}
use Rattle.records.proofs.Fine.{Fine, range_allowed, bounds, first_kind, later_kind, fine_records, layout_size, layout_ends, layout_fine}

pub layout_of : (s : List ℕ) → first_unmet (layout_rules s) ≡ 0 → Layout s
unfolding strake_count depth_count
layout_of s h =
    let n = six_least s in
    let f : (k : ℕ) → k < record_count s → Fine s k = layout_fine s h in
    let f0 = f 0 (omega arith) in
    let f1 = f 1 (omega arith) in
    let f2 = f 2 (omega arith) in
    let f3 = f 3 (omega arith) in
    let f4 = f 4 (omega arith) in
    let f5 = f 5 (omega arith) in
    let b1 = bounds s 1 3 f1 (later_kind s 1 (omega arith) f1) in
    let b2 = bounds s 2 4 f2 (later_kind s 2 (omega arith) f2) in
    let b3 = bounds s 3 5 f3 (later_kind s 3 (omega arith) f3) in
    let b4 = bounds s 4 6 f4 (later_kind s 4 (omega arith) f4) in
    let b5 = bounds s 5 7 f5 (later_kind s 5 (omega arith) f5) in
    record {
      size = layout_size s h;
      present = λ k l. (f k l).inside;
      section_kind = first_kind s f0;
      other_kinds = λ k l m. later_kind s k l (f k m);
      circle_length = λ e. let b = bounds s 0 1 f0 e in omega arith;
      rectangle_length = λ e. let b = bounds s 0 2 f0 e in omega arith;
      product_length = omega arith;
      filling_length = omega arith;
      bottom_length = omega arith;
      strakes_length = omega arith;
      strakes_some = omega arith;
      strakes_few = omega arith;
      depths_length = omega arith;
      depths_some = omega arith;
      depths_few = omega arith;
      headroom_length = λ e. let f6 = f 6 (omega arith) in let b = bounds s 6 8 f6 (later_kind s 6 (omega arith) f6) in omega arith;
      ends = layout_ends s h;
    }

due_later : (k : ℕ) → kind_due k (k + 2) ≡ true
due_later k = simp (eq-eqb (k + 2) (k + 2) refl)

fine_later : (s : List ℕ) (k t : ℕ) → kind s k ≡ k + 2 → k + 2 ≡ t → step_of t ≤ payload_length s k → payload_length s k ≤ most_of t → payload_length s k % step_of t ≡ 0 → record_place s k + 4 + payload_length s k ≤ length s → Fine s k
fine_later s k t e d l h m i =
    record {
      due_kind = ap (kind_due k) e ∙ due_later k;
      due_length = ap (λ u. allowed u (payload_length s k)) (e ∙ d) ∙ range_allowed t (payload_length s k) l h m;
      inside = i;
    }

fine_circle : (s : List ℕ) → Layout s → kind s 0 ≡ 1 → Fine s 0
fine_circle s a e =
    let n = a.circle_length e in
    let six = six_least s in
    record {
      due_kind = rw e;
      due_length = rw e (range_allowed 1 (payload_length s 0) (omega arith) (omega arith) (omega arith));
      inside = a.present 0 (omega arith);
    }

fine_first : (s : List ℕ) → Layout s → Fine s 0
fine_first s a =
    let six = six_least s in
    ⊎_elim (fine_circle s a)
    (λ e. let n = a.rectangle_length e in fine_later s 0 2 e refl (omega arith) (omega arith) (omega arith) (a.present 0 (omega arith)))
    a.section_kind

each : (P : ℕ → Type 0) (n : ℕ) → n ≤ 7 → P 0 → P 1 → P 2 → P 3 → P 4 → P 5 → (n ≡ 7 → P 6) → (k : ℕ) → k < n → P k
each P n m a b c d e f g zero l = a
each P n m a b c d e f g (suc zero) l = b
each P n m a b c d e f g (suc (suc zero)) l = c
each P n m a b c d e f g (suc (suc (suc zero))) l = d
each P n m a b c d e f g (suc (suc (suc (suc zero)))) l = e
each P n m a b c d e f g (suc (suc (suc (suc (suc zero))))) l = f
each P n m a b c d e f g (suc (suc (suc (suc (suc (suc zero)))))) l = g (omega arith)
each P n m a b c d e f g (suc (suc (suc (suc (suc (suc (suc k))))))) l = absurd (omega arith)

pub of_layout : (s : List ℕ) → Layout s → first_unmet (layout_rules s) ≡ 0
unfolding first_unmet layout_rules strake_count depth_count
of_layout s a =
    let n = six_least s in
    let k : (k : ℕ) → 0 < k → k < record_count s → kind s k ≡ k + 2 = a.other_kinds in
    let i : (k : ℕ) → k < record_count s → record_place s k + 4 + payload_length s k ≤ length s = a.present in
    let n1 = a.product_length in
    let n2 = a.filling_length in
    let n3 = a.bottom_length in
    let n4 = a.strakes_length in
    let n5 = a.depths_length in
    let none : 0 + record_count s ≡ record_count s = omega arith in
    let f : (k : ℕ) → k < record_count s → Fine s k =
    each (Fine s) (record_count s) (seven_most s) (fine_first s a)
    (fine_later s 1 3 (k 1 (omega arith) (omega arith)) refl (omega arith) (omega arith) (omega arith) (i 1 (omega arith)))
    (fine_later s 2 4 (k 2 (omega arith) (omega arith)) refl (omega arith) (omega arith) (omega arith) (i 2 (omega arith)))
    (fine_later s 3 5 (k 3 (omega arith) (omega arith)) refl (omega arith) (omega arith) (omega arith) (i 3 (omega arith)))
    (fine_later s 4 6 (k 4 (omega arith) (omega arith)) refl (omega arith) (omega arith) (omega arith) (i 4 (omega arith)))
    (fine_later s 5 7 (k 5 (omega arith) (omega arith)) refl (omega arith) (omega arith) (omega arith) (i 5 (omega arith)))
    (λ e. let n6 = a.headroom_length e in fine_later s 6 8 (k 6 (omega arith) (omega arith)) refl (omega arith) (omega arith) (omega arith) (i 6 (omega arith))) in
    simp (le-leb (length s) 1024 a.size) (fine_records s (record_count s) 0 (λ k _ l. f k (omega (arith, l))) (rw none a.ends))

-- Each step puts the next strake in its place and adds it; a wall has at most 24.
use native.Mathlib.Numerals.{add-one}
use lib.Seq.{sets}
use lib.ListN.{replicate, length-set}
use Rattle.description.proofs.Walls.{heights_filled}
use Rattle.records.proofs.Records.{place_next}
use Rattle.records.proofs.Numbers.{numbers_start, numbers_step, numbers_end}
use Rattle.records.specs.Format.{u16, record_place, payload, payload_length}
use mathlib.Core.List.{List}
use Prim.Native.Nat.{ℕ, ◌+◌, ◌-◌, ◌*◌, ◌/◌, ◌≤◌}
use mathlib.Core.Path.{◌≡◌, refl, ◌∙◌, ap, sym}
use Rattle.description.specs.Silo.{V_of, strakes_of, strake_count, sum}
use Rattle.description.specs.program.Described.{wall_of}
use native.Mathlib.Omega.{arith}
use Rattle.description.proofs.values.read_wall.Goals as goal

-- as many are read as the sheet has
module _ (s : List ℕ) {at end : ℕ} (begins : at ≡ record_place s 4) (ends : end ≡ record_place s 5) where
  between : at + 4 ≤ end
  between = omega (arith, begins, ends, place_next s 4)

  counted : {n : ℕ} → n ≡ end - at - 4 → n / 2 ≡ strake_count s
  unfolding strake_count payload_length
  counted e = ap (λ (n : ℕ). n / 2) (omega (arith, e, begins, ends, place_next s 4))

pub overflow_add-start : goal.overflow_add-start
overflow_add-start c = omega (arith, c.requires.2, between c.args.sheet.now c.requires.0 c.requires.1)

pub payload_bytes-count-requires : goal.payload_bytes-count-requires
payload_bytes-count-requires c = between c.args.sheet.now c.requires.0 c.requires.1

pub loop-i-init : goal.loop-i-init
unfolding V_of strakes_of payload
loop-i-init c =
    let s = c.args.sheet.now in
    let first : c.args.at + 4 + 0 ≡ payload s 4 = omega (arith, c.requires.0) in
    let e = numbers_start (u16 s) 2 first (counted s c.requires.0 c.requires.1 c.payload_bytes-count.ensures) in
    record {
      sized = refl;
      small = omega arith;
      filled = ap (λ l. sets (replicate 24 0) 0 l) e;
      summed = omega (arith, ap sum e);
    }

pub bounds-heights-i : goal.bounds-heights-i
bounds-heights-i c = omega (arith, c.requires.3, counted c.args.sheet.now c.requires.0 c.requires.1 c.payload_bytes-count.ensures)

pub loop-i-preserved : goal.loop-i-preserved
unfolding sum
loop-i-preserved c =
    let l = c.loop-i in
    let e = numbers_step (u16 c.args.sheet.now) 2 (c.args.at + 4) (c.payload_bytes-count.result / 2) l.i c.loop-i-test.true in
    record {
      sized = simp length-set l.invariant.sized;
      small = omega (arith, l.invariant.small, c.two_bytes-height.ensures.1);
      filled = l.invariant.filled ∙ ap (sets l.heights l.i) e ∙ simp (add-one, c.two_bytes-height.ensures.0);
      summed = omega (arith, l.invariant.summed, ap sum e, c.two_bytes-height.ensures.0);
    }

pub returns : goal.returns
unfolding wall_of sum
returns c =
    let l = c.loop-i in
    let s = c.args.sheet.now in
    let count = counted s c.requires.0 c.requires.1 c.payload_bytes-count.ensures in
    let e = numbers_end (u16 s) 2 (c.args.at + 4 + 2 * l.i) (c.payload_bytes-count.result / 2) l.i c.loop-i-test.false in
    let filled = sym (l.invariant.filled ∙ ap (sets l.heights l.i) e) ∙ heights_filled s c.requires.3 in
    let whole : l.foot ≡ V_of s = omega (arith, l.invariant.summed, ap sum e) in
    record {
      wall = λ i. record { heights = filled i; count = count i; foot = whole i };
      small = (l.invariant.sized, omega (arith, count, c.requires.3), omega (arith, l.invariant.small, count, c.requires.3));
    }

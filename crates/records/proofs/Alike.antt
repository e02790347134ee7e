-- Numbers read from a sheet's bytes: past its end they are 0, and two sheets with equal bytes there have equal ones. A record that both have at one
-- place with equal bytes (`SameRecord`) is read alike from both.
use Prim.Native.Nat.{ℕ, zero, suc, ◌+◌, ◌*◌, ◌≤◌, ◌<◌}
use mathlib.Core.List.{List}
use mathlib.Core.Path.{◌≡◌, refl, ap, ap₂, ◌∙◌}
use native.Mathlib.Nat.{mul-le-mul_left}
use native.Mathlib.Omega.{arith}
use lib.ListN.{length, get_or, get_or-eq_default}
use Rattle.records.specs.Format.{u16, u32, numbers, record_place, payload, payload_length, kind}
use Rattle.records.proofs.Records.{place_next}
use Rattle.records.proofs.Numbers.{numbers_same}

byte_past : (s : List ℕ) (at : ℕ) → length s ≤ at → get_or s at 0 ≡ 0
byte_past s at h = get_or-eq_default s 0 h

pub past_end : (s : List ℕ) (at : ℕ) → length s ≤ at → u32 s at ≡ 0
unfolding u32 u16
past_end s at h =
    rw (
      byte_past s at h,
      byte_past s (at + 1) (omega (arith, h)),
      byte_past s (at + 2) (omega (arith, h)),
      byte_past s (at + 2 + 1) (omega (arith, h)),
    )
    refl

-- two sheets with equal bytes from one place up to another
abbrev pub SameBytes : List ℕ → List ℕ → ℕ → ℕ → Type 0
SameBytes s s' low high = (i : ℕ) → low ≤ i → i < high → get_or s i 0 ≡ get_or s' i 0

module _ (s s' : List ℕ) (low high : ℕ) (same : SameBytes s s' low high) where
  pub u16_same : (at : ℕ) → low ≤ at → at + 2 ≤ high → u16 s at ≡ u16 s' at
  unfolding u16
  u16_same at l h = ap₂ (λ (a b : ℕ). a + 256 * b) (same at (omega arith) (omega arith)) (same (at + 1) (omega arith) (omega arith))

  pub u32_same : (at : ℕ) → low ≤ at → at + 4 ≤ high → u32 s at ≡ u32 s' at
  unfolding u32
  u32_same at l h = ap₂ (λ (a b : ℕ). a + 65536 * b) (u16_same at l (omega arith)) (u16_same (at + 2) (omega arith) (omega arith))

-- record k stands at one place in both, with equal bytes
pub record SameRecord (s s' : List ℕ) (k : ℕ) : Type 0 where
  pub there : record_place s k ≡ record_place s' k
  pub bytes : SameBytes s s' (record_place s k) (record_place s (k + 1))

module _ (s s' : List ℕ) (k : ℕ) (r : SameRecord s s' k) where
  -- numbers of two and of four bytes that lie inside it
  pub two_in : (at : ℕ) → record_place s k ≤ at → at + 2 ≤ record_place s (k + 1) → u16 s at ≡ u16 s' at
  two_in = u16_same s s' (record_place s k) (record_place s (k + 1)) r.bytes

  pub four_in : (at : ℕ) → record_place s k ≤ at → at + 4 ≤ record_place s (k + 1) → u32 s at ≡ u32 s' at
  four_in = u32_same s s' (record_place s k) (record_place s (k + 1)) r.bytes

  pub payload_length_same : payload_length s k ≡ payload_length s' k
  unfolding payload_length
  payload_length_same = two_in (record_place s k) (omega arith) (omega (arith, place_next s k)) ∙ ap (u16 s') r.there

  pub kind_same : kind s k ≡ kind s' k
  unfolding kind
  kind_same = two_in (record_place s k + 2) (omega arith) (omega (arith, place_next s k)) ∙ ap (λ (a : ℕ). u16 s' (a + 2)) r.there

  -- two numbers of four bytes
  pub pair_same : payload_length s k ≡ 8 → (u32 s (payload s k) ≡ u32 s' (payload s' k)) × (u32 s (payload s k + 4) ≡ u32 s' (payload s' k + 4))
  unfolding payload payload_length
  pair_same h =
      let a = record_place s k + 4 in
      let end = place_next s k in (
        four_in a (omega arith) (omega (arith, end, h)) ∙ ap (λ (p : ℕ). u32 s' (p + 4)) r.there,
        four_in (a + 4) (omega arith) (omega (arith, end, h)) ∙ ap (λ (p : ℕ). u32 s' (p + 4 + 4)) r.there,
      )

  -- numbers of so many bytes, as many as the payload holds
  pub list_same : (read read' : ℕ → ℕ) (step count count' : ℕ) → ((at : ℕ) → record_place s k ≤ at → at + step ≤ record_place s (k + 1) → read at ≡ read' at)
      → payload_length s k ≡ step * count → count ≡ count' → numbers read step (payload s k) count ≡ numbers read' step (payload s' k) count'
  unfolding payload payload_length
  list_same read read' step count count' same h c =
      numbers_same read step read' (record_place s k + 4) count (λ i g. same (record_place s k + 4 + step * i) (omega arith) (fits i g))
      ∙ ap₂ (λ (a m : ℕ). numbers read' step (a + 4) m) r.there c
    where
      fits : (i : ℕ) → i < count → record_place s k + 4 + step * i + step ≤ record_place s (k + 1)
      fits i g =
          let behind : step * (i + 1) ≤ step * count = mul-le-mul_left step (omega (arith, g)) in
          omega (arith, place_next s k, h, behind)

-- two sheets with equal bytes up to m: the records that end there
module _ (s s' : List ℕ) (m : ℕ) (same : SameBytes s s' 0 m) where
  pub place_same : (k : ℕ) → record_place s k ≤ m → record_place s k ≡ record_place s' k
  unfolding record_place
  place_same zero h = refl
  place_same (suc k) h = rw (u16_same s s' 0 m same (record_place s k) (omega arith) (omega arith), place_same k (omega arith)) refl

  pub record_same : (k : ℕ) → record_place s (k + 1) ≤ m → SameRecord s s' k
  record_same k h =
      record {
        there = place_same k (omega (arith, h, place_next s k));
        bytes = λ i l g. same i (omega arith) (omega (arith, h, g));
      }

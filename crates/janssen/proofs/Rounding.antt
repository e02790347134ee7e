-- Why the rounded pressure lies in its band, for any P, any sum s/t of the series, and any whole E that stands for 2^40·e^(-q).
-- With X = 2^40 - E, L = ⌈P·2^11⌉ and p = ⌈L·X/2^51⌉:
--   above: p·2^40 ≥ P·X, so P·2^40 ≤ p·2^40 + P·E; times s/t, where E·s/t ≤ 2^40.
--   close: p·2^40 ≤ P·X + 2^29 + 2^40; times s/t, where (E + 512)·s/t ≥ 2^40 and 512·P ≤ 2^34 - 2^29.
use Prim.Native.Nat.{ℕ, ◌+◌, ◌-◌, ◌*◌, ◌^◌, ◌≤◌, ◌<◌}
use mathlib.Core.Path.{◌≡◌, ap}
use native.Mathlib.Omega.{arith}
use native.Mathlib.Nat.{mul-le-mul_left, mul-le-mul_right, mul-pos}
use Rattle.fraction.specs.Fraction.{Fraction, ◌⊘◌, whole, ◌⊕◌, ◌⊗◌, ◌⪯◌, up}
use Rattle.fraction.proofs.Up.{up_ge, up_lt}

-- the same in whole numbers, for P = A/B
module _ (A B L X E p s t : ℕ) (whole_is : X + E ≡ 2 ^ 40) where
  above_core : A * 2048 ≤ L * B → L * X ≤ p * 2 ^ 51 → E * s ≤ 2 ^ 40 * t → A * s ≤ A * t + p * s * B
  above_core hL hp hE =
      let k : A * X ≤ p * B * 2 ^ 40 = omega (arith, mul-le-mul_right X hL, mul-le-mul_right B hp) in
      omega (arith, mul-le-mul_right s k, mul-le-mul_left A hE, ap (λ (x : ℕ). A * s * x) whole_is)

  close_core : L * B ≤ A * 2048 + B → p * 2 ^ 51 ≤ L * X + 2 ^ 51 → 2 ^ 40 * t ≤ (E + 512) * s → A ≤ (2 ^ 25 - 2 ^ 20) * B →
      64 * (A * t + p * s * B) ≤ (A * 64 + 65 * B) * s
  close_core hL hp hE hA =
      let x : B * X ≤ B * 2 ^ 40 = mul-le-mul_left B (omega arith) in
      let k : p * B * 2 ^ 40 ≤ A * X + 2 ^ 29 * B + 2 ^ 40 * B = omega (arith, mul-le-mul_right X hL, mul-le-mul_right B hp) in
      omega (arith, mul-le-mul_right s k, mul-le-mul_left A hE, mul-le-mul_right s hA, ap (λ (x : ℕ). A * s * x) whole_is)

module _ (P S : Fraction) (E : ℕ) (PB : 0 < P.bottom) (SB : 0 < S.bottom) (most : E ≤ 2 ^ 40) where
  abbrev rounded : ℕ
  rounded = up ((up (P ⊗ whole (2 ^ 11)) * (2 ^ 40 - E)) ⊘ 2 ^ 51)

  pub rounded_above : whole E ⊗ S ⪯ whole (2 ^ 40) → P ⊗ S ⪯ P ⊕ whole rounded ⊗ S
  rounded_above h =
      let L : ℕ = up (P ⊗ whole (2 ^ 11)) in
      let hL : P.top * 2048 ≤ L * P.bottom = omega (arith, up_ge (P.top * 2 ^ 11) (P.bottom * 1) (omega arith)) in
      let hE : E * S.top ≤ 2 ^ 40 * S.bottom = omega (arith, h.order) in
      let hp = up_ge (L * (2 ^ 40 - E)) (2 ^ 51) (omega arith) in
      let core = above_core P.top P.bottom L (2 ^ 40 - E) E rounded S.top S.bottom (omega arith) hL hp hE in
      record {
        left = mul-pos PB SB;
        right = mul-pos PB (omega arith);
        order = omega (arith, mul-le-mul_right (P.bottom * S.bottom) core);
      }

  pub rounded_close : whole (2 ^ 40) ⪯ whole (E + 512) ⊗ S → P.top ≤ (2 ^ 25 - 2 ^ 20) * P.bottom →
      P ⊕ whole rounded ⊗ S ⪯ (P ⊕ 65 ⊘ 64) ⊗ S
  rounded_close h small =
      let L : ℕ = up (P ⊗ whole (2 ^ 11)) in
      let hL : L * P.bottom ≤ P.top * 2048 + P.bottom = omega (arith, up_lt (P.top * 2 ^ 11) (P.bottom * 1) (omega arith)) in
      let hE : 2 ^ 40 * S.bottom ≤ (E + 512) * S.top = omega (arith, h.order) in
      let hp : rounded * 2 ^ 51 ≤ L * (2 ^ 40 - E) + 2 ^ 51 = omega (arith, up_lt (L * (2 ^ 40 - E)) (2 ^ 51) (omega arith)) in
      let core = close_core P.top P.bottom L (2 ^ 40 - E) E rounded S.top S.bottom (omega arith) hL hp hE small in
      record {
        left = mul-pos PB (omega arith);
        right = mul-pos (mul-pos PB (omega arith)) SB;
        order = omega (arith, mul-le-mul_right (P.bottom * S.bottom) core);
      }

-- The argument Q of the table's function: with q = a/b for each mm, step = ⌈q·2^55⌉ and Q = ⌈z·step/2^22⌉, Q/2^33 is at or above z·q,
-- and less than 33/32·2^-33 above it for z to 2^17. So it stays under 53 where z·q is at most 52.9. It never falls with z.
use Prim.Native.Nat.{ℕ, ◌+◌, ◌*◌, ◌^◌, ◌≤◌, ◌<◌}
use native.Mathlib.Omega.{arith}
use native.Mathlib.Nat.{mul-le-mul_left, mul-le-mul_right, mul-lt-mul_of_pos_right, lt_of_mul-lt-mul_right}
use Rattle.fraction.specs.Fraction.{◌⊘◌, up}
use Rattle.fraction.proofs.Up.{up_ge, up_lt, up_le}

module _ (a b z step : ℕ) (hb : 0 < b) where
  abbrev argument : ℕ
  argument = up ((z * step) ⊘ 2 ^ 22)

  pub argument_above : a * 2 ^ 55 ≤ step * b → z * a * 2 ^ 33 ≤ argument * b
  argument_above h = omega (arith, mul-le-mul_right b (up_ge (z * step) (2 ^ 22) (omega arith)), mul-le-mul_left z h)

  pub argument_close : step * b < a * 2 ^ 55 + b → z ≤ 2 ^ 17 → 32 * (argument * b) < 32 * (z * a * 2 ^ 33) + 33 * b
  argument_close h hz =
      omega (
        arith,
        mul-lt-mul_of_pos_right {k = b} (up_lt (z * step) (2 ^ 22) (omega arith)) hb,
        mul-le-mul_left z h,
        mul-le-mul_right b hz,
      )

  pub argument_small : step * b < a * 2 ^ 55 + b → z ≤ 2 ^ 17 → 10 * (z * a) ≤ 529 * b → argument < 53 * 2 ^ 33
  argument_small h hz small = lt_of_mul-lt-mul_right b (omega (arith, argument_close h hz))

-- a greater depth has no smaller argument
pub argument_rises : (z z' step : ℕ) → z ≤ z' → up ((z * step) ⊘ 2 ^ 22) ≤ up ((z' * step) ⊘ 2 ^ 22)
argument_rises z z' step h =
    up_le (z * step) (2 ^ 22) _ (omega arith)
    (omega (arith, mul-le-mul_right step h, up_ge (z' * step) (2 ^ 22) (omega arith)))

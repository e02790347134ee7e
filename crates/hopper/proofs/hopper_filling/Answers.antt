-- Invariant: high meets 9·μ·n² ≥ 1000·B², and nothing below low does. The measure is what lies between.
use Prim.Native.Nat.{ℕ, ◌+◌, ◌-◌, ◌*◌, ◌/◌, ◌≤◌, ◌<◌}
use native.Mathlib.Omega.{arith}
use native.Mathlib.Nat.{mul-le-mul, mul-le-mul_left}
use Rattle.hopper.proofs.Root.{square_le}
use Rattle.hopper.proofs.hopper_filling.Goals as goal

-- the middle is small
middle_le : (low high : ℕ) → low < high → high ≤ 10350000 → low + (high - low) / 2 ≤ 10350000
middle_le low high h most = omega arith

pub overflow_mul-friction-in-loop-low-2 : goal.overflow_mul-friction-in-loop-low-2
overflow_mul-friction-in-loop-low-2 c = let factor : 9 * c.args.friction ≤ 900 = omega arith in let middle = middle_le c.loop-low.low c.loop-low.high (omega arith) (omega arith) in omega (arith, mul-le-mul (mul-le-mul factor middle) middle)

pub loop-low-preserved-then-friction-middle : goal.loop-low-preserved-then-friction-middle
loop-low-preserved-then-friction-middle c =
    let l = c.loop-low in
    let a = c.args in
    let middle : ℕ = l.low + (l.high - l.low) / 2 in (
      omega arith,
      omega arith,
      l.invariant.2,
      λ m h.
          let less : m ≤ middle = omega arith in
          omega (arith, mul-le-mul_left (9 * a.friction) (square_le less), c.if-friction-middle.true),
    )

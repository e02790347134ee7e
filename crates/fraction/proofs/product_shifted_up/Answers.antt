-- Each product of a digit stays under 2^56.
use Prim.Native.Nat.{◌*◌, ◌/◌, ◌%◌, ◌^◌, ◌≤◌}
use native.Mathlib.Omega.{arith}
use Rattle.fraction.proofs.Up.{up_le}
use Rattle.fraction.proofs.Division.{digit_product}
use Rattle.fraction.proofs.product_shifted_up.Goals as goal

pub overflow_add-p : goal.overflow_add-p
overflow_add-p c =
    let p = c.args.p in
    let x = c.args.c in
    let low : x % 1048576 * p ≤ 2 ^ 56 = digit_product (x % 1048576) p (omega arith) c.requires.0 in
    omega (
      arith,
      digit_product (x / 1048576) p (omega arith) c.requires.0,
      c.quotient_up-low.ensures,
      up_le (p * (x % 1048576)) 1048576 (2 ^ 56) (omega arith) (omega arith),
    )

-- Each side of a rectangle is at most three times the other: one of the tests is that of the long side, and the other is true.
use Prim.Native.Nat.{ℕ, ◌*◌, ◌≤◌, min, max}
use mathlib.Core.Bool.{Bool, true, false, ◌&&◌}
use mathlib.Core.Path.{◌≡◌, refl}
use native.Mathlib.Decide.{dec_le}
use native.Mathlib.Omega.{arith}
use borrow.Author.Tests.{le-leb}
use lib.Dec.{leb}

and_true : (x : Bool) → (x && true) ≡ x
and_true true = refl
and_true false = refl

pub both_ways : (a b : ℕ) → (leb a (3 * b) && leb b (3 * a)) ≡ leb (max a b) (3 * min a b)
both_ways a b = go (dec_le a b)
  where
    go : Dec (a ≤ b) → (leb a (3 * b) && leb b (3 * a)) ≡ leb (max a b) (3 * min a b)
    go (yes h) =
        let short : min a b ≡ a = omega arith in
        let long : max a b ≡ b = omega arith in
        rw (short, long, le-leb a (3 * b) (omega arith)) refl
    go (no h) =
        let short : min a b ≡ b = omega arith in
        let long : max a b ≡ a = omega arith in
        rw (short, long, le-leb b (3 * a) (omega arith)) (and_true (leb a (3 * b)))

-- From a bound at x/b to one at (x + y)/b: what one step along the exponential costs, given a bound on S_n at y/b. The table's
-- neighbours and the step from an entry to a point between two entries are both of this kind.
-- Assumes nothing.
use Prim.Native.Nat.{ℕ, ◌+◌, ◌*◌, ◌^◌, ◌≤◌, ◌<◌}
use native.Mathlib.Nat.{mul-pos, mul-le-mul_left, mul-le-mul_right, mul-lt-mul_of_pos_right, le_of_mul-le-mul_right, lt_of_mul-lt-mul_right}
use native.Mathlib.Omega.{arith}
use Rattle.fraction.specs.Fraction.{Fraction, ◌⊘◌, whole, ◌⊗◌, ◌⪯◌}
use Rattle.exponential.specs.Series.{S}
use Rattle.exponential.specs.program.Lower.{Below, Above}
use Rattle.exponential.proofs.Terms.{S_positive}
use Rattle.exponential.proofs.SeriesLaws.{S_split, S_join}

-- t is below at x/b, and hi/lo is at least every S_n at y/b: then e is below at (x + y)/b where e·hi ≤ t·lo
pub below_join : (x y b t e lo hi : ℕ) → 0 < b → 0 < hi → Below t (x ⊘ b)
    → ((n : ℕ) → whole lo ⊗ S n (y ⊘ b) ⪯ whole hi) → e * hi ≤ t * lo → Below e ((x + y) ⊘ b)
below_join x y b t e lo hi hb hh ht hs he n =
    let X : Fraction = S n (x ⊘ b) in
    let Y : Fraction = S n (y ⊘ b) in
    let Z : Fraction = S n ((x + y) ⊘ b) in
    let bx : 0 < X.bottom = S_positive n (x ⊘ b) hb in
    let by : 0 < Y.bottom = S_positive n (y ⊘ b) hb in
    record {
      left = omega (arith, S_positive n ((x + y) ⊘ b) hb);
      right = omega arith;
      order =
          le_of_mul-le-mul_right {k = hi * (X.bottom * Y.bottom)}
          (omega (
            arith,
            mul-le-mul_left (e * hi) (S_split n x y b hb).order,
            mul-le-mul_right (X.top * Y.top * Z.bottom) he,
            mul-le-mul_right (lo * Y.top * Z.bottom) (ht n).order,
            mul-le-mul_right (2 ^ 40 * X.bottom * Z.bottom) (hs n).order,
          ))
          (mul-pos hh (mul-pos bx by));
    }

-- t is above at x/b, and lo/hi is at most S_m at y/b: then e is above at (x + y)/b where t·hi ≤ e·lo
pub above_join : (x y b t e lo hi m : ℕ) → 0 < b → 0 < hi → Above t (x ⊘ b)
    → whole lo ⪯ whole hi ⊗ S m (y ⊘ b) → t * hi ≤ e * lo → Above e ((x + y) ⊘ b)
above_join x y b t e lo hi m hb hh (n, ht) hs he =
    let X : Fraction = S n (x ⊘ b) in
    let Y : Fraction = S m (y ⊘ b) in
    let Z : Fraction = S (n + m) ((x + y) ⊘ b) in
    let bx : 0 < X.bottom = S_positive n (x ⊘ b) hb in
    let by : 0 < Y.bottom = S_positive m (y ⊘ b) hb in
    let bz : 0 < Z.bottom = S_positive (n + m) ((x + y) ⊘ b) hb in (
      n + m,
      record {
        left = omega arith;
        right = omega (arith, bz);
        order =
            lt_of_mul-lt-mul_right (hi * (X.bottom * Y.bottom))
            (omega (
              arith,
              mul-le-mul_left (e * hi) (S_join n m x y b hb).order,
              mul-le-mul_right (Y.bottom * X.top * Z.bottom) he,
              mul-lt-mul_of_pos_right {k = hi * Y.bottom * Z.bottom} ht.order (mul-pos (mul-pos hh by) bz),
              mul-le-mul_right (e * X.top * Z.bottom) hs.order,
            ));
      },
    )

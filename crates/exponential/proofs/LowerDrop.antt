-- How far `lower` can fall: from Q to Q' by less than (Q' - Q)/2^33 of itself, and what it may lie below 2^40·e^(-Q'/2^33) besides
-- (`lower_drop`). That is 354 anywhere (`lower_anywhere`) and 82 before the table's second entry (`lower_first`), where the entry is exact.
-- Assumes nothing.
use mathlib.Core.Path.{◌≡◌, ap}
use Prim.Native.Nat.{ℕ, ◌+◌, ◌-◌, ◌*◌, ◌/◌, ◌%◌, ◌^◌, ◌≤◌, ◌<◌}
use native.Mathlib.Nat.{mul-pos, mul-le-mul_left, mul-le-mul_right, le-max_left, lt-div-mul-add, le_of_mul-le-mul_right, pow-zero, pow-suc}
use native.Mathlib.Decide.{dec_le}
use native.Mathlib.Omega.{arith}
use Rattle.fraction.specs.Fraction.{Fraction, ◌⊘◌, whole, ◌⊗◌, ◌⪯◌}
use Rattle.fraction.proofs.Order.{≺-⪯}
use Rattle.exponential.specs.Series.{factorial, term, S}
use Rattle.exponential.specs.program.Lower.{denominator, between, entry, lower_by, lower}
use Rattle.exponential.proofs.Terms.{S_positive}
use Rattle.exponential.proofs.SeriesLaws.{S_one, S_split}
use Rattle.exponential.proofs.TableLaws.{entry_zero}
use Rattle.exponential.proofs.LowerLaws.{Reaches, denominator_large, denominator_below, near_one, lower_below, lower_above, lower_le, lower_zero}

-- 354 more reaches 2^40·e^(-Q/2^33)
pub lower_anywhere : (Q : ℕ) → Q < 53 * 2 ^ 33 → Reaches (lower Q + 354) (Q ⊘ 2 ^ 33)
lower_anywhere Q h = let a = lower_above Q h in (a.0, ≺-⪯ a.1)

-- the quotient's rounding, at the first entry
quotient_first : (Q : ℕ) → Q < 2 ^ 27 → 2 ^ 40 * (2 ^ 35 - Q) < lower Q * denominator Q + denominator Q
unfolding lower_by between
quotient_first Q h =
    let e : Q / 2 ^ 27 ≡ 0 = omega arith in
    let r : Q % 2 ^ 27 ≡ Q = omega arith in
    rw (e, r, entry_zero)
    (omega (
      arith,
      mul-le-mul_right (denominator Q) (le-max_left (2 ^ 40 * (2 ^ 35 - Q) / denominator Q) (entry 1)),
      lt-div-mul-add {a = 2 ^ 40 * (2 ^ 35 - Q)} {b = denominator Q} (omega (arith, denominator_large Q)),
    ))

-- 82 covers the quotient's rounding and 5/2 in 2^35 of the denominator
enough_first : (num den e lo : ℕ) → lo + 5 ≡ 2 * den → 2 ^ 40 * num < e * den + den → e ≤ 2 ^ 40 → 2 ^ 35 ≤ den
    → 2 ^ 40 * (2 * num) ≤ (e + 82) * lo
enough_first num den e lo is h he hd = omega (arith, ap (λ (x : ℕ). e * x) is)

reached : (num lo e t b : ℕ) → 0 < lo → 2 ^ 40 * (2 * num) ≤ (e + 82) * lo → lo * b ≤ 2 * num * t → 2 ^ 40 * b ≤ (e + 82) * t
reached num lo e t b pos enough below =
    le_of_mul-le-mul_right {k = lo} (omega (arith, mul-le-mul_right t enough, below)) pos

-- 82 more reaches it below 1/64
pub lower_first : (Q : ℕ) → Q < 2 ^ 27 → Reaches (lower Q + 82) (Q ⊘ 2 ^ 33)
lower_first Q h =
    let lo : ℕ = 2 * denominator Q - 5 in
    let e : lo + 5 ≡ 2 * denominator Q = omega (arith, denominator_large Q) in
    let X : Fraction = S 4 (Q ⊘ 2 ^ 33) in
    let enough = enough_first (2 ^ 35 - Q) (denominator Q) (lower Q) lo e (quotient_first Q h) (lower_le Q (omega arith)) (denominator_large Q) in (
      4,
      record {
        left = omega arith;
        right = omega (arith, S_positive 4 (Q ⊘ 2 ^ 33) (omega arith));
        order =
            omega (
              arith,
              reached (2 ^ 35 - Q) lo (lower Q) X.top X.bottom (omega (arith, denominator_large Q)) enough
                  (omega (arith, (denominator_below Q h lo e).order)),
            );
      },
    )

-- the fractions cancel: Z is at most X·Y, and w/2^33 at most 1/Y
cancel : (E E' w Xt Xb Yt Yb Zt Zb : ℕ) → 0 < Xt → 0 < Yb → 0 < Zb → E * Xt ≤ 2 ^ 40 * Xb → w * Yt ≤ 2 ^ 33 * Yb
    → 2 ^ 40 * Zb ≤ E' * Zt → Zt * (Xb * Yb) ≤ Xt * Yt * Zb → E * w ≤ E' * 2 ^ 33
cancel E E' w Xt Xb Yt Yb Zt Zb hX hY hZ below near reaches split =
    let one : 2 ^ 40 * (Xb * Yb) ≤ E' * (Xt * Yt) =
    le_of_mul-le-mul_right {k = Zb} (omega (arith, mul-le-mul_right (Xb * Yb) reaches, mul-le-mul_left E' split)) hZ in
    let two : E * Yb ≤ E' * Yt = le_of_mul-le-mul_right {k = Xt} (omega (arith, mul-le-mul_right Yb below)) hX in
    le_of_mul-le-mul_right {k = Yb} (omega (arith, mul-le-mul_right w two, mul-le-mul_left E' near)) hY

-- (Q' - Q)/2^33 of itself, and c
pub lower_drop : (Q Q' c : ℕ) → Q ≤ Q' → Q' < 53 * 2 ^ 33 → Reaches (lower Q' + c) (Q' ⊘ 2 ^ 33)
    → lower Q * 2 ^ 33 ≤ (lower Q' + c) * 2 ^ 33 + lower Q * (Q' - Q)
lower_drop Q Q' c l h (n, r) = go (dec_le (Q' - Q) (2 ^ 33))
  where
    go : Dec (Q' - Q ≤ 2 ^ 33) → lower Q * 2 ^ 33 ≤ (lower Q' + c) * 2 ^ 33 + lower Q * (Q' - Q)
    go (no far) = omega (arith, mul-le-mul_left {m = 2 ^ 33} {n = Q' - Q} (lower Q) (omega arith))
    go (yes near) =
        let d : ℕ = Q' - Q in
        let w : ℕ = 2 ^ 33 - d in
        let e : w + d ≡ 2 ^ 33 = omega arith in
        let is : Q + d ≡ Q' = omega arith in
        let X : Fraction = S n (Q ⊘ 2 ^ 33) in
        let Y : Fraction = S n (d ⊘ 2 ^ 33) in
        let Z : Fraction = S n (Q' ⊘ 2 ^ 33) in
        let split : Z ⪯ X ⊗ Y = rw is at (S_split n Q d (2 ^ 33) (omega arith)) in
        let core =
        cancel (lower Q) (lower Q' + c) w X.top X.bottom Y.top Y.bottom Z.top Z.bottom
        (omega (arith, (S_one n (Q ⊘ 2 ^ 33) (omega arith)).order, S_positive n (Q ⊘ 2 ^ 33) (omega arith)))
        (S_positive n (d ⊘ 2 ^ 33) (omega arith))
        (S_positive n (Q' ⊘ 2 ^ 33) (omega arith))
        (omega (arith, (lower_below Q (omega arith) n).order))
        (omega (arith, (near_one n d (2 ^ 33) w (omega arith) e).order))
        (omega (arith, r.order))
        split.order in
        omega (arith, core, ap (λ (x : ℕ). lower Q * x) e)

-- so 2^40 - 128·Q is at most 354 above it
pub lower_line : (Q : ℕ) → Q < 53 * 2 ^ 33 → 2 ^ 40 ≤ lower Q + 354 + 128 * Q
lower_line Q h = omega (arith, rw lower_zero at (lower_drop 0 Q 354 (omega arith) h (lower_anywhere Q h)))

-- E·(1 + q) ≤ 1 and E ≤ 1 - q + q²/2 at q = a/b, from S_1 and S_2
module _ (E a b : ℕ) (hb : 0 < b) where
  once : whole E ⊗ S 1 (a ⊘ b) ⪯ whole (2 ^ 40) → E * (b + a) ≤ 2 ^ 40 * b
  unfolding S term factorial
  once h = omega (arith, simp (pow-zero, pow-suc a 0, pow-suc b 0) at h.order)

  square : whole E ⊗ S 2 (a ⊘ b) ⪯ whole (2 ^ 40) → E * (2 * (b * b) + 2 * b * a + a * a) ≤ 2 ^ 41 * (b * b)
  unfolding S term factorial
  square h =
      le_of_mul-le-mul_right {k = b}
      (omega (arith, simp (pow-zero, pow-suc a 0, pow-suc a 1, pow-suc b 0, pow-suc b 1) at h.order))
      hb

  twice : whole E ⊗ S 2 (a ⊘ b) ⪯ whole (2 ^ 40) → 2 * (b * b) * E + 2 ^ 41 * (b * a) ≤ 2 ^ 41 * (b * b) + 2 ^ 40 * (a * a)
  twice h =
      let w : 0 < 2 * (b * b) + 2 * b * a + a * a = omega (arith, mul-pos hb hb) in
      le_of_mul-le-mul_right {k = 2 * (b * b) + 2 * b * a + a * a} (omega (arith, mul-le-mul_left (2 * (b * b)) (square h))) w

-- at most 2^40 / (1 + q)
pub lower_once : (Q : ℕ) → Q < 53 * 2 ^ 33 → lower Q * (2 ^ 33 + Q) ≤ 2 ^ 73
lower_once Q h = once (lower Q) Q (2 ^ 33) (omega arith) (lower_below Q h 1)

-- at most 2^40·(1 - q + q²/2)
pub lower_twice : (Q : ℕ) → Q < 53 * 2 ^ 33 → lower Q * 2 ^ 27 + 2 ^ 34 * Q ≤ 2 ^ 67 + Q * Q
lower_twice Q h = omega (arith, twice (lower Q) Q (2 ^ 33) (omega arith) (lower_below Q h 2))

-- The laws of S_n: at least 1, and S_1 above 1 where q is not 0, rising with q, and S_n(x + y) ≤ S_n(x)·S_n(y), S_n(x)·S_m(y) ≤ S_(n+m)(x + y).
-- Each is read off the terms as whole numbers (`Terms`), whose sums are S_n times the first term.
-- Assumes nothing.
use mathlib.Core.Path.{◌≡◌, ap, ap₂}
use Prim.Native.Nat.{ℕ, zero, suc, ◌+◌, ◌*◌, ◌^◌, ◌<◌}
use native.Mathlib.Nat.{pow-zero, pow-suc, mul-pos, mul-le-mul_right, le_of_mul-le-mul_left, pow-le-pow_left}
use native.Mathlib.Omega.{arith}
use Rattle.fraction.specs.Fraction.{Fraction, ◌⊘◌, whole, ◌⊗◌, ◌⪯◌}
use Rattle.fraction.proofs.Order.{⊕_mono}
use Rattle.exponential.specs.Series.{factorial, term, S}
use Rattle.exponential.proofs.Sums.{conv, psum_first, product_above, product_below}
use Rattle.exponential.proofs.Terms.{terms, terms_are, terms_positive, conv_terms, S_positive, term_positive, sum_of}

-- S_n(x + y) ≤ S_n(x)·S_n(y)
pub S_split : (n x y b : ℕ) → 0 < b → S n ((x + y) ⊘ b) ⪯ S n (x ⊘ b) ⊗ S n (y ⊘ b)
unfolding conv
S_split n x y b h =
    let u = terms n x b in
    let v = terms n y b in
    let X : Fraction = S n (x ⊘ b) in
    let Y : Fraction = S n (y ⊘ b) in
    let Z : Fraction = S n ((x + y) ⊘ b) in
    record {
      left = S_positive n ((x + y) ⊘ b) h;
      right = mul-pos (S_positive n (x ⊘ b) h) (S_positive n (y ⊘ b) h);
      order =
          le_of_mul-le-mul_left {k = u 0 * v 0}
          (omega (
            arith,
            mul-le-mul_right (X.bottom * Y.bottom * Z.bottom) (product_above u v n),
            ap (λ (k : ℕ). k * (X.bottom * Y.bottom)) (sum_of n (x + y) b (conv u v) (conv_terms n x y b u v (terms_are n x b) (terms_are n y b)) n (omega arith)),
            ap₂ (λ (k l : ℕ). k * l * Z.bottom) (sum_of n x b u (terms_are n x b) n (omega arith)) (sum_of n y b v (terms_are n y b) n (omega arith)),
          ))
          (mul-pos (terms_positive n x b h) (terms_positive n y b h));
    }

-- S_n(x)·S_m(y) ≤ S_(n+m)(x + y)
pub S_join : (n m x y b : ℕ) → 0 < b → S n (x ⊘ b) ⊗ S m (y ⊘ b) ⪯ S (n + m) ((x + y) ⊘ b)
unfolding conv
S_join n m x y b h =
    let u = terms (n + m) x b in
    let v = terms (n + m) y b in
    let X : Fraction = S n (x ⊘ b) in
    let Y : Fraction = S m (y ⊘ b) in
    let Z : Fraction = S (n + m) ((x + y) ⊘ b) in
    record {
      left = mul-pos (S_positive n (x ⊘ b) h) (S_positive m (y ⊘ b) h);
      right = S_positive (n + m) ((x + y) ⊘ b) h;
      order =
          le_of_mul-le-mul_left {k = u 0 * v 0}
          (omega (
            arith,
            mul-le-mul_right (X.bottom * Y.bottom * Z.bottom) (product_below u v n m),
            ap (λ (k : ℕ). k * (X.bottom * Y.bottom))
                (sum_of (n + m) (x + y) b (conv u v) (conv_terms (n + m) x y b u v (terms_are (n + m) x b) (terms_are (n + m) y b)) (n + m) (omega arith)),
            ap₂ (λ (k l : ℕ). k * l * Z.bottom)
                (sum_of (n + m) x b u (terms_are (n + m) x b) n (omega arith))
                (sum_of (n + m) y b v (terms_are (n + m) y b) m (omega arith)),
          ))
          (mul-pos (terms_positive (n + m) x b h) (terms_positive (n + m) y b h));
    }

-- S_1 = 1 + q is above 1 where q is not 0
pub S_above_one : (q : Fraction) → 0 < q.top → (S 1 q).bottom < (S 1 q).top
unfolding S term factorial
S_above_one q h = simp (pow-zero, pow-suc q.top 0, pow-suc q.bottom 0) (omega (arith, h))

-- 1 ≤ S_n
pub S_one : (n : ℕ) (q : Fraction) → 0 < q.bottom → whole 1 ⪯ S n q
S_one n q h =
    let u = terms n q.top q.bottom in
    record {
      left = omega arith;
      right = S_positive n q h;
      order =
          le_of_mul-le-mul_left {k = u 0}
          (omega (
            arith,
            mul-le-mul_right (S n q).bottom (psum_first u n),
            sum_of n q.top q.bottom u (terms_are n q.top q.bottom) n (omega arith),
          ))
          (terms_positive n q.top q.bottom h);
    }

mul_pow : (a b n : ℕ) → (a * b) ^ n ≡ a ^ n * b ^ n
mul_pow a b zero = simp pow-zero
mul_pow a b (suc n) = simp pow-suc (omega (arith, ap (λ (k : ℕ). k * (a * b)) (mul_pow a b n)))

term_mono : (n : ℕ) {q q' : Fraction} → q ⪯ q' → term n q ⪯ term n q'
unfolding term
term_mono n {q} {q'} h = record {
  left = term_positive n q h.left;
  right = term_positive n q' h.right;
  order =
      omega (
        arith,
        mul-le-mul_right (factorial n) (pow-le-pow_left h.order n),
        ap (λ (k : ℕ). k * factorial n) (mul_pow q.top q'.bottom n),
        ap (λ (k : ℕ). k * factorial n) (mul_pow q'.top q.bottom n),
      );
}

-- S_n rises with q
pub S_mono : (n : ℕ) {q q' : Fraction} → q ⪯ q' → S n q ⪯ S n q'
unfolding S
S_mono zero h = term_mono zero h
S_mono (suc n) h = ⊕_mono (S_mono n h) (term_mono (suc n) h)

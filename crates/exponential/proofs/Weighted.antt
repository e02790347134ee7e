-- A bound on every S_n at once: (m - q)·S_n(q) ≤ A_m(q), the sum of (m - j)·q^j/j! for j below m, with equality but for one term
-- at n = m. In whole numbers, over the terms u of the series at a / b, with c for m·b - a.
-- Assumes nothing.
use mathlib.Core.Path.{◌≡◌, ap}
use Prim.Native.Nat.{ℕ, zero, suc, ◌+◌, ◌-◌, ◌*◌, ◌≤◌, ◌<◌}
use native.Mathlib.Nat.{mul-le-mul_left, mul-le-mul_right, le_of_mul-le-mul_left, add-suc, add-zero}
use native.Mathlib.Omega.{arith}
use Rattle.fraction.specs.Fraction.{◌⊘◌, whole, ◌⊗◌, ◌⪯◌}
use Rattle.exponential.specs.Series.{S}
use Rattle.exponential.proofs.Sums.{psum, psum_rises}
use Rattle.exponential.proofs.Terms.{Terms, terms, terms_are, terms_positive, S_positive, sum_of}

-- m·u 0 + (m - 1)·u 1 + .. + (m - n)·u n, a negative factor counting as 0
unfoldable pub wsum : ℕ → (ℕ → ℕ) → ℕ → ℕ
wsum m u zero = m * u 0
wsum m u (suc n) = wsum m u n + (m - suc n) * u (suc n)

module _ (M a b c m : ℕ) (u : ℕ → ℕ) (is : Terms M a b u) (e : c + a ≡ m * b) where
  step_le : (n d : ℕ) → n < M → m ≤ d + suc n → (p w : ℕ) → c * p + a * u n ≤ b * w
      → c * (p + u (suc n)) + a * u (suc n) ≤ b * (w + d * u (suc n))
  step_le n d l h p w ih =
      omega (arith, is n l, ap (λ (k : ℕ). k * u (suc n)) e, mul-le-mul_right (b * u (suc n)) h)

  step_eq : (n d : ℕ) → n < M → m ≡ d + suc n → (p w : ℕ) → c * p + a * u n ≡ b * w
      → c * (p + u (suc n)) + a * u (suc n) ≡ b * (w + d * u (suc n))
  step_eq n d l h p w ih =
      omega (arith, is n l, ap (λ (k : ℕ). k * u (suc n)) e, ap (λ (k : ℕ). k * (b * u (suc n))) h)

  -- (m·b - a)·(u 0 + .. + u n) + a·u n is at most b times the weighted sum
  weighted : (n : ℕ) → n ≤ M → c * psum u n + a * u n ≤ b * wsum m u n
  unfolding psum wsum
  weighted zero l = omega (arith, ap (λ (k : ℕ). k * u 0) e)
  weighted (suc n) l = step_le n (m - suc n) l (omega arith) (psum u n) (wsum m u n) (weighted n (omega arith))

  -- and equal to it while no factor is negative
  pub weighted_equal : (n : ℕ) → n ≤ M → n ≤ m → c * psum u n + a * u n ≡ b * wsum m u n
  unfolding psum wsum
  weighted_equal zero l k = omega (arith, ap (λ (k : ℕ). k * u 0) e)
  weighted_equal (suc n) l k =
      step_eq n (m - suc n) l (omega arith) (psum u n) (wsum m u n) (weighted_equal n (omega arith) (omega arith))

  wsum_ends : (n : ℕ) → wsum m u (m + n) ≡ wsum m u m
  unfolding wsum
  wsum_ends zero = rw add-zero
  wsum_ends (suc n) =
      let z : m - suc (m + n) ≡ 0 = omega arith in
      rw add-suc (rw z (omega (arith, wsum_ends n)))

  pub weighted_bound : (n : ℕ) → m + n ≤ M → c * psum u n ≤ b * wsum m u m
  weighted_bound n l =
      omega (
        arith,
        weighted (m + n) l,
        ap (λ (k : ℕ). b * k) (wsum_ends n),
        mul-le-mul_left c (psum_rises u m n),
      )

-- a bound on the terms' sum, as one on S_n
module _ (M a b n c d : ℕ) (h : 0 < b) (l : n ≤ M) where
  sums : c * (psum (terms M a b) n * (S n (a ⊘ b)).bottom) ≡ c * (terms M a b 0 * (S n (a ⊘ b)).top)
  sums = ap (λ (x : ℕ). c * x) (sum_of M a b (terms M a b) (terms_are M a b) n l)

  pub sum_at_most : c * psum (terms M a b) n ≤ d * terms M a b 0 → whole c ⊗ S n (a ⊘ b) ⪯ whole d
  sum_at_most k = record {
    left = omega (arith, S_positive n (a ⊘ b) h);
    right = omega arith;
    order =
        le_of_mul-le-mul_left {k = terms M a b 0} (omega (arith, sums, mul-le-mul_right (S n (a ⊘ b)).bottom k)) (terms_positive M a b h);
  }

  pub sum_at_least : d * terms M a b 0 ≤ c * psum (terms M a b) n → whole d ⪯ whole c ⊗ S n (a ⊘ b)
  sum_at_least k = record {
    left = omega arith;
    right = omega (arith, S_positive n (a ⊘ b) h);
    order =
        le_of_mul-le-mul_left {k = terms M a b 0} (omega (arith, sums, mul-le-mul_right (S n (a ⊘ b)).bottom k)) (terms_positive M a b h);
  }

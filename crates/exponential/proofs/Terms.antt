-- The terms of the exponential series at a / b as whole numbers: a sequence u with b·(j + 1)·u (j + 1) = a·u j for j below a bound M
-- is u 0 times q^j / j!, and its sums are u 0 times S_n. Such a sequence exists for every M, a and b, and the Cauchy product of
-- those at x / b and y / b is the one at (x + y) / b.
-- Assumes nothing.
use mathlib.Core.Path.{◌≡◌, ap}
use Prim.Native.Nat.{ℕ, zero, suc, ◌+◌, ◌-◌, ◌*◌, ◌^◌, ◌≤◌, ◌<◌}
use native.Mathlib.Nat.{pow-zero, pow-suc, mul-pos, one-le-pow}
use native.Mathlib.Omega.{arith}
use Rattle.fraction.specs.Fraction.{Fraction, ◌⊘◌}
use Rattle.exponential.specs.Series.{factorial, term, S}
use Rattle.exponential.proofs.Sums.{deriv, psum, conv, conv_scale_left, conv_scale_right, leibniz}

abbrev pub Terms : ℕ → ℕ → ℕ → (ℕ → ℕ) → Type 0
Terms M a b u = (j : ℕ) → j < M → b * deriv u j ≡ a * u j

-- (j + 1)·b · .. · (j + d)·b
factors : ℕ → ℕ → ℕ → ℕ
factors b zero j = 1
factors b (suc d) j = suc j * b * factors b d (suc j)

factors_pos : (b d j : ℕ) → 0 < b → 0 < factors b d j
unfolding factors
factors_pos b zero j h = omega arith
factors_pos b (suc d) j h = mul-pos (mul-pos (omega arith) h) (factors_pos b d (suc j) h)

-- a^j·b^(M-j)·M!/j!
pub terms : ℕ → ℕ → ℕ → ℕ → ℕ
terms M a b j = a ^ j * factors b (M - j) j

pub terms_positive : (M a b : ℕ) → 0 < b → 0 < terms M a b 0
unfolding terms
terms_positive M a b h = mul-pos (rw pow-zero (omega arith)) (factors_pos b (M - 0) 0 h)

pub terms_are : (M a b : ℕ) → Terms M a b (terms M a b)
unfolding terms factors
terms_are M a b j h =
    let e : M - j ≡ suc (M - suc j) = omega arith in
    rw (e, pow-suc a j) (omega arith)

pub conv_terms : (M x y b : ℕ) (u v : ℕ → ℕ) → Terms M x b u → Terms M y b v → Terms M (x + y) b (conv u v)
conv_terms M x y b u v hu hv n l =
    omega (
      arith,
      ap (λ (k : ℕ). b * k) (leibniz u v n),
      conv_scale_left b x u (deriv u) v n (λ j k. hu j (omega arith)),
      conv_scale_right b y u v (deriv v) n (λ j k. hv j (omega arith)),
    )

pub factorial_positive : (n : ℕ) → 0 < factorial n
unfolding factorial
factorial_positive zero = omega arith
factorial_positive (suc n) = mul-pos (omega arith) (factorial_positive n)

pub term_positive : (n : ℕ) (q : Fraction) → 0 < q.bottom → 0 < (term n q).bottom
unfolding term
term_positive n q h = mul-pos (one-le-pow n q.bottom h) (factorial_positive n)

pub S_positive : (n : ℕ) (q : Fraction) → 0 < q.bottom → 0 < (S n q).bottom
unfolding S
S_positive zero q h = term_positive zero q h
S_positive (suc n) q h = mul-pos (S_positive n q h) (term_positive (suc n) q h)

-- u n is u 0 times q^n / n!
term_of : (M a b : ℕ) (u : ℕ → ℕ) → Terms M a b u → (n : ℕ) → n ≤ M → u n * (term n (a ⊘ b)).bottom ≡ u 0 * (term n (a ⊘ b)).top
unfolding term factorial
term_of M a b u h zero l = simp pow-zero (omega arith)
term_of M a b u h (suc n) l =
    simp pow-suc
    (omega (
      arith,
      ap (λ (k : ℕ). k * (b ^ n * factorial n)) (h n (omega arith)),
      ap (λ (k : ℕ). a * k) (term_of M a b u h n (omega arith)),
    ))

-- the sum of the terms to n is u 0 times S_n
pub sum_of : (M a b : ℕ) (u : ℕ → ℕ) → Terms M a b u → (n : ℕ) → n ≤ M → psum u n * (S n (a ⊘ b)).bottom ≡ u 0 * (S n (a ⊘ b)).top
unfolding psum S
sum_of M a b u h zero l = term_of M a b u h 0 l
sum_of M a b u h (suc n) l =
    omega (
      arith,
      ap (λ (k : ℕ). k * (term (suc n) (a ⊘ b)).bottom) (sum_of M a b u h n (omega arith)),
      ap (λ (k : ℕ). k * (S n (a ⊘ b)).bottom) (term_of M a b u h (suc n) l),
    )

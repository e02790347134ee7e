-- Sums of the first terms of a sequence, and Cauchy products of two sequences, in whole numbers. What the exponential's laws
-- need: the sums of a Cauchy product lie between products of sums (`product_above`, `product_below`), and its derivative is
-- Leibniz's. No division, no binomials.
-- Assumes nothing.
use mathlib.Core.Path.{◌≡◌, refl, ap}
use Prim.Native.Nat.{ℕ, zero, suc, ◌+◌, ◌-◌, ◌*◌, ◌≤◌}
use native.Mathlib.Nat.{mul-le-mul_left, zero-add, suc-add, sub-add_cancel}
use native.Mathlib.Omega.{arith}

abbrev pub shift : (ℕ → ℕ) → ℕ → ℕ
shift u j = u (suc j)

-- the derivative of the series with coefficients u
abbrev pub deriv : (ℕ → ℕ) → ℕ → ℕ
deriv u j = suc j * u (suc j)

-- u 0 + .. + u n
unfoldable pub psum : (ℕ → ℕ) → ℕ → ℕ
psum u zero = u 0
psum u (suc n) = psum u n + u (suc n)

-- u 0 * v n + .. + u n * v 0
unfoldable pub conv : (ℕ → ℕ) → (ℕ → ℕ) → ℕ → ℕ
conv u v zero = u 0 * v 0
conv u v (suc n) = u 0 * v (suc n) + conv (shift u) v n

pub psum_front : (u : ℕ → ℕ) (n : ℕ) → psum u (suc n) ≡ u 0 + psum (shift u) n
unfolding psum
psum_front u zero = refl
psum_front u (suc n) = omega (arith, psum_front u n)

pub psum_first : (u : ℕ → ℕ) (n : ℕ) → u 0 ≤ psum u n
unfolding psum
psum_first u zero = omega arith
psum_first u (suc n) = omega (arith, psum_first u n)

pub psum_rises : (u : ℕ → ℕ) (n m : ℕ) → psum u m ≤ psum u (n + m)
unfolding psum
psum_rises u zero m = rw zero-add (omega arith)
psum_rises u (suc n) m = rw suc-add (omega (arith, psum_rises u n m))

-- the sums of a Cauchy product are the Cauchy product with the sums
conv_step : (u v : ℕ → ℕ) (n : ℕ) → conv u (psum v) (suc n) ≡ conv u (psum v) n + conv u v (suc n)
unfolding psum conv
conv_step u v zero = omega arith
conv_step u v (suc n) = omega (arith, conv_step (shift u) v n)

pub psum_conv : (u v : ℕ → ℕ) (n : ℕ) → psum (conv u v) n ≡ conv u (psum v) n
unfolding psum conv
psum_conv u v zero = refl
psum_conv u v (suc n) = omega (arith, psum_conv u v n, conv_step u v n)

conv_le : (u v : ℕ → ℕ) (c n : ℕ) → ((j : ℕ) → j ≤ n → v j ≤ c) → conv u v n ≤ psum u n * c
unfolding conv psum
conv_le u v c zero h = mul-le-mul_left (u 0) (h 0 (omega arith))
conv_le u v c (suc n) h =
    omega
    (arith, mul-le-mul_left (u 0) (h (suc n) (omega arith)), conv_le (shift u) v c n (λ j l. h j (omega arith)), ap (λ (x : ℕ). x * c) (psum_front u n))

le_conv_one : (u v : ℕ → ℕ) (m : ℕ) → u 0 * v m ≤ conv u v m
unfolding conv
le_conv_one u v zero = omega arith
le_conv_one u v (suc m) = omega arith

le_conv : (u v : ℕ → ℕ) (n m : ℕ) → ((k j : ℕ) → v j ≤ v (k + j)) → psum u n * v m ≤ conv u v (n + m)
unfolding conv psum
le_conv u v zero m rises = rw zero-add (le_conv_one u v m)
le_conv u v (suc n) m rises =
    rw suc-add
    (omega
    (arith, ap (λ (x : ℕ). x * v m) (psum_front u n), mul-le-mul_left (u 0) (rises (suc n) m), le_conv (shift u) v n m rises, ap (λ (k : ℕ). u 0 * v k) (suc-add n m)))

-- (u 0 + .. + u n) * (v 0 + .. + v n) is at least the sum of the first n terms of the product
pub product_above : (u v : ℕ → ℕ) (n : ℕ) → psum (conv u v) n ≤ psum u n * psum v n
product_above u v n = rw psum_conv (conv_le u (psum v) (psum v n) n (λ j l. rises j l))
  where
    rises : (j : ℕ) → j ≤ n → psum v j ≤ psum v n
    rises j l = rw (← sub-add_cancel l) (psum_rises v (n - j) j)

-- and at most that of the first n + m terms
pub product_below : (u v : ℕ → ℕ) (n m : ℕ) → psum u n * psum v m ≤ psum (conv u v) (n + m)
product_below u v n m = rw psum_conv (le_conv u (psum v) n m (psum_rises v))

conv_sum : (u u' w v : ℕ → ℕ) → ((j : ℕ) → w j ≡ u j + u' j) → (n : ℕ) → conv w v n ≡ conv u v n + conv u' v n
unfolding conv
conv_sum u u' w v e zero = omega (arith, ap (λ (x : ℕ). x * v 0) (e 0))
conv_sum u u' w v e (suc n) =
    omega (arith, ap (λ (x : ℕ). x * v (suc n)) (e 0), conv_sum (shift u) (shift u') (shift w) v (λ j. e (suc j)) n)

-- a factor of every term is a factor of the product
pub conv_scale_left : (b a : ℕ) (u u' v : ℕ → ℕ) (n : ℕ) → ((j : ℕ) → j ≤ n → b * u' j ≡ a * u j) → b * conv u' v n ≡ a * conv u v n
unfolding conv
conv_scale_left b a u u' v zero e = omega (arith, ap (λ (x : ℕ). x * v 0) (e 0 (omega arith)))
conv_scale_left b a u u' v (suc n) e =
    omega
    (arith, ap (λ (x : ℕ). x * v (suc n)) (e 0 (omega arith)), conv_scale_left b a (shift u) (shift u') v n (λ j l. e (suc j) (omega arith)))

pub conv_scale_right : (b a : ℕ) (u v v' : ℕ → ℕ) (n : ℕ) → ((j : ℕ) → j ≤ n → b * v' j ≡ a * v j) → b * conv u v' n ≡ a * conv u v n
unfolding conv
conv_scale_right b a u v v' zero e = omega (arith, ap (λ (x : ℕ). u 0 * x) (e 0 (omega arith)))
conv_scale_right b a u v v' (suc n) e =
    omega
    (arith, ap (λ (x : ℕ). u 0 * x) (e (suc n) (omega arith)), conv_scale_right b a (shift u) v v' n (λ j l. e j (omega arith)))

-- Leibniz's rule
pub leibniz : (u v : ℕ → ℕ) (n : ℕ) → suc n * conv u v (suc n) ≡ conv (deriv u) v n + conv u (deriv v) n
unfolding conv
leibniz u v zero = omega arith
leibniz u v (suc n) =
    omega
    (arith, leibniz (shift u) v n, conv_sum (deriv (shift u)) (shift (shift u)) (shift (deriv u)) v (λ j. omega arith) n)

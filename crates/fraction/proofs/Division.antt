-- Quotients from whole part and rest: with whole·d + rest = n and rest < d, n/d rounded down is whole, and rounded up it is whole or
-- one more. A product that does not fit is divided digit by digit: the rest of the high digit goes into the low one.
use Prim.Native.Nat.{ℕ, ◌+◌, ◌*◌, ◌/◌, ◌%◌, ◌^◌, ◌≤◌, ◌<◌}
use mathlib.Core.Path.{◌≡◌, sym, ◌∙◌, ap}
use native.Mathlib.Omega.{arith}
use native.Mathlib.Nat.{div-add-mod', mul-le-mul, mul-le-mul_left, le_of_mul-le-mul_right, mul-add-div_right, div-le_of_le-mul, pow-le-pow_right, pow-suc, le_of_lt}
use Rattle.fraction.specs.Fraction.{◌⊘◌, up}
use Rattle.fraction.proofs.Up.{up_unique, up_whole, up_nest}

module _ (n d whole rest : ℕ) (split : whole * d + rest ≡ n) (small : rest < d) where
  pub up_exact : rest ≡ 0 → up (n ⊘ d) ≡ whole
  up_exact e = up_unique n d whole (omega arith) (omega arith) (omega arith)

  pub up_next : 0 < rest → up (n ⊘ d) ≡ whole + 1
  up_next e = up_unique n d (whole + 1) (omega arith) (omega arith) (omega arith)

-- the digits before the last leave room for one more
pub room : (n d whole rest i count : ℕ) → 0 < d → i < count → whole * d + rest ≡ n * 2048 ^ i → n * 2048 ^ count ≤ d * 2 ^ 62 →
    whole ≤ 2 ^ 51
room n d whole rest i count hd hi e h =
    le_of_mul-le-mul_right {k = d}
    (omega (arith, rw pow-suc at (mul-le-mul_left n (pow-le-pow_right {n = 2048} (omega arith) hi))))
    hd

-- t·n/d from the digits t / b and t % b of t
pub product_digits : (t n d b : ℕ) → 0 < d → t / b * n / d * b + (t / b * n % d * b + t % b * n) / d ≡ t * n / d
product_digits t n d b h =
    sym (mul-add-div_right h (t / b * n / d * b) (t / b * n % d * b + t % b * n)) ∙
    ap (λ (x : ℕ). x / d)
    (omega (arith, ap (λ (x : ℕ). x * b) (div-add-mod' (t / b * n) d), ap (λ (x : ℕ). x * n) (div-add-mod' t b)))

-- p·c/(b·k) rounded up, from the digits c / b and c % b of c
pub shifted_digits : (p c b k : ℕ) → 0 < b → 0 < k → up ((p * (c / b) + up ((p * (c % b)) ⊘ b)) ⊘ k) ≡ up ((p * c) ⊘ (b * k))
shifted_digits p c b k hb hk =
    let e : p * (c / b) * b + p * (c % b) ≡ p * c = omega (arith, ap (λ (x : ℕ). p * x) (div-add-mod' c b)) in
    ap (λ (x : ℕ). up (x ⊘ k)) (sym (up_whole (p * (c / b)) (p * (c % b)) b hb) ∙ ap (λ (x : ℕ). up (x ⊘ b)) e) ∙
    up_nest (p * c) b k hb hk

-- a digit of 20 bits times a number of 36 bits
pub digit_product : (x n : ℕ) → x ≤ 2 ^ 20 → n < 2 ^ 36 → x * n ≤ 2 ^ 56
digit_product x n hx hn = omega (arith, mul-le-mul hx (le_of_lt hn))

-- the high digit of t·n/d, where n is at most d
pub high_digit : (x n d : ℕ) → x ≤ 2 ^ 20 → n ≤ d → x * n / d ≤ 2 ^ 20
high_digit x n d hx hn = div-le_of_le-mul d (omega (arith, mul-le-mul hx hn))

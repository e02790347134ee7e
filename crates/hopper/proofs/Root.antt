-- n3, the least n with 9·μ·n² ≥ 1000·B² (μ in hundredths). 4·B meets it, since 9·10·16 ≥ 1000. Any u with 0.9·μ·u² ≤ c², c ≤ B, is at
-- most n3. From below, with m = n3 - 1, w = 3·m - 10 and k = B - 1: if μ·w² > 1000·k², then μ·w > 100·k, since μ ≥ 10, and
-- 9·μ·m² = μ·(w + 10)² = μ·w² + 20·μ·w + 100·μ > 1000·k² + 2000·k + 1000 = 1000·B², which m < n3 excludes. So u = w/3 = n3 - 13/3 has
-- 0.9·μ·u² ≤ k², and k < c.
use Prim.Native.Nat.{ℕ, zero, suc, ◌+◌, ◌-◌, ◌*◌, ◌≤◌, ◌<◌}
use mathlib.Core.Path.{◌≡◌, refl}
use mathlib.Core.Bool.{Bool, true}
use native.Mathlib.Omega.{arith}
use native.Mathlib.Nat.{mul-le-mul, mul-le-mul_right, mul-pos, le_of_mul-le-mul_right}
use native.Mathlib.Decide.{dec_le}
use borrow.Author.Tests.{le-leb, lt-leb, leb-true, leb-false}
use Rattle.fraction.specs.Fraction.{Fraction, ◌⊘◌, whole, ◌⊗◌, ◌⪯◌, up}
use Rattle.fraction.proofs.Order.{pos_left, pos_right}
use Rattle.fraction.proofs.Up.{up_lt}
use Rattle.hopper.specs.Least.{least}
use Rattle.hopper.specs.Hopper.{squared, at_most, n3}
use Rattle.hopper.proofs.Least.{found, least_passes, least_unique}

-- the two sides of 0.9·μ·n² ≥ B², cross-multiplied
abbrev due : ℕ → ℕ
due b = b * b * 10000

abbrev reached : ℕ → ℕ → ℕ
reached μ n = 90 * μ * (n * n) * 1

abbrev meets : ℕ → ℕ → ℕ → Bool
meets μ b n = at_most (whole b ⊗ whole b) (squared μ (whole n))

n3_meets : (μ b : ℕ) → 10 ≤ μ → 1000 * (b * b) ≤ 9 * μ * (n3 μ b * n3 μ b)
unfolding n3
n3_meets μ b h =
    let bound : meets μ b (4 * b) ≡ true = le-leb (due b) (reached μ (4 * b)) (omega (arith, mul-le-mul_right (b * b) h)) in
    omega (arith, leb-true (due b) (reached μ (least (meets μ b) (4 * b))) (least_passes (meets μ b) (4 * b) bound))

n3_first : (μ b m : ℕ) → m < n3 μ b → 9 * μ * (m * m) < 1000 * (b * b)
unfolding n3
n3_first μ b m h = omega (arith, leb-false (due b) (reached μ m) ((found (meets μ b) (4 * b)).none_below m h))

pub n3_unique : (μ b n : ℕ) → n ≤ 4 * b → 1000 * (b * b) ≤ 9 * μ * (n * n) → ((m : ℕ) → m < n → 9 * μ * (m * m) < 1000 * (b * b)) →
    n ≡ n3 μ b
unfolding n3
n3_unique μ b n within passes none =
    least_unique (meets μ b) (4 * b) n within (le-leb (due b) (reached μ n) (omega arith))
    (λ m h. lt-leb (due b) (reached μ m) (omega (arith, none m h)))

-- squares keep the order, both ways
pub square_le : {m n : ℕ} → m ≤ n → m * m ≤ n * n
square_le h = mul-le-mul h h

le_of_square : (m n : ℕ) → m * m ≤ n * n → m ≤ n
le_of_square m n h = at (dec_le m n)
  where
    at : Dec (m ≤ n) → m ≤ n
    at (yes l) = l
    at (no l) = let more : suc n ≤ m = omega arith in absurd (omega (arith, square_le more))

-- 0.9·μ·u² ≤ c² and c ≤ B give u ≤ n3
pub root_above : (μ b : ℕ) (c u : Fraction) → 10 ≤ μ → c ⪯ whole b → squared μ u ⪯ c ⊗ c → u ⪯ whole (n3 μ b)
root_above μ b c u hm hc hu =
    let n : ℕ = n3 μ b in
    let y : 0 < u.bottom * u.bottom = pos_right 10000 _ hu.left in
    record {
      left = pos_left u.bottom _ y;
      right = omega arith;
      order =
          le_of_square (u.top * 1) (n * u.bottom)
          (squares c.top c.bottom u.top u.bottom n hc.left (omega (arith, hc.order)) (n3_meets μ b hm) hu.order);
    }
  where
    squares : (s t x y n : ℕ) → 0 < t → s ≤ b * t → 1000 * (b * b) ≤ 9 * μ * (n * n) →
        90 * μ * (x * x) * (t * t) ≤ s * s * (10000 * (y * y)) →
        x * 1 * (x * 1) ≤ n * y * (n * y)
    squares s t x y n ht hs hn hx =
        le_of_mul-le-mul_right {k = 90 * μ * (t * t)}
        (omega (arith, mul-le-mul_right (10000 * (y * y)) (square_le hs), mul-le-mul_right (10 * (t * t) * (y * y)) hn))
        (mul-pos {m = 90 * μ} (omega arith) (mul-pos ht ht))

-- the step from n3 to B - 1
root_step : (μ w k : ℕ) → 10 ≤ μ → μ * ((w + 10) * (w + 10)) < 1000 * ((k + 1) * (k + 1)) → μ * (w * w) ≤ 1000 * (k * k)
root_step μ w k hm h = at (dec_le (μ * (w * w)) (1000 * (k * k))) (dec_le (100 * k) (μ * w))
  where
    at : Dec (μ * (w * w) ≤ 1000 * (k * k)) → Dec (100 * k ≤ μ * w) → μ * (w * w) ≤ 1000 * (k * k)
    at (yes l) d = l
    at (no l) (yes m) = absurd (omega arith)
    at (no l) (no m) =
        let less : μ * w ≤ 100 * k = omega arith in
        let more : 1000 * (k * k) + 1 ≤ μ * (w * w) = omega arith in
        absurd (omega (arith, square_le less, mul-le-mul hm more))

-- n3 - 13/3 is a lower fraction for n3
pub root_near : (μ : ℕ) (c : Fraction) → 10 ≤ μ → 0 < c.bottom → squared μ ((3 * n3 μ (up c) - 13) ⊘ 3) ⪯ c ⊗ c
root_near μ c hm hc = at (3 * n3 μ (up c) - 13) refl
  where
    lower :
        (m w b s t : ℕ) → 3 * m ≡ w + 10 → 9 * μ * (m * m) < 1000 * (b * b) → b * t < s + t → 90 * μ * (w * w) * (t * t) ≤ s * s * 90000
    lower m w zero s t e h l = absurd (omega arith)
    lower m w (suc k) s t e h l =
        let sum : μ * ((w + 10) * (w + 10)) < 1000 * ((k + 1) * (k + 1)) = rw (← e) (omega arith) in
        let kt : k * t ≤ s = omega arith in
        omega (arith, mul-le-mul_right (90 * (t * t)) (root_step μ w k hm sum), square_le kt)

    at : (w : ℕ) → 3 * n3 μ (up c) - 13 ≡ w → squared μ (w ⊘ 3) ⪯ c ⊗ c
    at zero e = record { left = omega arith; right = mul-pos hc hc; order = omega arith }
    at (suc w) e =
        let m : ℕ = n3 μ (up c) - 1 in
        record {
          left = omega arith;
          right = mul-pos hc hc;
          order =
              lower m (suc w) (up c) c.top c.bottom (omega arith) (n3_first μ (up c) m (omega arith)) (up_lt c.top c.bottom hc);
        }

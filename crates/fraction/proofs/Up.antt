-- Rounding up: up (a/b) is the one whole number n with a ≤ n·b < a + b. The division's own law gives both sides for b positive;
-- the other laws follow from the two.
use Prim.Native.Nat.{ℕ, suc, ◌+◌, ◌-◌, ◌*◌, ◌≤◌, ◌<◌}
use mathlib.Core.Path.{◌≡◌}
use native.Mathlib.Omega.{arith}
use native.Mathlib.Nat.{div-add-mod', mod-lt, mul-le-mul_right, lt_of_mul-lt-mul_right, le_antisymm, mul-pos}
use Rattle.fraction.specs.Fraction.{Fraction, ◌⊘◌, whole, ◌⪯◌, up}
use Rattle.fraction.proofs.Order.{same, ⪯_trans}

pub up_ge : (a b : ℕ) → 0 < b → a ≤ up (a ⊘ b) * b
unfolding up
up_ge a b h = omega (arith, div-add-mod' (a + (b - 1)) b, mod-lt (a + (b - 1)) h)

pub up_lt : (a b : ℕ) → 0 < b → up (a ⊘ b) * b < a + b
unfolding up
up_lt a b h = omega (arith, div-add-mod' (a + (b - 1)) b)

-- up is least
pub up_le : (a b n : ℕ) → 0 < b → a ≤ n * b → up (a ⊘ b) ≤ n
up_le a b n h k =
    let l : up (a ⊘ b) < suc n = lt_of_mul-lt-mul_right b (omega (arith, up_lt a b h)) in omega arith

pub up_unique : (a b n : ℕ) → 0 < b → a ≤ n * b → n * b < a + b → up (a ⊘ b) ≡ n
up_unique a b n h k l =
    let m : n < suc (up (a ⊘ b)) = lt_of_mul-lt-mul_right b (omega (arith, up_ge a b h)) in
    le_antisymm (up_le a b n h k) (omega arith)

pub up_above : (q : Fraction) → 0 < q.bottom → q ⪯ whole (up q)
up_above q h = record { left = h; right = omega arith; order = omega (arith, up_ge q.top q.bottom h) }

pub up_least : {q : Fraction} {n : ℕ} → q ⪯ whole n → up q ≤ n
up_least {q} {n} h = up_le q.top q.bottom n h.left (omega (arith, h.order))

pub up_mono : {p q : Fraction} → p ⪯ q → up p ≤ up q
up_mono {p} {q} h = up_least (⪯_trans h (up_above q h.right))

-- fractions with equal cross products round alike
pub up_same : (a b c d : ℕ) → 0 < b → 0 < d → a * d ≡ c * b → up (a ⊘ b) ≡ up (c ⊘ d)
up_same a b c d hb hd e = le_antisymm (up_mono (same hb hd e).0) (up_mono (same hb hd e).1)

pub up_zero : (b : ℕ) → 0 < b → up (0 ⊘ b) ≡ 0
up_zero b h = up_unique 0 b 0 h (omega arith) (omega arith)

-- a whole part passes through the rounding
pub up_whole : (n a b : ℕ) → 0 < b → up ((n * b + a) ⊘ b) ≡ n + up (a ⊘ b)
up_whole n a b h =
    up_unique (n * b + a) b (n + up (a ⊘ b)) h (omega (arith, up_ge a b h)) (omega (arith, up_lt a b h))

-- a division may be done in steps, rounding up at each
pub up_nest : (a b k : ℕ) → 0 < b → 0 < k → up (up (a ⊘ b) ⊘ k) ≡ up (a ⊘ (b * k))
up_nest a b k hb hk =
    let u : ℕ = up (a ⊘ b) in
    let v : ℕ = up (a ⊘ (b * k)) in
    let vb : a ≤ v * k * b = omega (arith, up_ge a (b * k) (mul-pos hb hk)) in
    let low : up (u ⊘ k) ≤ v = up_le u k v hk (up_le a b (v * k) hb vb) in
    let wb : u * b ≤ up (u ⊘ k) * k * b = mul-le-mul_right b (up_ge u k hk) in
    let high : v ≤ up (u ⊘ k) = up_le a (b * k) (up (u ⊘ k)) (mul-pos hb hk) (omega (arith, up_ge a b hb)) in
    le_antisymm low high

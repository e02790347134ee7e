-- The order of fractions. Each law follows from the cross-multiplied facts, multiplied by the bottoms that are missing; where a
-- bottom is in the way it is positive and cancels.
use Prim.Native.Nat.{ℕ, zero, suc, ◌*◌, ◌≤◌, ◌<◌}
use mathlib.Core.Path.{◌≡◌}
use native.Mathlib.Omega.{arith}
use native.Mathlib.Nat.{mul-le-mul_right, mul-lt-mul_of_pos_right, mul-le-mul, mul-pos, le_of_mul-le-mul_right, lt_of_mul-lt-mul_right, zero-mul, mul_comm, le_of_lt}
use Rattle.fraction.specs.Fraction.{Fraction, ◌⊘◌, ◌⊕◌, ◌⊗◌, ◌⪯◌, ◌≺◌}

-- the factors of a positive product are positive
pub pos_left : (m n : ℕ) → 0 < m * n → 0 < m
pos_left zero n h = rw zero-mul at h
pos_left (suc m) n h = omega arith

pub pos_right : (m n : ℕ) → 0 < m * n → 0 < n
pos_right m n h = pos_left n m (rw mul_comm h)

-- a comparison from its cross-multiplied fact
pub compare : {a b c d : ℕ} → 0 < b → 0 < d → a * d ≤ c * b → (a ⊘ b) ⪯ (c ⊘ d)
compare hb hd h = record { left = hb; right = hd; order = h }

-- fractions with equal cross products are each at most the other
pub same : {a b c d : ℕ} → 0 < b → 0 < d → a * d ≡ c * b → ((a ⊘ b) ⪯ (c ⊘ d)) × ((c ⊘ d) ⪯ (a ⊘ b))
same hb hd h = (compare hb hd (omega arith), compare hd hb (omega arith))

pub ⪯_refl : (p : Fraction) → 0 < p.bottom → p ⪯ p
⪯_refl p h = record { left = h; right = h; order = omega arith }

pub ≺-⪯ : {p q : Fraction} → p ≺ q → p ⪯ q
≺-⪯ h = record { left = h.left; right = h.right; order = le_of_lt h.order }

pub ⪯_trans : {p q r : Fraction} → p ⪯ q → q ⪯ r → p ⪯ r
⪯_trans {p} {q} {r} h k = record {
  left = h.left;
  right = k.right;
  order =
      le_of_mul-le-mul_right {k = q.bottom}
      (omega (arith, mul-le-mul_right r.bottom h.order, mul-le-mul_right p.bottom k.order))
      h.right;
}

pub ≺-⪯_trans : {p q r : Fraction} → p ≺ q → q ⪯ r → p ≺ r
≺-⪯_trans {p} {q} {r} h k = record {
  left = h.left;
  right = k.right;
  order =
      lt_of_mul-lt-mul_right q.bottom
      (omega (arith, mul-lt-mul_of_pos_right {k = r.bottom} h.order k.right, mul-le-mul_right p.bottom k.order));
}

pub ⊕_more : (p r : Fraction) → 0 < p.bottom → 0 < r.bottom → p ⪯ p ⊕ r
⊕_more p r hp hr = record { left = hp; right = mul-pos hp hr; order = omega arith }

-- sums and products keep the order
pub ⊕_mono : {p p' q q' : Fraction} → p ⪯ p' → q ⪯ q' → p ⊕ q ⪯ p' ⊕ q'
⊕_mono {p} {p'} {q} {q'} h k = record {
  left = mul-pos h.left k.left;
  right = mul-pos h.right k.right;
  order =
      omega (arith, mul-le-mul_right (q.bottom * q'.bottom) h.order, mul-le-mul_right (p.bottom * p'.bottom) k.order);
}

pub ⊗_mono : {p p' q q' : Fraction} → p ⪯ p' → q ⪯ q' → p ⊗ q ⪯ p' ⊗ q'
⊗_mono {p} {p'} {q} {q'} h k = record {
  left = mul-pos h.left k.left;
  right = mul-pos h.right k.right;
  order = omega (arith, mul-le-mul h.order k.order);
}

-- what stands on both sides cancels
pub ⊕_cancel : (p q r : Fraction) → p ⊕ r ⪯ q ⊕ r → p ⪯ q
⊕_cancel p q r h =
    let hr : 0 < r.bottom = pos_right p.bottom r.bottom h.left in
    record {
      left = pos_left p.bottom r.bottom h.left;
      right = pos_left q.bottom r.bottom h.right;
      order = le_of_mul-le-mul_right {k = r.bottom * r.bottom} (omega (arith, h.order)) (mul-pos hr hr);
    }

pub ⊗_cancel : (p q r : Fraction) → 0 < r.top → p ⊗ r ⪯ q ⊗ r → p ⪯ q
⊗_cancel p q r ht h =
    let hr : 0 < r.bottom = pos_right p.bottom r.bottom h.left in
    record {
      left = pos_left p.bottom r.bottom h.left;
      right = pos_left q.bottom r.bottom h.right;
      order = le_of_mul-le-mul_right {k = r.top * r.bottom} (omega (arith, h.order)) (mul-pos ht hr);
    }

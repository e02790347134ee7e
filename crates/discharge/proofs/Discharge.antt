-- The loads of wall and flat floor: each fits its type, never falls when its pressure or its magnifier grows, and keeps its allowance. A formula keeps
-- the order of its pressure, and so does rounding up: that is the upper side. The lower side, at v = p - 2, adds up what is lost:
-- 2·C0 + 1 ≤ 5, 1.1·2 + 1 < 4, 0.4·5 + 1 ≤ 3, 1.2·2 + 1 < 4.
use Prim.Native.Nat.{ℕ, ◌+◌, ◌*◌, ◌^◌, ◌≤◌, ◌<◌}
use mathlib.Core.Path.{◌≡◌}
use native.Mathlib.Omega.{arith}
use native.Mathlib.Nat.{le_of_lt, mul-one, mul-pos, mul-le-mul, mul-le-mul_left, mul-le-mul_right, mul-lt-mul_of_pos_right}
use Rattle.fraction.specs.Fraction.{Fraction, ◌⊘◌, whole, ◌⊕◌, ◌⊗◌, ◌⪯◌, ◌≺◌, up}
use Rattle.fraction.proofs.Order.{⪯_trans, ⊗_mono}
use Rattle.fraction.proofs.Up.{up_lt, up_le, up_mono, up_above, up_same}
use Rattle.allowance.specs.Allowance.{Lower, Allowance}
use Rattle.allowance.proofs.LowerLaws.{Filled, allowed}
use Rattle.allowance.proofs.Rounding.{wholes, scaled}
use Rattle.discharge.specs.Discharge.{β, patch, magnified_load, patch_load}

-- ranges
pub magnified_load_range : (C : Fraction) → 0 < C.bottom → (p : ℕ) → C.top ≤ 2 * C.bottom → p < 2 ^ 25 → magnified_load C p ≤ 2 ^ 26
unfolding magnified_load
magnified_load_range C pos p hc hp =
    up_le (C.top * p) (C.bottom * 1) (2 ^ 26) (omega arith)
    (omega (arith, mul-le-mul_right p hc, mul-le-mul_left (2 * C.bottom) (le_of_lt hp)))

pub patch_load_range : (e d h : ℕ) → 0 < d → 4 * e ≤ d → h ≤ 2 ^ 26 → patch_load e d h ≤ 2 ^ 26
unfolding patch_load
patch_load_range e d h hd he hh =
    up_le (2 * (1 * d + 4 * e * 1) * h) (10 * (1 * d) * 1) (2 ^ 26) (omega arith) (omega (arith, mul-le-mul_left d hh, mul-le-mul he hh))

-- as the program divides
pub magnified_load_divided : (a b p : ℕ) → up ((a * p) ⊘ b) ≡ magnified_load (a ⊘ b) p
unfolding magnified_load
magnified_load_divided a b p = rw mul-one

pub patch_load_divided : (e d h : ℕ) → 0 < d → up (((d + 4 * e) * h) ⊘ (5 * d)) ≡ patch_load e d h
unfolding patch_load
patch_load_divided e d h hd =
    up_same ((d + 4 * e) * h) (5 * d) (2 * (1 * d + 4 * e * 1) * h) (10 * (1 * d) * 1) (omega arith) (omega arith) (omega arith)

-- the patch's factor 0.2·β has a positive bottom
patch_proper : (e d : ℕ) → 0 < d → 0 < ((2 ⊘ 10) ⊗ β e d).bottom
patch_proper e d hd = omega arith

-- never falling, as pressure and magnifier grow
pub magnified_load_mono : {C C' : Fraction} → C ⪯ C' → {p p' : ℕ} → p ≤ p' → magnified_load C p ≤ magnified_load C' p'
unfolding magnified_load
magnified_load_mono c h = up_mono (⊗_mono c (wholes h))

pub patch_load_mono : (e d : ℕ) {h h' : ℕ} → 0 < d → h ≤ h' → patch_load e d h ≤ patch_load e d h'
unfolding patch_load
patch_load_mono e d hd h = up_mono (scaled ((2 ⊘ 10) ⊗ β e d) (patch_proper e d hd) (wholes h))

-- allowances
e_above : (C : Fraction) → 0 < C.bottom → (p : ℕ) (v : Fraction) → v ⪯ whole p → C ⊗ v ⪯ whole (magnified_load C p)
unfolding magnified_load
e_above C pos p v h = ⪯_trans (scaled C pos h) (up_above (C ⊗ whole p) (omega arith))

-- 2·C + 1 is at most w
e_near : (C : Fraction) → 0 < C.bottom → (w p v : ℕ) → 2 * C.top + C.bottom ≤ w * C.bottom → p ≤ v + 2
    → magnified_load C p * C.bottom < C.top * v + w * C.bottom
unfolding magnified_load
e_near C pos w p v hc h = omega (arith, up_lt (C.top * p) (C.bottom * 1) (omega arith), mul-le-mul_left C.top h, hc)

pub magnified_load_allowance :
    {P q : Fraction} (C : Fraction) → 0 < C.bottom → (w p : ℕ) → 2 * C.top + C.bottom ≤ w * C.bottom → Filled P q p
    → Allowance (Lower P q) (λ v. C ⊗ v) w (magnified_load C p)
magnified_load_allowance C pos w p hc fill =
    allowed (λ v. C ⊗ v) fill (e_above C pos p)
    (λ v h. record { left = omega arith; right = omega arith; order = omega (arith, e_near C pos w p v hc h) })

patch_near : (e d : ℕ) (C : Fraction) → 0 < C.bottom → (h v : ℕ) → 0 < d → 4 * e ≤ d → h * C.bottom < C.top * v + 5 * C.bottom →
    whole (patch_load e d h) ≺ patch e d (C ⊗ whole v) ⊕ whole 3
unfolding patch_load
patch_near e d C pos h v hd he hh = record {
  left = omega arith;
  right = mul-pos (mul-pos (mul-pos (omega arith) (omega arith)) (omega arith)) (omega arith);
  order =
      omega (
        arith,
        mul-lt-mul_of_pos_right (up_lt (2 * (1 * d + 4 * e * 1) * h) (10 * (1 * d) * 1) (omega arith)) pos,
        mul-le-mul_left (2 * (d + 4 * e)) (le_of_lt hh),
        mul-le-mul_right C.bottom he,
      );
}

pub patch_load_allowance :
    {P q : Fraction} (C : Fraction) → 0 < C.bottom → (e d p : ℕ) → C.top ≤ 2 * C.bottom → 0 < d → 4 * e ≤ d → Filled P q p →
    Allowance (Lower P q) (λ v. patch e d (C ⊗ v)) 3 (patch_load e d (magnified_load C p))
unfolding patch_load
patch_load_allowance C pos e d p hc hd he fill =
    allowed (λ v. patch e d (C ⊗ v)) fill
    (λ v h.
    ⪯_trans
    (scaled ((2 ⊘ 10) ⊗ β e d) (patch_proper e d hd) (e_above C pos p v h))
    (up_above (patch e d (whole (magnified_load C p))) (omega arith)))
    (λ v h. patch_near e d C pos (magnified_load C p) v hd he (e_near C pos 5 p v (omega arith) h))

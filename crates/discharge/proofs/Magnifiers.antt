-- The magnifiers C_h and C_w: C of a slender silo, 1 + 2(C − 1)(h/d_c − 1) or 1 of a squat one. With x for C − 1 and y for h/d_c − 1, y is at most 1/2 in a
-- squat silo, so that 1 + 2xy is at most 1 + x; where 2h = 3·d_c it is exactly that. For C_w the rate 0.2 is 2(1.1 − 1).
use Prim.Native.Nat.{ℕ, ◌+◌, ◌-◌, ◌*◌, ◌^◌, ◌≤◌, ◌<◌}
use mathlib.Core.Path.{◌≡◌, sym, ap, subst}
use native.Mathlib.Omega.{arith}
use native.Mathlib.Decide.{dec_le, dec_lt}
use native.Mathlib.Nat.{mul-le-mul_left, mul-le-mul_right}
use borrow.Author.Tests.{lt-ltb, le-ltb, le-leb, lt-leb}
use Rattle.fraction.specs.Fraction.{Fraction, whole, ◌⪯◌}
use Rattle.fraction.proofs.Order.{compare, same, ⪯_refl}
use Rattle.janssen.specs.Filling.{hundredths}
use Rattle.discharge.specs.Discharge.{squat_magnifier, magnifier}
use Rattle.discharge.specs.program.Magnifier.{horizontal_magnifier, held, Moderate}

-- the three cases
module _ (C rate h d : ℕ) where
  pub slender : 3 * d ≤ 2 * h → magnifier C rate h d ≡ hundredths C
  unfolding magnifier
  slender s = simp (le-leb (3 * d) (2 * h) s)

  pub squat_high : 2 * h < 3 * d → d < h → magnifier C rate h d ≡ squat_magnifier rate h d
  unfolding magnifier
  squat_high s w = simp (lt-leb (3 * d) (2 * h) s, lt-ltb d h w)

  pub squat_low : 2 * h < 3 * d → h ≤ d → magnifier C rate h d ≡ whole 1
  unfolding magnifier
  squat_low s w = simp (lt-leb (3 * d) (2 * h) s, le-ltb d h w)

  -- what holds of each holds of the magnifier
  by_kind : (F : Fraction → Type 0) → F (hundredths C) → (2 * h < 3 * d → d < h → F (squat_magnifier rate h d)) → F (whole 1) → F (magnifier C rate h d)
  by_kind F a b c = at (dec_le (3 * d) (2 * h)) (dec_lt d h)
    where
      at : Dec (3 * d ≤ 2 * h) → Dec (d < h) → F (magnifier C rate h d)
      at (yes s) _ = subst F (sym (slender s)) a
      at (no s) (yes w) = subst F (sym (squat_high (omega arith) w)) (b (omega arith) w)
      at (no s) (no w) = subst F (sym (squat_low (omega arith) (omega arith))) c

-- as the program holds it
pub squat_held : (rate h d : ℕ) → record { top = 100 * d + rate * (h - d); bottom = 100 * d } ≡ held (squat_magnifier rate h d)
squat_held rate h d =
    let t : 100 * d + rate * (h - d) ≡ (squat_magnifier rate h d).top = omega arith in
    let b : 100 * d ≡ (squat_magnifier rate h d).bottom = omega arith in
    λ i. record { top = t i; bottom = b i }

-- at exactly 2h = 3·d_c the squat formula gives the slender magnifier, as equal fractions
pub kinds_meet : (C h d : ℕ) → 100 ≤ C → 0 < d → 2 * h ≡ 3 * d
    → (squat_magnifier (2 * (C - 100)) h d ⪯ hundredths C) × (hundredths C ⪯ squat_magnifier (2 * (C - 100)) h d)
kinds_meet C h d least pos meet =
    let half : 2 * (h - d) ≡ d = omega arith in
    let over : 100 + (C - 100) ≡ C = omega arith in
    same (omega arith) (omega arith) (omega (arith, ap (λ (y : ℕ). (C - 100) * y) half, ap (λ (x : ℕ). x * d) over))

-- a magnifier lies between 1 and that of slender silos
module _ (C h d : ℕ) (least : 100 ≤ C) (pos : 0 < d) where
  pub magnifier_between : (whole 1 ⪯ magnifier C (2 * (C - 100)) h d) × (magnifier C (2 * (C - 100)) h d ⪯ hundredths C)
  magnifier_between =
      by_kind C (2 * (C - 100)) h d (λ m. (whole 1 ⪯ m) × (m ⪯ hundredths C))
      (compare (omega arith) (omega arith) (omega arith), compare (omega arith) (omega arith) (omega arith))
      (λ s w.
      let half : 2 * (h - d) ≤ d = omega arith in
      let over : 100 + (C - 100) ≡ C = omega arith in (
        compare (omega arith) (omega arith) (omega arith),
        compare (omega arith) (omega arith) (omega (arith, mul-le-mul_left (C - 100) half, ap (λ (x : ℕ). x * d) over)),
      ))
      (compare (omega arith) (omega arith) (omega arith), compare (omega arith) (omega arith) (omega arith))

  pub magnifier_moderate : C ≤ 200 → d ≤ 50000 → Moderate (held (magnifier C (2 * (C - 100)) h d))
  magnifier_moderate most wide =
      let under = magnifier_between.1 in
      record {
        proper = under.left;
        small = by_kind C (2 * (C - 100)) h d (λ m. m.bottom ≤ 2 ^ 30) (omega arith) (λ s w. omega arith) (omega arith);
        most = omega (arith, under.order, mul-le-mul_right (magnifier C (2 * (C - 100)) h d).bottom most);
      }

-- a greater C0 never has the smaller C_h
pub horizontal_magnifier_mono : (h d : ℕ) → 0 < d → {C C' : ℕ} → 100 ≤ C → C ≤ C' → horizontal_magnifier C h d ⪯ horizontal_magnifier C' h d
horizontal_magnifier_mono h d pos {C} {C'} least more = at (dec_le (3 * d) (2 * h)) (dec_lt d h)
  where
    x : ℕ
    x = 2 * (C - 100)

    x' : ℕ
    x' = 2 * (C' - 100)

    at : Dec (3 * d ≤ 2 * h) → Dec (d < h) → magnifier C x h d ⪯ magnifier C' x' h d
    at (yes s) _ = rw (slender C x h d s, slender C' x' h d s) (compare (omega arith) (omega arith) (omega arith))
    at (no s) (yes w) =
        let rate : x ≤ x' = omega arith in
        rw (squat_high C x h d (omega arith) w, squat_high C' x' h d (omega arith) w)
        (compare (omega arith) (omega arith) (omega (arith, mul-le-mul_right (100 * d) (mul-le-mul_right (h - d) rate))))
    at (no s) (no w) = rw (squat_low C x h d (omega arith) (omega arith), squat_low C' x' h d (omega arith) (omega arith)) (⪯_refl (whole 1) (omega arith))

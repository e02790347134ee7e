-- A filling pressure is at most P·q + 2, as 1 - e^(-q) ≤ q. For p_hf that is γ·1.15·Ks·z + 2 (`horizontal_line`), which does not grow with the width.
-- The band's upper side, P + p·S ≤ (P + w)·S, and the series' growth, S ≤ 1 + q·S, give p·S ≤ (P·q + w)·S.
use Prim.Native.Nat.{ℕ, zero, suc, ◌+◌, ◌*◌, ◌≤◌, ◌<◌}
use mathlib.Core.Path.{◌≡◌, refl}
use native.Mathlib.Omega.{arith}
use native.Mathlib.Nat.{mul-pos, le_of_mul-le-mul_right, mul-le-mul_right}
use Rattle.fraction.specs.Fraction.{Fraction, whole, ◌⊕◌, ◌⊗◌, ◌⪯◌}
use Rattle.fraction.proofs.Order.{⪯_refl, ⪯_trans, ⊕_mono, ⊗_mono, ⊕_cancel, ⊗_cancel}
use Rattle.exponential.specs.Series.{S}
use Rattle.exponential.proofs.Terms.{S_positive}
use Rattle.exponential.proofs.SeriesLaws.{S_one}
use Rattle.janssen.specs.declared.Section.{Section}
use Rattle.janssen.specs.Filling.{Grain, factors, q, P, γR, z0, Ks, μ}
use Rattle.janssen.specs.Filling.Kind.{horizontal}
use Rattle.janssen.specs.program.Range.{InRange, InDepth}
use Rattle.janssen.specs.program.Pressure.{filling}
use Rattle.janssen.proofs.Geometry.{q_pos, P_pos}
use Rattle.janssen.proofs.Growth.{S_growth}
use Rattle.janssen.proofs.FillingLaws.{filling_band_two}

module _ (P q S w : Fraction) (hP : 0 < P.bottom) (hq : 0 < q.bottom) (hS : 0 < S.bottom) (hw : 0 < w.bottom) where
  split : (P ⊕ w) ⊗ S ⪯ P ⊗ S ⊕ w ⊗ S
  split = record {
    left = mul-pos (mul-pos hP hw) hS;
    right = mul-pos (mul-pos hP hS) (mul-pos hw hS);
    order = omega arith;
  }

  regroup : P ⊗ (whole 1 ⊕ q ⊗ S) ⊕ w ⊗ S ⪯ (P ⊗ q ⊕ w) ⊗ S ⊕ P
  regroup = record {
    left = mul-pos (mul-pos hP (mul-pos (omega arith) (mul-pos hq hS))) (mul-pos hw hS);
    right = mul-pos (mul-pos (mul-pos (mul-pos hP hq) hw) hS) hP;
    order = omega arith;
  }

  turned : (n : ℕ) → whole n ⊗ S ⊕ P ⪯ P ⊕ whole n ⊗ S
  turned n = record { left = mul-pos (mul-pos (omega arith) hS) hP; right = mul-pos hP (mul-pos (omega arith) hS); order = omega arith }

  pub under_line : (n : ℕ) → 0 < S.top → S ⪯ whole 1 ⊕ q ⊗ S → P ⊕ whole n ⊗ S ⪯ (P ⊕ w) ⊗ S → whole n ⪯ P ⊗ q ⊕ w
  under_line n pos growth close =
      ⊗_cancel (whole n) (P ⊗ q ⊕ w) S pos
      (⊕_cancel (whole n ⊗ S) ((P ⊗ q ⊕ w) ⊗ S) P
      (⪯_trans (turned n)
      (⪯_trans close
      (⪯_trans split (⪯_trans (⊕_mono (⊗_mono (⪯_refl P hP) growth) (⪯_refl (w ⊗ S) (mul-pos hw hS))) regroup)))))

module _ (s : Section) (p : Grain) (i : InRange s p) where
  -- P·q = γ·1.15·Ks·z, z in mm and Ks in hundredths
  line_is : (z : ℕ) → ((P horizontal s p).top * (q (factors horizontal) s p z).top) * 10000000
      ≡ 115 * (p.weight * (p.ratio * z)) * ((P horizontal s p).bottom * (q (factors horizontal) s p z).bottom)
  unfolding P q z0 γR Ks μ
  line_is z = omega arith

  pub horizontal_line : (z : ℕ) → InDepth s z → filling horizontal s p z * 10000000 ≤ 115 * (p.weight * (p.ratio * z)) + 20000000
  horizontal_line zero d = omega (arith, (filling_band_two horizontal s p zero i d).surface refl)
  horizontal_line (suc z) d =
      let x : Fraction = q (factors horizontal) s p (suc z) in
      let hx : 0 < x.bottom = q_pos s p i horizontal (suc z) in
      let c = (filling_band_two horizontal s p (suc z) i d).close (omega arith) in
      let one = S_one c.0 x hx in
      let l = under_line (P horizontal s p) x (S c.0 x) (whole 2) (P_pos s p i horizontal) hx (S_positive c.0 x hx) (omega arith)
      (filling horizontal s p (suc z)) (omega (arith, one.order, one.right)) (S_growth x hx c.0) c.1 in
      le_of_mul-le-mul_right {k = (P horizontal s p).bottom * x.bottom}
      (omega (arith, mul-le-mul_right 10000000 l.order, line_is (suc z)))
      (mul-pos (P_pos s p i horizontal) hx)

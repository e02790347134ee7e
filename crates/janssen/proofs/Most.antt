-- What a band says of any number inside it: a filling pressure is at most 2 above the most that its P can be (`band_most`), and P_w at most 2 above γR·z
-- (`wall_band_most`). In both the sums S_n are at least 1, and the exact value is below P and below γR·z. Below the surface a filling pressure is not 0
-- (`band_some`): there S_1 is above 1.
-- Assumes nothing.
use Prim.Native.Nat.{ℕ, ◌+◌, ◌*◌, ◌≤◌, ◌<◌}
use mathlib.Core.Path.{◌≡◌}
use native.Mathlib.Nat.{mul-pos, mul-le-mul_left, mul-le-mul_right, le_of_mul-le-mul_right}
use native.Mathlib.Decide.{dec_lt}
use native.Mathlib.Omega.{arith}
use Rattle.fraction.specs.Fraction.{Fraction, whole}
use Rattle.fraction.proofs.Order.{pos_left, pos_right}
use Rattle.exponential.specs.Series.{S}
use Rattle.exponential.proofs.SeriesLaws.{S_one, S_above_one}
use Rattle.janssen.specs.declared.Section.{Section}
use Rattle.janssen.specs.Filling.{Grain, Kind, factors, q, P, D, N}
use Rattle.janssen.specs.Filling.Kind.{horizontal, vertical, wall_friction}
use Rattle.janssen.specs.Band.{FillingBand, WallLoadBand}
use Rattle.janssen.specs.program.Range.{InRange}
use Rattle.janssen.proofs.Geometry.{q_top, q_bottom, P_top, P_bottom, most, q_pos, q_is, q_top_pos, P_pos, P_is, P_most, γR_top_pos}

-- over whole numbers: P = a/b is at most m, S = s/t at least 1, and a pressure x has P + x·S ≤ (P + 2)·S
pressure_most : (a b s t x m : ℕ) → 0 < b → 0 < t → 0 < s → a ≤ m * b
    → (a * (1 * t) + x * s * b) * (b * 1 * t) ≤ (a * 1 + 2 * b) * s * (b * (1 * t)) → x ≤ m + 2
pressure_most a b s t x m hb ht hs h order =
    le_of_mul-le-mul_right {k = s * b * (b * t)} (omega (arith, order, mul-le-mul_right (s * (b * t)) h)) (mul-pos (mul-pos hs hb) (mul-pos hb ht))

-- P = a/b, S = s/t above 1, and a pressure x with P·S ≤ P + x·S
pressure_some : (a b s t x : ℕ) → 0 < a → 0 < b → 0 < t → t < s → a * s * (b * (1 * t)) ≤ (a * (1 * t) + x * s * b) * (b * t) → 0 < x
pressure_some a b s t x ha hb ht h order = at (dec_lt 0 x)
  where
    at : Dec (0 < x) → 0 < x
    at (yes l) = l
    at (no l) =
        let none : x ≡ 0 = omega arith in
        let order' = rw none at order in
        absurd (omega (arith, le_of_mul-le-mul_right {m = s} {n = t} {k = a * (b * t)} (omega (arith, order')) (mul-pos ha (mul-pos hb ht)), h))

-- D = d/e, N = a/b at most m, S = s/t at least 1, and a load w has (w + D)·S ≤ D + (N + 2)·S
load_most : (d e a b s t w m : ℕ) → 0 < e → 0 < b → 0 < t → t ≤ s → a ≤ m * b
    → (w * e + d * 1) * s * (e * (b * 1 * t)) ≤ (d * (b * 1 * t) + (a * 1 + 2 * b) * s * e) * (1 * e * t) → w ≤ m + 2
load_most d e a b s t w m he hb ht one h order =
    le_of_mul-le-mul_right {k = b * s * (e * (e * t))}
    (omega (arith, order, mul-le-mul_left (d * b * (e * t)) one, mul-le-mul_right (s * e * (e * t)) h))
    (mul-pos (mul-pos hb (omega (arith, ht, one))) (mul-pos he (mul-pos he ht)))

module _ {s : Section} {p : Grain} (i : InRange s p) where
  pub band_most : {k : Kind} {z x : ℕ} → FillingBand (whole 2) k s p z x → x ≤ most k + 2
  band_most {k} {z} {x} band = at (dec_lt 0 z)
    where
      at : Dec (0 < z) → x ≤ most k + 2
      at (yes pos) =
          let (n, close) = band.close pos in
          let f : Fraction = P k s p in
          let g : Fraction = S n (q (factors k) s p z) in
          let one = S_one n (q (factors k) s p z) (q_pos s p i k z) in
          pressure_most f.top f.bottom g.top g.bottom x (most k) (P_pos s p i k) one.right (omega (arith, one.order, one.right)) (P_most s p i k)
          close.order
      at (no none) = omega (arith, band.surface (omega arith))

  P_some : (k : Kind) → 0 < (P k s p).top
  P_some k = pos_left (P k s p).top (P_bottom k s p) (omega (arith, P_is s p i k, mul-pos (P_top_pos k) (P_pos s p i k)))
    where
      P_top_pos : (k : Kind) → 0 < P_top k s p
      P_top_pos horizontal = omega (arith, γR_top_pos s p i)
      P_top_pos vertical = omega (arith, γR_top_pos s p i)
      P_top_pos wall_friction = γR_top_pos s p i

  q_some : (k : Kind) (z : ℕ) → 0 < z → 0 < (q (factors k) s p z).top
  q_some k z h = pos_left (q (factors k) s p z).top (q_bottom s) (omega (arith, q_is s p i k z, mul-pos (mul-pos h (row_pos k)) (q_pos s p i k z)))
    where
      row_pos : (k : Kind) → 0 < q_top k s p
      row_pos horizontal = omega (arith, q_top_pos s p i)
      row_pos vertical = omega (arith, q_top_pos s p i)
      row_pos wall_friction = q_top_pos s p i

  pub band_some : {w : Fraction} {k : Kind} {z x : ℕ} → 0 < z → FillingBand w k s p z x → 0 < x
  band_some {w} {k} {z} {x} h band =
      let f : Fraction = P k s p in
      let g : Fraction = S 1 (q (factors k) s p z) in
      let one = S_one 1 (q (factors k) s p z) (q_pos s p i k z) in
      pressure_some f.top f.bottom g.top g.bottom x (P_some k) (P_pos s p i k) one.right (S_above_one (q (factors k) s p z) (q_some k z h)) (band.above 1).order

  -- N = γR·z is at most 375 N/m for each mm
  N_most : (z : ℕ) → (N s p z).top ≤ 375 * z * (N s p z).bottom
  unfolding N P
  N_most z = omega (arith, mul-le-mul_right z (P_most s p i wall_friction))

  pub wall_band_most : {z w : ℕ} → WallLoadBand s p z w → w ≤ 375 * z + 2
  wall_band_most {z} {w} band =
      let d : Fraction = D s p in
      let f : Fraction = N s p z in
      let g : Fraction = S 0 (q (factors wall_friction) s p z) in
      let one = S_one 0 (q (factors wall_friction) s p z) (q_pos s p i wall_friction z) in
      let close = band.close 0 in
      let inner = pos_left (f.bottom * 1) g.bottom (pos_right d.bottom (f.bottom * 1 * g.bottom) close.right) in
      load_most d.top d.bottom f.top f.bottom g.top g.bottom w (375 * z) (pos_left d.bottom _ close.right) (omega (arith, inner)) one.right
      (omega (arith, one.order)) (N_most z) close.order

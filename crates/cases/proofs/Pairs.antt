-- Which whole numbers a band leaves. E lies below 2^40·e^(-q) and E + 512 reaches it, so both sides of a band become comparisons of
-- whole numbers; where those shut out m and m + 3, what is left is m + 1 or m + 2.
use Prim.Native.Nat.{ℕ, ◌+◌, ◌*◌, ◌^◌, ◌≤◌, ◌<◌}
use mathlib.Core.Logic.{◌⊎◌, inl, inr}
use mathlib.Core.Path.{◌≡◌}
use native.Mathlib.Omega.{arith}
use native.Mathlib.Nat.{mul-pos, mul-le-mul_left, le_of_mul-le-mul_right}
use native.Mathlib.Decide.{dec_lt}
use Rattle.fraction.specs.Fraction.{whole}
use Rattle.fraction.proofs.Order.{pos_left}
use Rattle.exponential.specs.Series.{S}
use Rattle.exponential.proofs.SeriesLaws.{S_one}
use Rattle.janssen.specs.declared.Section.{Section}
use Rattle.janssen.specs.Filling.{Grain, Kind, factors, q, P, D, N}
use Rattle.janssen.specs.Filling.Kind.{wall_friction}
use Rattle.janssen.specs.Band.{FillingBand, WallLoadBand}
use Rattle.janssen.specs.program.Pressure.{step, decay}
use Rattle.janssen.specs.program.Range.{InRange, InDepth}
use Rattle.janssen.proofs.Geometry.{q_pos}
use Rattle.janssen.proofs.FillingLaws.{decay_below, decay_reaches}

-- P = a/b, S_n = s/t: at or above, where X·S_n ≥ 2^40
least : (a b s t X p : ℕ) → 0 < b → 0 < s → 0 < t → 2 ^ 40 * t ≤ X * s → a * s * (b * (1 * t)) ≤ (a * (1 * t) + p * s * b) * (b * t) → 2 ^ 40 * a ≤ X * a + 2 ^ 40 * p * b
least a b s t X p hb hs ht reach h =
    let i : a * s ≤ a * t + p * s * b = le_of_mul-le-mul_right {k = b * t} (omega (arith, h)) (mul-pos hb ht) in
    le_of_mul-le-mul_right {k = s} (omega (arith, i, mul-le-mul_left a reach)) hs

-- less than 2 above, where E·S_n ≤ 2^40
most : (a b s t E p : ℕ) → 0 < b → 0 < s → 0 < t → E * s ≤ 2 ^ 40 * t → (a * (1 * t) + p * s * b) * (b * 1 * t) ≤ (a * 1 + 2 * b) * s * (b * (1 * t)) → a * E + 2 ^ 40 * p * b ≤ 2 ^ 40 * (a + 2 * b)
most a b s t E p hb hs ht below h =
    let i : a * t + p * s * b ≤ (a + 2 * b) * s = le_of_mul-le-mul_right {k = b * t} (omega (arith, h)) (mul-pos hb ht) in
    le_of_mul-le-mul_right {k = s} (omega (arith, i, mul-le-mul_left a below)) hs

-- D = a/b, N = c/d, S_n = s/t: at or above, where E·S_n ≤ 2^40
load_least : (a b c d s t E w : ℕ) → 0 < b → 0 < s → 0 < t → E * s ≤ 2 ^ 40 * t → (a * (d * t) + c * s * b) * (1 * b * t) ≤ (w * b + a * 1) * s * (b * (d * t))
    → a * d * E + 2 ^ 40 * (c * b) ≤ 2 ^ 40 * ((w * b + a) * d)
load_least a b c d s t E w hb hs ht below h =
    let i : a * d * t + c * s * b ≤ (w * b + a) * s * d = le_of_mul-le-mul_right {k = b * t} (omega (arith, h)) (mul-pos hb ht) in
    le_of_mul-le-mul_right {k = s} (omega (arith, i, mul-le-mul_left (a * d) below)) hs

-- less than 2 above, where X·S_n ≥ 2^40
load_most : (a b c d s t X w : ℕ) → 0 < b → 0 < s → 0 < t → 2 ^ 40 * t ≤ X * s → (w * b + a * 1) * s * (b * (d * 1 * t)) ≤ (a * (d * 1 * t) + (c * 1 + 2 * d) * s * b) * (1 * b * t)
    → 2 ^ 40 * ((w * b + a) * d) ≤ a * d * X + 2 ^ 40 * ((c + 2 * d) * b)
load_most a b c d s t X w hb hs ht reach h =
    let i : (w * b + a) * s * d ≤ a * d * t + (c + 2 * d) * s * b = le_of_mul-le-mul_right {k = b * t} (omega (arith, h)) (mul-pos hb ht) in
    le_of_mul-le-mul_right {k = s} (omega (arith, i, mul-le-mul_left (a * d) reach)) hs

left : (m n : ℕ) → m < n → n < m + 3 → (n ≡ m + 1) ⊎ (n ≡ m + 2)
left m n h i = go (dec_lt n (m + 2))
  where
    go : Dec (n < m + 2) → (n ≡ m + 1) ⊎ (n ≡ m + 2)
    go (yes j) = inl (omega arith)
    go (no j) = inr (omega arith)

-- n·b is less than m·b only where n is less than m
under : (n m b : ℕ) → n * b < m * b → n < m
under n m b h = go (dec_lt n m)
  where
    go : Dec (n < m) → n < m
    go (yes j) = j
    go (no j) = let k : b * m ≤ b * n = mul-le-mul_left b (omega (arith, j)) in omega (arith, h, k)

module _ (k : Kind) (s : Section) (p : Grain) (z : ℕ) (i : InRange s p) (d : InDepth s z) (positive : 0 < z) where
  abbrev P_top : ℕ
  P_top = (P k s p).top

  abbrev P_bottom : ℕ
  P_bottom = (P k s p).bottom

  abbrev E_at : ℕ
  E_at = decay (step (factors k) s p) z

  pub filling_pair : (m n : ℕ) → (E_at + 512) * P_top + 2 ^ 40 * (m * P_bottom) < 2 ^ 40 * P_top → 2 ^ 40 * (P_top + 2 * P_bottom) < P_top * E_at + 2 ^ 40 * ((m + 3) * P_bottom)
      → FillingBand (whole 2) k s p z n → (n ≡ m + 1) ⊎ (n ≡ m + 2)
  filling_pair m n low high band =
      let r = decay_reaches k s p i z d in
      let e = S_one r.0 (q (factors k) s p z) (q_pos s p i k z) in
      let f = band.above r.0 in
      let c = band.close positive in
      let g = S_one c.0 (q (factors k) s p z) (q_pos s p i k z) in
      let u : 2 ^ 40 * P_top ≤ (E_at + 512) * P_top + 2 ^ 40 * n * P_bottom =
      least P_top P_bottom (S r.0 (q (factors k) s p z)).top (S r.0 (q (factors k) s p z)).bottom (E_at + 512) n (pos_left _ _ f.left) (omega (arith, e.right, e.order)) e.right (omega (arith, r.1.order)) f.order in
      let v : P_top * E_at + 2 ^ 40 * n * P_bottom ≤ 2 ^ 40 * (P_top + 2 * P_bottom) =
      most P_top P_bottom (S c.0 (q (factors k) s p z)).top (S c.0 (q (factors k) s p z)).bottom E_at n (pos_left _ _ f.left) (omega (arith, g.right, g.order)) g.right (omega (arith, (decay_below k s p i z d c.0).order)) c.1.order in
      left m n (under m n P_bottom (omega (arith, low, u))) (under n (m + 3) P_bottom (omega (arith, high, v)))

module _ (s : Section) (p : Grain) (z : ℕ) (i : InRange s p) (d : InDepth s z) where
  abbrev D_top : ℕ
  D_top = (D s p).top

  abbrev D_bottom : ℕ
  D_bottom = (D s p).bottom

  abbrev N_top : ℕ
  N_top = (N s p z).top

  abbrev N_bottom : ℕ
  N_bottom = (N s p z).bottom

  abbrev E_wall : ℕ
  E_wall = decay (step (factors wall_friction) s p) z

  pub wall_load_pair : (m n : ℕ) → 2 ^ 40 * ((m * D_bottom + D_top) * N_bottom) < D_top * N_bottom * E_wall + 2 ^ 40 * (N_top * D_bottom) → D_top * N_bottom * (E_wall + 512) + 2 ^ 40 * ((N_top + 2 * N_bottom) * D_bottom) < 2 ^ 40 * (((m + 3) * D_bottom + D_top) * N_bottom)
      → WallLoadBand s p z n → (n ≡ m + 1) ⊎ (n ≡ m + 2)
  wall_load_pair m n low high band =
      let r = decay_reaches wall_friction s p i z d in
      let e = S_one r.0 (q (factors wall_friction) s p z) (q_pos s p i wall_friction z) in
      let f = band.close r.0 in
      let c = band.above in
      let g = S_one c.0 (q (factors wall_friction) s p z) (q_pos s p i wall_friction z) in
      let u : D_top * N_bottom * E_wall + 2 ^ 40 * (N_top * D_bottom) ≤ 2 ^ 40 * ((n * D_bottom + D_top) * N_bottom) =
      load_least D_top D_bottom N_top N_bottom (S c.0 (q (factors wall_friction) s p z)).top (S c.0 (q (factors wall_friction) s p z)).bottom E_wall n (pos_left _ _ c.1.left) (omega (arith, g.right, g.order)) g.right (omega (arith, (decay_below wall_friction s p i z d c.0).order)) c.1.order in
      let v : 2 ^ 40 * ((n * D_bottom + D_top) * N_bottom) ≤ D_top * N_bottom * (E_wall + 512) + 2 ^ 40 * ((N_top + 2 * N_bottom) * D_bottom) =
      load_most D_top D_bottom N_top N_bottom (S r.0 (q (factors wall_friction) s p z)).top (S r.0 (q (factors wall_friction) s p z)).bottom (E_wall + 512) n (pos_left _ _ c.1.left) (omega (arith, e.right, e.order)) e.right (omega (arith, r.1.order)) f.order in
      left m n (under m n (D_bottom * N_bottom) (omega (arith, low, u))) (under n (m + 3) (D_bottom * N_bottom) (omega (arith, high, v)))

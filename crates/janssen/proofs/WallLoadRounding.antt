-- Why the rounded P_w lies in its band, for any sum s/t of the series and any whole E that stands for 2^40·e^(-q). In whole numbers:
-- γR = A/B in Pa, z0 = u/v in m, L = ⌈γR·2^11⌉, Z = ⌊z0·1000·2^11⌋, C stands for 2^40·(1 - e^(-q)) from below, X = ⌊Z·C/2^40⌋,
-- G = z·2^11 - X, w = ⌈L·G/(2^22·1000)⌉. The comparisons of document 01 are multiplied by B·v·1000·t.
use Prim.Native.Nat.{ℕ, ◌+◌, ◌*◌, ◌^◌, ◌≤◌}
use mathlib.Core.Path.{◌≡◌, ap}
use native.Mathlib.Omega.{arith}
use native.Mathlib.Nat.{mul-le-mul_left, mul-le-mul_right}

module _ (A B u v L Z C X G w z s t : ℕ) where
  pub load_above : (Y : ℕ) → Y + C ≡ 2 ^ 40 → A * 2048 ≤ L * B → Z * v ≤ u * 2048000 → X * 2 ^ 40 ≤ Z * C → z * 2048 ≤ G + X →
      L * G ≤ w * 4194304000 → 2 ^ 40 * t ≤ Y * s →
      A * u * 1000 * t + A * z * v * s ≤ (w * B * v * 1000 + A * u * 1000) * s
  load_above Y e hL hZ hX hG hw hs =
      let k₁ : A * G * v ≤ w * B * v * 2048000 = omega (arith, mul-le-mul_right (B * v) hw, mul-le-mul_right (G * v) hL) in
      let k₂ : A * X * v * 2 ^ 40 ≤ A * u * C * 2048000 = omega (arith, mul-le-mul_left (A * v) hX, mul-le-mul_left (A * C) hZ) in
      let k₃ : 2 ^ 40 * (A * z * v) ≤ 2 ^ 40 * (w * B * v * 1000) + A * u * C * 1000 = omega (arith, mul-le-mul_left (A * v) hG) in
      omega (arith, mul-le-mul_right s k₃, mul-le-mul_left (A * u) hs, ap (λ (x : ℕ). A * u * s * x) e)

  pub load_close : (E : ℕ) → 2 ^ 40 ≤ C + 2048 + E → C ≤ 2 ^ 40 → L * B ≤ A * 2048 + B → u * 2048000 ≤ Z * v + v → Z * C ≤ X * 2 ^ 40 + 2 ^ 40 →
      G + X ≡ z * 2048 → z ≤ 2 ^ 17 → w * 4194304000 ≤ L * G + 4194304000 → E * s ≤ 2 ^ 40 * t → A ≤ 375000 * B → A * u ≤ 177300000 * (B * v) →
      (w * B * v * 1000 + A * u * 1000) * s ≤ A * u * 1000 * t + (A * z * v + 2 * B * v * 1000) * s
  load_close E e c hL hZ hX hG hz hw hs hA hD =
      let g : G ≤ 2 ^ 28 = omega arith in
      let k₁ : w * B * v * 4194304000 ≤ A * G * v * 2048 + B * v * (2 ^ 28 + 4194304000) =
      omega (arith, mul-le-mul_right (B * v) hw, mul-le-mul_right (G * v) hL, mul-le-mul_left (B * v) g) in
      let k₂ : A * u * C * 2048000 ≤ A * X * v * 2 ^ 40 + A * v * 2 ^ 41 =
      omega (arith, mul-le-mul_left (A * v) hX, mul-le-mul_left (A * C) hZ, mul-le-mul_left (A * v) c) in
      let k₃ : 2 ^ 40 * (w * B * v * 1000) + A * u * C * 1000 ≤ 2 ^ 40 * (A * z * v) + 2 ^ 30 * (A * v) + 2 ^ 40 * (B * v * 1064) =
      omega (arith, ap (λ (x : ℕ). A * v * x) hG) in
      let k₄ : 2 ^ 40 * (w * B * v * 1000 + A * u * 1000) ≤ A * u * E * 1000 + 2 ^ 40 * (A * z * v + 2 * B * v * 1000) =
      omega (arith, mul-le-mul_left (A * u) e, mul-le-mul_right v hA) in
      omega (arith, mul-le-mul_right s k₄, mul-le-mul_left (A * u) hs)

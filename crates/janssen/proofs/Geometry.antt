-- R, z0, q and P in whole numbers: each is a fraction of products of the sheet's numbers, with a positive bottom, and inside the
-- ranges q stays under 52.9 and P under 2^25 - 2^20.
use Prim.Native.Nat.{ℕ, ◌+◌, ◌-◌, ◌*◌, ◌^◌, ◌≤◌, ◌<◌}
use mathlib.Core.Path.{◌≡◌}
use native.Mathlib.Omega.{arith}
use native.Mathlib.Nat.{le_trans, mul-le-mul, mul-le-mul_left, mul-le-mul_right, mul-pos, min-le_left, min-le_right}
use Rattle.janssen.specs.declared.Section.{Section}
use Rattle.janssen.specs.Section.{side_a, side_b, d_c, R}
use Rattle.janssen.specs.Filling.{Grain, Kind, factors, Ks, μ, z0, q, γR, P}
use Rattle.janssen.specs.Filling.Kind.{horizontal, vertical, wall_friction}
use Rattle.janssen.specs.program.Range.{InRange, InDepth}

-- the product of a row's two factors, in 25/10,000: 1.15·0.9, 0.9², 1.15²
abbrev pub row : Kind → ℕ
row horizontal = 414
row vertical = 324
row wall_friction = 529

-- q = z·row·Ks·μ·(a + b) / (2,000,000·a·b), with Ks and μ in hundredths and lengths in mm
abbrev pub q_top : Kind → Section → Grain → ℕ
q_top k s p = row k * (p.ratio * p.friction) * (side_a s + side_b s)

abbrev pub q_bottom : Section → ℕ
q_bottom s = 2000000 * (side_a s * side_b s)

-- P = times·γ·a·b / (over·(a + b)·by): γ·a·b / (18·(a + b)·μ), 500·γ·a·b / (81·(a + b)·μ·Ks), γ·a·b / (2,000·(a + b))
abbrev pub P_times : Kind → ℕ
P_times horizontal = 1
P_times vertical = 500
P_times wall_friction = 1

abbrev pub P_over : Kind → ℕ
P_over horizontal = 18
P_over vertical = 81
P_over wall_friction = 2000

abbrev pub P_by : Kind → Grain → ℕ
P_by horizontal p = p.friction
P_by vertical p = p.ratio * p.friction
P_by wall_friction p = 1

abbrev pub P_top : Kind → Section → Grain → ℕ
P_top k s p = P_times k * (p.weight * (side_a s * side_b s))

abbrev pub P_bottom : Kind → Section → Grain → ℕ
P_bottom k s p = P_over k * ((side_a s + side_b s) * P_by k p)

-- the most that each pressure can be, Pa
abbrev pub most : Kind → ℕ
most horizontal = 4166667
most vertical = 23148149
most wall_friction = 375000

pub most_small : (k : Kind) → most k ≤ 2 ^ 25 - 2 ^ 20
most_small horizontal = omega arith
most_small vertical = omega arith
most_small wall_friction = omega arith

row_most : (k : Kind) → row k ≤ 529
row_most horizontal = omega arith
row_most vertical = omega arith
row_most wall_friction = omega arith

module _ (s : Section) (p : Grain) (i : InRange s p) where
  a_pos : 0 < side_a s
  a_pos = omega (arith, i.a_in.least)

  b_pos : 0 < side_b s
  b_pos = omega (arith, i.b_in.least)

  ab_pos : 0 < side_a s * side_b s
  ab_pos = mul-pos a_pos b_pos

  sides_most : side_a s * side_b s ≤ 25000 * (side_a s + side_b s)
  sides_most = omega (arith, mul-le-mul_left (side_a s) i.b_in.most, mul-le-mul_right (side_b s) i.a_in.most)

  -- so γ·a·b ≤ 30,000·25,000·(a + b)
  weight_sides : p.weight * (side_a s * side_b s) ≤ 750000000 * (side_a s + side_b s)
  weight_sides = omega (arith, mul-le-mul i.γ_in.most sides_most)

  -- (a + b)·μ ≥ 10·(a + b), (a + b)·μ·Ks ≥ 200·(a + b)
  sides_least :
      ((side_a s + side_b s) * 10 ≤ (side_a s + side_b s) * p.friction) ×
      ((side_a s + side_b s) * 200 ≤ (side_a s + side_b s) * (p.friction * p.ratio))
  sides_least = (
    mul-le-mul_left (side_a s + side_b s) i.μ_in.least,
    mul-le-mul_left (side_a s + side_b s) (mul-le-mul i.μ_in.least i.Ks_in.least),
  )

  -- d_c
  pub d_c_positive : 0 < d_c s
  unfolding d_c
  d_c_positive = omega (arith, a_pos, b_pos)

  pub d_c_most : d_c s ≤ 50000
  unfolding d_c
  d_c_most = omega (arith, i.a_in.most)

  -- z·(a + b) ≤ 20·a·b less than ten widths down
  depth_sides : (z : ℕ) → InDepth s z → (side_a s + side_b s) * z ≤ 20 * (side_a s * side_b s)
  unfolding d_c
  depth_sides z d =
      let ha : z ≤ 10 * side_a s = omega (arith, d.below_ten, min-le_left (side_a s) (side_b s)) in
      let hb : z ≤ 10 * side_b s = omega (arith, d.below_ten, min-le_right (side_a s) (side_b s)) in
      omega (arith, mul-le-mul_left (side_a s) hb, mul-le-mul_left (side_b s) ha)

  pub q_bottom_pos : 0 < q_bottom s
  q_bottom_pos = omega (arith, ab_pos)

  pub q_pos : (k : Kind) (z : ℕ) → 0 < (q (factors k) s p z).bottom
  unfolding q z0 Ks μ R
  q_pos horizontal z = omega (arith, ab_pos)
  q_pos vertical z = omega (arith, ab_pos)
  q_pos wall_friction z = omega (arith, ab_pos)

  pub q_is : (k : Kind) (z : ℕ) → (q (factors k) s p z).top * q_bottom s ≡ z * q_top k s p * (q (factors k) s p z).bottom
  unfolding q z0 Ks μ R
  q_is horizontal z = omega arith
  q_is vertical z = omega arith
  q_is wall_friction z = omega arith

  pub R_pos : 0 < (R s).bottom
  unfolding R
  R_pos = omega (arith, a_pos)

  pub γR_pos : 0 < (γR s p).bottom
  unfolding γR R
  γR_pos = omega (arith, a_pos)

  pub P_pos : (k : Kind) → 0 < (P k s p).bottom
  unfolding P γR R Ks μ
  P_pos horizontal = omega (arith, a_pos, sides_least)
  P_pos vertical = omega (arith, a_pos, sides_least)
  P_pos wall_friction = omega (arith, a_pos)

  pub P_bottom_pos : (k : Kind) → 0 < P_bottom k s p
  P_bottom_pos horizontal = omega (arith, a_pos, sides_least)
  P_bottom_pos vertical = omega (arith, a_pos, sides_least)
  P_bottom_pos wall_friction = omega (arith, a_pos)

  pub q_top_pos : 0 < q_top wall_friction s p
  q_top_pos = omega (arith, a_pos, sides_least)

  pub P_is : (k : Kind) → (P k s p).top * P_bottom k s p ≡ P_top k s p * (P k s p).bottom
  unfolding P γR R Ks μ
  P_is horizontal = omega arith
  P_is vertical = omega arith
  P_is wall_friction = omega arith

  -- P is at most what it is for the widest section, the heaviest product and the least Ks and μ
  pub P_most : (k : Kind) → (P k s p).top ≤ most k * (P k s p).bottom
  unfolding P γR R Ks μ
  P_most horizontal = omega (arith, weight_sides, sides_least)
  P_most vertical = omega (arith, weight_sides, sides_least)
  P_most wall_friction = omega (arith, weight_sides)

  pub P_small : (k : Kind) → (P k s p).top ≤ (2 ^ 25 - 2 ^ 20) * (P k s p).bottom
  P_small k = le_trans (P_most k) (mul-le-mul_right (P k s p).bottom (most_small k))

  pub q_small : (k : Kind) (z : ℕ) → InDepth s z → 10 * (z * q_top k s p) ≤ 529 * q_bottom s
  q_small k z d =
      omega (
        arith,
        mul-le-mul (mul-le-mul (row_most k) (mul-le-mul i.Ks_in.most i.μ_in.most)) (depth_sides z d),
      )

  -- z0 and D for P_w
  pub z0_pos : 0 < (z0 (factors wall_friction) s p).bottom
  unfolding z0 R Ks μ
  z0_pos = omega (arith, a_pos, sides_least)

  pub γR_most : (γR s p).top ≤ 375000 * (γR s p).bottom
  unfolding γR R
  γR_most = omega (arith, weight_sides)

  -- D is below 177,300,000 N/m
  pub D_most : (γR s p).top * (z0 (factors wall_friction) s p).top ≤ 177300000 * ((γR s p).bottom * (z0 (factors wall_friction) s p).bottom)
  unfolding γR z0 R Ks μ
  D_most =
      omega (arith, mul-le-mul weight_sides sides_most, mul-le-mul_left (side_a s + side_b s) sides_least.1)

  -- z0 = 2,000,000·a·b / (529·(a + b)·Ks·μ) mm
  pub z0_is : (z0 (factors wall_friction) s p).top * 1000 * q_top wall_friction s p ≡ q_bottom s * (z0 (factors wall_friction) s p).bottom
  unfolding z0 R Ks μ
  z0_is = omega arith

  -- z0 is below 2^25 mm
  pub z0_small : q_bottom s * 2048 ^ 1 < 2 ^ 36 * q_top wall_friction s p
  z0_small = omega (arith, a_pos, sides_most, sides_least)

  -- q for each mm of P_w's row is between 2.116·10^-6 and 0.01058
  pub q_least : 2116 * q_bottom s ≤ 1000000000 * q_top wall_friction s p
  q_least = omega (arith, sides_most, sides_least)

  pub q_most : 100000 * q_top wall_friction s p ≤ 1058 * q_bottom s
  q_most =
      omega (
        arith,
        mul-le-mul_right (side_a s + side_b s) (mul-le-mul i.Ks_in.most i.μ_in.most),
        mul-le-mul_left (side_a s) i.b_in.least,
        mul-le-mul_right (side_b s) i.a_in.least,
      )

  pub γR_top_pos : 0 < P_top wall_friction s p
  γR_top_pos = omega (arith, mul-pos {m = p.weight} (omega (arith, i.γ_in.least)) ab_pos)

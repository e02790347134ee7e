-- P_w never falls with depth (`wall_load_rises`). From z to z + 1 mm the loaded depth G (2^-11 mm) does not fall where E, which stands
-- for 2^40·e^(-q), falls by at most 2^51/z0. It falls by at most (Q' - Q)/2^33 of itself, and by the c that it may lie below
-- 2^40·e^(-q). Q' - Q is q of one mm, rounded by at most a unit, so (c + 129)·z0 ≤ 2^11·(2^40 - E) is enough. c is 354, or 82 in the
-- table's first interval, where 2^40 - E below 2^28 puts it. Where even 211·z0 exceeds 2^11·(2^40 - E), close to the surface, G is at
-- most 5 and P_w at most 1; and from 1 mm on G is at least 1, and so is P_w.
use Prim.Native.Nat.{ℕ, zero, suc, ◌+◌, ◌-◌, ◌*◌, ◌/◌, ◌^◌, ◌≤◌, ◌<◌}
use mathlib.Core.Path.{◌≡◌}
use native.Mathlib.Omega.{arith}
use native.Mathlib.Decide.{dec_le}
use native.Mathlib.Nat.{add-zero, le_refl, le_trans, mul-le-mul, mul-le-mul_left, mul-le-mul_right, mul-pos, div-mul-le_self, lt-div-mul-add, le_of_mul-le-mul_right, lt_of_mul-lt-mul_right}
use Rattle.fraction.specs.Fraction.{◌⊘◌, up}
use Rattle.fraction.proofs.Order.{compare}
use Rattle.fraction.proofs.Up.{up_ge, up_lt, up_le, up_mono}
use Rattle.exponential.specs.program.Lower.{lower}
use Rattle.exponential.proofs.LowerLaws.{Reaches, lower_falls, lower_le}
use Rattle.exponential.proofs.LowerDrop.{lower_anywhere, lower_first, lower_drop, lower_line, lower_once, lower_twice}
use Rattle.janssen.specs.declared.Section.{Section}
use Rattle.janssen.specs.Filling.{Grain, factors}
use Rattle.janssen.specs.Filling.Kind.{wall_friction}
use Rattle.janssen.specs.program.Range.{InRange, InDepth}
use Rattle.janssen.specs.program.Pressure.{step, limit, decay_by, z0_scaled, least_gone, loaded_depth, load, wall_load_by, wall_load}
use Rattle.janssen.proofs.Geometry.{q_top, q_bottom, q_top_pos, q_bottom_pos, q_least, q_most, P_top, P_bottom, γR_top_pos, P_bottom_pos}
use Rattle.janssen.proofs.Argument.{argument_rises}
use Rattle.janssen.proofs.FillingLaws.{Q_small, limit_most}
use Rattle.janssen.proofs.PreparedNumbers.{step_is, limit_is, z0_scaled_is}

-- the load of a loaded depth
load_mono : (L : ℕ) {G G' : ℕ} → G ≤ G' → load L G ≤ load L G'
unfolding load
load_mono L h = up_mono (compare (omega arith) (omega arith) (mul-le-mul_right (2 ^ 22 * 1000) (mul-le-mul_left L h)))

load_small : (L G : ℕ) → L ≤ 768000000 → G ≤ 5 → load L G ≤ 1
unfolding load
load_small L G hL hG = up_le (L * G) (2 ^ 22 * 1000) 1 (omega arith) (omega (arith, mul-le-mul hL hG))

load_positive : (L G : ℕ) → 0 < L → 0 < G → 0 < load L G
unfolding load
load_positive L G hL hG = omega (arith, up_ge (L * G) (2 ^ 22 * 1000) (omega arith), mul-pos hL hG)

-- step T and z0 Z in 2^-11 mm: Z·T is 2^66 but for rounding
record Scaled (T Z : ℕ) : Type 0 where
  product_most : Z * T ≤ 2 ^ 66 + Z
  product_least : 2 ^ 66 ≤ (Z + 1) * T
  step_least : 76000000000 ≤ T
  step_most : T ≤ 400000000000000

-- the loaded depth rises where E falls by at most 2^51 / Z
depth_rises : (Z E E' z : ℕ) → E' ≤ E → E * Z ≤ E' * Z + 2 ^ 51 → loaded_depth Z E z ≤ loaded_depth Z E' (z + 1)
unfolding loaded_depth
depth_rises Z E E' z f h =
    let C : ℕ = least_gone E in
    let C' : ℕ = least_gone E' in
    let c : C' + E' ≤ C + E = omega arith in
    let k : Z * C' ≤ Z * C + 2 ^ 51 = omega (arith, mul-le-mul_left Z c) in
    omega arith

module _ (T Z : ℕ) (r : Scaled T Z) where
  z0_most : Z ≤ 971000000
  z0_most = omega (arith, r.product_most, mul-le-mul_left Z r.step_least)

  -- (c + 129)·Z ≤ 2^11·(2^40 - E) is enough
  slow : (E E' D c : ℕ) → D * 2 ^ 22 ≤ T + 2 ^ 22 → E ≤ 2 ^ 40 → E * 2 ^ 33 ≤ (E' + c) * 2 ^ 33 + E * D →
      (c + 129) * Z + 2 ^ 11 * E ≤ 2 ^ 51 → E * Z ≤ E' * Z + 2 ^ 51
  slow E E' D c hD hE drop h =
      let k₁ : E * Z * D * 2 ^ 22 ≤ E * 2 ^ 66 + E * Z * (2 ^ 22 + 1) =
      omega (arith, mul-le-mul_left (E * Z) hD, mul-le-mul_left E r.product_most) in
      let k₂ : E * Z * D ≤ E * 2 ^ 44 + (2 ^ 40 + 2 ^ 18) * Z = omega (arith, mul-le-mul_right Z hE) in
      omega (arith, mul-le-mul_right Z drop)

  -- where that fails at c = 82, the loaded depth is at most 5
  shallow : (E Q z : ℕ) → 2 ^ 51 < 211 * Z + 2 ^ 11 * E → z * T ≤ Q * 2 ^ 22 → E * (2 ^ 33 + Q) ≤ 2 ^ 73 →
      E * 2 ^ 27 + 2 ^ 34 * Q ≤ 2 ^ 67 + Q * Q → loaded_depth Z E z ≤ 5
  unfolding loaded_depth
  shallow E Q z near hQ once twice =
      let C : ℕ = least_gone E in
      let e : 2 ^ 40 - 100040000 ≤ E = omega (arith, z0_most) in
      let q : Q ≤ 782000 = omega (arith, mul-le-mul_right Q e) in
      let square : Z * (Q * Q) ≤ 971000000 * (782000 * 782000) = mul-le-mul z0_most (mul-le-mul q q) in
      let reach : 2 ^ 66 * z ≤ (Z + 1) * (Q * 2 ^ 22) =
      omega (arith, mul-le-mul_right z r.product_least, mul-le-mul_left (Z + 1) hQ) in
      let c : Z * (2 ^ 40) ≤ Z * (C + 512 + E) = mul-le-mul_left Z (omega arith) in
      let all : 2 ^ 78 * z ≤ 2 ^ 27 * (Z * C) + 2 ^ 36 * Z + 971000000 * (782000 * 782000) + 2 ^ 34 * 782000 =
      omega (arith, mul-le-mul_left Z twice) in
      omega (arith, z0_most)

  -- from 1 mm on it is at least 1
  deep : (E Q z : ℕ) → 2 ^ 40 ≤ E + 354 + 128 * Q → Q * 2 ^ 22 < z * T + 2 ^ 22 → 0 < z → z ≤ 2 ^ 17 → 0 < loaded_depth Z E z
  unfolding loaded_depth
  deep E Q z line hQ pos most = go (dec_le (2 ^ 40) (E + 512))
    where
      go : Dec (2 ^ 40 ≤ E + 512) → 0 < z * 2 ^ 11 - Z * least_gone E / 2 ^ 40
      go (yes l) = let none : least_gone E ≡ 0 = omega arith in rw none (omega arith)
      go (no l) =
          let C : ℕ = least_gone E in
          let c : 2 ^ 15 * C + 30 * 2 ^ 15 ≤ z * T = omega arith in
          let k : 2 ^ 15 * (Z * C) + 30 * 2 ^ 15 * Z ≤ 2 ^ 66 * z + z * Z =
          omega (arith, mul-le-mul_left Z c, mul-le-mul_left z r.product_most) in
          let room : Z * C < 2 ^ 51 * z = omega (arith, mul-le-mul_right Z most, mul-le-mul_left {m = C} {n = 2 ^ 40} Z (omega arith)) in
          omega arith

  module _ (z : ℕ) (hz : z + 1 ≤ 2 ^ 17) (small : up (((z + 1) * T) ⊘ 2 ^ 22) < 53 * 2 ^ 33) where
    abbrev Q : ℕ
    Q = up ((z * T) ⊘ 2 ^ 22)

    abbrev Q' : ℕ
    Q' = up (((z + 1) * T) ⊘ 2 ^ 22)

    Q_rises : Q ≤ Q'
    Q_rises = argument_rises z (z + 1) T (omega arith)

    Q_apart : (Q' - Q) * 2 ^ 22 ≤ T + 2 ^ 22
    Q_apart = omega (arith, up_ge (z * T) (2 ^ 22) (omega arith), up_lt ((z + 1) * T) (2 ^ 22) (omega arith))

    rises_by : (c : ℕ) → Reaches (lower Q' + c) (Q' ⊘ 2 ^ 33) → (c + 129) * Z + 2 ^ 11 * lower Q ≤ 2 ^ 51 →
        loaded_depth Z (lower Q) z ≤ loaded_depth Z (lower Q') (z + 1)
    rises_by c reach h =
        depth_rises Z (lower Q) (lower Q') z (lower_falls Q Q' Q_rises small)
        (slow (lower Q) (lower Q') (Q' - Q) c Q_apart (lower_le Q (omega (arith, Q_rises))) (lower_drop Q Q' c Q_rises small reach) h)

    -- where 2^40 - E is below 2^28 the next depth is in the first interval
    first : 2 ^ 40 < lower Q + 2 ^ 28 → Q' < 2 ^ 27
    first h =
        let e : 2 ^ 40 - 2 ^ 28 ≤ lower Q = omega arith in
        let q : Q ≤ 2100000 = omega (arith, lower_once Q (omega (arith, Q_rises)), mul-le-mul_right Q e) in
        omega (arith, Q_apart, r.step_most)

    load_next : (L : ℕ) → 0 < L → L ≤ 768000000 → load L (loaded_depth Z (lower Q) z) ≤ load L (loaded_depth Z (lower Q') (z + 1))
    load_next L hL hL' = go (dec_le (lower Q + 2 ^ 28) (2 ^ 40)) (dec_le (211 * Z + 2 ^ 11 * lower Q) (2 ^ 51))
      where
        go : Dec (lower Q + 2 ^ 28 ≤ 2 ^ 40) → Dec (211 * Z + 2 ^ 11 * lower Q ≤ 2 ^ 51) →
            load L (loaded_depth Z (lower Q) z) ≤ load L (loaded_depth Z (lower Q') (z + 1))
        go (yes far) _ = load_mono L (rises_by 354 (lower_anywhere Q' small) (omega (arith, z0_most)))
        go (no far) (yes room) = load_mono L (rises_by 82 (lower_first Q' (first (omega arith))) room)
        go (no far) (no room) =
            let s : Q < 53 * 2 ^ 33 = omega (arith, Q_rises) in
            le_trans
            (load_small L _ hL'
            (shallow (lower Q) Q z (omega arith) (up_ge (z * T) (2 ^ 22) (omega arith)) (lower_once Q s) (lower_twice Q s)))
            (load_positive L _ hL
            (deep (lower Q') Q' (z + 1) (lower_line Q' small) (up_lt ((z + 1) * T) (2 ^ 22) (omega arith)) (omega arith) hz))

-- the silo's numbers
products : (A B T Z : ℕ) → 0 < B → A * 2048 ^ 5 ≤ T * B → T * B < A * 2048 ^ 5 + B → Z * A ≤ B * 2048 ^ 1 → B * 2048 ^ 1 < Z * A + A →
    2116 * B ≤ 1000000000 * A → 100000 * A ≤ 1058 * B → Scaled T Z
products A B T Z hB above close below near least most = record {
  product_most = le_of_mul-le-mul_right {k = B} (omega (arith, mul-le-mul_left Z close, below)) hB;
  product_least = le_of_mul-le-mul_right {k = B} (omega (arith, mul-le-mul_left (Z + 1) above, near)) hB;
  step_least = le_of_mul-le-mul_right {k = B} (omega arith) hB;
  step_most = le_of_mul-le-mul_right {k = B} (omega arith) hB;
}

module _ (s : Section) (p : Grain) (i : InRange s p) where
  abbrev A : ℕ
  A = q_top wall_friction s p

  abbrev B : ℕ
  B = q_bottom s

  scaled : Scaled (step (factors wall_friction) s p) (z0_scaled s p)
  scaled =
      rw (step_is s p i wall_friction, z0_scaled_is s p i)
      (products A B (up ((A * 2048 ^ 5) ⊘ B)) (B * 2048 ^ 1 / A) (q_bottom_pos s p i)
      (up_ge (A * 2048 ^ 5) B (q_bottom_pos s p i))
      (up_lt (A * 2048 ^ 5) B (q_bottom_pos s p i))
      (div-mul-le_self (B * 2048 ^ 1) A)
      (lt-div-mul-add {a = B * 2048 ^ 1} {b = A} (q_top_pos s p i))
      (q_least s p i)
      (q_most s p i))

  limit_positive : 0 < limit wall_friction s p
  limit_positive =
      rw (limit_is s p i wall_friction)
      (lt_of_mul-lt-mul_right (P_bottom wall_friction s p)
      (le_trans (omega (arith, γR_top_pos s p i)) (up_ge (P_top wall_friction s p * 2048 ^ 1) (P_bottom wall_friction s p) (P_bottom_pos s p i wall_friction))))

  -- one mm deeper
  wall_load_next : (z : ℕ) → InDepth s (z + 1) → wall_load s p z ≤ wall_load s p (z + 1)
  unfolding wall_load_by decay_by
  wall_load_next z d =
      load_next (step (factors wall_friction) s p) (z0_scaled s p) scaled z d.wall (Q_small wall_friction s p i (z + 1) d)
      (limit wall_friction s p) limit_positive (limit_most wall_friction s p i)

  wall_load_deeper : (n z : ℕ) → InDepth s (z + n) → wall_load s p z ≤ wall_load s p (z + n)
  wall_load_deeper zero z d = rw add-zero (le_refl (wall_load s p z))
  wall_load_deeper (suc n) z d =
      let e : z + suc n ≡ z + n + 1 = omega arith in
      le_trans
      (wall_load_deeper n z (record { below_ten = omega (arith, d.below_ten); wall = omega (arith, d.wall) }))
      (rw e (wall_load_next (z + n) (rw e at d)))

-- a greater depth never has the smaller load
pub wall_load_rises : (s : Section) (p : Grain) (z z' : ℕ) → InRange s p → InDepth s z' → z ≤ z' → wall_load s p z ≤ wall_load s p z'
wall_load_rises s p z z' i d h =
    let e : z + (z' - z) ≡ z' = omega arith in rw e at (wall_load_deeper s p i (z' - z) z (rw e d))

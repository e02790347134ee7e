-- What the prepared numbers and a depth in range give each call on the way to the filling loads: nothing overflows, and Q stays
-- under 53·2^33.
use Prim.Native.Nat.{ℕ, ◌-◌, ◌*◌, ◌^◌, ◌≤◌, ◌<◌}
use native.Mathlib.Omega.{arith}
use native.Mathlib.Nat.{le_of_lt, mul-le-mul, div-lt_iff_lt-mul}
use Rattle.fraction.specs.Fraction.{◌⊘◌, up}
use Rattle.fraction.proofs.Up.{up_ge, up_le}
use Rattle.janssen.specs.declared.Section.{Section}
use Rattle.janssen.specs.Filling.{Grain, Kind, factors}
use Rattle.janssen.specs.Filling.Kind.{horizontal, vertical, wall_friction}
use Rattle.janssen.specs.program.Range.{InRange, InDepth}
use Rattle.janssen.specs.program.Pressure.{step}
use Rattle.janssen.specs.program.Prepare.{curve, prepared_for, Reaches, AllReach}
use Rattle.janssen.proofs.Geometry.{q_top_pos, most_small, z0_small}
use Rattle.janssen.proofs.FillingLaws.{Q_small, limit_most}
use Rattle.janssen.proofs.PreparedNumbers.{z0_scaled_is}

pub pressure_fits : (L E : ℕ) → L ≤ 2 ^ 36 - 2 ^ 11 → up ((L * (2 ^ 40 - E)) ⊘ 2 ^ 51) ≤ 2 ^ 25 - 1
pressure_fits L E h =
    up_le (L * (2 ^ 40 - E)) (2 ^ 51) (2 ^ 25 - 1) (omega arith)
    (omega (arith, mul-le-mul {m₁ = 2 ^ 40 - E} {m₂ = 2 ^ 40} h (omega arith)))

pub load_product : (L G : ℕ) → L < 2 ^ 30 → G ≤ 2 ^ 28 → L * G ≤ 2 ^ 58
load_product L G hL hG = omega (arith, mul-le-mul (le_of_lt hL) hG)

pub load_fits : (L G : ℕ) → L < 2 ^ 30 → G ≤ 2 ^ 28 → up ((L * G) ⊘ 4194304000) ≤ 2 ^ 27
load_fits L G hL hG = up_le (L * G) 4194304000 (2 ^ 27) (omega arith) (omega (arith, load_product L G hL hG))

module _ (s : Section) (p : Grain) (z : ℕ) (i : InRange s p) (d : InDepth s z) where
  pub curve_reaches : (k : Kind) → Reaches (curve k s p) z
  curve_reaches k =
      let Q = Q_small k s p i z d in
      record {
        product_fits = omega (arith, up_ge (z * step (factors k) s p) (2 ^ 22) (omega arith));
        argument_small = Q;
        limit_small = omega (arith, limit_most k s p i, most_small k);
      }

  -- what is prepared for a section and a product in range reaches every depth in range
  pub all_reach : AllReach (prepared_for s p) z
  all_reach =
      record {
        horizontal_reaches = curve_reaches horizontal;
        vertical_reaches = curve_reaches vertical;
        friction_reaches = curve_reaches wall_friction;
        friction_limit = omega (arith, limit_most wall_friction s p i);
        z0_fits = rw (z0_scaled_is s p i) ((div-lt_iff_lt-mul (q_top_pos s p i)).1 (z0_small s p i));
        depth_fits = d.wall;
      }

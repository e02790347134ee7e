-- What is prepared once for a section and a product, and the filling loads at a depth, as the program holds them.
use Rattle.std.specs.Prelude.{ℕ, ◌-◌, ◌*◌, ◌^◌, ◌≤◌, ◌<◌}
use Rattle.fraction.specs.Fraction.{◌⊘◌, up}
use Rattle.janssen.specs.declared.Section.{Section}
use Rattle.janssen.specs.declared.Curve.{Curve}
use Rattle.janssen.specs.declared.Prepared.{Prepared}
use Rattle.janssen.specs.declared.FillingLoads.{FillingLoads}
use Rattle.janssen.specs.Filling.{Grain, Kind, factors}
use Rattle.janssen.specs.Filling.Kind.{horizontal, vertical, wall_friction}
use Rattle.janssen.specs.program.Pressure.{step, limit, decay, pressure, z0_scaled, loaded_depth, load}

abbrev pub curve : Kind → Section → Grain → Curve
curve k s p = record { step = step (factors k) s p; limit = limit k s p }

abbrev pub prepared_for : Section → Grain → Prepared
prepared_for s p = record {
  horizontal = curve horizontal s p;
  vertical = curve vertical s p;
  wall_friction = curve wall_friction s p;
  z0 = z0_scaled s p;
}

-- the pressure of a curve at the depth z mm, Pa
abbrev pub pressure_on : Curve → ℕ → ℕ
pressure_on of z = pressure of.limit (decay of.step z)

-- p_hf, p_wf, p_vf in Pa and P_w in N/m at the depth z mm
abbrev pub loads_on : Prepared → ℕ → FillingLoads
loads_on of z = record {
  horizontal = record { 0 = pressure_on of.horizontal z };
  wall_friction = record { 0 = pressure_on of.wall_friction z };
  vertical = record { 0 = pressure_on of.vertical z };
  wall_load = record { 0 = load of.wall_friction.limit (loaded_depth of.z0 (decay of.wall_friction.step z) z) };
}

-- a curve reaches the depth z: nothing overflows, q stays under 53, and the pressure below 2^25 Pa
pub record Reaches (of : Curve) (z : ℕ) : Type 0 where
  pub product_fits : z * of.step < 2 ^ 64
  pub argument_small : up ((z * of.step) ⊘ 2 ^ 22) < 53 * 2 ^ 33
  pub limit_small : of.limit ≤ 2 ^ 36 - 2 ^ 11

-- all that is prepared does
pub record AllReach (of : Prepared) (z : ℕ) : Type 0 where
  pub horizontal_reaches : Reaches of.horizontal z
  pub vertical_reaches : Reaches of.vertical z
  pub friction_reaches : Reaches of.wall_friction z
  pub friction_limit : of.wall_friction.limit < 2 ^ 30
  pub z0_fits : of.z0 < 2 ^ 36
  pub depth_fits : z ≤ 2 ^ 17

-- p_he of a silo: 0 at the brim (`none_at_brim`), not 0 below the grain's surface (`some_by_band`), and never falling down to the wall's foot
-- (`goes_down`).
use Prim.Native.Nat.{ℕ, ◌*◌, ◌≤◌, ◌<◌}
use mathlib.Core.Path.{◌≡◌, refl}
use native.Mathlib.Nat.{mul-zero}
use native.Mathlib.Omega.{arith}
use Rattle.fraction.specs.Fraction.{Fraction, whole, up}
use Rattle.fraction.proofs.Up.{up_zero}
use Rattle.janssen.specs.Filling.Kind.{horizontal}
use Rattle.janssen.specs.Numbers.{FillingNumbers}
use Rattle.janssen.specs.program.Pressure.{computed}
use Rattle.janssen.proofs.Most.{band_some}
use Rattle.discharge.specs.Discharge.{magnified_load}
use Rattle.discharge.proofs.Discharge.{magnified_load_mono}
use Rattle.loads.specs.declared.Silo.{Silo}
use Rattle.loads.specs.Load.{pressure_at, load_depth, load_number, C_h}
use Rattle.loads.specs.Load.Load.{p_hf, p_he}
use Rattle.loads.specs.Holds.{InBand}
use Rattle.loads.specs.program.Basis.{Reached, Fits}
use Rattle.loads.proofs.LoadLaws.{C_h_between, C_h_moderate, holds, rises_below, load_depth_rises}
use Rattle.answers.proofs.Edges.{above_foot}
use Rattle.answers.proofs.Order.{p_he_load}

-- 0 magnified is 0, and 1 by 1 is 1
nothing : (C : Fraction) → 0 < C.bottom → magnified_load C 0 ≡ 0
unfolding magnified_load
nothing C h = rw mul-zero (up_zero (C.bottom * 1) (omega arith))

one : magnified_load (whole 1) 1 ≡ 1
unfolding magnified_load up
one = refl

module _ (c : Silo) (fits : Fits c) where
  -- by the band alone, whatever the filling pressures
  pub none_by_band : (f : FillingNumbers) → InBand horizontal c 0 (pressure_at f c horizontal 0) → load_number f c p_he 0 ≡ 0
  unfolding load_depth
  none_by_band f band = rw (band.surface (omega arith)) (nothing (C_h c) (C_h_moderate c fits).proper)

  pub some_by_band : (f : FillingNumbers) (z : ℕ) → c.headroom < z → InBand horizontal c z (pressure_at f c horizontal z) → 0 < load_number f c p_he z
  unfolding load_depth
  some_by_band f z h band =
      omega (arith, one, magnified_load_mono (C_h_between c fits).0 (band_some fits.range (omega arith) band))

  pub reached : (z : ℕ) → z ≤ c.foot → Reached c z
  reached z h = above_foot c fits.foot_reached h

  pub none_at_brim : load_number computed c p_he 0 ≡ 0
  none_at_brim = none_by_band computed (holds c fits p_hf 0 (reached 0 (omega arith)))

  pub goes_down : (y z : ℕ) → y ≤ z → z ≤ c.foot → load_number computed c p_he y ≤ load_number computed c p_he z
  goes_down y z h g = rises_below c fits y z (reached z g) p_he p_he_load (load_depth_rises c y z h)

-- What C0 enters: C_h, and through it p_he and p_p, whatever the filling pressures are. A silo with another C0 has the same grain, so the same loads of
-- filling, p_we, floor and hopper (`number_with`, `p_we_with`, `bottom_with`); one with a smaller C0 has no greater p_he and p_p (`p_he_less`,
-- `p_p_less`), slender or squat.
use Prim.Native.Nat.{ℕ, ◌≤◌}
use mathlib.Core.Path.{◌≡◌, refl}
use native.Mathlib.Nat.{le_refl}
use Rattle.fraction.specs.Fraction.{◌⪯◌}
use Rattle.janssen.specs.declared.Product.{Product}
use Rattle.janssen.specs.Section.{d_c}
use Rattle.janssen.specs.Filling.Kind.{horizontal}
use Rattle.janssen.specs.Numbers.{FillingNumbers}
use Rattle.discharge.proofs.Magnifiers.{horizontal_magnifier_mono}
use Rattle.discharge.proofs.Discharge.{magnified_load_mono, patch_load_mono}
use Rattle.loads.specs.declared.Silo.{Silo}
use Rattle.loads.specs.Load.{Load}
use Rattle.loads.specs.Load.{FillingLoad, load_depth, pressure_at, full_height, C_h, load_number, bottom_numbers}
use Rattle.loads.specs.Load.Load.{p_he, p_we, p_p}
use Rattle.loads.specs.Load.FillingLoad.{of_p_hf, of_p_wf, of_p_vf, of_P_w}
use Rattle.loads.specs.program.Basis.{Fits}
use Rattle.loads.proofs.LoadLaws.{dc_positive}

-- a product with C0 = n
abbrev pub product_with : ℕ → Product → Product
product_with n p = record { weight = p.weight; ratio = p.ratio; friction = p.friction; factor = n }

-- a silo with C0 = n
abbrev pub silo_with : ℕ → Silo → Silo
silo_with n c =
    record {
      section = c.section;
      product = product_with n c.product;
      eccentricity = c.eccentricity;
      height = c.height;
      run = c.run;
      foot = c.foot;
      headroom = c.headroom;
    }

module _ (f : FillingNumbers) (n : ℕ) (c : Silo) where
  pub number_with : {l : Load} → FillingLoad l → (depth : ℕ) → load_number f (silo_with n c) l depth ≡ load_number f c l depth
  unfolding load_depth
  number_with of_p_hf depth = refl
  number_with of_p_wf depth = refl
  number_with of_p_vf depth = refl
  number_with of_P_w depth = refl

  pub p_we_with : (depth : ℕ) → load_number f (silo_with n c) p_we depth ≡ load_number f c p_we depth
  unfolding load_depth
  p_we_with depth = refl

  -- floor and hopper
  pub bottom_with : bottom_numbers f (silo_with n c) ≡ bottom_numbers f c
  unfolding bottom_numbers load_depth
  bottom_with = refl

  module _ (fits : Fits c) (least : 100 ≤ n) (most : n ≤ c.product.factor) where
    C_h_less : C_h (silo_with n c) ⪯ C_h c
    unfolding load_depth
    C_h_less = horizontal_magnifier_mono (full_height c) (d_c c.section) (dc_positive c fits) least most

    pub p_he_less : (depth : ℕ) → load_number f (silo_with n c) p_he depth ≤ load_number f c p_he depth
    unfolding load_depth
    p_he_less depth = magnified_load_mono C_h_less (le_refl (pressure_at f c horizontal depth))

    pub p_p_less : (depth : ℕ) → load_number f (silo_with n c) p_p depth ≤ load_number f c p_p depth
    unfolding load_depth
    p_p_less depth = patch_load_mono c.eccentricity (d_c c.section) (dc_positive c fits) (p_he_less depth)

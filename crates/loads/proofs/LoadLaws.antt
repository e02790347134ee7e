-- The numbers of the loads keep what is claimed of them: each its own law, from the band of the filling pressure that it rests on, and none
-- falls with depth.
use Prim.Native.Nat.{ℕ, zero, suc, ◌+◌, ◌*◌, ◌≤◌, ◌<◌}
use mathlib.Core.Path.{◌≡◌, refl, sym, subst}
use mathlib.Core.List.{◌∷◌, ◌++◌, map}
use native.Mathlib.Omega.{arith}
use borrow.Author.Tests.{eq-eqb, ne_eqb}
use lib.ListN.{get_or, replicate}
use Rattle.fraction.specs.Fraction.{whole, ◌⪯◌}
use Rattle.fraction.proofs.Order.{⪯_refl}
use Rattle.janssen.specs.Section.{d_c}
use Rattle.janssen.specs.Filling.{Kind, grain_of, hundredths, factors, q, P}
use Rattle.janssen.specs.Filling.Kind.{horizontal, vertical, wall_friction}
use Rattle.janssen.specs.Numbers.{FillingNumbers}
use Rattle.janssen.specs.program.Pressure.{filling, wall_load, computed}
use Rattle.janssen.specs.program.Range.{InDepth}
use Rattle.janssen.specs.declared.Prepared.{Prepared}
use Rattle.janssen.specs.program.Prepare.{AllReach}
use Rattle.janssen.proofs.Geometry.{d_c_positive, d_c_most}
use Rattle.janssen.proofs.FillingLaws.{filling_band_two, filling_rises}
use Rattle.janssen.proofs.Ready.{all_reach}
use Rattle.janssen.proofs.WallLoadLaws.{wall_load_band}
use Rattle.janssen.proofs.WallLoadOrder.{wall_load_rises}
use Rattle.allowance.proofs.LowerLaws.{Filled, filled_by_band}
use Rattle.discharge.specs.Discharge.{magnified_load, C_b}
use Rattle.discharge.specs.program.Magnifier.{held, Moderate}
use Rattle.discharge.proofs.Magnifiers.{magnifier_between, magnifier_moderate}
use Rattle.discharge.proofs.Discharge.{magnified_load_mono, patch_load_mono, magnified_load_allowance, patch_load_allowance}
use Rattle.hopper.proofs.Hopper.{P_n_allowance, P_t_allowance}
use Rattle.loads.specs.declared.Silo.{Silo}
use Rattle.loads.specs.declared.Basis.{Basis}
use Rattle.loads.specs.Load.{Load}
use Rattle.loads.specs.Load.{FillingLoad, load_depth, pressure_at, full_height, C_h, C_w, load_number, quarters, normal_number, friction_number, bottom_numbers}
use Rattle.loads.specs.Load.Load.{listed_depth, p_hf, p_wf, p_vf, P_w, p_he, p_we, p_p}
use Rattle.loads.specs.Load.FillingLoad.{of_p_hf, of_p_wf, of_p_vf, of_P_w}
use Rattle.loads.specs.Holds.{InBand, Holds, BottomHolds}
use Rattle.loads.specs.program.Basis.{Reached, Fits}

-- the two shapes of the bottom
pub bottom_flat : (f : FillingNumbers) (c : Silo) → c.run ≡ 0 → bottom_numbers f c ≡ magnified_load C_b (load_number f c p_vf c.foot) ∷ replicate 9 0
unfolding bottom_numbers
bottom_flat f c e = simp (eq-eqb c.run 0 e)

pub bottom_hopper : (f : FillingNumbers) (c : Silo) → 0 < c.run
    → bottom_numbers f c ≡ map (normal_number f c) quarters ++ map (friction_number f c) quarters
unfolding bottom_numbers
bottom_hopper f c h = simp (ne_eqb c.run 0 (λ e. omega arith))

-- the numbers of the quarters, by k
pub at_quarter : (F G : ℕ → ℕ) (k : ℕ) → k ≤ 4
    → (get_or (map F quarters ++ map G quarters) k 0 ≡ F k) × (get_or (map F quarters ++ map G quarters) (5 + k) 0 ≡ G k)
at_quarter F G zero h = (refl, refl)
at_quarter F G (suc zero) h = (refl, refl)
at_quarter F G (suc (suc zero)) h = (refl, refl)
at_quarter F G (suc (suc (suc zero))) h = (refl, refl)
at_quarter F G (suc (suc (suc (suc zero)))) h = (refl, refl)
at_quarter F G (suc (suc (suc (suc (suc k))))) h = absurd (omega arith)

-- deeper below the brim is no less deep below the surface
pub load_depth_rises : (c : Silo) (depth depth' : ℕ) → depth ≤ depth' → load_depth c depth ≤ load_depth c depth'
unfolding load_depth
load_depth_rises c depth depth' h = omega arith

-- a load of filling in two silos with the same section and product: no smaller at a greater depth below the surface
module _ (c c' : Silo) (same_section : c.section ≡ c'.section) (same_product : c.product ≡ c'.product) (fits : Fits c') where
  pressure_more : (k : Kind) (u v : ℕ) → InDepth c'.section v → u ≤ v
      → filling k c.section (grain_of c.product) u ≤ filling k c'.section (grain_of c'.product) v
  pressure_more k u v d h = rw (same_section, same_product) (filling_rises k c'.section (grain_of c'.product) u v fits.range d h)

  load_more : (u v : ℕ) → InDepth c'.section v → u ≤ v → wall_load c.section (grain_of c.product) u ≤ wall_load c'.section (grain_of c'.product) v
  load_more u v d h = rw (same_section, same_product) (wall_load_rises c'.section (grain_of c'.product) u v fits.range d h)

  pub filling_more : {l : Load} → FillingLoad l → (x y : ℕ) → Reached c' y → load_depth c x ≤ load_depth c' y → load_number computed c l x ≤ load_number computed c' l y
  filling_more of_p_hf x y d h = pressure_more horizontal _ _ d h
  filling_more of_p_wf x y d h = pressure_more wall_friction _ _ d h
  filling_more of_p_vf x y d h = pressure_more vertical _ _ d h
  filling_more of_P_w x y d h = load_more _ _ d h

module _ (c : Silo) (fits : Fits c) where
  band_at : (k : Kind) (depth : ℕ) → Reached c depth → InBand k c depth (pressure_at computed c k depth)
  band_at k depth d = filling_band_two k c.section (grain_of c.product) (load_depth c depth) fits.range d

  filled_at : (k : Kind) (depth : ℕ) → Reached c depth
      → Filled (P k c.section (grain_of c.product)) (q (factors k) c.section (grain_of c.product) (load_depth c depth)) (pressure_at computed c k depth)
  filled_at k depth d = filled_by_band (band_at k depth d)

  pub dc_positive : 0 < d_c c.section
  dc_positive = d_c_positive c.section (grain_of c.product) fits.range

  pub dc_most : d_c c.section ≤ 50000
  dc_most = d_c_most c.section (grain_of c.product) fits.range

  -- C_h lies between 1 and C0, C_w between 1 and 1.1
  pub C_h_between : (whole 1 ⪯ C_h c) × (C_h c ⪯ hundredths c.product.factor)
  C_h_between = magnifier_between c.product.factor (full_height c) (d_c c.section) fits.factor_in.least dc_positive

  pub C_w_between : (whole 1 ⪯ C_w c) × (C_w c ⪯ hundredths 110)
  C_w_between = magnifier_between 110 (full_height c) (d_c c.section) (omega arith) dc_positive

  -- so each is at most 2, and 2·C_w + 1 at most 4
  pub C_h_moderate : Moderate (held (C_h c))
  C_h_moderate =
      magnifier_moderate c.product.factor (full_height c) (d_c c.section) fits.factor_in.least dc_positive fits.factor_in.most dc_most

  pub C_w_moderate : Moderate (held (C_w c))
  C_w_moderate = magnifier_moderate 110 (full_height c) (d_c c.section) (omega arith) dc_positive (omega arith) dc_most

  C_w_most : 2 * (C_w c).top + (C_w c).bottom ≤ 4 * (C_w c).bottom
  C_w_most = omega (arith, C_w_between.1.order)

  -- every load's number has what is claimed of it
  pub holds : (l : Load) (depth : ℕ) → Reached c depth → Holds c l depth (load_number computed c l depth)
  holds listed_depth depth d = refl
  holds p_hf depth d = band_at horizontal depth d
  holds p_wf depth d = band_at wall_friction depth d
  holds p_vf depth d = band_at vertical depth d
  holds P_w depth d = wall_load_band c.section (grain_of c.product) (load_depth c depth) fits.range d
  holds p_he depth d = magnified_load_allowance (C_h c) C_h_moderate.proper 5 _ (omega (arith, C_h_moderate.most)) (filled_at horizontal depth d)
  holds p_we depth d = magnified_load_allowance (C_w c) C_w_moderate.proper 4 _ C_w_most (filled_at wall_friction depth d)
  holds p_p depth d =
      patch_load_allowance (C_h c) C_h_moderate.proper c.eccentricity (d_c c.section) _ C_h_moderate.most dc_positive
      fits.eccentricity_most (filled_at horizontal depth d)

  -- no load but z itself falls with the depth below the surface
  module _ (depth depth' : ℕ) (d : Reached c depth') where
    filling_down : {l : Load} → FillingLoad l → load_depth c depth ≤ load_depth c depth' → load_number computed c l depth ≤ load_number computed c l depth'
    filling_down o h = filling_more c c refl refl fits o depth depth' d h

    pub rises_below : (l : Load) → (l ≡ listed_depth → ⊥) → load_depth c depth ≤ load_depth c depth' → load_number computed c l depth ≤ load_number computed c l depth'
    rises_below listed_depth n h = absurd (n refl)
    rises_below p_hf n h = filling_down of_p_hf h
    rises_below p_wf n h = filling_down of_p_wf h
    rises_below p_vf n h = filling_down of_p_vf h
    rises_below P_w n h = filling_down of_P_w h
    rises_below p_he n h = magnified_load_mono (⪯_refl (C_h c) C_h_moderate.proper) (filling_down of_p_hf h)
    rises_below p_we n h = magnified_load_mono (⪯_refl (C_w c) C_w_moderate.proper) (filling_down of_p_wf h)
    rises_below p_p n h =
        patch_load_mono c.eccentricity (d_c c.section) dc_positive
        (magnified_load_mono (⪯_refl (C_h c) C_h_moderate.proper) (filling_down of_p_hf h))

  -- and the bottom's, wherever they stand
  pub bottom_holds : (at : ℕ → ℕ) → ((k : ℕ) → k < 10 → at k ≡ get_or (bottom_numbers computed c) k 0) → BottomHolds c at
  bottom_holds at is =
      let x : ℕ = load_number computed c p_vf c.foot in
      let fill = filled_at vertical c.foot fits.foot_reached in
      let quarter = at_quarter (normal_number computed c) (friction_number computed c) in
      record {
        floor_holds = λ e. rw (is 0 (omega arith), bottom_flat computed c e) (magnified_load_allowance C_b (omega arith) 4 x (omega arith) fill);
        P_n_holds =
            λ hr k h.
            rw (is k (omega arith), bottom_hopper computed c hr, (quarter k h).0)
            (P_n_allowance c.section (grain_of c.product) c.height c.run k x fits.range hr h fill);
        P_t_holds =
            λ hr k h.
            rw (is (5 + k) (omega arith), bottom_hopper computed c hr, (quarter k h).1)
            (P_t_allowance c.section (grain_of c.product) c.height c.run k x fits.range hr h fill);
      }

-- what is worked out once for a silo: its curves reach every depth, d_c leaves room for the patch, and the magnifiers are moderate
module _ (b : Basis) where
  pub prepared_reaches : (depth : ℕ) {at : ℕ} → at ≡ load_depth b.silo depth → Reached b.silo depth → AllReach b.prepared at
  prepared_reaches depth {at} e d =
      subst (λ (x : Prepared). AllReach x at) (sym b.prepared_is)
      (rw e (all_reach b.silo.section (grain_of b.silo.product) (load_depth b.silo depth) b.fits.range d))

  pub dc_fits : (0 < b.dc) × (b.dc ≤ 50000) × (4 * b.silo.eccentricity ≤ b.dc)
  dc_fits =
      (omega (arith, b.dc_is, dc_positive b.silo b.fits), omega (arith, b.dc_is, dc_most b.silo b.fits), omega (arith, b.dc_is, b.fits.eccentricity_most))

  pub magnifiers_moderate : Moderate b.horizontal × Moderate b.friction
  magnifiers_moderate =
      (subst Moderate (sym b.horizontal_is) (C_h_moderate b.silo b.fits), subst Moderate (sym b.friction_is) (C_w_moderate b.silo b.fits))

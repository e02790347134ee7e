-- No load that holds is above its bound, whatever the filling numbers: a filling pressure is at most 2 above its P, which the largest sizes bound, P_w at
-- most 2 above γR·z, and a magnifier is at most 2.
-- Assumes nothing.
use Prim.Native.Nat.{ℕ, zero, suc, ◌+◌, ◌-◌, ◌*◌, ◌^◌, ◌≤◌, ◌<◌}
use mathlib.Core.Path.{◌≡◌}
use mathlib.Core.List.{◌++◌, map}
use native.Mathlib.Nat.{mul-le-mul, mul-le-mul_left, mul-le-mul_right, le_of_suc-le-suc}
use native.Mathlib.Decide.{dec_le}
use native.Mathlib.Omega.{arith}
use lib.ListN.{get_or, get_or-replicate}
use Rattle.fraction.specs.Fraction.{Fraction}
use Rattle.fraction.proofs.Up.{up_le}
use Rattle.janssen.specs.Section.{d_c}
use Rattle.janssen.specs.Filling.{grain_of}
use Rattle.janssen.specs.Filling.Kind.{horizontal, vertical, wall_friction}
use Rattle.janssen.specs.Numbers.{FillingNumbers}
use Rattle.janssen.specs.program.Pressure.{computed}
use Rattle.janssen.proofs.Most.{band_most, wall_band_most}
use Rattle.janssen.proofs.Line.{horizontal_line}
use Rattle.discharge.specs.Discharge.{magnified_load, patch_load, C_b}
use Rattle.hopper.specs.Hopper.{B, n3}
use Rattle.hopper.proofs.Least.{found}
use Rattle.hopper.proofs.Hopper.{B_range, P_n_range, P_t_range}
use Rattle.loads.specs.declared.Silo.{Silo}
use Rattle.loads.specs.Load.{Load}
use Rattle.loads.specs.Load.{load_depth, pressure_at, load_number, C_h, C_w, quarters, normal_number, friction_number, bottom_numbers}
use Rattle.loads.specs.Load.Load.{listed_depth, p_hf, p_wf, p_vf, P_w, p_he, p_we, p_p}
use Rattle.loads.specs.Holds.{Holds}
use Rattle.loads.specs.Bound.{bound, bottom_bound}
use Rattle.loads.specs.program.Basis.{Reached, Fits}
use Rattle.loads.proofs.LoadLaws.{bottom_flat, bottom_hopper, at_quarter, C_h_moderate, C_w_moderate, dc_positive}

-- ---- discharge
magnified_most : (C : Fraction) → 0 < C.bottom → C.top ≤ 2 * C.bottom → (p : ℕ) → magnified_load C p ≤ 2 * p
unfolding magnified_load
magnified_most C pos h p = up_le (C.top * p) (C.bottom * 1) (2 * p) (omega arith) (omega (arith, mul-le-mul_right p h))

-- β is at most 2
patch_most : (e d h k : ℕ) → 0 < d → 4 * e ≤ d → 2 * h ≤ 5 * k → patch_load e d h ≤ k
unfolding patch_load
patch_most e d h k hd he hk =
    up_le (2 * (1 * d + 4 * e * 1) * h) (10 * (1 * d) * 1) k (omega arith) (omega (arith, mul-le-mul_right h he, mul-le-mul_left d hk))

-- ---- the hopper
n3_most : (μ b : ℕ) → n3 μ b ≤ 4 * b
unfolding n3
n3_most μ b = (found _ (4 * b)).within

-- every load of a depth at which it holds
module _ (f : FillingNumbers) (c : Silo) (fits : Fits c) (depth : ℕ) (holds : (l : Load) → Holds c l depth (load_number f c l depth)) where
  p_he_most : load_number f c p_he depth ≤ 8333338
  p_he_most =
      omega (
        arith,
        magnified_most (C_h c) (C_h_moderate c fits).proper (C_h_moderate c fits).most (pressure_at f c horizontal depth),
        band_most fits.range {k = horizontal} (holds p_hf),
      )

  pub within_bound : (l : Load) → load_number f c l depth ≤ bound l depth
  unfolding load_depth
  within_bound listed_depth = omega arith
  within_bound p_hf = band_most fits.range {k = horizontal} (holds p_hf)
  within_bound p_wf = band_most fits.range {k = wall_friction} (holds p_wf)
  within_bound p_vf = band_most fits.range {k = vertical} (holds p_vf)
  within_bound P_w = omega (arith, wall_band_most fits.range (holds P_w))
  within_bound p_he = p_he_most
  within_bound p_we =
      omega (
        arith,
        magnified_most (C_w c) (C_w_moderate c fits).proper (C_w_moderate c fits).most (pressure_at f c wall_friction depth),
        band_most fits.range {k = wall_friction} (holds p_wf),
      )
  within_bound p_p =
      omega (
        arith,
        patch_most c.eccentricity (d_c c.section) (load_number f c p_he depth) (load_number f c p_he depth) (dc_positive c fits)
            fits.eccentricity_most (omega arith),
        p_he_most,
      )

-- p_p down to a load depth of 74,000 mm, whatever the width: p_hf is at most 1.15·Ks·γ·z, less than 2 above
module _ (c : Silo) (fits : Fits c) where
  pub patch_small : (depth : ℕ) → Reached c depth → load_depth c depth ≤ 74000 → load_number computed c p_p depth < 2 ^ 21
  patch_small depth r h =
      let z : ℕ = load_depth c depth in
      let p : ℕ = pressure_at computed c horizontal depth in
      let i = fits.range in
      let p_hf_most : p ≤ 2553002 =
      omega (arith, horizontal_line c.section (grain_of c.product) i z r, mul-le-mul i.γ_in.most (mul-le-mul i.Ks_in.most h)) in
      let p_he_small = magnified_most (C_h c) (C_h_moderate c fits).proper (C_h_moderate c fits).most p in
      omega (
        arith,
        patch_most c.eccentricity (d_c c.section) (load_number computed c p_he depth) 2042402 (dc_positive c fits) fits.eccentricity_most
            (omega (arith, p_he_small, p_hf_most)),
      )

-- every number of the bottom
module _ (f : FillingNumbers) (c : Silo) (fits : Fits c) (holds : (l : Load) → Holds c l c.foot (load_number f c l c.foot)) where
  vertical_small : load_number f c p_vf c.foot < 2 ^ 25
  vertical_small = omega (arith, within_bound f c fits c.foot holds p_vf)

  normal_most : (k : ℕ) → 0 < c.run → k ≤ 4 → normal_number f c k ≤ 2 ^ 26
  normal_most k hr hk =
      let μ = c.product.friction in
      let b = B c.section (grain_of c.product) c.height c.run in
      P_n_range c.height c.run k (n3 μ b) (load_number f c p_vf c.foot) hr hk
      (omega (arith, n3_most μ b, B_range c.section (grain_of c.product) c.height c.run fits.range hr)) vertical_small

  friction_most : (k : ℕ) → 0 < c.run → k ≤ 4 → friction_number f c k ≤ 2 ^ 27
  friction_most k hr hk = P_t_range c.product.friction (normal_number f c k) fits.range.μ_in.most (normal_most k hr hk)

  flat_most : c.run ≡ 0 → (k : ℕ) → k < 10 → get_or (bottom_numbers f c) k 0 ≤ bottom_bound
  flat_most e zero h =
      rw (bottom_flat f c e) (omega (arith, magnified_most C_b (omega arith) (omega arith) (load_number f c p_vf c.foot), vertical_small))
  flat_most e (suc k) h = rw (bottom_flat f c e) (omega (arith, get_or-replicate {A = ℕ} 9 k 0 0 (le_of_suc-le-suc h)))

  hopper_most : 0 < c.run → (k : ℕ) → k < 10 → get_or (bottom_numbers f c) k 0 ≤ bottom_bound
  hopper_most hr k h = rw (bottom_hopper f c hr) (go (dec_le k 4))
    where
      go : Dec (k ≤ 4) → get_or (map (normal_number f c) quarters ++ map (friction_number f c) quarters) k 0 ≤ bottom_bound
      go (yes g) = rw (at_quarter (normal_number f c) (friction_number f c) k g).0 (omega (arith, normal_most k hr g))
      go (no g) =
          let e : k ≡ 5 + (k - 5) = omega arith in
          rw (e, (at_quarter (normal_number f c) (friction_number f c) (k - 5) (omega arith)).1) (friction_most (k - 5) hr (omega arith))

  pub bottom_within : (k : ℕ) → k < 10 → get_or (bottom_numbers f c) k 0 ≤ bottom_bound
  bottom_within k h = go (dec_le c.run 0)
    where
      go : Dec (c.run ≤ 0) → get_or (bottom_numbers f c) k 0 ≤ bottom_bound
      go (yes g) = flat_most (omega arith) k h
      go (no g) = hopper_most (omega arith) k h

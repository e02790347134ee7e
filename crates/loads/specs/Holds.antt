-- What holds of the number of a load: it lies in its band, or keeps its allowance. Document 01, "Filling" and "Loads made from filling".
use Rattle.std.specs.Prelude.{ℕ, ◌+◌, ◌≤◌, ◌<◌, ◌≡◌}
use Rattle.fraction.specs.Fraction.{Fraction, whole, ◌⊗◌}
use Rattle.janssen.specs.Section.{d_c}
use Rattle.janssen.specs.Filling.{Kind, grain_of, factors, q, P}
use Rattle.janssen.specs.Filling.Kind.{horizontal, vertical, wall_friction}
use Rattle.janssen.specs.Band.{FillingBand, WallLoadBand}
use Rattle.allowance.specs.Allowance.{Lower, Allowance}
use Rattle.discharge.specs.Discharge.{patch, C_b}
use Rattle.hopper.specs.Hopper.{Low, base, hopper_normal, hopper_friction, LowerHopper}
use Rattle.loads.specs.declared.Silo.{Silo}
use Rattle.loads.specs.Load.{Load}
use Rattle.loads.specs.Load.{load_depth, C_h, C_w}
use Rattle.loads.specs.Load.Load.{listed_depth, p_hf, p_wf, p_vf, P_w, p_he, p_we, p_p}

-- a filling pressure lies less than 2 above the exact value
abbrev pub InBand : Kind → Silo → ℕ → ℕ → Type 0
InBand k c depth = FillingBand (whole 2) k c.section (grain_of c.product) (load_depth c depth)

-- the lower fractions of the filling pressure of kind k at a depth
abbrev pub LowerAt : Kind → Silo → ℕ → Fraction → Type 0
LowerAt k c depth = Lower (P k c.section (grain_of c.product)) (q (factors k) c.section (grain_of c.product) (load_depth c depth))

-- p_p unrounded, over a lower fraction of p_hf
abbrev pub exact_patch : Silo → Fraction → Fraction
exact_patch c v = patch c.eccentricity (d_c c.section) (C_h c ⊗ v)

-- what holds of a load's number n at a depth: it lies in its band, or above its formula by less than its allowance
abbrev pub Holds : Silo → Load → ℕ → ℕ → Type 0
Holds c listed_depth depth n = n ≡ depth
Holds c p_hf depth n = InBand horizontal c depth n
Holds c p_wf depth n = InBand wall_friction c depth n
Holds c p_vf depth n = InBand vertical c depth n
Holds c P_w depth n = WallLoadBand c.section (grain_of c.product) (load_depth c depth) n
Holds c p_he depth n = Allowance (LowerAt horizontal c depth) (λ v. C_h c ⊗ v) 5 n
Holds c p_we depth n = Allowance (LowerAt wall_friction c depth) (λ v. C_w c ⊗ v) 4 n
Holds c p_p depth n = Allowance (LowerAt horizontal c depth) (exact_patch c) 3 n

-- what the hopper's formulas are filled with: lower fractions of p_vf(V) and n3
abbrev pub LowerFoot : Silo → Low → Type 0
LowerFoot c = LowerHopper (LowerAt vertical c c.foot) c.product.friction (base c.section (grain_of c.product) c.height c.run)

-- P_n unrounded, at k quarters of the hopper's slope
abbrev pub normal_at : Silo → ℕ → Low → Fraction
normal_at c k l = hopper_normal c.height c.run k l.v l.u

-- the bottom's ten numbers: the flat floor where there is no run, else P_n and P_t at k quarters
pub record BottomHolds (c : Silo) (at : ℕ → ℕ) : Type 0 where
  pub floor_holds : c.run ≡ 0 → Allowance (LowerAt vertical c c.foot) (λ v. C_b ⊗ v) 4 (at 0)
  pub P_n_holds : 0 < c.run → (k : ℕ) → k ≤ 4 → Allowance (LowerFoot c) (normal_at c k) 8 (at k)
  pub P_t_holds : 0 < c.run → (k : ℕ) → k ≤ 4
      → Allowance (LowerFoot c) (λ l. hopper_friction c.product.friction (normal_at c k l)) 10 (at (5 + k))

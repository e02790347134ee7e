-- The loads by name, and the number of each. Document 01, "Sheet", "Loads made from filling" and "Answer list"; document 02, C-11 and C-13; source 001,
-- clauses 5.2.2.1 and 5.3. Lengths in mm; pressures in Pa, P_w in N/m. The filling pressures and P_w are free: f names them.
use Rattle.std.specs.Prelude.{ℕ, ◌+◌, ◌-◌, ◌*◌, cond, List, [], ◌∷◌, ◌++◌, map, eqb, replicate}
use Rattle.fraction.specs.Fraction.{Fraction}
use Rattle.janssen.specs.Section.{d_c}
use Rattle.janssen.specs.Filling.{Kind, grain_of}
use Rattle.janssen.specs.Filling.Kind.{horizontal, vertical, wall_friction}
use Rattle.janssen.specs.Numbers.{FillingNumbers}
use Rattle.discharge.specs.Discharge.{magnifier, magnified_load, patch_load, C_b}
use Rattle.hopper.specs.Hopper.{B, n3, P_n, P_t}
use Rattle.loads.specs.declared.Silo.{Silo}

-- the numbers of a depth: z as the sheet has it, p_hf, p_wf, p_vf, P_w, p_he, p_we, p_p
pub data Load : Type 0 where
  listed_depth p_hf p_wf p_vf P_w p_he p_we p_p : Load

-- the order of the columns in answer list and page
abbrev pub eight : List Load
eight = listed_depth ∷ p_hf ∷ p_wf ∷ p_vf ∷ P_w ∷ p_he ∷ p_we ∷ p_p ∷ []

-- the filling loads, set by section, grain and depth alone: the filling pressures and P_w
pub data FillingLoad : Load → Type 0 where
  of_p_hf : FillingLoad p_hf
  of_p_wf : FillingLoad p_wf
  of_p_vf : FillingLoad p_vf
  of_P_w : FillingLoad P_w

-- the depth at which loads are worked out, below the grain's surface: the larger of 0 and z - g
unfoldable pub load_depth : Silo → ℕ → ℕ
load_depth c depth = depth - c.headroom

-- a filling pressure at a depth below the brim
abbrev pub pressure_at : FillingNumbers → Silo → Kind → ℕ → ℕ
pressure_at f c k depth = f.filling_at k c.section (grain_of c.product) (load_depth c depth)

-- h = V - g + H, from the grain's surface down to the outlet
abbrev pub full_height : Silo → ℕ
full_height c = load_depth c c.foot + c.height

-- C_h: C0 (5.23), or 1 + 2(C0 − 1)(h/d_c − 1) (5.35); C0 from 100 hundredths on
abbrev pub C_h : Silo → Fraction
C_h c = magnifier c.product.factor (2 * (c.product.factor - 100)) (full_height c) (d_c c.section)

-- C_w: 1.1 (5.23), or 1 + 0.2(h/d_c − 1) (5.34)
abbrev pub C_w : Silo → Fraction
C_w c = magnifier 110 20 (full_height c) (d_c c.section)

-- the number of a load at a depth below the brim
abbrev pub load_number : FillingNumbers → Silo → Load → ℕ → ℕ
load_number f c listed_depth depth = depth
load_number f c p_hf depth = pressure_at f c horizontal depth
load_number f c p_wf depth = pressure_at f c wall_friction depth
load_number f c p_vf depth = pressure_at f c vertical depth
load_number f c P_w depth = f.wall_load_at c.section (grain_of c.product) (load_depth c depth)
load_number f c p_he depth = magnified_load (C_h c) (pressure_at f c horizontal depth)
load_number f c p_we depth = magnified_load (C_w c) (pressure_at f c wall_friction depth)
load_number f c p_p depth = patch_load c.eccentricity (d_c c.section) (magnified_load (C_h c) (pressure_at f c horizontal depth))

-- P_n and P_t at k quarters of the hopper's slope, from p_vf(V)
abbrev pub normal_number : FillingNumbers → Silo → ℕ → ℕ
normal_number f c k =
    P_n c.height c.run k (n3 c.product.friction (B c.section (grain_of c.product) c.height c.run)) (load_number f c p_vf c.foot)

abbrev pub friction_number : FillingNumbers → Silo → ℕ → ℕ
friction_number f c k = P_t c.product.friction (normal_number f c k)

-- the quarters, counted up from the outlet
abbrev pub quarters : List ℕ
quarters = 0 ∷ 1 ∷ 2 ∷ 3 ∷ 4 ∷ []

-- the ten numbers of the bottom: floor and nine zeros where there is no run, else P_n for k = 0..4 and P_t for k = 0..4
unfoldable pub bottom_numbers : FillingNumbers → Silo → List ℕ
bottom_numbers f c =
    cond (eqb c.run 0) (magnified_load C_b (load_number f c p_vf c.foot) ∷ replicate 9 0)
    (map (normal_number f c) quarters ++ map (friction_number f c) quarters)

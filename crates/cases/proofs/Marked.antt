-- The marked cases of document 01. The numbers and the cases on one sheet are computed; a case that names h holds for any
-- sheet of that h, since the first refusal is then that of the shape.
use Prim.Native.Nat.{ℕ}
use native.Mathlib.Omega.{arith}
use lib.Dec.{ltb, lit<, ltb→lt, leb→le}
use lib.ListN.{take, drop, replicate}
use mathlib.Core.List.{List, [], ◌∷◌}
use mathlib.Core.Bool.{true, false}
use mathlib.Core.Path.{◌≡◌, refl, ap, ◌∙◌}
use Rattle.fraction.specs.Fraction.{◌⊘◌, up}
use Rattle.exponential.specs.program.Table.{table}
use Rattle.exponential.specs.program.Lower.{lower_by, between, denominator, entry_in}
use Rattle.janssen.specs.declared.Section.TheVariants.{Circle}
use Rattle.janssen.specs.Filling.Kind.{horizontal, vertical, wall_friction}
use Rattle.janssen.specs.program.Range.{InRange, InDepth}
use Rattle.janssen.specs.Section.{side_a, side_b, d_c, R}
use Rattle.janssen.specs.Filling.{grain_of, Ks, μ, z0, q, γR, P, D, N}
use Rattle.janssen.specs.program.Pressure.{step, limit, decay_by, pressure, filling_by, z0_scaled, loaded_depth, load, wall_load_by, computed_by, computed}
use Rattle.discharge.specs.Discharge.{magnifier, magnified_load, patch_load}
use Rattle.loads.specs.Load.{Load}
use Rattle.loads.specs.Load.{load_depth, C_h, C_w, load_number}
use Rattle.loads.specs.Load.Load.{listed_depth, p_hf, p_wf, p_vf, P_w, p_he, p_we, p_p}
use Rattle.records.specs.Format.{u16, u32, numbers, record_place, kind, payload, payload_length, allowed, record_rules, records_rules, record_count, layout_rules}
use Rattle.records.specs.Rules.{◌unless◌, first_unmet}
use Rattle.records.proofs.Chain.{apart, skipped}
use Rattle.description.specs.Silo.{section_of, product_sent, product_of, factor_read, eccentricities_of, bottom_of, strake_count, strakes_of, depth_count, depths_of, sum, V_of, headroom_of, h_of}
use Rattle.sheet.specs.Refusal.{sides_met, proportion_met, strakes_met, depths_met, value_rules, rules_with, length_refusal, refusal_of}
use Rattle.records.proofs.Fine.{layout_numbered}
use Rattle.answers.specs.Length.{length_due}
use Rattle.answers.specs.Length.{told}
use Rattle.cases.specs.Cases.{behind_section, case_sheet, rectangle_sheet, case_product, case_silo, middle_number, OfHeight, Marked}
use Rattle.cases.proofs.Pairs.{filling_pair, wall_load_pair}
use Rattle.cases.proofs.Squat.{squat_discharge, squat_friction_discharge}
use Rattle.cases.proofs.Factor.{same_as_155, other_than_135}

-- the rules before 12 are passed over, and the shape is judged by h alone
by_shape : (h : ℕ) (s : List ℕ) → OfHeight h s → refusal_of s ≡ first_unmet (12 unless ltb h 50000 ∷ [])
unfolding refusal_of rules_with value_rules
by_shape h s u =
    let shape = drop 8 (value_rules false true s) in
    let p = apart (take 8 (value_rules false true s)) (layout_rules s) (layout_numbered s) u.before in
    let q = skipped shape (take 8 (value_rules false true s)) refl p.1 in
    skipped (value_rules false true s) (layout_rules s) (layout_numbered s) p.0 ∙ q ∙ simp (u.width, u.height)

in_range : InRange (Circle 5000) (grain_of case_product)
unfolding side_a side_b
in_range = record {
  a_in = record { least = omega arith; most = omega arith };
  b_in = record { least = omega arith; most = omega arith };
  γ_in = record { least = omega arith; most = omega arith };
  Ks_in = record { least = omega arith; most = omega arith };
  μ_in = record { least = omega arith; most = omega arith };
}

in_depth : InDepth (Circle 5000) 5000
unfolding d_c side_a side_b
in_depth = record { below_ten = omega arith; wall = omega arith }

surface : (l : Load) → load_number computed case_silo l 0 ≡ 0
unfolding load_depth D N magnifier magnified_load patch_load filling_by pressure wall_load_by load loaded_depth z0_scaled decay_by limit step P q z0 γR R Ks μ up lower_by between denominator entry_in table side_a side_b d_c
surface listed_depth = refl
surface p_hf = refl
surface p_wf = refl
surface p_vf = refl
surface P_w = refl
surface p_he = refl
surface p_we = refl
surface p_p = refl

middle : (l : Load) → load_number computed case_silo l 5000 ≡ middle_number l
unfolding load_depth D N magnifier magnified_load patch_load filling_by pressure wall_load_by load loaded_depth z0_scaled decay_by limit step P q z0 γR R Ks μ up lower_by between denominator entry_in table side_a side_b d_c
middle listed_depth = refl
middle p_hf = refl
middle p_wf = refl
middle p_vf = refl
middle P_w = refl
middle p_he = refl
middle p_we = refl
middle p_p = refl

pub marked : Marked computed_by table
unfolding load_depth D N magnifier magnified_load patch_load filling_by pressure wall_load_by load loaded_depth z0_scaled decay_by limit step P q z0 γR R Ks μ up lower_by between denominator entry_in table behind_section case_sheet rectangle_sheet refusal_of length_refusal value_rules rules_with told length_due first_unmet layout_rules record_count records_rules record_rules allowed record_place payload payload_length kind u16 u32 numbers section_of product_sent eccentricities_of bottom_of strake_count strakes_of depth_count depths_of sum V_of headroom_of h_of sides_met proportion_met strakes_met depths_met side_a side_b d_c product_of factor_read
marked =
    record {
      described = refl;
      deep_limit = (record { left = lit< tt; right = lit< tt; order = leb→le _ _ tt }, record { left = lit< tt; right = lit< tt; order = leb→le _ _ tt });
      surface = surface;
      horizontal_pair = λ p band. filling_pair horizontal (Circle 5000) (grain_of case_product) 5000 in_range in_depth (lit< tt) 17596 p (ltb→lt _ _ tt) (ltb→lt _ _ tt) band;
      friction_pair = λ p band. filling_pair wall_friction (Circle 5000) (grain_of case_product) 5000 in_range in_depth (lit< tt) 7344 p (ltb→lt _ _ tt) (ltb→lt _ _ tt) band;
      vertical_pair = λ p band. filling_pair vertical (Circle 5000) (grain_of case_product) 5000 in_range in_depth (lit< tt) 33118 p (ltb→lt _ _ tt) (ltb→lt _ _ tt) band;
      wall_load_pair = λ w band. wall_load_pair (Circle 5000) (grain_of case_product) 5000 in_range in_depth 21540 w (ltb→lt _ _ tt) (ltb→lt _ _ tt) band;
      discharge = λ g e. ap (magnified_load (C_h case_silo)) e;
      patch = λ g e. ap (λ (x : ℕ). patch_load 0 (d_c (Circle 5000)) (magnified_load (C_h case_silo) x)) e;
      friction_discharge = λ g e. ap (magnified_load (C_w case_silo)) e;
      middle = middle;
      h_7500 = record { every = by_shape 7500; some = (2500 ∷ 2500 ∷ 2500 ∷ [], record { before = refl; width = refl; height = refl }) };
      h_7499 = record { every = by_shape 7499; some = (2500 ∷ 2500 ∷ 2499 ∷ [], record { before = refl; width = refl; height = refl }) };
      squat_discharge = squat_discharge;
      squat_friction_discharge = squat_friction_discharge;
      h_49999 = record { every = by_shape 49999; some = (1999 ∷ replicate 16 3000, record { before = refl; width = refl; height = refl }) };
      h_50000 = record { every = by_shape 50000; some = (2000 ∷ replicate 16 3000, record { before = refl; width = refl; height = refl }) };
      left_over = refl;
      seventh_kind = refl;
      seventh_length = refl;
      behind_seventh = refl;
      g_9999 = refl;
      g_10000 = refl;
      three_times = (refl, refl);
      over_three_times = (refl, refl);
      length_told = (refl, refl);
      e_1250 = (refl, refl);
      e_1251 = (refl, refl);
      H_364 = refl;
      H_363 = refl;
      friction_10 = refl;
      friction_9 = refl;
      friction_0 = refl;
      factor_99 = refl;
      factor_0 = refl;
      factor_155 = same_as_155;
      blank_discharge = λ g e. (ap (magnified_load (155 ⊘ 100)) e, ap (λ (x : ℕ). patch_load 0 5000 (magnified_load (155 ⊘ 100) x)) e);
      discharge_135 = λ g e. (ap (magnified_load (135 ⊘ 100)) e, ap (λ (x : ℕ). patch_load 0 5000 (magnified_load (135 ⊘ 100) x)) e);
      factor_135 = other_than_135;
    }

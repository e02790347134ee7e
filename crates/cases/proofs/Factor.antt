-- C0 0 acts as 155, since that is what the sheet is with 155 written in; and not as 135, since p_he at 5,000 differs.
use Prim.Native.Nat.{ℕ}
use mathlib.Core.List.{List}
use mathlib.Core.Path.{◌≡◌, refl, ap, sym, ◌∙◌, subst}
use native.Mathlib.Omega.{arith}
use lib.Dec.{ltb→lt, leb→le}
use Rattle.fraction.specs.Fraction.{up}
use Rattle.exponential.specs.program.Table.{table}
use Rattle.exponential.specs.program.Lower.{lower_by, between, denominator, entry_in}
use Rattle.janssen.specs.Section.{side_a, side_b, d_c, R}
use Rattle.janssen.specs.Filling.{Ks, μ, z0, q, γR, P}
use Rattle.janssen.specs.program.Pressure.{step, limit, decay_by, pressure, filling_by, computed_by, computed}
use Rattle.discharge.specs.Discharge.{magnifier, magnified_load}
use Rattle.records.specs.Format.{u16, u32, numbers, record_place, kind, payload, payload_length, record_count}
use Rattle.description.specs.Silo.{section_of, product_sent, product_of, factor_read, eccentricities_of, bottom_of, strake_count, strakes_of, depth_count, depths_of, sum, V_of, headroom_of}
use Rattle.loads.specs.Load.{load_depth, load_number}
use Rattle.loads.specs.Load.Load.{p_he}
use Rattle.answers.specs.Answers.{silo_of, depth}
use Rattle.answers.specs.Order.{load_in}
use Rattle.answers.specs.Promise.{Promise}
use Rattle.answers.specs.Factor.{with_factor, Blank}
use Rattle.answers.proofs.Places.{at_load}
use Rattle.answers.proofs.Factor.{acts_as_155}
use Rattle.cases.specs.Cases.{behind_section, case_sheet, factor_sheet}

blank : Blank (factor_sheet 0)
unfolding behind_section case_sheet record_place payload payload_length u16 u32 product_sent
blank = record { ten = refl; inside = leb→le _ _ tt; blank = refl }

pub same_as_155 : (lent left left' : List ℕ) (r r' : ℕ) → Promise computed_by table (factor_sheet 0) lent r left → Promise computed_by table (factor_sheet 155) lent r' left'
    → (r ≡ r') × (left ≡ left')
unfolding with_factor behind_section case_sheet payload record_place u16
same_as_155 lent left left' r r' a b =
    let written : with_factor 155 (factor_sheet 0) ≡ factor_sheet 155 = refl in
    acts_as_155 (factor_sheet 0) blank computed_by table lent left left' r r' a (subst (λ (s : List ℕ). Promise computed_by table s lent r' left') (sym written) b)

-- p_he of the second depth, 5,000
p_he_beside : (load_number computed (silo_of (factor_sheet 0)) p_he (depth (factor_sheet 0) 1) ≡ 27276) × (load_number computed (silo_of (factor_sheet 135)) p_he (depth (factor_sheet 135) 1) ≡ 23756)
unfolding behind_section case_sheet record_place payload payload_length kind u16 u32 numbers section_of product_sent product_of factor_read eccentricities_of bottom_of strake_count strakes_of depth_count depths_of sum V_of headroom_of record_count load_depth magnifier magnified_load filling_by pressure decay_by limit step P q z0 γR R Ks μ up lower_by between denominator entry_in table side_a side_b d_c
p_he_beside = (refl, refl)

pub other_than_135 : (lent left left' : List ℕ) → Promise computed_by table (factor_sheet 0) lent 0 left → Promise computed_by table (factor_sheet 135) lent 0 left' → left ≡ left' → ⊥
unfolding behind_section case_sheet record_place payload_length u16 depth_count
other_than_135 lent left left' a b e =
    let x : load_in (factor_sheet 0) left p_he 1 ≡ 27276 = at_load (a.1.done refl).filled p_he 1 (ltb→lt _ _ tt) ∙ p_he_beside.0 in
    let y : load_in (factor_sheet 0) left' p_he 1 ≡ 23756 = at_load (b.1.done refl).filled p_he 1 (ltb→lt _ _ tt) ∙ p_he_beside.1 in
    omega (arith, sym x ∙ ap (λ (l : List ℕ). load_in (factor_sheet 0) l p_he 1) e ∙ y)

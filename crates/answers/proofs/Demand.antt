-- Demand 3, whole: every list that holds each number in its place for an accepted sheet meets `Claim` (`claim`).
-- Acceptance puts section, product, factor and eccentricities inside their ranges, and the wall's foot less than ten widths below the grain's surface. At
-- every depth down to it each number holds by its own law (`holds`, `rises_below`), and the order between two sheets is the order of the filling numbers,
-- which have nothing in them but section, grain and load depth. What it says of the lists, number by number, is in `Order`.
-- Assumes nothing.
use Prim.Native.Nat.{ℕ, ◌≤◌, ◌<◌}
use mathlib.Core.Path.{◌≡◌, refl}
use mathlib.Core.List.{List}
use mathlib.Core.Logic.{⊎_elim}
use native.Mathlib.Omega.{arith}
use lib.ListN.{length}
use Rattle.janssen.specs.Filling.{grain_of}
use Rattle.janssen.specs.program.Pressure.{computed}
use Rattle.records.specs.Format.{record_place, payload_length}
use Rattle.records.proofs.Records.{six_least}
use Rattle.description.specs.Silo.{section_of, product_of, bottom_of, depth_count, V_of, h_of}
use Rattle.sheet.specs.Refusal.{refusal_of}
use Rattle.sheet.specs.Accepted.{Measured}
use Rattle.sheet.proofs.Acceptance.{accepted}
use Rattle.sheet.proofs.Parts.{section_same, product_same}
use Rattle.sheet.proofs.Described.{V_most, grain_below_ten, in_range, factor_in}
use Rattle.loads.specs.declared.Silo.{Silo}
use Rattle.loads.specs.Load.{Load}
use Rattle.loads.specs.Load.{FillingLoad, load_depth, full_height, load_number}
use Rattle.loads.specs.program.Basis.{Reached, Fits}
use Rattle.janssen.proofs.Geometry.{d_c_most}
use Rattle.loads.proofs.LoadLaws.{filling_more, holds, rises_below, bottom_holds}
use Rattle.answers.specs.Answers.{silo_of, depth, bottom_in, Filled}
use Rattle.answers.specs.Claim.{SameSectionAndProduct, Claim}
use Rattle.answers.proofs.SameRecords.{first_record, second_record}

-- the magnifiers and rule 12 go by one h
pub same_height : (s : List ℕ) → full_height (silo_of s) ≡ h_of s
unfolding load_depth h_of
same_height s = refl

module _ (s : List ℕ) (a : Measured s) where
  -- every depth at most at the wall's foot
  pub reached : (x : ℕ) → x ≤ V_of s → Reached (silo_of s) x
  unfolding load_depth
  reached x h =
      record {
        below_ten = omega (arith, grain_below_ten s a);
        wall = omega (arith, V_most s a);
      }

  pub depth_reached : (i : ℕ) → i < depth_count s → Reached (silo_of s) (depth s i)
  depth_reached i h = reached (depth s i) (a.depths_most i h)

  -- H and r are at most 25,000
  bottom_fits : ((bottom_of s).height ≤ 25000) × ((bottom_of s).run ≤ 25000)
  bottom_fits =
      ⊎_elim (λ o. (omega (arith, o.0), omega (arith, o.1))) (λ x. (x.height_most, omega (arith, x.run_narrow, d_c_most (section_of s) (grain_of (product_of s)) (in_range s a))))
      a.values.bottom_shape

  pub silo_fits : Fits (silo_of s)
  silo_fits =
      record {
        range = in_range s a;
        factor_in = factor_in s a;
        eccentricity_most = omega (arith, a.values.inlet_most, a.values.outlet_most);
        height_most = bottom_fits.0;
        run_most = bottom_fits.1;
        foot_reached = reached (V_of s) (omega arith);
      }

pub two_records : (s : List ℕ) → Measured s → record_place s 2 ≤ length s
unfolding record_place payload_length
two_records s a = a.layout.present 1 (omega (arith, six_least s))

-- section and product of two accepted sheets with equal first records
module _ (s s' : List ℕ) (a : Measured s) (a' : Measured s') (e : SameSectionAndProduct s s') where
  pub section_equal : section_of s ≡ section_of s'
  section_equal = section_same s s' a.layout (first_record s s' (two_records s a) (two_records s' a') e)

  pub product_equal : product_of s ≡ product_of s'
  unfolding product_of
  product_equal = rw (product_same s s' a.layout (second_record s s' (two_records s a) (two_records s' a') e)) refl

  -- a filling load of the other silo is no smaller at a greater depth below the surface
  number_more : {l : Load} → FillingLoad l → (z z' : ℕ) → z' ≤ V_of s' → load_depth (silo_of s) z ≤ load_depth (silo_of s') z'
      → load_number computed (silo_of s) l z ≤ load_number computed (silo_of s') l z'
  number_more o z z' n g = filling_more (silo_of s) (silo_of s') section_equal product_equal (silo_fits s' a') o z z' (reached s' a' z' n) g

-- demand 3
pub claim : (s list : List ℕ) → refusal_of s ≡ 0 → Filled computed s list → Claim computed s list
claim s list h fill =
    let a = (accepted s h).measured in
    let c : Silo = silo_of s in
    let fits : Fits c = silo_fits s a in
    record {
      filled = fill;
      holds = λ l z g. holds c fits l z (reached s a z g);
      bottom = bottom_holds c fits (bottom_in s list) fill.at_bottom;
      down = λ l o z z' g. rises_below c fits z z' (reached s a z' g) l o;
      ordered = λ s' h' e l o z z'. number_more s s' a (accepted s' h').measured e o z z';
    }

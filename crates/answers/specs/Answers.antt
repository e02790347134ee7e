-- The answer list: each of its numbers, and what the load call answers. Document 01, "Sheet", "Answer list" and "Who can be refused"; document 02,
-- C-13.
use Rattle.std.specs.Prelude.{ℕ, suc, ◌<◌, max, ◌≡◌, List, [], ◌∷◌, ◌++◌, eqb, length, get_or}
use Rattle.records.specs.Rules.{Rule, ◌unless◌}
use Rattle.janssen.specs.Numbers.{FillingNumbers}
use Rattle.description.specs.Silo.{section_of, product_of, eccentricities_of, bottom_of, depths_of, depth_count, strake_count, edge_of, V_of, headroom_of}
use Rattle.sheet.specs.Refusal.{sheet_rules}
use Rattle.answers.specs.Length.{length_due}
use Rattle.loads.specs.declared.Silo.{Silo}
use Rattle.loads.specs.Load.{eight, load_number, bottom_numbers}
use Rattle.loads.specs.Load.Load.{listed_depth, p_he}
use Rattle.answers.specs.Place.{load_place, bottom_place, strake_place}

-- the silo that a sheet describes, mm; e is the larger of e_i, e_o
abbrev pub silo_of : List ℕ → Silo
silo_of s =
    record {
      section = section_of s;
      product = product_of s;
      eccentricity = max (eccentricities_of s).inlet (eccentricities_of s).outlet;
      height = (bottom_of s).height;
      run = (bottom_of s).run;
      foot = V_of s;
      headroom = headroom_of s;
    }

-- the depth i as listed, mm
abbrev pub depth : List ℕ → ℕ → ℕ
depth s i = get_or (depths_of s) i 0

-- the numbers of the bottom and of the strakes in a sheet's answer list
abbrev pub bottom_in : List ℕ → List ℕ → ℕ → ℕ
bottom_in s list k = get_or list (bottom_place (depth_count s) k) 0

abbrev pub strake_in : List ℕ → List ℕ → ℕ → ℕ
strake_in s list k = get_or list (strake_place (depth_count s) k) 0

-- the list has the length due, and each number in its place, those of the depths by the order `place`
pub record FilledBy (place : ℕ → ℕ → ℕ → ℕ) (f : FillingNumbers) (s list : List ℕ) : Type 0 where
  pub sized : length list ≡ length_due s
  pub at_depths : (r i : ℕ) → r < 8 → i < depth_count s
      → get_or list (place (depth_count s) r i) 0 ≡ load_number f (silo_of s) (get_or eight r listed_depth) (depth s i)
  pub at_bottom : (k : ℕ) → k < 10 → bottom_in s list k ≡ get_or (bottom_numbers f (silo_of s)) k 0
  -- p_he at the strake's lower edge
  pub at_strakes : (k : ℕ) → k < strake_count s → strake_in s list k ≡ load_number f (silo_of s) p_he (edge_of s (suc k))

abbrev pub Filled : FillingNumbers → List ℕ → List ℕ → Type 0
Filled = FilledBy load_place

-- the rules of the load call, lent a list of so many numbers: those of the sheet, then 14
unfoldable pub loads_rules : List ℕ → ℕ → List Rule
loads_rules s n = sheet_rules s ++ (14 unless eqb n (length_due s) ∷ [])

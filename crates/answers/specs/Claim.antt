-- Demand 3, one claim about the whole list that the load call leaves for an accepted sheet, and about any two such lists.
-- Document 01, "Filling" and "Loads made from filling"; document 02, C-13.
use Rattle.std.specs.Prelude.{ℕ, ◌≤◌, ◌≡◌, List, take}
use Rattle.janssen.specs.Numbers.{FillingNumbers}
use Rattle.records.specs.Format.{record_place}
use Rattle.description.specs.Silo.{V_of}
use Rattle.sheet.specs.Refusal.{refusal_of}
use Rattle.loads.specs.Load.{Load}
use Rattle.loads.specs.Load.{FillingLoad, load_depth, load_number}
use Rattle.loads.specs.Load.Load.{listed_depth}
use Rattle.loads.specs.Holds.{Holds, BottomHolds}
use Rattle.answers.specs.Answers.{silo_of, bottom_in, Filled}

-- two sheets have the same section and product when their first two records are equal
abbrev pub SameSectionAndProduct : List ℕ → List ℕ → Type 0
SameSectionAndProduct s s' = take (record_place s 2) s ≡ take (record_place s' 2) s'

pub record Claim (f : FillingNumbers) (s list : List ℕ) : Type 0 where
  -- the list has the length due, and each number in its place
  pub filled : Filled f s list
  -- every load keeps its band or allowance at every depth of the wall, at those listed and at the strakes' edges too; and so does the bottom
  pub holds : (l : Load) (z : ℕ) → z ≤ V_of s → Holds (silo_of s) l z (load_number f (silo_of s) l z)
  pub bottom : BottomHolds (silo_of s) (bottom_in s list)
  -- of the loads other than z none is smaller at a greater or an equal depth below the grain's surface, to which every depth above it counts as 0
  pub down : (l : Load) → (l ≡ listed_depth → ⊥) → (z z' : ℕ) → z' ≤ V_of s → load_depth (silo_of s) z ≤ load_depth (silo_of s) z'
      → load_number f (silo_of s) l z ≤ load_number f (silo_of s) l z'
  -- nor is a filling load smaller at such a depth of another accepted sheet with the same section and product, whatever the headrooms
  pub ordered : (s' : List ℕ) → refusal_of s' ≡ 0 → SameSectionAndProduct s s' → (l : Load) → FillingLoad l → (z z' : ℕ) → z' ≤ V_of s'
      → load_depth (silo_of s) z ≤ load_depth (silo_of s') z' → load_number f (silo_of s) l z ≤ load_number f (silo_of s') l z'

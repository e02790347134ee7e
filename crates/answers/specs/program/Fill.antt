-- The answer list as the program fills it, part by part.
use Rattle.std.specs.Prelude.{ℕ, suc, List, [], ◌∷◌, ◌++◌, length, get_or, take}
use Rattle.janssen.specs.program.Pressure.{computed}
use Rattle.description.specs.Silo.{strakes_of, depth_count, sum}
use Rattle.loads.specs.declared.Silo.{Silo}
use Rattle.loads.specs.Load.{load_number, bottom_numbers}
use Rattle.loads.specs.Load.Load.{p_he}
use Rattle.loads.specs.program.Basis.{depth_numbers}
use Rattle.answers.specs.Each.{each}
use Rattle.answers.specs.Answers.{silo_of, depth}
use Rattle.answers.specs.program.Place.{in_places}

-- the number of the strake k of a wall of these heights, at its lower edge
abbrev pub at_strake : Silo → List ℕ → ℕ → List ℕ
at_strake c heights k = load_number computed c p_he (sum (take (suc k) heights)) ∷ []

abbrev pub strake_numbers : Silo → List ℕ → List ℕ
strake_numbers c heights = each (at_strake c heights) 0 (length heights)

-- the numbers of the depth i of a sheet
abbrev pub at_depth : List ℕ → ℕ → List ℕ
at_depth s i = depth_numbers (silo_of s) (depth s i)

abbrev pub number_of : List ℕ → ℕ → ℕ → ℕ
number_of s r i = get_or (at_depth s i) r 0

-- the parts of a sheet's answer list
abbrev pub depths_part : List ℕ → List ℕ
depths_part s = in_places (depth_count s) (number_of s)

abbrev pub bottom_part : List ℕ → List ℕ
bottom_part s = bottom_numbers computed (silo_of s)

abbrev pub strakes_part : List ℕ → List ℕ
strakes_part s = strake_numbers (silo_of s) (strakes_of s)

-- the answer list: depths, bottom, strakes
unfoldable pub answers : List ℕ → List ℕ
answers s = depths_part s ++ (bottom_part s ++ strakes_part s)

-- The fields of a page read back, each by its line and column. Document 02, C-15.
use Rattle.std.specs.Prelude.{ℕ, ◌+◌, ◌*◌, ◌<◌, ◌≡◌, List, get_or, take, drop}
use Rattle.text.specs.Reading.{reading}
use Rattle.description.specs.Silo.{strake_count, depth_count}
use Rattle.answers.specs.Place.{load_place}
use Rattle.answers.specs.Answers.{bottom_in, strake_in}

-- where a field begins: column j of the depth i; number k behind n depths
abbrev pub column_field : ℕ → ℕ → ℕ
column_field i j = 73 * (1 + i) + 9 * j

abbrev pub rest_field : ℕ → ℕ → ℕ
rest_field n k = 73 * (1 + n) + 10 * k

-- the number in the nine characters from a place on
abbrev pub number_at : List ℕ → ℕ → ℕ
number_at page at = reading (take 9 (drop at page))

-- read back, the page of a sheet has the numbers of an answer list
pub record ReadsBack (s page list : List ℕ) : Type 0 where
  -- the load that the heading names
  pub depths_back : (i j : ℕ) → i < depth_count s → j < 8 → number_at page (column_field i j) ≡ get_or list (load_place (depth_count s) j i) 0
  pub bottom_back : (k : ℕ) → k < 10 → number_at page (rest_field (depth_count s) k) ≡ bottom_in s list k
  pub strakes_back : (k : ℕ) → k < strake_count s → number_at page (rest_field (depth_count s) (10 + k)) ≡ strake_in s list k

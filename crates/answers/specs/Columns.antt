-- The answer list in columns, beside the rows that it had before. Document 02, C-18.
use Rattle.std.specs.Prelude.{ℕ, ◌+◌, ◌*◌, ◌<◌, ◌≡◌, List, length, get_or, take, drop}
use Rattle.description.specs.Silo.{strake_count, depth_count}
use Rattle.loads.specs.Load.{Load}
use Rattle.answers.specs.Answers.{bottom_in, strake_in}
use Rattle.answers.specs.Order.{rank, load_in}

-- one load for all depths: a part of the list, as many numbers as there are depths
abbrev pub column : List ℕ → List ℕ → Load → List ℕ
column s list l = take (depth_count s) (drop (rank l * depth_count s) list)

-- in rows, number r of the eight of the depth i, of n that are listed: the eight of a depth together
unfoldable pub row_place : ℕ → ℕ → ℕ → ℕ
row_place n r i = 8 * i + r

-- a list in columns, and one in rows
pub record SameNumbers (s columns rows : List ℕ) : Type 0 where
  pub length_same : length columns ≡ length rows
  -- the number for a given load and depth equals the one that the row order held
  pub loads_same : (l : Load) (i : ℕ) → i < depth_count s → load_in s columns l i ≡ get_or rows (row_place (depth_count s) (rank l) i) 0
  -- bottom and strakes at the end as before
  pub bottom_same : (k : ℕ) → k < 10 → bottom_in s columns k ≡ bottom_in s rows k
  pub strakes_same : (k : ℕ) → k < strake_count s → strake_in s columns k ≡ strake_in s rows k

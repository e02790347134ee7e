-- The page as the program writes it, from an answer list that has the numbers of its depths in the order `place`; the program's is `load_place`.
use Rattle.std.specs.Prelude.{ℕ, ◌+◌, ◌-◌, List, [], ◌∷◌, ◌++◌, length, get_or}
use Rattle.text.specs.Text.{line_feed}
use Rattle.text.specs.program.Mark.{number_field}
use Rattle.answers.specs.Each.{each}
use Rattle.answers.specs.Place.{bottom_place}
use Rattle.page.specs.Page.{heading}

-- the number in column j of the depth i, of n, in its field
abbrev pub at_column : (ℕ → ℕ → ℕ → ℕ) → List ℕ → ℕ → ℕ → ℕ → List ℕ
at_column place list n i j = number_field (get_or list (place n j i) 0)

unfoldable pub row_text : (ℕ → ℕ → ℕ → ℕ) → List ℕ → ℕ → ℕ → List ℕ
row_text place list n i = each (at_column place list n i) 0 8 ++ (line_feed ∷ [])

-- a number of bottom or strakes
unfoldable pub number_text : ℕ → List ℕ
number_text n = number_field n ++ (line_feed ∷ [])

abbrev pub at_rest : List ℕ → ℕ → ℕ → List ℕ
at_rest list from k = number_text (get_or list (from + k) 0)

abbrev pub rows : (ℕ → ℕ → ℕ → ℕ) → List ℕ → ℕ → List ℕ
rows place list n = each (row_text place list n) 0 n

-- the numbers from a place on
abbrev pub rest : List ℕ → ℕ → List ℕ
rest list from = each (at_rest list from) 0 (length list - from)

-- the page of n depths
unfoldable pub page_text : (ℕ → ℕ → ℕ → ℕ) → List ℕ → ℕ → List ℕ
page_text place list n = heading ++ (rows place list n ++ rest list (bottom_place n 0))

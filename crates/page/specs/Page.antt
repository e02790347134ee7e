-- The load page: a heading, a line for each depth, then the bottom's and the strakes' numbers, one a line. Document 02, C-15.
use Rattle.std.specs.Prelude.{ℕ, suc, ◌+◌, ◌*◌, List, [], ◌∷◌, ◌++◌, map, leb, get_or, Result}
use Rattle.text.specs.Text.{ascii, line_feed, decimal, field}
use Rattle.records.specs.Rules.{Rule, ◌unless◌}
use Rattle.janssen.specs.Numbers.{FillingNumbers}
use Rattle.description.specs.Silo.{strake_count, depth_count, edge_of}
use Rattle.sheet.specs.Refusal.{sheet_rules, length_refusal}
use Rattle.loads.specs.declared.Silo.{Silo}
use Rattle.loads.specs.Load.{Load}
use Rattle.loads.specs.Load.{eight, load_number, bottom_numbers}
use Rattle.loads.specs.Load.Load.{listed_depth, p_hf, p_wf, p_vf, P_w, p_he, p_we, p_p}
use Rattle.answers.specs.Each.{each}
use Rattle.answers.specs.Length.{told}
use Rattle.answers.specs.Answers.{silo_of, depth}

-- a load's name in the heading
abbrev pub name : Load → List ℕ
name listed_depth = ascii ("z" ∷ [])
name p_hf = ascii ("p" ∷ "h" ∷ "f" ∷ [])
name p_wf = ascii ("p" ∷ "w" ∷ "f" ∷ [])
name p_vf = ascii ("p" ∷ "v" ∷ "f" ∷ [])
name P_w = ascii ("P" ∷ "W" ∷ [])
name p_he = ascii ("p" ∷ "h" ∷ "e" ∷ [])
name p_we = ascii ("p" ∷ "w" ∷ "e" ∷ [])
name p_p = ascii ("p" ∷ "p" ∷ [])

-- a line: texts, each in its field, and a line feed
abbrev pub line : List (List ℕ) → List ℕ
line [] = line_feed ∷ []
line (t ∷ l) = field t ++ line l

unfoldable pub heading : List ℕ
heading = line (map name eight)

-- the loads of a depth
abbrev pub depth_line : FillingNumbers → Silo → ℕ → List ℕ
depth_line f c z = line (map (λ l. decimal (load_number f c l z)) eight)

-- one number
abbrev pub number_line : ℕ → List ℕ
number_line n = line (decimal n ∷ [])

-- the page of a sheet: depths in its order, bottom, strakes
unfoldable pub page : FillingNumbers → List ℕ → List ℕ
page f s =
    heading
    ++ (each (λ i. depth_line f (silo_of s) (depth s i)) 0 (depth_count s)
    ++ (each (λ k. number_line (get_or (bottom_numbers f (silo_of s)) k 0)) 0 10
    ++ each (λ k. number_line (load_number f (silo_of s) p_he (edge_of s (suc k)))) 0 (strake_count s)))

-- its length: 72 characters and a line feed for the heading and each depth, 9 and one for each number of bottom and strakes
abbrev pub page_size : ℕ → ℕ → ℕ
page_size depths strakes = 73 * (1 + depths) + 10 * (10 + strakes)

unfoldable pub page_due : List ℕ → ℕ
page_due s = page_size (depth_count s) (strake_count s)

-- what its length call answers
abbrev pub page_length : List ℕ → Result ℕ ℕ
page_length s = told (length_refusal s) (page_due s)

-- the rules of the page call, lent a buffer of so many bytes: those of the sheet, then 18
unfoldable pub page_rules : List ℕ → ℕ → List Rule
page_rules s n = sheet_rules s ++ (18 unless leb (page_due s) n ∷ [])

-- Reading the fields of the page back gives the numbers of the answer list (`reads_back`), and a space stands before each of a depth's eight
-- numbers (`spaced`).
-- A character of the page is found by its line, its column and its place there; the nine of a field make up the number's field, since it has at most
-- nine digits.
-- Assumes nothing.
use Prim.Native.Nat.{ℕ, ◌+◌, ◌-◌, ◌*◌, ◌^◌, ◌≤◌, ◌<◌}
use mathlib.Core.Path.{◌≡◌, refl, ap, sym, ◌∙◌}
use mathlib.Core.List.{List, ◌++◌}
use native.Mathlib.Nat.{add-zero}
use native.Mathlib.Omega.{arith}
use lib.ListN.{length, get_or, take, drop, length-append, length-drop, get_or-append}
use lib.Seq.{get_or-append-add, get_or-take, get_or-drop, length-take-le, ext_get_or}
use Rattle.text.specs.Text.{space}
use Rattle.text.specs.Reading.{reading}
use Rattle.text.specs.program.Mark.{number_field}
use Rattle.text.proofs.Fields.{field_length, field_spaced, field_read}
use Rattle.janssen.specs.Numbers.{FillingNumbers}
use Rattle.description.specs.Silo.{strake_count, depth_count}
use Rattle.sheet.specs.Refusal.{refusal_of}
use Rattle.answers.specs.Each.{each}
use Rattle.answers.specs.Length.{length_due}
use Rattle.answers.specs.Place.{load_place, bottom_place, strake_place}
use Rattle.answers.specs.Claim.{Claim}
use Rattle.answers.proofs.Stores.{part_at}
use Rattle.answers.proofs.Digits.{eight_digits, nine_digits}
use Rattle.page.specs.Page.{heading, page}
use Rattle.page.specs.Reading.{column_field, rest_field, number_at, ReadsBack}
use Rattle.page.specs.program.Text.{at_column, row_text, number_text, at_rest, rows, page_text}
use Rattle.page.proofs.Lines.{Few, heading_length, column_length, columns_length, row_length, rows_length, rest_line, page_text_length}
use Rattle.page.proofs.Named.{page_named}

-- ---- the characters of a field
module _ (list : List ℕ) (few : Few list) (n : ℕ) where
  -- of column j of the depth i
  row_character : (i j t : ℕ) → i < n → j < 8 → t < 9
      → get_or (page_text load_place list n) (73 * (1 + i) + 9 * j + t) 0 ≡ get_or (number_field (get_or list (load_place n j i) 0)) t 0
  unfolding page_text row_text
  row_character i j t hi hj ht =
      let at : 73 * (1 + i) + 9 * j + t ≡ length heading + (73 * i + (9 * j + t)) = omega (arith, heading_length) in
      ap (λ (k : ℕ). get_or (page_text load_place list n) k 0) at
      ∙ get_or-append-add heading _ (73 * i + (9 * j + t)) 0
      ∙ get_or-append (rows load_place list n) _ 0 (73 * i + (9 * j + t)) (omega (arith, rows_length load_place list few n))
      ∙ part_at (row_text load_place list n) 73 (row_length load_place list few n) n (73 * i + (9 * j + t)) i (9 * j + t) refl hi (omega arith)
      ∙ get_or-append (each (at_column load_place list n i) 0 8) _ 0 (9 * j + t) (omega (arith, columns_length load_place list few n i))
      ∙ part_at (at_column load_place list n i) 9 (column_length load_place list few n i) 8 (9 * j + t) j t refl hj ht

  -- of number k behind the depths
  rest_character : (k t : ℕ) → k < length list - bottom_place n 0 → t < 9
      → get_or (page_text load_place list n) (rest_field n k + t) 0 ≡ get_or (number_field (get_or list (bottom_place n 0 + k) 0)) t 0
  unfolding page_text number_text
  rest_character k t hk ht =
      let at : rest_field n k + t ≡ length heading + (length (rows load_place list n) + (10 * k + t)) = omega (arith, heading_length, rows_length load_place list few n) in
      ap (λ (m : ℕ). get_or (page_text load_place list n) m 0) at
      ∙ get_or-append-add heading _ (length (rows load_place list n) + (10 * k + t)) 0
      ∙ get_or-append-add (rows load_place list n) _ (10 * k + t) 0
      ∙ part_at (at_rest list (bottom_place n 0)) 10 (rest_line list few (bottom_place n 0)) (length list - bottom_place n 0) (10 * k + t) k t refl hk (omega arith)
      ∙ get_or-append (number_field (get_or list (bottom_place n 0 + k) 0)) _ 0 t (omega (arith, field_length (get_or list (bottom_place n 0 + k) 0) (few (bottom_place n 0 + k))))

-- nine characters that are those of a number's field
field_back : (text : List ℕ) (at m : ℕ) → m < 10 ^ 9 → at + 9 ≤ length text → ((t : ℕ) → t < 9 → get_or text (at + t) 0 ≡ get_or (number_field m) t 0)
    → number_at text at ≡ m
field_back text at m h room same =
    let nine : length (take 9 (drop at text)) ≡ 9 = length-take-le 9 (drop at text) (omega (arith, length-drop at text)) in
    ap reading
    (ext_get_or 0 (take 9 (drop at text)) (number_field m) (nine ∙ sym (field_length m h))
    (λ t g. get_or-take 9 (drop at text) t 0 (omega (arith, nine)) ∙ get_or-drop at text t 0 ∙ same t (omega (arith, nine))))
    ∙ field_read m h

module _ (f : FillingNumbers) (s list behind : List ℕ) (h : refusal_of s ≡ 0) (claim : Claim f s list) where
  abbrev n : ℕ
  n = depth_count s

  few : Few list
  few = nine_digits f s list h claim

  rest_count : length list - bottom_place n 0 ≡ 10 + strake_count s
  unfolding length_due
  rest_count = omega (arith, claim.filled.sized)

  text_length : length (page_text load_place list n) ≡ 73 * (1 + n) + 10 * (10 + strake_count s)
  text_length = page_text_length load_place list few n ∙ ap (λ (m : ℕ). 73 * (1 + n) + 10 * m) rest_count

  -- the page, and what stands behind it in the buffer
  inside : (at : ℕ) → at < length (page_text load_place list n) → get_or (page f s ++ behind) at 0 ≡ get_or (page_text load_place list n) at 0
  inside at g =
      ap (λ (l : List ℕ). get_or (l ++ behind) at 0) (sym (page_named load_place f s list claim.filled)) ∙ get_or-append (page_text load_place list n) behind 0 at g

  longer : length (page_text load_place list n) ≤ length (page f s ++ behind)
  longer = omega (arith, length-append (page f s) behind, ap length (page_named load_place f s list claim.filled))

  -- number j of the depth i
  abbrev listed : ℕ → ℕ → ℕ
  listed i j = get_or list (load_place n j i) 0

  load_character : (i j t : ℕ) → i < n → j < 8 → t < 9
      → get_or (page f s ++ behind) (column_field i j + t) 0 ≡ get_or (number_field (listed i j)) t 0
  load_character i j t hi hj ht =
      inside (column_field i j + t) (omega (arith, text_length))
      ∙ row_character list few n i j t hi hj ht

  pub spaced : (i j : ℕ) → i < n → j < 8 → get_or (page f s ++ behind) (column_field i j) 0 ≡ space
  spaced i j hi hj =
      ap (λ (at : ℕ). get_or (page f s ++ behind) at 0) (sym (add-zero (column_field i j)))
      ∙ load_character i j 0 hi hj (omega arith)
      ∙ ap (λ (t : List ℕ). get_or t 0 0) (field_spaced (listed i j) (eight_digits f s list h claim j i hj hi))

  load_back : (i j : ℕ) → i < n → j < 8 → number_at (page f s ++ behind) (column_field i j) ≡ listed i j
  load_back i j hi hj =
      field_back (page f s ++ behind) (column_field i j) (listed i j)
      (omega (arith, eight_digits f s list h claim j i hj hi)) (omega (arith, longer, text_length)) (λ t ht. load_character i j t hi hj ht)

  rest_back : (k : ℕ) → k < 10 + strake_count s → number_at (page f s ++ behind) (rest_field n k) ≡ get_or list (bottom_place n 0 + k) 0
  rest_back k hk =
      field_back (page f s ++ behind) (rest_field n k) (get_or list (bottom_place n 0 + k) 0) (few (bottom_place n 0 + k)) (omega (arith, longer, text_length))
      (λ t ht. inside (rest_field n k + t) (omega (arith, text_length)) ∙ rest_character list few n k t (omega (arith, rest_count)) ht)

  pub reads_back : ReadsBack s (page f s ++ behind) list
  reads_back =
      record {
        depths_back = load_back;
        bottom_back =
            λ k g.
            let at : bottom_place n 0 + k ≡ bottom_place n k = omega arith in
            rest_back k (omega arith) ∙ ap (λ (m : ℕ). get_or list m 0) at;
        strakes_back =
            λ k g.
            let at : bottom_place n 0 + (10 + k) ≡ strake_place n k = omega arith in
            rest_back (10 + k) (omega arith) ∙ ap (λ (m : ℕ). get_or list m 0) at;
      }

-- The lines of the page, stored one after the other. Every number of the list has at most nine digits (`Few`), so every field has nine characters.
-- Assumes nothing.
use Prim.Native.Nat.{ℕ, ◌+◌, ◌-◌, ◌*◌, ◌^◌, ◌<◌}
use mathlib.Core.Path.{◌≡◌, refl, ap, sym, ◌∙◌}
use mathlib.Core.List.{List, [], ◌∷◌, ◌++◌}
use native.Mathlib.Omega.{arith}
use lib.ListN.{length, get_or, set, length-append}
use lib.Seq.{sets}
use Rattle.text.specs.Text.{line_feed}
use Rattle.text.specs.program.Mark.{number_field}
use Rattle.text.proofs.Fields.{field_length}
use Rattle.records.proofs.Stores.{sets_append}
use Rattle.answers.specs.Each.{each}
use Rattle.answers.specs.Place.{bottom_place}
use Rattle.answers.proofs.Stores.{each_length}
use Rattle.page.specs.Page.{heading}
use Rattle.page.specs.program.Text.{at_column, row_text, number_text, at_rest, rows, rest, page_text}

abbrev pub Few : List ℕ → Type 0
Few list = (k : ℕ) → get_or list k 0 < 10 ^ 9

pub heading_length : length heading ≡ 73
unfolding heading
heading_length = refl

-- a text and the line feed behind it
pub line_stored : (l out t : List ℕ) (at n place : ℕ) → length t ≡ n → place ≡ at + n → out ≡ sets l at t → set out place line_feed ≡ sets l at (t ++ (line_feed ∷ []))
line_stored l out t at n place h e f = rw (e, ← h, f) (sym (sets_append l at t (line_feed ∷ [])))

pub number_text_length : (n : ℕ) → n < 10 ^ 9 → length (number_text n) ≡ 10
unfolding number_text
number_text_length n h = length-append (number_field n) (line_feed ∷ []) ∙ omega (arith, field_length n h)

module _ (list : List ℕ) (few : Few list) where
  pub rest_line : (from k : ℕ) → length (at_rest list from k) ≡ 10
  rest_line from k = number_text_length (get_or list (from + k) 0) (few (from + k))

  pub rest_length : (from : ℕ) → length (rest list from) ≡ 10 * (length list - from)
  rest_length from = each_length (at_rest list from) 10 (rest_line from) 0 (length list - from)

module _ (place : ℕ → ℕ → ℕ → ℕ) (list : List ℕ) (few : Few list) where
  pub column_length : (n i j : ℕ) → length (at_column place list n i j) ≡ 9
  column_length n i j = field_length (get_or list (place n j i) 0) (few (place n j i))

  pub columns_length : (n i : ℕ) → length (each (at_column place list n i) 0 8) ≡ 72
  columns_length n i = each_length (at_column place list n i) 9 (column_length n i) 0 8

  pub row_length : (n i : ℕ) → length (row_text place list n i) ≡ 73
  unfolding row_text
  row_length n i = length-append (each (at_column place list n i) 0 8) (line_feed ∷ []) ∙ omega (arith, columns_length n i)

  pub rows_length : (n : ℕ) → length (rows place list n) ≡ 73 * n
  rows_length n = each_length (row_text place list n) 73 (row_length n) 0 n

  -- heading, rows and rest
  pub page_text_length : (n : ℕ) → length (page_text place list n) ≡ 73 * (1 + n) + 10 * (length list - bottom_place n 0)
  unfolding page_text
  page_text_length n =
      length-append heading (rows place list n ++ rest list (bottom_place n 0))
      ∙ omega (arith, heading_length, length-append (rows place list n) (rest list (bottom_place n 0)), rows_length n, rest_length list few (bottom_place n 0))

  pub parts_stored : (l l₁ l₂ l₃ : List ℕ) (n at : ℕ) → at ≡ 73 + 73 * n → l₁ ≡ sets l 0 heading → l₂ ≡ sets l₁ 73 (rows place list n)
      → l₃ ≡ sets l₂ at (rest list (bottom_place n 0)) → l₃ ≡ sets l 0 (page_text place list n)
  unfolding page_text
  parts_stored l l₁ l₂ l₃ n at e e₁ e₂ e₃ =
      let behind : 0 + length heading ≡ 73 = omega (arith, heading_length) in
      let below : 73 + length (rows place list n) ≡ at = omega (arith, rows_length n) in
      let X = rows place list n ++ rest list (bottom_place n 0) in
      sym
      (sets_append l 0 heading X
      ∙ ap (λ (k : ℕ). sets (sets l 0 heading) k X) behind
      ∙ ap (λ (x : List ℕ). sets x 73 X) (sym e₁)
      ∙ sets_append l₁ 73 (rows place list n) (rest list (bottom_place n 0))
      ∙ ap (λ (k : ℕ). sets (sets l₁ 73 (rows place list n)) k (rest list (bottom_place n 0))) below
      ∙ ap (λ (x : List ℕ). sets x at (rest list (bottom_place n 0))) (sym e₂)
      ∙ sym e₃)

-- The page of a list that has each number in its place, whatever the order of its depths' numbers, is the page of the sheet, load by load.
-- Assumes nothing.
use Prim.Native.Nat.{ℕ, suc, ◌+◌, ◌-◌, ◌<◌}
use mathlib.Core.Path.{◌≡◌, ap, ap₂, ◌∙◌}
use mathlib.Core.List.{List, ◌++◌, map, append_assoc}
use native.Mathlib.Omega.{arith}
use lib.ListN.{length, get_or}
use Rattle.text.specs.Text.{decimal}
use Rattle.text.specs.program.Mark.{number_field}
use Rattle.janssen.specs.Numbers.{FillingNumbers}
use Rattle.description.specs.Silo.{strake_count, depth_count, edge_of}
use Rattle.loads.specs.Load.{Load}
use Rattle.loads.specs.Load.{eight, load_number, bottom_numbers}
use Rattle.loads.specs.Load.Load.{p_he}
use Rattle.answers.specs.Each.{each}
use Rattle.answers.specs.Length.{length_due}
use Rattle.answers.specs.Answers.{silo_of, depth, FilledBy}
use Rattle.answers.specs.Place.{bottom_place, strake_place}
use Rattle.answers.specs.Order.{rank}
use Rattle.answers.proofs.Places.{at_load}
use Rattle.answers.proofs.Stores.{each_same, each_split}
use Rattle.page.specs.Page.{line, depth_line, number_line, heading, page}
use Rattle.page.specs.program.Text.{row_text, number_text, at_rest, rows, rest, page_text}

-- a row is the line of its eight numbers, by name
row_line : (place : ℕ → ℕ → ℕ → ℕ) (list : List ℕ) (n i : ℕ) → row_text place list n i ≡ line (map (λ (l : Load). decimal (get_or list (place n (rank l) i) 0)) eight)
unfolding row_text each number_field
row_line place list n i = simp append_assoc

module _ (place : ℕ → ℕ → ℕ → ℕ) (f : FillingNumbers) (s list : List ℕ) (fill : FilledBy place f s list) where
  abbrev n : ℕ
  n = depth_count s

  row_named : (i : ℕ) → i < n → row_text place list n i ≡ depth_line f (silo_of s) (depth s i)
  row_named i h =
      row_line place list n i ∙ ap (λ (number : Load → ℕ). line (map (λ (l : Load). decimal (number l)) eight)) (λ j l. at_load fill l i h j)

  rows_named : rows place list n ≡ each (λ (i : ℕ). depth_line f (silo_of s) (depth s i)) 0 n
  rows_named =
      each_same (row_text place list n) (λ (i : ℕ). depth_line f (silo_of s) (depth s i)) 0 n (λ i a h. row_named i (omega arith))

  -- a number of bottom or strakes
  text_line : {n m : ℕ} → n ≡ m → number_text n ≡ number_line m
  unfolding number_text number_field
  text_line e = ap number_line e

  bottom_named : each (at_rest list (bottom_place n 0)) 0 10 ≡ each (λ (k : ℕ). number_line (get_or (bottom_numbers f (silo_of s)) k 0)) 0 10
  bottom_named =
      each_same _ _ 0 10
      (λ k a h.
      let at : bottom_place n 0 + k ≡ bottom_place n k = omega arith in
      text_line (ap (λ (m : ℕ). get_or list m 0) at ∙ fill.at_bottom k (omega arith)))

  strakes_named : each (λ (k : ℕ). at_rest list (bottom_place n 0) (10 + k)) 0 (strake_count s)
      ≡ each (λ (k : ℕ). number_line (load_number f (silo_of s) p_he (edge_of s (suc k)))) 0 (strake_count s)
  strakes_named =
      each_same _ _ 0 (strake_count s)
      (λ k a h.
      let at : bottom_place n 0 + (10 + k) ≡ strake_place n k = omega arith in
      text_line (ap (λ (m : ℕ). get_or list m 0) at ∙ fill.at_strakes k (omega arith)))

  rest_named : rest list (bottom_place n 0)
      ≡ each (λ (k : ℕ). number_line (get_or (bottom_numbers f (silo_of s)) k 0)) 0 10
      ++ each (λ (k : ℕ). number_line (load_number f (silo_of s) p_he (edge_of s (suc k)))) 0 (strake_count s)
  unfolding length_due
  rest_named =
      let count : length list - bottom_place n 0 ≡ 10 + strake_count s = omega (arith, fill.sized) in
      ap (each (at_rest list (bottom_place n 0)) 0) count
      ∙ each_split (at_rest list (bottom_place n 0)) 10 (strake_count s)
      ∙ ap₂ ◌++◌ bottom_named strakes_named

  pub page_named : page_text place list n ≡ page f s
  unfolding page_text page
  page_named = ap (λ (l : List ℕ). heading ++ l) (ap₂ ◌++◌ rows_named rest_named)

-- What C-18 of document 02 says of the answer list, for any filling numbers f.
--     column_of       all z first, then all p_hf, and so on: the column of a load is that load at each depth of the sheet, in its order
--     same_numbers    the number for a given load and depth equals the one that the row order held; bottom and strakes stand as before
--     carried_over    the same of what the load call leaves
--     rows_hold       so every load keeps its band or allowance where the row order held it
--     in_rows         every list in columns has one in rows beside it
-- Assumes nothing.
use Prim.Native.Nat.{ℕ, ◌+◌, ◌*◌, ◌≤◌, ◌<◌}
use mathlib.Core.Path.{◌≡◌, ap, sym, subst, ◌∙◌}
use mathlib.Core.List.{List, ◌++◌, map}
use native.Mathlib.Omega.{arith}
use lib.ListN.{length, get_or, drop, length-append, length-drop, length-map, get_or-append}
use lib.Seq.{get_or-append-add, get_or-take, get_or-drop, length-take-le, ext_get_or}
use Rattle.std.proofs.lemmas.List.{get_or-map}
use Rattle.janssen.specs.Numbers.{FillingNumbers}
use Rattle.description.specs.Silo.{strake_count, depths_of, depth_count}
use Rattle.sheet.specs.Refusal.{refusal_of}
use Rattle.sheet.proofs.Acceptance.{depths_length}
use Rattle.loads.specs.Load.{Load}
use Rattle.loads.specs.Load.{eight, load_number}
use Rattle.loads.specs.Load.Load.{listed_depth}
use Rattle.loads.specs.Holds.{Holds}
use Rattle.answers.specs.Place.{load_place}
use Rattle.answers.specs.Length.{length_due}
use Rattle.answers.specs.Answers.{silo_of, depth, FilledBy, Filled}
use Rattle.answers.specs.Claim.{Claim}
use Rattle.answers.specs.Order.{rank}
use Rattle.answers.specs.Columns.{column, row_place, SameNumbers}
use Rattle.answers.specs.Promise.{Promise}
use Rattle.answers.specs.program.Place.{grid}
use Rattle.answers.proofs.Stores.{grid_length, grid_at}
use Rattle.answers.proofs.PlaceLaws.{column_before}
use Rattle.answers.proofs.Places.{rank_most, at_load}
use Rattle.answers.proofs.Order.{depths_hold}

module _ (f : FillingNumbers) (s list : List ℕ) (a : Filled f s list) where
  abbrev n : ℕ
  n = depth_count s

  due : length list ≡ 8 * n + 10 + strake_count s
  unfolding length_due
  due = a.sized

  pub column_of : (l : Load) → column s list l ≡ map (load_number f (silo_of s) l) (depths_of s)
  unfolding load_place
  column_of l =
      let from = rank l * n in
      let g = load_number f (silo_of s) l in
      let ends : from + n ≤ 8 * n = column_before n (rank l) 8 (rank_most l) in
      let sized : length (column s list l) ≡ n = length-take-le n (drop from list) (omega (arith, length-drop from list, due, ends)) in
      ext_get_or 0 (column s list l) (map g (depths_of s)) (sized ∙ sym (length-map (depths_of s) g ∙ depths_length s))
      (λ i h.
      let here : i < n = omega (arith, h, sized) in
      get_or-take n (drop from list) i 0 here
      ∙ get_or-drop from list i 0
      ∙ at_load a l i here
      ∙ sym (get_or-map g (depths_of s) i 0 0 (omega (arith, here, depths_length s))))

  pub same_numbers : (rows : List ℕ) → FilledBy row_place f s rows → SameNumbers s list rows
  same_numbers rows b =
      record {
        length_same = a.sized ∙ sym b.sized;
        loads_same = λ l i h. at_load a l i h ∙ sym (at_load b l i h);
        bottom_same = λ k h. a.at_bottom k h ∙ sym (b.at_bottom k h);
        strakes_same = λ k h. a.at_strakes k h ∙ sym (b.at_strakes k h);
      }

  -- the numbers of the depths in rows, and what stands behind them
  abbrev number : ℕ → ℕ → ℕ
  number i r = get_or list (load_place n r i) 0

  abbrev rows : List ℕ
  rows = grid n 8 number ++ drop (8 * n) list

  row_at : (r i : ℕ) → r < 8 → i < n → get_or rows (row_place n r i) 0 ≡ load_number f (silo_of s) (get_or eight r listed_depth) (depth s i)
  unfolding row_place
  row_at r i l h =
      get_or-append (grid n 8 number) (drop (8 * n) list) 0 (8 * i + r) (omega (arith, grid_length n 8 number))
      ∙ grid_at n 8 number i r h l
      ∙ a.at_depths r i l h

  behind : (k : ℕ) → get_or rows (8 * n + k) 0 ≡ get_or list (8 * n + k) 0
  behind k =
      let at : 8 * n + k ≡ length (grid n 8 number) + k = omega (arith, grid_length n 8 number) in
      ap (λ (p : ℕ). get_or rows p 0) at ∙ get_or-append-add (grid n 8 number) (drop (8 * n) list) k 0 ∙ get_or-drop (8 * n) list k 0

  pub in_rows : (rows : List ℕ) × FilledBy row_place f s rows
  in_rows = (
    rows,
    record {
      sized = length-append (grid n 8 number) (drop (8 * n) list) ∙ omega (arith, grid_length n 8 number, length-drop (8 * n) list, due, a.sized);
      at_depths = row_at;
      at_bottom = λ k h. behind k ∙ a.at_bottom k h;
      at_strakes =
          λ k h.
          let at : 8 * n + 10 + k ≡ 8 * n + (10 + k) = omega arith in
          ap (λ (p : ℕ). get_or rows p 0) at ∙ behind (10 + k) ∙ ap (λ (p : ℕ). get_or list p 0) (sym at) ∙ a.at_strakes k h;
    },
  )

pub carried_over : (f : List ℕ → FillingNumbers) (t s lent left rows : List ℕ) (r : ℕ) → Promise f t s lent r left → r ≡ 0 → FilledBy row_place (f t) s rows
    → SameNumbers s left rows
carried_over f t s lent left rows r p e b = same_numbers (f t) s left (p.1.done e).filled rows b

pub rows_hold : (f : FillingNumbers) (s list rows : List ℕ) → refusal_of s ≡ 0 → Claim f s list → FilledBy row_place f s rows → (l : Load) (i : ℕ)
    → i < depth_count s → Holds (silo_of s) l (depth s i) (get_or rows (row_place (depth_count s) (rank l) i) 0)
rows_hold f s list rows h claim b l i g =
    subst (Holds (silo_of s) l (depth s i)) ((same_numbers f s list claim.filled rows b).loads_same l i g) (depths_hold f s list h claim l i g)

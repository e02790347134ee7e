-- Where each number stands in the answer list: eight of each depth, ten of the bottom, one of each strake.
-- Assumes nothing.
use Prim.Native.Nat.{ℕ, zero, suc, ◌+◌, ◌-◌, ◌*◌, ◌<◌}
use mathlib.Core.Path.{◌≡◌, refl, ap, sym, ◌∙◌, subst}
use mathlib.Core.Bool.{Bool, true, false, cond}
use mathlib.Core.List.{List}
use native.Mathlib.Decide.{dec_lt}
use native.Mathlib.Omega.{arith}
use lib.Dec.{eqb}
use lib.ListN.{length, get_or, length-append, get_or-append}
use lib.Seq.{get_or-append-add, ext_get_or}
use Rattle.janssen.specs.Numbers.{FillingNumbers}
use Rattle.janssen.specs.program.Pressure.{computed}
use Rattle.description.specs.Silo.{strakes_of, strake_count, depth_count, edge_of}
use Rattle.description.proofs.Walls.{strakes_length}
use Rattle.loads.specs.declared.Silo.{Silo}
use Rattle.loads.specs.Load.{Load}
use Rattle.loads.specs.Load.{eight, load_number, bottom_numbers}
use Rattle.loads.specs.Load.Load.{listed_depth, p_hf, p_wf, p_vf, P_w, p_he, p_we, p_p}
use Rattle.loads.specs.program.Basis.{depth_numbers}
use Rattle.answers.specs.Place.{load_place, bottom_place, strake_place}
use Rattle.answers.specs.Length.{length_due}
use Rattle.answers.specs.Answers.{silo_of, depth, bottom_in, strake_in, FilledBy, Filled}
use Rattle.answers.specs.Order.{rank}
use Rattle.answers.specs.program.Fill.{at_strake, number_of, depths_part, bottom_part, strakes_part, answers}
use Rattle.answers.proofs.Stores.{each_length, part_at}
use Rattle.answers.proofs.PlaceLaws.{load_under, load_every, placed_length, placed_at}

-- a property of each of a depth's eight
by_eight : (E : ℕ → Type 0) → E 0 → E 1 → E 2 → E 3 → E 4 → E 5 → E 6 → E 7 → (r : ℕ) → r < 8 → E r
by_eight E a b c d e f g h zero l = a
by_eight E a b c d e f g h (suc zero) l = b
by_eight E a b c d e f g h (suc (suc zero)) l = c
by_eight E a b c d e f g h (suc (suc (suc zero))) l = d
by_eight E a b c d e f g h (suc (suc (suc (suc zero)))) l = e
by_eight E a b c d e f g h (suc (suc (suc (suc (suc zero))))) l = f
by_eight E a b c d e f g h (suc (suc (suc (suc (suc (suc zero)))))) l = g
by_eight E a b c d e f g h (suc (suc (suc (suc (suc (suc (suc zero))))))) l = h
by_eight E a b c d e f g h (suc (suc (suc (suc (suc (suc (suc (suc r)))))))) l = absurd (omega arith)

pub rank_most : (l : Load) → rank l < 8
rank_most listed_depth = omega arith
rank_most p_hf = omega arith
rank_most p_wf = omega arith
rank_most p_vf = omega arith
rank_most P_w = omega arith
rank_most p_he = omega arith
rank_most p_we = omega arith
rank_most p_p = omega arith

-- each number of a depth in its order
numbered : (c : Silo) (x r : ℕ) → r < 8 → get_or (depth_numbers c x) r 0 ≡ load_number computed c (get_or eight r listed_depth) x
unfolding depth_numbers
numbered c x = by_eight (λ (r : ℕ). get_or (depth_numbers c x) r 0 ≡ load_number computed c (get_or eight r listed_depth) x) refl refl refl refl refl refl refl refl

ten_of : (b : Bool) (xs ys : List ℕ) → length xs ≡ 10 → length ys ≡ 10 → length (cond b xs ys) ≡ 10
ten_of true xs ys h g = h
ten_of false xs ys h g = g

-- the list's three parts
module _ (s : List ℕ) where
  abbrev c : Silo
  c = silo_of s

  pub length_depths_part : length (depths_part s) ≡ 8 * depth_count s
  length_depths_part = placed_length (depth_count s) (number_of s)

  pub length_bottom_part : length (bottom_part s) ≡ 10
  unfolding bottom_numbers
  length_bottom_part = ten_of (eqb c.run 0) _ _ refl refl

  length_strakes_part : length (strakes_part s) ≡ strake_count s
  length_strakes_part =
      omega (arith, each_length (at_strake c (strakes_of s)) 1 (λ k. refl) 0 (length (strakes_of s)), strakes_length s)

  pub length_answers : length (answers s) ≡ length_due s
  unfolding answers length_due
  length_answers = simp length-append (omega (arith, length_depths_part, length_bottom_part, length_strakes_part))

  -- number r of the depth i
  load_at : (r i : ℕ) → r < 8 → i < depth_count s → get_or (answers s) (load_place (depth_count s) r i) 0 ≡ load_number computed c (get_or eight r listed_depth) (depth s i)
  unfolding answers
  load_at r i l h =
      get_or-append (depths_part s) _ 0 (load_place (depth_count s) r i) (omega (arith, length_depths_part, load_under (depth_count s) r i l h))
      ∙ placed_at (depth_count s) (number_of s) r i l h
      ∙ numbered c (depth s i) r l

  -- number k of the bottom
  bottom_at : (k : ℕ) → k < 10 → bottom_in s (answers s) k ≡ get_or (bottom_numbers computed c) k 0
  unfolding answers
  bottom_at k h =
      let at : bottom_place (depth_count s) k ≡ length (depths_part s) + k = omega (arith, length_depths_part) in
      ap (λ (n : ℕ). get_or (answers s) n 0) at
      ∙ get_or-append-add (depths_part s) _ k 0
      ∙ get_or-append (bottom_part s) _ 0 k (omega (arith, length_bottom_part))

  -- the strake k
  strake_at : (k : ℕ) → k < strake_count s → strake_in s (answers s) k ≡ load_number computed c p_he (edge_of s (suc k))
  unfolding answers edge_of
  strake_at k h =
      let at : strake_place (depth_count s) k ≡ length (depths_part s) + (length (bottom_part s) + k) =
      omega (arith, length_depths_part, length_bottom_part) in
      ap (λ (n : ℕ). get_or (answers s) n 0) at
      ∙ get_or-append-add (depths_part s) _ (length (bottom_part s) + k) 0
      ∙ get_or-append-add (bottom_part s) _ k 0
      ∙ part_at (at_strake c (strakes_of s)) 1 (λ i. refl) (length (strakes_of s)) k k 0 (omega arith) (omega (arith, strakes_length s)) (omega arith)

  -- the list that the program fills has each number in its place
  pub answers_filled : Filled computed s (answers s)
  answers_filled = record { sized = length_answers; at_depths = load_at; at_bottom = bottom_at; at_strakes = strake_at }

-- a load by its name
pub at_load : {place : ℕ → ℕ → ℕ → ℕ} {f : FillingNumbers} {s list : List ℕ} → FilledBy place f s list → (l : Load) (i : ℕ) → i < depth_count s
    → get_or list (place (depth_count s) (rank l) i) 0 ≡ load_number f (silo_of s) l (depth s i)
at_load a listed_depth i h = a.at_depths 0 i (omega arith) h
at_load a p_hf i h = a.at_depths 1 i (omega arith) h
at_load a p_wf i h = a.at_depths 2 i (omega arith) h
at_load a p_vf i h = a.at_depths 3 i (omega arith) h
at_load a P_w i h = a.at_depths 4 i (omega arith) h
at_load a p_he i h = a.at_depths 5 i (omega arith) h
at_load a p_we i h = a.at_depths 6 i (omega arith) h
at_load a p_p i h = a.at_depths 7 i (omega arith) h

-- what holds of the first a indices and of the b after them
by_parts : (E : ℕ → Type 0) (a b : ℕ) → ((i : ℕ) → i < a → E i) → ((k : ℕ) → k < b → E (a + k)) → (i : ℕ) → i < a + b → E i
by_parts E a b f g i h = go (dec_lt i a)
  where
    go : Dec (i < a) → E i
    go (yes u) = f i u
    go (no u) =
        let at : a + (i - a) ≡ i = omega arith in
        subst E at (g (i - a) (omega arith))

-- every place is one of a load, of the bottom or of a strake
pub every_place : (s : List ℕ) (E : ℕ → Type 0) → ((r i : ℕ) → r < 8 → i < depth_count s → E (load_place (depth_count s) r i))
    → ((k : ℕ) → k < 10 → E (bottom_place (depth_count s) k)) → ((k : ℕ) → k < strake_count s → E (strake_place (depth_count s) k))
    → (i : ℕ) → i < length_due s → E i
unfolding length_due
every_place s E depths bottom strakes =
    by_parts E (8 * depth_count s + 10) (strake_count s) (by_parts E (8 * depth_count s) 10 (load_every (depth_count s) E depths) bottom) strakes

-- so `Filled` leaves no number of the list open
pub filled_once : (f : FillingNumbers) (s l l' : List ℕ) → Filled f s l → Filled f s l' → l ≡ l'
filled_once f s l l' a b =
    let same =
    every_place s (λ i. get_or l i 0 ≡ get_or l' i 0) (λ r i g h. a.at_depths r i g h ∙ sym (b.at_depths r i g h)) (λ k h. a.at_bottom k h ∙ sym (b.at_bottom k h))
    (λ k h. a.at_strakes k h ∙ sym (b.at_strakes k h)) in
    ext_get_or 0 l l' (a.sized ∙ sym b.sized) (λ i h. same i (omega (arith, a.sized)))

-- The numbers of the depths stored in their places, number by number (`Placed`) and depth by depth (`PlacedTo`); in the end the list begins with all of them.
-- Assumes nothing.
use Prim.Native.Nat.{ℕ, ◌+◌, ◌*◌, ◌≤◌, ◌<◌}
use mathlib.Core.Path.{◌≡◌, refl, sym, ◌∙◌}
use mathlib.Core.List.{List}
use native.Mathlib.Decide.{dec_lt}
use native.Mathlib.Omega.{arith}
use lib.ListN.{length, get_or, set, length-set}
use lib.Seq.{get_or-set_same, get_or-set_other, ext_get_or}
use Rattle.answers.specs.Place.{load_place}
use Rattle.answers.specs.program.Place.{Placed, in_places}
use Rattle.answers.proofs.PlaceLaws.{load_under, load_apart, load_every, placed_length, placed_at}

-- ---- the eight of the depth i
module _ (n i : ℕ) (numbers lent : List ℕ) where
  pub placed_start : Placed n i 0 numbers lent lent
  placed_start = record { sized = refl; there = λ r l. absurd (omega arith); elsewhere = λ k o. refl }

  pub placed_next : (m place : ℕ) (list : List ℕ) → place ≡ load_place n m i → m < 8 → i < n → 8 * n ≤ length lent → Placed n i m numbers lent list
      → Placed n i (m + 1) numbers lent (set list place (get_or numbers m 0))
  placed_next m place list is l h room p =
      record {
        sized = length-set list place (get_or numbers m 0) ∙ p.sized;
        there = λ r g. at r g (dec_lt r m);
        elsewhere = λ k o. get_or-set_other list place k (get_or numbers m 0) 0 (λ e. o m (omega arith) (e ∙ is)) ∙ p.elsewhere k (λ r g. o r (omega arith));
      }
    where
      at : (r : ℕ) → r < m + 1 → Dec (r < m) → get_or (set list place (get_or numbers m 0)) (load_place n r i) 0 ≡ get_or numbers r 0
      at r g (yes u) =
          get_or-set_other list place (load_place n r i) (get_or numbers m 0) 0 (λ e. omega (arith, u, (load_apart n r i m i h h (e ∙ is)).0)) ∙ p.there r u
      at r g (no u) =
          let e : r ≡ m = omega arith in
          rw (e, ← is) (get_or-set_same list place (get_or numbers m 0) 0 (omega (arith, is, load_under n m i l h, room, p.sized)))

-- ---- the numbers of the first m depths
pub record PlacedTo (n m : ℕ) (number : ℕ → ℕ → ℕ) (list : List ℕ) : Type 0 where
  pub sized : length list ≡ 8 * n
  pub there : (r i : ℕ) → r < 8 → i < m → get_or list (load_place n r i) 0 ≡ number r i

module _ (n : ℕ) (number : ℕ → ℕ → ℕ) where
  pub depths_start : (list : List ℕ) → length list ≡ 8 * n → PlacedTo n 0 number list
  depths_start list e = record { sized = e; there = λ r i l h. absurd (omega arith) }

  pub depths_next : (m : ℕ) (numbers list list' : List ℕ) → m < n → ((r : ℕ) → r < 8 → get_or numbers r 0 ≡ number r m) → PlacedTo n m number list
      → Placed n m 8 numbers list list' → PlacedTo n (m + 1) number list'
  depths_next m numbers list list' h e p q =
      record {
        sized = q.sized ∙ p.sized;
        there = λ r i l g. at r i l g (dec_lt i m);
      }
    where
      at : (r i : ℕ) → r < 8 → i < m + 1 → Dec (i < m) → get_or list' (load_place n r i) 0 ≡ number r i
      at r i l g (yes u) =
          q.elsewhere (load_place n r i) (λ t k x. omega (arith, u, (load_apart n r i t m (omega arith) h x).1)) ∙ p.there r i l u
      at r i l g (no u) =
          let x : i ≡ m = omega arith in
          rw x (q.there r l ∙ e r l)

  -- all of them
  pub depths_done : (list : List ℕ) → PlacedTo n n number list → list ≡ in_places n number
  depths_done list p =
      ext_get_or 0 list (in_places n number) (p.sized ∙ sym (placed_length n number))
      (λ k h.
      load_every n (λ (k : ℕ). get_or list k 0 ≡ get_or (in_places n number) k 0) (λ r i l h. p.there r i l h ∙ sym (placed_at n number r i l h)) k
      (omega (arith, p.sized)))

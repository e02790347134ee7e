-- The numbers of the depths, stored in their places.
use Rattle.std.specs.Prelude.{ℕ, ◌<◌, ◌≡◌, List, [], ◌∷◌, length, get_or}
use Rattle.answers.specs.Each.{each}
use Rattle.answers.specs.Place.{load_place}

-- of the eight numbers of the depth i, of n, the first m stored in their places, and the rest of the list as it was lent
pub record Placed (n i m : ℕ) (numbers lent list : List ℕ) : Type 0 where
  pub sized : length list ≡ length lent
  pub there : (r : ℕ) → r < m → get_or list (load_place n r i) 0 ≡ get_or numbers r 0
  pub elsewhere : (k : ℕ) → ((r : ℕ) → r < m → k ≡ load_place n r i → ⊥) → get_or list k 0 ≡ get_or lent k 0

-- a number for each x below a and y below b, those of an x together
unfoldable pub grid : ℕ → ℕ → (ℕ → ℕ → ℕ) → List ℕ
grid a b number = each (λ x. each (λ y. number x y ∷ []) 0 b) 0 a

-- number r of the eight of each depth i, of n, in its place
abbrev pub in_places : ℕ → (ℕ → ℕ → ℕ) → List ℕ
in_places n number = grid 8 n number

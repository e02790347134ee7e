-- Parts stored one after the other, one for each index: what is written part by part is what is written as a whole, and where each number stands.
-- Assumes nothing.
use Prim.Native.Nat.{ℕ, zero, suc, ◌+◌, ◌-◌, ◌*◌, ◌≤◌, ◌<◌}
use mathlib.Core.Path.{◌≡◌, refl, ap, sym, ◌∙◌}
use mathlib.Core.List.{List, [], ◌∷◌, ◌++◌, append_assoc, append-nil}
use native.Mathlib.Nat.{add-zero, add-suc, suc-add, zero-add, not-suc-le-zero, le_of_suc-le-suc}
use native.Mathlib.Numerals.{add-one}
use native.Mathlib.Omega.{arith}
use lib.ListN.{length, get_or, length-append, get_or-append}
use lib.Seq.{sets, get_or-append-add}
use Rattle.records.proofs.Stores.{sets_append}
use Rattle.answers.specs.Each.{each}
use Rattle.answers.specs.program.Place.{grid}

-- a run of stores of a part for each index: its next, and its end
module _ (F : ℕ → List ℕ) where
  pub each_next : (l : List ℕ) (at at' n i : ℕ) → i < n → at' ≡ at + length (F i)
      → sets l at (each F i (n - i)) ≡ sets (sets l at (F i)) at' (each F (i + 1) (n - (i + 1)))
  unfolding each
  each_next l at at' n i h e =
      let m : n - i ≡ suc (n - (i + 1)) = omega arith in
      rw (m, e, add-one) (sets_append l at (F i) (each F (suc i) (n - suc i)))

  pub each_done : (l : List ℕ) (at n i : ℕ) → n ≤ i → sets l at (each F i (n - i)) ≡ l
  unfolding each
  each_done l at n i h =
      let m : n - i ≡ 0 = omega arith in
      rw m

  -- where each number of parts of w numbers stands
  module _ (w : ℕ) (wide : (i : ℕ) → length (F i) ≡ w) where
    pub each_length : (k n : ℕ) → length (each F k n) ≡ w * n
    unfolding each
    each_length k zero = omega arith
    each_length k (suc n) = rw length-append (omega (arith, wide k, each_length (suc k) n))

    each_at : (k n i j : ℕ) → i < n → j < w → get_or (each F k n) (w * i + j) 0 ≡ get_or (F (k + i)) j 0
    unfolding each
    each_at k zero i j h g = absurd (not-suc-le-zero h)
    each_at k (suc n) zero j h g =
        let at : w * 0 + j ≡ j = omega arith in
        rw (at, add-zero) (get_or-append (F k) (each F (suc k) n) 0 j (omega (arith, wide k)))
    each_at k (suc n) (suc i) j h g =
        let at : w * suc i + j ≡ length (F k) + (w * i + j) = omega (arith, wide k) in
        rw (at, add-suc, ← suc-add)
        (get_or-append-add (F k) (each F (suc k) n) (w * i + j) 0 ∙ each_at (suc k) n i j (le_of_suc-le-suc h) g)

    pub part_at : (n at i j : ℕ) → at ≡ w * i + j → i < n → j < w → get_or (each F 0 n) at 0 ≡ get_or (F i) j 0
    part_at n at i j e h g = rw e (each_at 0 n i j h g ∙ rw zero-add)

-- a list of a times b numbers, each found by its x and y
module _ (a b : ℕ) (number : ℕ → ℕ → ℕ) where
  abbrev line : ℕ → List ℕ
  line x = each (λ (y : ℕ). number x y ∷ []) 0 b

  line_length : (x : ℕ) → length (line x) ≡ b
  line_length x = omega (arith, each_length (λ (y : ℕ). number x y ∷ []) 1 (λ y. refl) 0 b)

  pub grid_length : length (grid a b number) ≡ b * a
  unfolding grid
  grid_length = each_length line b line_length 0 a

  pub grid_at : (x y : ℕ) → x < a → y < b → get_or (grid a b number) (b * x + y) 0 ≡ number x y
  unfolding grid
  grid_at x y h g =
      part_at line b line_length a (b * x + y) x y refl h g ∙ part_at (λ (y : ℕ). number x y ∷ []) 1 (λ y. refl) b y y 0 (omega arith) g (omega arith)

-- equal parts
pub each_same : (F G : ℕ → List ℕ) (k n : ℕ) → ((i : ℕ) → k ≤ i → i < k + n → F i ≡ G i) → each F k n ≡ each G k n
unfolding each
each_same F G k zero h = refl
each_same F G k (suc n) h = rw (h k (omega arith) (omega arith), each_same F G (suc k) n (λ i a b. h i (omega arith) (omega arith))) refl

-- the parts of a indices, and of the b after them, counted from 0 again
each_shift : (F : ℕ → List ℕ) (a k n : ℕ) → each F (a + k) n ≡ each (λ (i : ℕ). F (a + i)) k n
unfolding each
each_shift F a k zero = refl
each_shift F a k (suc n) = ap (λ (l : List ℕ). F (a + k) ++ l) (rw (← add-suc) (each_shift F a (suc k) n))

each_append : (F : ℕ → List ℕ) (k a b : ℕ) → each F k (a + b) ≡ each F k a ++ each F (k + a) b
unfolding each
each_append F k zero b = rw (zero-add, add-zero) refl
each_append F k (suc a) b =
    rw (suc-add, add-suc, ← suc-add)
    (ap (λ (l : List ℕ). F k ++ l) (each_append F (suc k) a b) ∙ sym (append_assoc (F k) (each F (suc k) a) (each F (suc k + a) b)))

pub each_more : (F : ℕ → List ℕ) (n : ℕ) → each F 0 (suc n) ≡ each F 0 n ++ F n
unfolding each
each_more F n = ap (each F 0) (sym (add-one n)) ∙ each_append F 0 n 1 ∙ rw (zero-add, append-nil) refl

pub each_split : (F : ℕ → List ℕ) (a b : ℕ) → each F 0 (a + b) ≡ each F 0 a ++ each (λ (i : ℕ). F (a + i)) 0 b
each_split F a b =
    let e : 0 + a ≡ a + 0 = omega arith in
    each_append F 0 a b ∙ ap (λ (n : ℕ). each F 0 a ++ each F n b) e ∙ ap (λ (l : List ℕ). each F 0 a ++ l) (each_shift F a 0 b)

-- The order of the numbers of n depths: each place below 8·n is that of one number of one depth.
-- Assumes nothing.
use Prim.Native.Nat.{ℕ, zero, suc, ◌+◌, ◌-◌, ◌*◌, ◌≤◌, ◌<◌}
use mathlib.Core.Path.{◌≡◌, ap, subst, ◌∙◌}
use native.Mathlib.Nat.{mul-le-mul_right}
use native.Mathlib.Decide.{dec_lt}
use native.Mathlib.Omega.{arith}
use lib.ListN.{length, get_or}
use Rattle.answers.specs.Place.{load_place}
use Rattle.answers.specs.program.Place.{in_places}
use Rattle.answers.proofs.Stores.{grid_length, grid_at}

module _ (n : ℕ) where
  -- a column ends before a later one begins
  pub column_before : (r q : ℕ) → r < q → r * n + n ≤ q * n
  column_before r q l = omega (arith, mul-le-mul_right n l)

  pub load_under : (r i : ℕ) → r < 8 → i < n → load_place n r i < 8 * n
  unfolding load_place
  load_under r i l h = omega (arith, column_before r 8 l)

  pub load_apart : (r i q j : ℕ) → i < n → j < n → load_place n r i ≡ load_place n q j → (r ≡ q) × (i ≡ j)
  unfolding load_place
  load_apart r i q j h h' e = at (dec_lt r q) (dec_lt q r)
    where
      at : Dec (r < q) → Dec (q < r) → (r ≡ q) × (i ≡ j)
      at (yes u) v = absurd (omega (arith, e, column_before r q u))
      at (no u) (yes v) = absurd (omega (arith, e, column_before q r v))
      at (no u) (no v) =
          let same : r ≡ q = omega arith in
          (same, omega (arith, e, ap (λ (x : ℕ). x * n) same))

  -- column by column
  module _ (E : ℕ → Type 0) (f : (r i : ℕ) → r < 8 → i < n → E (load_place n r i)) where
    in_column : (m : ℕ) → m < 8 → (k : ℕ) → m * n ≤ k → k < m * n + n → E k
    unfolding load_place
    in_column m l k h g =
        let at : m * n + (k - m * n) ≡ k = omega arith in
        subst E at (f m (k - m * n) l (omega arith))

    columns : (m : ℕ) → m ≤ 8 → (k : ℕ) → k < m * n → E k
    columns zero l k h = absurd (omega arith)
    columns (suc m) l k h = at (columns m (omega arith) k) (dec_lt k (m * n))
      where
        at : (k < m * n → E k) → Dec (k < m * n) → E k
        at before (yes u) = before u
        at before (no u) = in_column m (omega arith) k (omega arith) (omega arith)

    pub load_every : (k : ℕ) → k < 8 * n → E k
    load_every = columns 8 (omega arith)

  -- the list that has a number in each place
  module _ (number : ℕ → ℕ → ℕ) where
    pub placed_length : length (in_places n number) ≡ 8 * n
    placed_length = omega (arith, grid_length 8 n number)

    pub placed_at : (r i : ℕ) → r < 8 → i < n → get_or (in_places n number) (load_place n r i) 0 ≡ number r i
    unfolding load_place
    placed_at r i l h =
        let at : r * n + i ≡ n * r + i = omega arith in
        ap (λ (k : ℕ). get_or (in_places n number) k 0) at ∙ grid_at 8 n number r i l h

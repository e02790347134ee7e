-- Lists of numbers read from a sheet: the first of those left, none left, the element at an index, the length.
use Prim.Native.Nat.{ℕ, zero, suc, ◌+◌, ◌-◌, ◌*◌, ◌≤◌, ◌<◌}
use mathlib.Core.List.{[], ◌∷◌}
use mathlib.Core.Path.{◌≡◌, refl, ap, ap₂, sym, ◌∙◌}
use native.Mathlib.Numerals.{add-one}
use native.Mathlib.Omega.{arith}
use lib.ListN.{length, get_or}
use Rattle.records.specs.Format.{numbers}

module _ (read : ℕ → ℕ) (step : ℕ) where
  pub numbers_start : {at at' n n' : ℕ} → at' ≡ at → n' ≡ n → numbers read step at n ≡ numbers read step at' (n' - 0)
  numbers_start {at} {at'} {n} {n'} p q = ap₂ (numbers read step) (sym p) (omega arith)

  pub numbers_next : (at n i : ℕ) → i < n → numbers read step at (n - i) ≡ read at ∷ numbers read step (at + step) (n - (i + 1))
  unfolding numbers
  numbers_next at n i l = let e : n - i ≡ suc (n - suc i) = omega arith in rw (add-one, e) refl

  -- the same by the index alone
  pub numbers_step : (start n i : ℕ) → i < n
      → numbers read step (start + step * i) (n - i) ≡ read (start + step * i) ∷ numbers read step (start + step * (i + 1)) (n - (i + 1))
  numbers_step start n i l =
      let e : start + step * i + step ≡ start + step * (i + 1) = omega arith in
      numbers_next (start + step * i) n i l ∙ ap (λ (m : ℕ). read (start + step * i) ∷ numbers read step m (n - (i + 1))) e

  pub numbers_end : (at n i : ℕ) → n ≤ i → numbers read step at (n - i) ≡ []
  unfolding numbers
  numbers_end at n i l = let e : n - i ≡ 0 = omega arith in rw e refl

  pub numbers_length : (at n : ℕ) → length (numbers read step at n) ≡ n
  unfolding numbers
  numbers_length at zero = refl
  numbers_length at (suc n) = ap suc (numbers_length (at + step) n)

  pub numbers_at : (at n i : ℕ) → i < n → get_or (numbers read step at n) i 0 ≡ read (at + step * i)
  unfolding numbers
  numbers_at at zero i l = omega arith
  numbers_at at (suc n) zero l = ap read (omega arith)
  numbers_at at (suc n) (suc i) l =
      let e : at + step + step * i ≡ at + step * suc i = omega arith in numbers_at (at + step) n i (omega arith) ∙ ap read e

  -- two ways to read that agree at each place
  pub numbers_same : (read' : ℕ → ℕ) (at n : ℕ) → ((i : ℕ) → i < n → read (at + step * i) ≡ read' (at + step * i)) → numbers read step at n ≡ numbers read' step at n
  unfolding numbers
  numbers_same read' at zero h = refl
  numbers_same read' at (suc n) h =
      let z : at + step * 0 ≡ at = omega arith in
      let first : read at ≡ read' at = rw z at (h 0 (omega arith)) in
      ap₂ ◌∷◌ first (numbers_same read' (at + step) n (λ i l. let e : at + step + step * i ≡ at + step * suc i = omega arith in rw e (h (suc i) (omega arith))))

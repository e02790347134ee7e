-- Halving the bracket: the middle goes to the side that it belongs to (`carried`, `not_carried`), a bracket of one depth is the answer (`closed`), and i
-- halvings leave a width below 2^(17 - i) (`halving`).
use Prim.Native.Nat.{ℕ, suc, ◌+◌, ◌-◌, ◌*◌, ◌/◌, ◌^◌, ◌≤◌, ◌<◌}
use mathlib.Core.Path.{◌≡◌}
use native.Mathlib.Nat.{pow-suc}
use native.Mathlib.Omega.{arith}
use Rattle.reach.specs.declared.search.Bracket.{Bracket}
use Rattle.reach.specs.Reach.{Deepest}
use Rattle.reach.specs.program.Search.{Between}

-- the middle of a bracket, above its low end
abbrev pub middle : Bracket → ℕ
middle b = b.low + (b.high - b.low + 1) / 2

module _ (load : ℕ → ℕ) (foot p : ℕ) (b : Bracket) (x : Between load foot p b) where
  pub carried : b.low < b.high → load (middle b) ≤ p → Between load foot p (record { low = middle b; high = b.high })
  carried h l = record { order = omega arith; inside = x.inside; carries = l; beyond = x.beyond }

  pub not_carried : b.low < b.high → ((y z : ℕ) → y ≤ z → z ≤ foot → load y ≤ load z) → p < load (middle b)
      → Between load foot p (record { low = b.low; high = middle b - 1 })
  not_carried h down l =
      record {
        order = omega arith;
        inside = omega (arith, x.inside);
        carries = x.carries;
        beyond = λ z g m. omega (arith, down (middle b) z (omega arith) m);
      }

  -- closed, it is the answer
  pub closed : b.high ≤ b.low → Deepest load foot p b.low
  closed h =
      record { inside = omega (arith, x.order, x.inside); carries = x.carries; beyond = λ z g m. x.beyond z (omega arith) m }

-- a width below 2^(most - i), and half of it
pub halving : (n n' most i : ℕ) → i < most → n < 2 ^ (most - i) → 2 * n' ≤ n → n' < 2 ^ (most - (i + 1))
halving n n' most i h less half =
    let e : most - i ≡ suc (most - (i + 1)) = omega arith in
    omega (arith, rw (e, pow-suc 2 (most - (i + 1))) at less)

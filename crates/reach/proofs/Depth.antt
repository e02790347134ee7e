-- The greatest depth at which a load is not above a pressure: wherever the brim carries, there is exactly one (`exists`, `unique`), it never falls as the
-- pressure grows (`deeper`), and where the load never falls going down it parts the depths that carry from those that do not (`exactly`).
-- Assumes nothing.
use Prim.Native.Nat.{ℕ, zero, suc, ◌≤◌, ◌<◌}
use mathlib.Core.Path.{◌≡◌}
use native.Mathlib.Decide.{dec_le}
use native.Mathlib.Nat.{le_antisymm}
use native.Mathlib.Omega.{arith}
use Rattle.reach.specs.Reach.{Deepest}

module _ (load : ℕ → ℕ) where
  pub exists : (foot p : ℕ) → load 0 ≤ p → (d : ℕ) × Deepest load foot p d
  exists zero p h = (0, record { inside = omega arith; carries = h; beyond = λ z g l. absurd (omega arith) })
  exists (suc n) p h = at (dec_le (load (suc n)) p) (exists n p h)
    where
      at : Dec (load (suc n) ≤ p) → ((d : ℕ) × Deepest load n p d) → (d : ℕ) × Deepest load (suc n) p d
      at (yes l) _ = (suc n, record { inside = omega arith; carries = l; beyond = λ z g m. absurd (omega arith) })
      at (no l) (d, x) =
          (d, record { inside = omega (arith, x.inside); carries = x.carries; beyond = λ z g m. beyond z g m (dec_le z n) })
        where
          beyond : (z : ℕ) → d < z → z ≤ suc n → Dec (z ≤ n) → p < load z
          beyond z g m (yes k) = x.beyond z g k
          beyond z g m (no k) = let e : z ≡ suc n = omega arith in rw e (omega arith)

  -- where the load is not above the pressure, the depth is not greater
  pub reaches : {foot p d : ℕ} → Deepest load foot p d → (z : ℕ) → z ≤ foot → load z ≤ p → z ≤ d
  reaches {foot} {p} {d} x z g l = at (dec_le z d)
    where
      at : Dec (z ≤ d) → z ≤ d
      at (yes h) = h
      at (no h) = absurd (omega (arith, x.beyond z (omega arith) g, l))

  pub deeper : {foot p p' d d' : ℕ} → p ≤ p' → Deepest load foot p d → Deepest load foot p' d' → d ≤ d'
  deeper {foot} {p} {p'} {d} {d'} h a b = reaches b d a.inside (omega (arith, a.carries, h))

  pub unique : {foot p d d' : ℕ} → Deepest load foot p d → Deepest load foot p d' → d ≡ d'
  unique a b = le_antisymm (deeper (omega arith) a b) (deeper (omega arith) b a)

  pub exactly : {foot p d : ℕ} → ((y z : ℕ) → y ≤ z → z ≤ foot → load y ≤ load z) → Deepest load foot p d → (z : ℕ) → z ≤ foot
      → (load z ≤ p → z ≤ d) × (z ≤ d → load z ≤ p)
  exactly {foot} {p} {d} down x z g = (reaches x z g, λ h. omega (arith, down z d h x.inside, x.carries))

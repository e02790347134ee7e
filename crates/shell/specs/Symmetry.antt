-- The shape of the reply list: the pressures at θ and 360 - θ are equal, those at θ and 180 - θ opposite, and from 0 to 180 degrees none rises.
use Rattle.std.specs.Prelude.{ℕ, ◌-◌, ◌≤◌, ◌<◌, ◌≡◌, List, get_or, ℤ, pos, neg_ℤ, ◌≤ℤ◌}

pub record Symmetric (list : List ℤ) : Type 0 where
  pub mirrored : (θ : ℕ) → 0 < θ → θ < 360 → get_or list (360 - θ) (pos 0) ≡ get_or list θ (pos 0)
  pub opposite : (θ : ℕ) → θ ≤ 180 → get_or list (180 - θ) (pos 0) ≡ neg_ℤ (get_or list θ (pos 0))
  -- 180 - θ, one turn on
  pub opposite_beyond : (θ : ℕ) → 180 < θ → θ < 360 → get_or list (540 - θ) (pos 0) ≡ neg_ℤ (get_or list θ (pos 0))
  pub never_rises : (θ θ' : ℕ) → θ ≤ θ' → θ' ≤ 180 → get_or list θ' (pos 0) ≤ℤ get_or list θ (pos 0)

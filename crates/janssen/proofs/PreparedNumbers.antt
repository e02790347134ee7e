-- The numbers prepared once, from the fractions in whole numbers: equal fractions round to the same number, up or down.
use Prim.Native.Nat.{ℕ, ◌+◌, ◌*◌, ◌/◌, ◌^◌, ◌≤◌, ◌<◌}
use mathlib.Core.Path.{◌≡◌, refl, sym, ap, ◌∙◌}
use native.Mathlib.Omega.{arith}
use native.Mathlib.Nat.{mul-le-mul, mul-div-mul_right, mul_comm}
use Rattle.fraction.specs.Fraction.{◌⊘◌, up}
use Rattle.fraction.proofs.Up.{up_same}
use Rattle.janssen.specs.declared.Section.{Section}
use Rattle.janssen.specs.declared.Prepared.{Prepared}
use Rattle.janssen.specs.Section.{side_a, side_b}
use Rattle.janssen.specs.Filling.{Grain, Kind, factors, q, z0, P}
use Rattle.janssen.specs.Filling.Kind.{horizontal, vertical, wall_friction}
use Rattle.janssen.specs.program.Range.{InRange}
use Rattle.janssen.specs.program.Pressure.{step, limit, z0_scaled}
use Rattle.janssen.specs.program.Prepare.{prepared_for}
use Rattle.janssen.proofs.Geometry.{q_top, q_bottom, q_bottom_pos, q_pos, q_is, P_top, P_bottom, P_bottom_pos, P_pos, P_is, z0_pos, z0_is, q_top_pos}

down_equal : (a b c d : ℕ) → 0 < b → 0 < d → a * d ≡ c * b → a / b ≡ c / d
down_equal a b c d hb hd e =
    sym (mul-div-mul_right a b hd) ∙ ap (λ (x : ℕ). x / (b * d)) e ∙ ap (λ (x : ℕ). c * b / x) (mul_comm b d) ∙ mul-div-mul_right c d hb

module _ (s : Section) (p : Grain) (i : InRange s p) where
  pub step_is : (k : Kind) → step (factors k) s p ≡ up ((q_top k s p * 2048 ^ 5) ⊘ q_bottom s)
  unfolding step
  step_is k =
      up_same ((q (factors k) s p 1).top * 2 ^ 55) ((q (factors k) s p 1).bottom * 1) (q_top k s p * 2048 ^ 5) (q_bottom s)
      (omega (arith, q_pos s p i k 1))
      (q_bottom_pos s p i)
      (omega (arith, q_is s p i k 1))

  pub limit_is : (k : Kind) → limit k s p ≡ up ((P_top k s p * 2048 ^ 1) ⊘ P_bottom k s p)
  unfolding limit
  limit_is k =
      up_same ((P k s p).top * 2 ^ 11) ((P k s p).bottom * 1) (P_top k s p * 2048 ^ 1) (P_bottom k s p)
      (omega (arith, P_pos s p i k))
      (P_bottom_pos s p i k)
      (omega (arith, P_is s p i k))

  pub z0_scaled_is : z0_scaled s p ≡ q_bottom s * 2048 ^ 1 / q_top wall_friction s p
  unfolding z0_scaled
  z0_scaled_is =
      down_equal ((z0 (factors wall_friction) s p).top * 2048000) (z0 (factors wall_friction) s p).bottom (q_bottom s * 2048 ^ 1) (q_top wall_friction s p)
      (z0_pos s p i)
      (q_top_pos s p i)
      (omega (arith, z0_is s p i))

-- the greatest number on the way
pub weighed_most : {times weight a b : ℕ} → times ≤ 500 → weight ≤ 30000 → a ≤ 50000 → b ≤ 50000 → times * (weight * (a * b)) ≤ 37500000000000000
weighed_most ht hw ha hb = mul-le-mul ht (mul-le-mul hw (mul-le-mul ha hb))

-- the numbers from the calls are those of the definitions
pub prepared_are : (s : Section) (p : Grain) → InRange s p → (a b s₁ l₁ s₂ l₂ s₃ l₃ z₀ : ℕ) → a ≡ side_a s → b ≡ side_b s →
    s₁ ≡ up ((414 * (p.ratio * p.friction) * (a + b) * 2048 ^ 5) ⊘ (2000000 * (a * b))) →
    l₁ ≡ up ((1 * (p.weight * (a * b)) * 2048 ^ 1) ⊘ (18 * ((a + b) * p.friction))) →
    s₂ ≡ up ((324 * (p.ratio * p.friction) * (a + b) * 2048 ^ 5) ⊘ (2000000 * (a * b))) →
    l₂ ≡ up ((500 * (p.weight * (a * b)) * 2048 ^ 1) ⊘ (81 * ((a + b) * (p.ratio * p.friction)))) →
    s₃ ≡ up ((529 * (p.ratio * p.friction) * (a + b) * 2048 ^ 5) ⊘ (2000000 * (a * b))) →
    l₃ ≡ up ((1 * (p.weight * (a * b)) * 2048 ^ 1) ⊘ (2000 * ((a + b) * 1))) →
    z₀ ≡ 2000000 * (a * b) * 2048 ^ 1 / (529 * (p.ratio * p.friction) * (a + b)) →
    ◌≡◌ {A = Prepared}
    (record {
      horizontal = record { step = s₁; limit = l₁ };
      vertical = record { step = s₂; limit = l₂ };
      wall_friction = record { step = s₃; limit = l₃ };
      z0 = z₀;
    })
    (prepared_for s p)
prepared_are s p i a b s₁ l₁ s₂ l₂ s₃ l₃ z₀ ea eb e₁ k₁ e₂ k₂ e₃ k₃ ez =
    rw (
      e₁,
      k₁,
      e₂,
      k₂,
      e₃,
      k₃,
      ez,
      ea,
      eb,
      step_is s p i horizontal,
      limit_is s p i horizontal,
      step_is s p i vertical,
      limit_is s p i vertical,
      step_is s p i wall_friction,
      limit_is s p i wall_friction,
      z0_scaled_is s p i,
    )
    refl

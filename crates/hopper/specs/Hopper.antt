-- The hopper's pressure and friction. Document 01, "Loads made from filling"; source 001, clause 5.2.1.3. Height H and run r in mm; μ, the
-- mean, in hundredths; pressures in Pa. Each formula stands once over fractions, rounding nothing; the load rounds it up.
use Rattle.std.specs.Prelude.{ℕ, ◌+◌, ◌*◌, Bool, leb}
use Rattle.fraction.specs.Fraction.{Fraction, ◌⊘◌, whole, ◌⊕◌, ◌⊗◌, ◌⪯◌, up}
use Rattle.janssen.specs.declared.Section.{Section}
use Rattle.janssen.specs.Section.{R}
use Rattle.janssen.specs.Filling.{Grain, upper_factor, lower_factor, hundredths}
use Rattle.hopper.specs.Least.{least}

-- sin²α and cos²α, α from the horizontal
abbrev pub sin² : ℕ → ℕ → Fraction
sin² H r = (H * H) ⊘ (H * H + r * r)

abbrev pub cos² : ℕ → ℕ → Fraction
cos² H r = (r * r) ⊘ (H * H + r * r)

-- 3·R·γ·1.15·Ks·sin²α: B unrounded
abbrev pub base : Section → Grain → ℕ → ℕ → Fraction
base s p H r = whole 3 ⊗ R s ⊗ whole p.weight ⊗ upper_factor ⊗ hundredths p.ratio ⊗ sin² H r

-- 0.9·μ·u²
abbrev pub squared : ℕ → Fraction → Fraction
squared μ u = lower_factor ⊗ hundredths μ ⊗ (u ⊗ u)

-- 1.2·cos²α + sin²α·k/4, k quarters of the slope counted up from the outlet (5.14, 5.16 and 5.17)
abbrev pub share : ℕ → ℕ → ℕ → Fraction
share H r k = (12 ⊘ 10) ⊗ cos² H r ⊕ sin² H r ⊗ (k ⊘ 4)

-- n3 + p_vf·(1.2·cos²α + sin²α·k/4) (5.15)
abbrev pub hopper_normal : ℕ → ℕ → ℕ → Fraction → Fraction → Fraction
hopper_normal H r k v u = u ⊕ v ⊗ share H r k

-- P_n·1.15·μ (5.19)
abbrev pub hopper_friction : ℕ → Fraction → Fraction
hopper_friction μ n = n ⊗ upper_factor ⊗ hundredths μ

-- B = up(3·R·γ·1.15·Ks·sin²α)
unfoldable pub B : Section → Grain → ℕ → ℕ → ℕ
B s p H r = up (base s p H r)

-- p is at most q, as a test
abbrev pub at_most : Fraction → Fraction → Bool
at_most p q = leb (p.top * q.bottom) (q.top * p.bottom)

-- n3 is the least n with 0.9·μ·n² ≥ B² (5.18); 4·B passes, since 0.9·μ is at least 0.09
unfoldable pub n3 : ℕ → ℕ → ℕ
n3 μ b = least (λ n. at_most (whole b ⊗ whole b) (squared μ (whole n))) (4 * b)

-- P_n = n3 + up(p_vf(V)·(1.2·cos²α + sin²α·k/4))
unfoldable pub P_n : ℕ → ℕ → ℕ → ℕ → ℕ → ℕ
P_n H r k n p = n + up (whole p ⊗ share H r k)

-- P_t = up(P_n·1.15·μ)
unfoldable pub P_t : ℕ → ℕ → ℕ
P_t μ n = up (hopper_friction μ (whole n))

-- what the hopper's formulas are filled with: v for p_vf(V), u for n3
pub record Low : Type 0 where
  pub v : Fraction
  pub u : Fraction

-- v is a lower fraction of the pressure p_vf(V), and 0.9·μ·u² ≤ (3·R·γ·1.15·Ks·sin²α)²
pub record LowerHopper (Pressure : Fraction → Type 0) (μ : ℕ) (base : Fraction) (x : Low) : Type 0 where
  pub pressure : Pressure x.v
  pub root : squared μ x.u ⪯ base ⊗ base

-- The filling pressures by Janssen's formula. Document 01, "Filling"; source 001, clauses 5.2.1, 7.2 and 7.3.
use Rattle.std.specs.Prelude.{ℕ}
use Rattle.fraction.specs.Fraction.{Fraction, ◌⊘◌, whole, ◌⊗◌, ◌÷◌}
use Rattle.janssen.specs.declared.Section.{Section}
use Rattle.janssen.specs.declared.Product.{Product}
use Rattle.janssen.specs.Section.{metres, R}

-- what Janssen's formula takes from the product: γ in N/m³, Ks and μ in hundredths, and not C0
pub record Grain : Type 0 where
  pub weight : ℕ
  pub ratio : ℕ
  pub friction : ℕ

abbrev pub grain_of : Product → Grain
grain_of p = record { weight = p.weight; ratio = p.ratio; friction = p.friction }

-- the filling pressures p_hf, p_vf and p_wf
pub data Kind : Type 0 where
  horizontal vertical wall_friction : Kind

-- what Ks and μ are multiplied by
pub record Factors : Type 0 where
  pub Ks_times : Fraction
  pub μ_times : Fraction

-- 1.15 upper, 0.9 lower (7.1 to 7.3, and 7.3.2)
abbrev pub upper_factor : Fraction
upper_factor = 115 ⊘ 100

abbrev pub lower_factor : Fraction
lower_factor = 90 ⊘ 100

-- the rows of the three pressures; P_w has that of p_wf
abbrev pub factors : Kind → Factors
factors horizontal = record { Ks_times = upper_factor; μ_times = lower_factor }
factors vertical = record { Ks_times = lower_factor; μ_times = lower_factor }
factors wall_friction = record { Ks_times = upper_factor; μ_times = upper_factor }

-- hundredths are plain ratios
abbrev pub hundredths : ℕ → Fraction
hundredths n = n ⊘ 100

-- Ks and μ, factored as in the row
unfoldable pub Ks : Factors → Grain → Fraction
Ks f p = f.Ks_times ⊗ hundredths p.ratio

unfoldable pub μ : Factors → Grain → Fraction
μ f p = f.μ_times ⊗ hundredths p.friction

-- z0 = R / (Ks·μ), m (5.6)
unfoldable pub z0 : Factors → Section → Grain → Fraction
z0 f s p = R s ÷ (Ks f p ⊗ μ f p)

-- q = z / z0 (5.5)
unfoldable pub q : Factors → Section → Grain → ℕ → Fraction
q f s p z = metres z ÷ z0 f s p

-- γR, Pa
unfoldable pub γR : Section → Grain → Fraction
γR s p = whole p.weight ⊗ R s

-- P, the factor before the bracket, Pa: γR/μ (5.3), γR/(μ·Ks) (5.4), γR (5.2)
unfoldable pub P : Kind → Section → Grain → Fraction
P horizontal s p = γR s p ÷ μ (factors horizontal) p
P vertical s p = γR s p ÷ (μ (factors vertical) p ⊗ Ks (factors vertical) p)
P wall_friction s p = γR s p

-- D = γR·z0, N/m
unfoldable pub D : Section → Grain → Fraction
D s p = γR s p ⊗ z0 (factors wall_friction) s p

-- N = γR·z, N/m
unfoldable pub N : Section → Grain → ℕ → Fraction
N s p z = γR s p ⊗ metres z

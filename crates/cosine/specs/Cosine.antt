-- The true cosine of a whole degree from 0 to 90, and the rule of a table of cosines in billionths. Document 02, C-16.
-- The partial sums of 1 - x²/2! + x⁴/4! - .. enclose the cosine of x: one that ends in a positive term is at or above it, one that ends in a negative term at
-- or below it. The cosine falls from 0 to 90 degrees, so the upper sums are taken at the lower bound of π and the lower sums at the upper one. Nothing is
-- subtracted: a difference is kept as its two parts.
use Rattle.std.specs.Prelude.{ℕ, zero, suc, ◌+◌, ◌*◌, ◌^◌, ◌<◌, ◌≡◌, cond, eqb}
use Rattle.fraction.specs.Fraction.{Fraction, ◌⊘◌, whole, ◌⊕◌, ◌⪯◌, ◌≺◌}
use Rattle.exponential.specs.Series.{term}

-- more - less
pub record Difference : Type 0 where
  pub more : Fraction
  pub less : Fraction

-- the difference is at most t
abbrev pub AtMost : Difference → Fraction → Type 0
AtMost c t = c.more ⪯ t ⊕ c.less

-- t is less than w above the difference
abbrev pub LessAbove : Fraction → Difference → Fraction → Type 0
LessAbove w c t = t ⊕ c.less ≺ c.more ⊕ w

-- x^k/k! + x^(k+4)/(k+4)! + .., of which n follow the first: at k = 0 the positive terms, at k = 2 the negative ones
unfoldable pub every_fourth : ℕ → ℕ → Fraction → Fraction
every_fourth k zero x = term k x
every_fourth k (suc n) x = every_fourth k n x ⊕ term (4 * suc n + k) x

-- d degrees in radians, for π in 10^-14
abbrev pub radians : ℕ → ℕ → Fraction
radians π d = (π * d) ⊘ (180 * 10 ^ 14)

abbrev pub exactly : Fraction → Difference
exactly c = record { more = c; less = whole 0 }

-- at 0, 60 and 90 degrees the cosine is 1, 1/2 and 0; elsewhere it is what the series encloses
unfoldable pub where_known : ℕ → Difference → Difference
where_known d series =
    cond (eqb d 0) (exactly (whole 1)) (cond (eqb d 60) (exactly (1 ⊘ 2)) (cond (eqb d 90) (exactly (whole 0)) series))

-- the cosine of d degrees from above and from below, by the sums of number n, π being between 3.14159265358979 and 3.14159265358980
unfoldable pub cosine_above : ℕ → ℕ → Difference
cosine_above d n = let x = radians 314159265358979 d in where_known d (record { more = every_fourth 0 (suc n) x; less = every_fourth 2 n x })

unfoldable pub cosine_below : ℕ → ℕ → Difference
cosine_below d n = let x = radians 314159265358980 d in where_known d (record { more = every_fourth 0 n x; less = every_fourth 2 n x })

abbrev pub billionths : ℕ → Fraction
billionths t = t ⊘ 10 ^ 9

-- the one fixed table: each entry is never below the cosine, and less than 2 billionths above it
pub record CosineTable (entry : ℕ → ℕ) : Type 0 where
  pub never_below : (d : ℕ) → d < 91 → (n : ℕ) × AtMost (cosine_above d n) (billionths (entry d))
  pub less_above : (d : ℕ) → d < 91 → (n : ℕ) × LessAbove (billionths 2) (cosine_below d n) (billionths (entry d))
  -- 1, 1/2 and 0
  pub exact : (entry 0 ≡ 1000000000) × (entry 60 ≡ 500000000) × (entry 90 ≡ 0)

-- Fractions of whole numbers as on paper: never reduced, compared by cross-multiplying, rounded up to a whole number.
-- Cross-multiplying means nothing at a bottom of 0, so a comparison says that both bottoms are positive.
use Rattle.std.specs.Prelude.{ℕ, ◌+◌, ◌-◌, ◌*◌, ◌/◌, ◌≤◌, ◌<◌}

infix 67 ◌⊘◌
infixl 70 ◌⊗◌ ◌÷◌
infixl 65 ◌⊕◌
infix 50 ◌⪯◌ ◌≺◌
pub record Fraction : Type 0 where
  pub top : ℕ
  pub bottom : ℕ

-- top / bottom
abbrev pub ◌⊘◌ : ℕ → ℕ → Fraction
a ⊘ b = record { top = a; bottom = b }

abbrev pub whole : ℕ → Fraction
whole n = n ⊘ 1

-- sum, product and quotient
abbrev pub ◌⊕◌ : Fraction → Fraction → Fraction
p ⊕ q = (p.top * q.bottom + q.top * p.bottom) ⊘ (p.bottom * q.bottom)

abbrev pub ◌⊗◌ : Fraction → Fraction → Fraction
p ⊗ q = (p.top * q.top) ⊘ (p.bottom * q.bottom)

abbrev pub ◌÷◌ : Fraction → Fraction → Fraction
p ÷ q = (p.top * q.bottom) ⊘ (p.bottom * q.top)

-- p is at most q
pub record ◌⪯◌ (p q : Fraction) : Type 0 where
  pub left : 0 < p.bottom
  pub right : 0 < q.bottom
  pub order : p.top * q.bottom ≤ q.top * p.bottom

-- p is less than q
pub record ◌≺◌ (p q : Fraction) : Type 0 where
  pub left : 0 < p.bottom
  pub right : 0 < q.bottom
  pub order : p.top * q.bottom < q.top * p.bottom

-- up: the least whole number not below, for a positive bottom
unfoldable pub up : Fraction → ℕ
up q = (q.top + (q.bottom - 1)) / q.bottom

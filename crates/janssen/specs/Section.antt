-- The cross-section of the silo. Document 01, "Sheet".
use Rattle.std.specs.Prelude.{ℕ, min}
use Rattle.fraction.specs.Fraction.{Fraction, ◌⊘◌, whole, ◌⊕◌, ◌⊗◌, ◌÷◌}
use Rattle.janssen.specs.declared.Section.{Section}
use Rattle.janssen.specs.declared.Section.TheVariants.{Circle, Rectangle}

-- the circle is taken as a = b = d, mm
unfoldable pub side_a : Section → ℕ
side_a (Circle d) = d
side_a (Rectangle a b) = a

unfoldable pub side_b : Section → ℕ
side_b (Circle d) = d
side_b (Rectangle a b) = b

-- d_c is d, or the shorter side, mm
unfoldable pub d_c : Section → ℕ
d_c s = min (side_a s) (side_b s)

-- in formulas lengths are metres
abbrev pub metres : ℕ → Fraction
metres mm = mm ⊘ 1000

-- R = A/U = a·b / (2(a + b)), m
unfoldable pub R : Section → Fraction
R s = metres (side_a s) ⊗ metres (side_b s) ÷ (whole 2 ⊗ (metres (side_a s) ⊕ metres (side_b s)))

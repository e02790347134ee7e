-- Of two strake lists the one that governs a bin with two products. Document 01, "Answer list".
use Rattle.std.specs.Prelude.{ℕ, ◌-◌, cond, Option, Some, None, List, length, get_or, ltb, eqb}
use Rattle.governing.specs.declared.Governs.{Governs}
use Rattle.governing.specs.declared.Governs.TheVariants.{First, Second}

-- the last number, at the wall's foot
abbrev pub last : List ℕ → ℕ
last l = get_or l (length l - 1) 0

-- the one with the greater last number, the first when equal; none if the lengths differ or are 0
unfoldable pub governs : List ℕ → List ℕ → Option Governs
governs a b =
    cond (eqb (length a) (length b)) (cond (eqb (length a) 0) None (cond (ltb (last a) (last b)) (Some Second) (Some First))) None

-- the number of each answer
abbrev pub governs_number : Option Governs → ℕ
governs_number None = 0
governs_number (Some First) = 1
governs_number (Some Second) = 2

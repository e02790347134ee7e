-- A field as the program writes it, from its right end.
use Rattle.std.specs.Prelude.{ℕ, zero, suc, ◌/◌, ◌%◌, List, [], ◌∷◌, ◌++◌}
use Rattle.text.specs.Text.{space, digit, decimal, field}

-- the last digit of what is left of a number, or a space where nothing is left
abbrev pub mark : ℕ → ℕ
mark zero = space
mark (suc n) = digit (suc n % 10)

-- k characters: the marks of n, n / 10, n / 100 and so on, the first at the right end
unfoldable pub padded : ℕ → ℕ → List ℕ
padded zero n = []
padded (suc k) n = padded k (n / 10) ++ (mark n ∷ [])

-- a number in its field
unfoldable pub number_field : ℕ → List ℕ
number_field n = field (decimal n)

-- A number read back from its characters. Document 02, C-15.
use Rattle.std.specs.Prelude.{ℕ, ◌+◌, ◌-◌, ◌*◌, cond, List, [], ◌∷◌, eqb}
use Rattle.text.specs.Text.{space, digit}

-- n has been read: a space is passed over, and a digit comes behind it
unfoldable pub reading_on : ℕ → List ℕ → ℕ
reading_on n [] = n
reading_on n (c ∷ t) = reading_on (cond (eqb c space) n (10 * n + (c - digit 0))) t

abbrev pub reading : List ℕ → ℕ
reading t = reading_on 0 t

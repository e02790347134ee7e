-- The exponential series. Document 01, "Filling".
use Rattle.std.specs.Prelude.{ℕ, zero, suc, ◌*◌, ◌^◌}
use Rattle.fraction.specs.Fraction.{Fraction, ◌⊘◌, ◌⊕◌}

-- n!
unfoldable pub factorial : ℕ → ℕ
factorial zero = 1
factorial (suc n) = suc n * factorial n

-- q^j / j!
unfoldable pub term : ℕ → Fraction → Fraction
term j q = (q.top ^ j) ⊘ (q.bottom ^ j * factorial j)

-- S_n: the sum of q^j / j! for j from 0 to n
unfoldable pub S : ℕ → Fraction → Fraction
S zero q = term zero q
S (suc n) q = S n q ⊕ term (suc n) q

-- What the load call promises of any sheet and any lent list: its answer r, and the list that it leaves. t names the entries for e^(-k/64), and f t the
-- filling pressures and P_w computed with them, which document 01 leaves free: the same f and t for every call.
use Rattle.std.specs.Prelude.{ℕ, List, length}
use Rattle.exponential.specs.Table.{Tabulated}
use Rattle.records.specs.Rules.{Fills}
use Rattle.janssen.specs.Numbers.{FillingNumbers}
use Rattle.answers.specs.Answers.{loads_rules}
use Rattle.answers.specs.Claim.{Claim}

-- the table keeps its rule; the list is filled with what meets demand 3
abbrev pub Promise : (List ℕ → FillingNumbers) → List ℕ → List ℕ → List ℕ → ℕ → List ℕ → Type 0
Promise f t s lent r left = Tabulated t × Fills (loads_rules s (length lent)) (Claim (f t) s) lent r left

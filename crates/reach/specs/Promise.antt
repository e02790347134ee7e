-- What the calls for depths promise of any sheet, pressures (Pa) and lent list of depths (mm). f and t name the filling pressures and their table, as in the load call's
-- promise: the same f and t for every call.
use Rattle.std.specs.Prelude.{ℕ, ◌≡◌, List, length}
use Rattle.exponential.specs.Table.{Tabulated}
use Rattle.records.specs.Rules.{Fills}
use Rattle.janssen.specs.Numbers.{FillingNumbers}
use Rattle.description.specs.Silo.{V_of}
use Rattle.sheet.specs.Refusal.{refusal_of}
use Rattle.answers.specs.Answers.{silo_of}
use Rattle.answers.specs.Claim.{Claim}
use Rattle.answers.specs.Length.{told, length_number}
use Rattle.reach.specs.Reach.{p_he_of, Deepest, Depths, depths_rules}

-- whatever the pressures: the table keeps its rule, and demand 3 holds of the filling numbers in an accepted sheet's answer list
abbrev pub Free : (List ℕ → FillingNumbers) → List ℕ → List ℕ → Type 0
Free f t s = Tabulated t × (refusal_of s ≡ 0 → (answers : List ℕ) × Claim (f t) s answers)

-- one pressure p: the sheet's refusal, or 2^32 and the depth for it
abbrev pub DepthPromise : (List ℕ → FillingNumbers) → List ℕ → List ℕ → ℕ → ℕ → Type 0
DepthPromise f t s p r =
    Free f t s × ((d : ℕ) × (r ≡ length_number (told (refusal_of s) d)) × (refusal_of s ≡ 0 → Deepest (p_he_of (f t) (silo_of s)) (V_of s) p d))

-- a list of pressures: the lent list of depths is filled with one for each
abbrev pub DepthsPromise : (List ℕ → FillingNumbers) → List ℕ → List ℕ → List ℕ → List ℕ → ℕ → List ℕ → Type 0
DepthsPromise f t s pressures lent r left =
    Free f t s × Fills (depths_rules s pressures (length lent)) (Depths (p_he_of (f t) (silo_of s)) (V_of s) pressures) lent r left

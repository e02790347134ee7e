-- The order of pressures, Pa, and of depths, mm. Document 02, C-19.
use Rattle.std.specs.Prelude.{ℕ, suc, ◌≤◌, ◌<◌, List, length, get_or}

-- each is at least the one before
abbrev pub NeverFalls : List ℕ → Type 0
NeverFalls l = (i : ℕ) → suc i < length l → get_or l i 0 ≤ get_or l (suc i) 0

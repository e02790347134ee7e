-- What the page call promises of any sheet and any lent buffer: its answer r, and the buffer that it leaves. f and t name
-- the filling pressures, P_w and their table, as in the load call's promise.
use Rattle.std.specs.Prelude.{ℕ, ◌≡◌, List, ◌++◌, length, drop}
use Rattle.exponential.specs.Table.{Tabulated}
use Rattle.records.specs.Rules.{Fills}
use Rattle.janssen.specs.Numbers.{FillingNumbers}
use Rattle.answers.specs.Claim.{Claim}
use Rattle.page.specs.Page.{page, page_due, page_rules}

pub record Written (f : FillingNumbers) (s lent left : List ℕ) : Type 0 where
  -- the page at the buffer's start, and the bytes past it as they were
  pub text : left ≡ page f s ++ drop (page_due s) lent
  -- demand 3 holds of the same numbers in the answer list
  pub demand : (list : List ℕ) × Claim f s list

-- the table keeps its rule
abbrev pub PagePromise : (List ℕ → FillingNumbers) → List ℕ → List ℕ → List ℕ → ℕ → List ℕ → Type 0
PagePromise f t s lent r left = Tabulated t × Fills (page_rules s (length lent)) (Written (f t) s lent) lent r left

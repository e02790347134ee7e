-- What the call for the patch round the shell promises of any sheet, depth and lent list: its answer r, and the list that it leaves. f and t name the
-- filling pressures and their table, as in the load call's promise, and c the cosines: the same f, t and c for every call.
use Rattle.std.specs.Prelude.{ℕ, List, length, ℤ}
use Rattle.exponential.specs.Table.{Tabulated}
use Rattle.records.specs.Rules.{Fills}
use Rattle.janssen.specs.Numbers.{FillingNumbers}
use Rattle.cosine.specs.Cosine.{CosineTable}
use Rattle.shell.specs.Shell.{shell_rules}
use Rattle.shell.specs.Holds.{ShellClaim}

-- both tables keep their rules; the list is filled with what meets the claim
abbrev pub ShellPromise : (List ℕ → FillingNumbers) → List ℕ → (ℕ → ℕ) → List ℕ → ℕ → List ℤ → ℕ → List ℤ → Type 0
ShellPromise f t c s z lent r left = Tabulated t × CosineTable c × Fills (shell_rules s z (length lent)) (ShellClaim (f t) c s z) lent r left

-- `exponential::table::entries` hands out the table: the constant is the specification's list, entry by entry.
use Prim.Native.Nat.{ℕ}
use mathlib.Core.Path.{◌≡◌, refl}
use mathlib.Core.List.{List}
use Rattle.exponential.specs.Table.{Tabulated}
use Rattle.exponential.specs.program.Table.{table}
use Rattle.exponential.proofs.TableLaws.{tabulated}
use Rattle.exponential.proofs.table.entries.Goals as goal

ruled : (l : List ℕ) → l ≡ table → (l ≡ table) × Tabulated l
ruled l e = (e, rw e tabulated)

pub returns : goal.returns
unfolding table
returns c = ruled _ refl

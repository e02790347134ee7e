-- The constant is the table, entry by entry.
use mathlib.Core.Path.{refl}
use Rattle.cosine.specs.program.Table.{table}
use Rattle.cosine.proofs.CosineLaws.{tabulated}
use Rattle.cosine.proofs.entries.Goals as goal

pub returns : goal.returns
unfolding table
returns c = (refl, tabulated)

-- The refusals of the catalogue call: 15 and 16 alone.
use Prim.Native.Nat.{ℕ}
use mathlib.Core.Path.{◌≡◌, refl}
use native.Mathlib.Omega.{arith}
use Rattle.records.specs.Rules.{first_unmet}
use Rattle.records.proofs.Chain.{absent}
use Rattle.catalogue.specs.Table.{catalogue_rules}

-- 13 is retired
pub catalogue_never_13 : (row wall n : ℕ) → first_unmet (catalogue_rules row wall n) ≡ 13 → ⊥
unfolding catalogue_rules
catalogue_never_13 row wall n = absent (catalogue_rules row wall n) 13 (omega arith) refl

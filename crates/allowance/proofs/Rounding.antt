-- Formulas over fractions: whole numbers and a constant factor keep the order.
use Prim.Native.Nat.{ℕ, ◌≤◌, ◌<◌}
use native.Mathlib.Omega.{arith}
use Rattle.fraction.specs.Fraction.{Fraction, whole, ◌⊗◌, ◌⪯◌}
use Rattle.fraction.proofs.Order.{⪯_refl, ⊗_mono}

-- whole numbers keep their order as fractions
pub wholes : {m n : ℕ} → m ≤ n → whole m ⪯ whole n
wholes h = record { left = omega arith; right = omega arith; order = omega arith }

-- a formula c·v keeps the order of v
pub scaled : (c : Fraction) {v w : Fraction} → 0 < c.bottom → v ⪯ w → c ⊗ v ⪯ c ⊗ w
scaled c hc h = ⊗_mono (⪯_refl c hc) h

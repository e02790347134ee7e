-- Down to where a plate carries: the greatest depth at which p_he is not above a pressure, and the rules of the call with a list. Document 02, C-19.
-- Depths in mm below the brim, pressures in Pa.
use Rattle.std.specs.Prelude.{ℕ, ◌≤◌, ◌<◌, ◌≡◌, List, [], ◌∷◌, ◌++◌, Bool, true, ◌&&◌, leb, eqb, length, get_or}
use Rattle.janssen.specs.Numbers.{FillingNumbers}
use Rattle.records.specs.Rules.{within, Rule, ◌unless◌}
use Rattle.sheet.specs.Refusal.{sheet_rules}
use Rattle.loads.specs.declared.Silo.{Silo}
use Rattle.loads.specs.Load.{load_number}
use Rattle.loads.specs.Load.Load.{p_he}

-- p_he of a silo at a depth
abbrev pub p_he_of : FillingNumbers → Silo → ℕ → ℕ
p_he_of f c = λ z. load_number f c p_he z

-- d is the greatest whole mm from 0 to the foot at which the load is not above p
pub record Deepest (load : ℕ → ℕ) (foot p d : ℕ) : Type 0 where
  pub inside : d ≤ foot
  pub carries : load d ≤ p
  pub beyond : (z : ℕ) → d < z → z ≤ foot → p < load z

-- a depth for each pressure
pub record Depths (load : ℕ → ℕ) (foot : ℕ) (pressures list : List ℕ) : Type 0 where
  pub sized : length list ≡ length pressures
  pub each : (i : ℕ) → i < length pressures → Deepest load foot (get_or pressures i 0) (get_or list i 0)

-- each at least the one before, and the first at least low
unfoldable pub never_falls_from : ℕ → List ℕ → Bool
never_falls_from low [] = true
never_falls_from low (p ∷ l) = leb low p && never_falls_from p l

-- 21: 1 to 32 pressures that never fall
unfoldable pub pressures_met : List ℕ → Bool
pressures_met l = within 1 32 (length l) && never_falls_from 0 l

-- the rules of the call with a list of pressures, lent a list of n numbers: those of the sheet, then 21 and 22
unfoldable pub depths_rules : List ℕ → List ℕ → ℕ → List Rule
depths_rules s pressures n = sheet_rules s ++ (21 unless pressures_met pressures ∷ 22 unless eqb n (length pressures) ∷ [])

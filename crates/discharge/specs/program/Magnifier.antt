-- C_h and C_w as the program works them out, and a magnifier as it holds it.
use Rattle.std.specs.Prelude.{ℕ, ◌-◌, ◌*◌, ◌^◌, ◌≤◌, ◌<◌}
use Rattle.fraction.specs.Fraction.{Fraction}
use Rattle.discharge.specs.declared.Magnifier.{Magnifier}
use Rattle.discharge.specs.Discharge.{magnifier}

-- C_h, and C_w; C0 in hundredths, h and d_c in mm
abbrev pub horizontal_magnifier : ℕ → ℕ → ℕ → Fraction
horizontal_magnifier C0 h d = magnifier C0 (2 * (C0 - 100)) h d

abbrev pub friction_magnifier : ℕ → ℕ → Fraction
friction_magnifier h d = magnifier 110 20 h d

abbrev pub held : Fraction → Magnifier
held C = record { top = C.top; bottom = C.bottom }

-- at most 2, and small enough for a product with a pressure
pub record Moderate (m : Magnifier) : Type 0 where
  pub proper : 0 < m.bottom
  pub small : m.bottom ≤ 2 ^ 30
  pub most : m.top ≤ 2 * m.bottom

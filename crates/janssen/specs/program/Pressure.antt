-- The filling pressures and P_w as the program computes them by its table, functions of section, grain and depth alone. What holds of them is
-- proved in `proofs/`: they lie inside their bands, and no pressure falls with depth.
use Rattle.std.specs.Prelude.{ℕ, ◌-◌, ◌*◌, ◌/◌, ◌^◌, List}
use Rattle.fraction.specs.Fraction.{◌⊘◌, whole, ◌⊗◌, up}
use Rattle.exponential.specs.program.Table.{table}
use Rattle.exponential.specs.program.Lower.{lower_by}
use Rattle.janssen.specs.declared.Section.{Section}
use Rattle.janssen.specs.Filling.{Grain, Kind, Factors, factors, z0, q, P}
use Rattle.janssen.specs.Filling.Kind.{wall_friction}
use Rattle.janssen.specs.Numbers.{FillingNumbers}

-- q for each mm, in 2^-55, rounded up
unfoldable pub step : Factors → Section → Grain → ℕ
step f s p = up (q f s p 1 ⊗ whole (2 ^ 55))

-- P in 2^-11 Pa, rounded up
unfoldable pub limit : Kind → Section → Grain → ℕ
limit k s p = up (P k s p ⊗ whole (2 ^ 11))

-- 2^40·e^(-q) from below by a table, with q in 2^-33 rounded up
unfoldable pub decay_by : List ℕ → ℕ → ℕ → ℕ
decay_by t step z = lower_by t (up ((z * step) ⊘ 2 ^ 22))

-- P·(1 - e^(-q)) in Pa, rounded up
unfoldable pub pressure : ℕ → ℕ → ℕ
pressure limit decay = up ((limit * (2 ^ 40 - decay)) ⊘ 2 ^ 51)

-- the filling pressure at the depth z mm, Pa
unfoldable pub filling_by : List ℕ → Kind → Section → Grain → ℕ → ℕ
filling_by t k s p z = pressure (limit k s p) (decay_by t (step (factors k) s p) z)

-- z0 in 2^-11 mm, rounded down
unfoldable pub z0_scaled : Section → Grain → ℕ
z0_scaled s p = ((z0 (factors wall_friction) s p).top * (1000 * 2 ^ 11)) / (z0 (factors wall_friction) s p).bottom

-- 2^40·(1 - e^(-q)) from below: 2^40·e^(-q) is at most 512 above `decay`
abbrev pub least_gone : ℕ → ℕ
least_gone decay = 2 ^ 40 - decay - 512

-- z - z0·(1 - e^(-q)) in 2^-11 mm from above
unfoldable pub loaded_depth : ℕ → ℕ → ℕ → ℕ
loaded_depth z0 decay z = z * 2 ^ 11 - z0 * least_gone decay / 2 ^ 40

-- γR·(z - z0·(1 - e^(-q))) in N/m, rounded up
unfoldable pub load : ℕ → ℕ → ℕ
load limit depth = up ((limit * depth) ⊘ (2 ^ 22 * 1000))

-- P_w at the depth z mm, N/m
unfoldable pub wall_load_by : List ℕ → Section → Grain → ℕ → ℕ
wall_load_by t s p z = load (limit wall_friction s p) (loaded_depth (z0_scaled s p) (decay_by t (step (factors wall_friction) s p) z) z)

-- the free numbers, as the program computes them by a table
abbrev pub computed_by : List ℕ → FillingNumbers
computed_by t = record { filling_at = filling_by t; wall_load_at = wall_load_by t }

-- by the one that it holds
abbrev pub decay : ℕ → ℕ → ℕ
decay step z = decay_by table step z

abbrev pub filling : Kind → Section → Grain → ℕ → ℕ
filling k s p z = filling_by table k s p z

abbrev pub wall_load : Section → Grain → ℕ → ℕ
wall_load s p z = wall_load_by table s p z

abbrev pub computed : FillingNumbers
computed = computed_by table

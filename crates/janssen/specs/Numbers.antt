-- The filling pressures and P_w, which document 01 leaves free: each is set by section, grain and depth alone. Their bands are in `Band`, and their order
-- with depth is part of the load call's `Claim`.
use Rattle.std.specs.Prelude.{ℕ}
use Rattle.janssen.specs.declared.Section.{Section}
use Rattle.janssen.specs.Filling.{Grain, Kind}

pub record FillingNumbers : Type 0 where
  -- p_hf, p_vf and p_wf at a depth in mm, Pa
  pub filling_at : Kind → Section → Grain → ℕ → ℕ
  -- P_w at a depth in mm, N/m
  pub wall_load_at : Section → Grain → ℕ → ℕ

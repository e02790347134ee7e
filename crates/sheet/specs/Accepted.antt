-- Acceptance in plain inequalities: what a sheet that is not refused has. Document 01, "Sheet" and "Who can be refused"; document 02, C-13
-- and C-17.
use Rattle.std.specs.Prelude.{ℕ, suc, ◌+◌, ◌*◌, ◌≤◌, ◌<◌, min, max, List, ◌⊎◌, ◌≡◌, length, get_or}
use Rattle.janssen.specs.declared.Section.{Section}
use Rattle.janssen.specs.declared.Section.TheVariants.{Rectangle}
use Rattle.janssen.specs.declared.Product.{Product}
use Rattle.janssen.specs.Section.{d_c}
use Rattle.janssen.specs.Filling.{grain_of}
use Rattle.janssen.specs.program.Range.{Within, InRange}
use Rattle.description.specs.declared.Eccentricities.{Eccentricities}
use Rattle.description.specs.declared.Bottom.{Bottom}
use Rattle.records.specs.Format.{kind, payload_length, record_place, record_count}
use Rattle.description.specs.Silo.{section_of, product_sent, eccentricities_of, bottom_of, strakes_of, depths_of, strake_count, depth_count, V_of, headroom_of, h_of}

-- six records or seven, each with its payload inside the sheet, and nothing behind the last
pub record Layout (s : List ℕ) : Type 0 where
  -- 1
  pub size : length s ≤ 1024
  -- 2
  pub present : (k : ℕ) → k < record_count s → record_place s k + 4 + payload_length s k ≤ length s
  -- 3
  pub section_kind : (kind s 0 ≡ 1) ⊎ (kind s 0 ≡ 2)
  pub other_kinds : (k : ℕ) → 0 < k → k < record_count s → kind s k ≡ k + 2
  -- 4
  pub circle_length : kind s 0 ≡ 1 → payload_length s 0 ≡ 4
  pub rectangle_length : kind s 0 ≡ 2 → payload_length s 0 ≡ 8
  pub product_length : payload_length s 1 ≡ 10
  pub filling_length : payload_length s 2 ≡ 8
  pub bottom_length : payload_length s 3 ≡ 8
  pub strakes_length : payload_length s 4 ≡ 2 * strake_count s
  pub strakes_some : 1 ≤ strake_count s
  pub strakes_few : strake_count s ≤ 24
  pub depths_length : payload_length s 5 ≡ 4 * depth_count s
  pub depths_some : 1 ≤ depth_count s
  pub depths_few : depth_count s ≤ 200
  pub headroom_length : record_count s ≡ 7 → payload_length s 6 ≡ 4
  -- 5
  pub ends : record_place s (record_count s) ≡ length s

-- 9: flat, or a hopper
pub record Hopper (dc : ℕ) (b : Bottom) : Type 0 where
  pub run_some : 1 ≤ b.run
  pub run_narrow : 2 * b.run < dc
  pub height_most : b.height ≤ 25000
  pub steep : 363971 * b.run ≤ 1000000 * b.height

-- the values inside their ranges
pub record Values (c : Section) (p : Product) (e : Eccentricities) (b : Bottom) : Type 0 where
  -- 6, and 7 but for C0
  pub range : InRange c (grain_of p)
  pub factor_range : (p.factor ≡ 0) ⊎ Within 100 200 p.factor
  -- 8
  pub inlet_most : 4 * e.inlet ≤ d_c c
  pub outlet_most : 4 * e.outlet ≤ d_c c
  -- 9
  pub bottom_shape : ((b.height ≡ 0) × (b.run ≡ 0)) ⊎ Hopper (d_c c) b

-- what a sheet has whose length is told
pub record Measured (s : List ℕ) : Type 0 where
  -- 1 to 5
  pub layout : Layout s
  -- 6 to 9
  pub values : Values (section_of s) (product_sent s) (eccentricities_of s) (bottom_of s)
  -- 10
  pub strakes_range : (i : ℕ) → i < strake_count s → Within 200 3000 (get_or (strakes_of s) i 0)
  -- 11
  pub depths_most : (i : ℕ) → i < depth_count s → get_or (depths_of s) i 0 ≤ V_of s
  pub depths_rise : (i : ℕ) → suc i < depth_count s → get_or (depths_of s) i 0 < get_or (depths_of s) (suc i) 0
  -- 17
  pub headroom_less : headroom_of s < V_of s
  -- 12
  pub below_ten : h_of s < 10 * d_c (section_of s)

-- what a sheet has whose loads are worked out
pub record Accepted (s : List ℕ) : Type 0 where
  pub measured : Measured s
  -- 20
  pub proportion : (a b : ℕ) → section_of s ≡ Rectangle a b → max a b ≤ 3 * min a b

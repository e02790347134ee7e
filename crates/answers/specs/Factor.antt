-- A factor C0 written into a sheet, and the lists of two sheets that differ in it. Document 02, C-14.
use Rattle.std.specs.Prelude.{ℕ, ◌+◌, ◌/◌, ◌%◌, ◌≤◌, ◌<◌, ◌≡◌, List, length, set}
use Rattle.records.specs.Format.{record_place, payload, payload_length}
use Rattle.description.specs.Silo.{product_sent, strake_count, depth_count}
use Rattle.loads.specs.Load.{Load}
use Rattle.loads.specs.Load.{FillingLoad}
use Rattle.loads.specs.Load.Load.{p_he, p_we, p_p}
use Rattle.answers.specs.Answers.{bottom_in, strake_in}
use Rattle.answers.specs.Order.{load_in}

-- the same sheet with C0 = c written in, hundredths
unfoldable pub with_factor : ℕ → List ℕ → List ℕ
with_factor c s = set (set s (payload s 1 + 8) (c % 256)) (payload s 1 + 9) (c / 256 % 256)

-- a sheet, refused or not, that has the product's record whole, with C0 = 0
pub record Blank (s : List ℕ) : Type 0 where
  pub ten : payload_length s 1 ≡ 10
  pub inside : record_place s 2 ≤ length s
  pub blank : (product_sent s).factor ≡ 0

-- a list left for the sheet s, beside one left for s'
pub record NoSmaller (s list s' list' : List ℕ) : Type 0 where
  -- no smaller p_he, patch or strake load
  pub p_he_no_smaller : (i : ℕ) → i < depth_count s → load_in s' list' p_he i ≤ load_in s list p_he i
  pub patch_no_smaller : (i : ℕ) → i < depth_count s → load_in s' list' p_p i ≤ load_in s list p_p i
  pub strakes_no_smaller : (k : ℕ) → k < strake_count s → strake_in s' list' k ≤ strake_in s list k
  -- the same filling pressures, P_w and p_we, floor and hopper
  pub filling_same : (l : Load) → FillingLoad l → (i : ℕ) → i < depth_count s → load_in s list l i ≡ load_in s' list' l i
  pub p_we_same : (i : ℕ) → i < depth_count s → load_in s list p_we i ≡ load_in s' list' p_we i
  pub bottom_same : (k : ℕ) → k < 10 → bottom_in s list k ≡ bottom_in s' list' k

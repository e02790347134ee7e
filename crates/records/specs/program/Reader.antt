-- What the record reader says of a record, the places where the records of a sheet begin, and what is known of a sheet whose records are read one after the other.
use Rattle.std.specs.Prelude.{ℕ, ◌+◌, ◌-◌, ◌≤◌, ◌<◌, List, ◌≡◌, get_or, length}
use Rattle.records.specs.Rules.{first_unmet}
use Rattle.records.specs.Format.{u16, record_place, records_rules, record_count}
use Rattle.records.specs.declared.reader.Record.{Record}
use Rattle.records.specs.declared.reader.Reader.{Reader}

-- the record that begins at a place
pub record Stands (s : List ℕ) (at : ℕ) (f : Record) : Type 0 where
  pub placed : f.place ≡ at
  pub kinded : f.kind ≡ u16 s (at + 2)
  pub started : f.start ≡ at + 4
  pub sized : f.length ≡ u16 s at
  pub small : f.length < 65536

-- the reader behind the record where another stands: on the same sheet, behind its header and payload
abbrev pub Behind : Reader → Reader → Type 0
Behind from r = (r.sheet ≡ from.sheet) × (r.at ≡ from.at + 4 + u16 from.sheet.now from.at)

-- the places where the first six records begin, and where the sixth ends: there the sheet ends, or the seventh begins
pub record Located (s places : List ℕ) : Type 0 where
  pub located : (k : ℕ) → k ≤ 6 → get_or places k 0 ≡ record_place s k
  pub inside : record_place s 6 ≤ length s

-- a reader stands where record k begins, or would begin, and none before it is refused: the first refusal is that of the records left. The places up to its own are noted
pub record Reading (s : List ℕ) (k : ℕ) (r : Reader) (places : List ℕ) : Type 0 where
  pub same : r.sheet.now ≡ s
  pub there : r.at ≡ record_place s k
  pub near : r.at ≤ length s
  pub sized : length places ≡ 7
  pub noted : (j : ℕ) → j ≤ k → get_or places j 0 ≡ record_place s j
  pub left : first_unmet (records_rules s (record_count s) 0) ≡ first_unmet (records_rules s (record_count s - k) k)

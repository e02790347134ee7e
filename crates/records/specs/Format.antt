-- The sheet's bytes: little-endian numbers and records. Document 01, "Sheet"; document 02, C-13.
use Rattle.std.specs.Prelude.{ℕ, zero, suc, ◌+◌, ◌*◌, ◌/◌, ◌%◌, List, [], ◌∷◌, ◌++◌, Bool, cond, ◌&&◌, ◌||◌, length, get_or, leb, eqb}
use Rattle.records.specs.Rules.{within, Rule, ◌unless◌}

-- a little-endian number at a place; what lies past the end is 0
unfoldable pub u16 : List ℕ → ℕ → ℕ
u16 s at = get_or s at 0 + 256 * get_or s (at + 1) 0

unfoldable pub u32 : List ℕ → ℕ → ℕ
u32 s at = u16 s at + 65536 * u16 s (at + 2)

-- the bytes of a number, little-endian
abbrev pub two_bytes : ℕ → List ℕ
two_bytes n = n % 256 ∷ n / 256 % 256 ∷ []

abbrev pub four_bytes : ℕ → List ℕ
four_bytes n = two_bytes n ++ two_bytes (n / 65536)

-- a record: the length of its payload, its kind, the payload
abbrev pub record_bytes : ℕ → List ℕ → List ℕ
record_bytes t l = two_bytes (length l) ++ two_bytes t ++ l

-- n numbers read from a place on, each step bytes after the one before
unfoldable pub numbers : (ℕ → ℕ) → ℕ → ℕ → ℕ → List ℕ
numbers read step at zero = []
numbers read step at (suc n) = read at ∷ numbers read step (at + step) n

-- where record k begins, counted from 0: a two-byte payload length, a two-byte kind, the payload
unfoldable pub record_place : List ℕ → ℕ → ℕ
record_place s zero = 0
record_place s (suc k) = record_place s k + 4 + u16 s (record_place s k)

unfoldable pub payload_length : List ℕ → ℕ → ℕ
payload_length s k = u16 s (record_place s k)

unfoldable pub kind : List ℕ → ℕ → ℕ
kind s k = u16 s (record_place s k + 2)

unfoldable pub payload : List ℕ → ℕ → ℕ
payload s k = record_place s k + 4

-- the kind due: k + 2; the section's is 1 or 2
abbrev pub kind_due : ℕ → ℕ → Bool
kind_due k t = eqb t (k + 2) || (eqb k 0 && eqb t 1)

-- by kind, 1 to 8 (the entry before them is no kind): a payload is of step, 2 step, .. up to most bytes; 1 to 24 strakes of 2, 1 to 200 depths of 4
abbrev pub step_of : ℕ → ℕ
step_of t = get_or (1 ∷ 4 ∷ 8 ∷ 10 ∷ 8 ∷ 8 ∷ 2 ∷ 4 ∷ 4 ∷ []) t 0

abbrev pub most_of : ℕ → ℕ
most_of t = get_or (0 ∷ 4 ∷ 8 ∷ 10 ∷ 8 ∷ 8 ∷ 48 ∷ 800 ∷ 4 ∷ []) t 0

-- the payload lengths that a kind allows
unfoldable pub allowed : ℕ → ℕ → Bool
allowed t n = within (step_of t) (most_of t) n && eqb (n % step_of t) 0

-- record k, which begins at a place: header present, kind due, length allowed, payload present
unfoldable pub record_rules : List ℕ → ℕ → ℕ → List Rule
record_rules s at k =
    2 unless leb (at + 4) (length s)
    ∷ 3 unless kind_due k (u16 s (at + 2))
    ∷ 4 unless allowed (u16 s (at + 2)) (u16 s at)
    ∷ 2 unless leb (at + 4 + u16 s at) (length s)
    ∷ []

-- n records in order, from record k on; then nothing may be left over
unfoldable pub records_rules : List ℕ → ℕ → ℕ → List Rule
records_rules s zero k = 5 unless eqb (record_place s k) (length s) ∷ []
records_rules s (suc n) k = record_rules s (record_place s k) k ++ records_rules s n (suc k)

-- six records, and a seventh where bytes follow the sixth
unfoldable pub record_count : List ℕ → ℕ
record_count s = cond (eqb (record_place s 6) (length s)) 6 7

-- at most 1,024 bytes, then the records
unfoldable pub layout_rules : List ℕ → List Rule
layout_rules s = 1 unless leb (length s) 1024 ∷ records_rules s (record_count s) 0

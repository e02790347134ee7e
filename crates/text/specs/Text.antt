-- Text in ASCII: decimal numbers, and fields of nine characters. Document 02, C-15.
use Rattle.std.specs.Prelude.{ℕ, zero, suc, ◌+◌, ◌-◌, ◌/◌, ◌%◌, cond, List, [], ◌∷◌, ◌++◌, map, ltb, length, replicate}
use Prim.Native.Char.{Char, code}

-- characters by their codes
abbrev pub ascii : List Char → List ℕ
ascii = map code

abbrev pub space : ℕ
space = 32

abbrev pub line_feed : ℕ
line_feed = 10

-- the character of a digit, 0 to 9
abbrev pub digit : ℕ → ℕ
digit d = 48 + d

-- a number of at most k + 1 digits, without leading zeros: its only digit, or the digits of n / 10 and then its last one
unfoldable pub digits_within : ℕ → ℕ → List ℕ
digits_within zero n = digit n ∷ []
digits_within (suc k) n = cond (ltb n 10) (digit n ∷ []) (digits_within k (n / 10) ++ (digit (n % 10) ∷ []))

-- a number below 10^10, as every u32 is
abbrev pub decimal : ℕ → List ℕ
decimal n = digits_within 9 n

-- a text right-justified with spaces in nine characters
abbrev pub field : List ℕ → List ℕ
field t = replicate (9 - length t) space ++ t

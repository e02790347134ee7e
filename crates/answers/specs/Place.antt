-- Where a number stands in the answer list; beside this only `in_places` (program/Place.antt) knows it. Document 01, "Answer list"; document 02, C-18.
use Rattle.std.specs.Prelude.{ℕ, ◌+◌, ◌*◌}

-- number r of the eight of the depth i, of n that are listed: all z first, then all p_hf, and so on
unfoldable pub load_place : ℕ → ℕ → ℕ → ℕ
load_place n r i = r * n + i

-- number k of the bottom, k = 0 to 9
abbrev pub bottom_place : ℕ → ℕ → ℕ
bottom_place n k = 8 * n + k

-- the strake k, counted from 0
abbrev pub strake_place : ℕ → ℕ → ℕ
strake_place n k = 8 * n + 10 + k

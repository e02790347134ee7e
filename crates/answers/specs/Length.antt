-- The length call: how many numbers the answer list of a sheet has, or its first refusal; and what any call answers that tells a length.
-- Document 01, "Answer list", "Who can be refused".
use Rattle.std.specs.Prelude.{ℕ, ◌+◌, cond, List, eqb, Result, Ok, Err}
use Rattle.description.specs.Silo.{strake_count, depth_count}
use Rattle.sheet.specs.Refusal.{length_refusal}
use Rattle.answers.specs.Place.{strake_place}

-- the list ends where one strake more would stand: 8 numbers a depth, 10 for the bottom, one a strake
unfoldable pub length_due : List ℕ → ℕ
length_due s = strake_place (depth_count s) (strake_count s)

-- what a call answers that tells the length n, for a sheet with this refusal or 0
unfoldable pub told : ℕ → ℕ → Result ℕ ℕ
told refused n = cond (eqb refused 0) (Ok n) (Err refused)

abbrev pub answers_length : List ℕ → Result ℕ ℕ
answers_length s = told (length_refusal s) (length_due s)

-- the number of each answer: a length is marked by 2^32, so that it can't be taken for a refusal
unfoldable pub length_number : Result ℕ ℕ → ℕ
length_number (Ok n) = 4294967296 + n
length_number (Err r) = r

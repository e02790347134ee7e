-- The refusals by name, and the number of each. Document 01, "Who can be refused"; document 02, C-13, C-15, C-16, C-17 and C-19.
use Rattle.std.specs.Prelude.{ℕ, Result, Ok, Err}
use Rattle.records.specs.declared.refusal.Refusal.{Refusal}
use Rattle.records.specs.declared.refusal.Refusal.TheVariants.{SheetTooLong, RecordCutShort, KindNotDue, PayloadLength, BytesLeftOver, Sides, Product, Eccentricity, Bottom, Strake, Depth, TooTall, ListLength, NoSuchMaterial, RecordLength, Headroom, PageRoom, NotCircular, Proportion, Pressures, DepthsLength}

abbrev pub number : Refusal → ℕ
number SheetTooLong = 1
number RecordCutShort = 2
number KindNotDue = 3
number PayloadLength = 4
number BytesLeftOver = 5
number Sides = 6
number Product = 7
number Eccentricity = 8
number Bottom = 9
number Strake = 10
number Depth = 11
number TooTall = 12
number ListLength = 14
number NoSuchMaterial = 15
number RecordLength = 16
number Headroom = 17
number PageRoom = 18
number NotCircular = 19
number Proportion = 20
number Pressures = 21
number DepthsLength = 22

-- the number of an answer: 0 where there is no refusal
abbrev pub answer : {T : Type 0} → Result T Refusal → ℕ
answer (Ok _) = 0
answer (Err r) = number r

-- an answer with its refusal's number in place of the name
abbrev pub numbered : Result ℕ Refusal → Result ℕ ℕ
numbered (Ok n) = Ok n
numbered (Err r) = Err (number r)

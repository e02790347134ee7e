-- What the program prints for a sheet. Document 02, C-15.
use Rattle.std.specs.Prelude.{ℕ, cond, List, [], ◌∷◌, ◌++◌, eqb}
use Rattle.text.specs.Text.{ascii, line_feed, decimal}
use Rattle.janssen.specs.Numbers.{FillingNumbers}
use Rattle.sheet.specs.Refusal.{refusal_of}
use Rattle.page.specs.Page.{page}

-- the word REFUSED, one space, the number and a line feed
unfoldable pub refused_text : ℕ → List ℕ
refused_text n = ascii ("R" ∷ "E" ∷ "F" ∷ "U" ∷ "S" ∷ "E" ∷ "D" ∷ " " ∷ []) ++ (decimal n ++ (line_feed ∷ []))

-- the page, or the refusal
unfoldable pub printed : FillingNumbers → List ℕ → List ℕ
printed f s = cond (eqb (refusal_of s) 0) (page f s) (refused_text (refusal_of s))

-- The texts at the start of the buffer: REFUSED and a number below 100, or the page. The buffer has room for both, so the page call's own 18 never
-- comes, and what it answers is the sheet's refusal.
-- Assumes nothing.
use Prim.Native.Nat.{ℕ, ◌+◌, ◌/◌, ◌%◌, ◌≤◌, ◌<◌}
use mathlib.Core.Path.{◌≡◌, refl, ap, sym, subst, ◌∙◌}
use mathlib.Core.Bool.{cond}
use mathlib.Core.List.{List, [], ◌∷◌, ◌++◌}
use native.Mathlib.Decide.{dec_le, dec_lt}
use native.Mathlib.Omega.{arith}
use borrow.Author.Tests.{eq-eqb, ne_eqb, le-leb}
use lib.Dec.{leb}
use lib.ListN.{length, take, drop, set, length-append}
use lib.Seq.{sets, sets-eq, take_at}
use Rattle.std.specs.Prelude.{Result, Ok, Err}
use Rattle.std.specs.Result.{result_unwrap_or}
use Rattle.records.specs.declared.refusal.Refusal.{Refusal}
use Rattle.records.specs.Refusal.{numbered}
use Rattle.text.specs.Text.{ascii, line_feed, digit}
use Rattle.text.proofs.Fields.{single, double}
use Rattle.records.specs.Rules.{◌unless◌, first_unmet}
use Rattle.exponential.specs.program.Table.{table}
use Rattle.janssen.specs.program.Pressure.{computed_by, computed}
use Rattle.sheet.specs.Refusal.{length_refusal, refusal_of}
use Rattle.sheet.proofs.Chains.{accepted_measured, refusal_small}
use Rattle.answers.proofs.LengthLaws.{told_due}
use Rattle.page.specs.Page.{page, page_due, page_length, page_rules}
use Rattle.page.specs.Promise.{PagePromise}
use Rattle.page.proofs.Call.{refused_page, last_of_page, page_length_is}
use Rattle.page.proofs.Room.{page_most}
use Rattle.load_page.specs.Reply.{refused_text, printed}

-- the word, and a space
abbrev pub word : List ℕ
word = ascii ("R" ∷ "E" ∷ "F" ∷ "U" ∷ "S" ∷ "E" ∷ "D" ∷ " " ∷ [])

-- stored behind the word: one digit, or two
module _ (l l' : List ℕ) (n : ℕ) (e : l' ≡ sets l 0 word) where
  pub one_stored : (d : ℕ) → n < 10 → d ≡ digit n → (10 ≡ length (refused_text n)) × (set (set l' 8 d) 9 line_feed ≡ sets l 0 (refused_text n))
  unfolding refused_text
  one_stored d h is = rw (single 9 n h, e, is) (refl, refl)

  pub two_stored : (d d' : ℕ) → 10 ≤ n → n < 100 → d ≡ digit (n / 10) → d' ≡ digit (n % 10)
      → (11 ≡ length (refused_text n)) × (set (set (set l' 8 d) 9 d') 10 line_feed ≡ sets l 0 (refused_text n))
  unfolding refused_text
  two_stored d d' g h is is' = rw (double 8 n g h, e, is, is') (refl, refl)

-- ---- what the page call answers, lent a buffer with room for every page
module _ (s : List ℕ) (n : ℕ) (room : 16384 ≤ n) where
  pub sheet_answer : first_unmet (page_rules s n) ≡ refusal_of s
  unfolding first_unmet
  sheet_answer = go (dec_le (refusal_of s) 0)
    where
      go : Dec (refusal_of s ≤ 0) → first_unmet (page_rules s n) ≡ refusal_of s
      go (yes z) =
          let h : refusal_of s ≡ 0 = omega arith in
          let passed : first_unmet (18 unless leb (page_due s) n ∷ []) ≡ 0 = simp (le-leb (page_due s) n (omega (arith, page_most s h))) in
          last_of_page s n h ∙ passed ∙ sym h
      go (no z) = refused_page s n (λ o. omega arith)

pub refused_is : (s : List ℕ) (n : ℕ) → n ≡ refusal_of s → (n ≡ 0 → ⊥) → refused_text n ≡ printed computed s
unfolding printed
refused_is s n e h =
    ap refused_text e ∙ sym (ap (λ b. cond b (page computed s) (refused_text (refusal_of s))) (ne_eqb (refusal_of s) 0 (λ z. h (e ∙ z))))

pub page_printed : (s : List ℕ) → refusal_of s ≡ 0 → page computed s ≡ printed computed s
unfolding printed
page_printed s e = sym (ap (λ b. cond b (page computed s) (refused_text (refusal_of s))) (eq-eqb (refusal_of s) 0 e))

pub refused_length : (n : ℕ) → n < 100 → length (refused_text n) ≤ 11
refused_length n h = go (dec_lt n 10)
  where
    go : Dec (n < 10) → length (refused_text n) ≤ 11
    go (yes l) = omega (arith, (one_stored [] [] n refl (digit n) l refl).0)
    go (no g) = omega (arith, (two_stored [] [] n refl (digit (n / 10)) (digit (n % 10)) (omega arith) h refl refl).0)

-- ---- a text at the start of a buffer
abbrev pub AtStart : ℕ → List ℕ → List ℕ → Type 0
AtStart r out text = ((r ≤ length out) × (r ≡ length (take r out))) × (take r out ≡ text)

pub at_start : (text behind out : List ℕ) (r : ℕ) → r ≡ length text → out ≡ text ++ behind → AtStart r out text
at_start text behind out r e f =
    let t : take r out ≡ text = ap (take r) f ∙ take_at text behind r (sym e) in
    ((omega (arith, e, ap length f, length-append text behind), e ∙ sym (ap length t)), t)

-- ---- the length told for an accepted sheet
length_in : Result ℕ ℕ → ℕ
length_in r = result_unwrap_or r 0

pub told_of_page : (s : List ℕ) (told : Result ℕ Refusal) → numbered told ≡ page_length s → refusal_of s ≡ 0 → result_unwrap_or told 0 ≡ page_due s
unfolding length_in
told_of_page s (Ok n) e h = ap length_in (e ∙ told_due (length_refusal s) (page_due s) (accepted_measured s h))
told_of_page s (Err r) e h = ap length_in (e ∙ told_due (length_refusal s) (page_due s) (accepted_measured s h))

-- ---- what the program prints, at the start of the buffer that the page call was lent and left
module _ (s lent left : List ℕ) (r : ℕ) (room : 16384 ≤ length lent) (p : PagePromise computed_by table s lent r left) where
  pub answered : r ≡ refusal_of s
  answered = p.1.answer ∙ sheet_answer s (length lent) room

  pub answered_small : r < 100
  answered_small = omega (arith, answered, refusal_small s)

  -- the refusal's text, stored over it
  pub refusal_printed : (n : ℕ) (out : List ℕ) → (r ≡ 0 → ⊥) → length left ≡ length lent → n ≡ length (refused_text r) → out ≡ sets left 0 (refused_text r)
      → AtStart n out (printed computed s)
  refusal_printed n out some same count text =
      let fits : 0 + length (refused_text r) ≤ length left = omega (arith, refused_length r answered_small, room, same) in
      subst (AtStart n out) (refused_is s r answered some)
      (at_start (refused_text r) (drop (0 + length (refused_text r)) left) out n count (text ∙ sets-eq (refused_text r) left 0 fits))

  -- the page
  pub page_left : (n : ℕ) → r ≡ 0 → (refusal_of s ≡ 0 → n ≡ page_due s) → AtStart n left (printed computed s)
  page_left n none due =
      let accepted : refusal_of s ≡ 0 = sym answered ∙ none in
      let done = p.1.done none in
      let long = page_length_is computed s done.demand.0 accepted done.demand.1 in
      subst (AtStart n left) (page_printed s accepted)
      (at_start (page computed s) (drop (page_due s) lent) left n (due accepted ∙ sym long) done.text)

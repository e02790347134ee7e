-- What the page call answers and leaves, in its three cases: refused for the sheet, refused for the buffer's length, written.
-- Assumes nothing.
use Prim.Native.Nat.{ℕ, ◌+◌, ◌≤◌, ◌<◌}
use mathlib.Core.Bool.{true}
use mathlib.Core.Logic.{◌⊎◌}
use mathlib.Core.Path.{◌≡◌, refl, ap, sym, ◌∙◌}
use mathlib.Core.List.{List, [], ◌∷◌, ◌++◌}
use native.Mathlib.Omega.{arith}
use borrow.Author.Tests.{le-leb, lt-leb}
use lib.Dec.{leb}
use lib.ListN.{length, drop}
use lib.Seq.{sets, sets-eq}
use Rattle.std.specs.Prelude.{Ok, Err}
use Rattle.records.specs.Rules.{◌unless◌, first_unmet}
use Rattle.records.proofs.Fills.{fills_refused, fills_done}
use Rattle.exponential.specs.program.Table.{table}
use Rattle.exponential.proofs.TableLaws.{tabulated}
use Rattle.janssen.specs.Numbers.{FillingNumbers}
use Rattle.janssen.specs.program.Pressure.{computed_by, computed}
use Rattle.description.specs.Silo.{depth_count}
use Rattle.description.specs.declared.Described.{Described}
use Rattle.description.specs.program.Described.{wall_of, described_of}
use Rattle.sheet.specs.declared.accepted.AcceptedSheet.{AcceptedSheet}
use Rattle.sheet.specs.Refusal.{refusal_of}
use Rattle.sheet.proofs.Chains.{sheet_first, sheet_passed, call_never_13}
use Rattle.answers.specs.Place.{load_place}
use Rattle.answers.specs.Answers.{FilledBy}
use Rattle.answers.specs.Columns.{row_place}
use Rattle.answers.specs.program.Fill.{answers}
use Rattle.answers.proofs.LengthLaws.{beside_refused, beside_due}
use Rattle.answers.proofs.Places.{answers_filled}
use Rattle.answers.specs.Claim.{Claim}
use Rattle.answers.proofs.Demand.{claim}
use Rattle.answers.proofs.Digits.{nine_digits}
use Rattle.page.specs.Page.{page, page_size, page_due, page_length, page_rules}
use Rattle.page.specs.Promise.{Written, PagePromise}
use Rattle.page.specs.program.Text.{page_text}
use Rattle.page.proofs.Lines.{page_text_length}
use Rattle.page.proofs.Room.{page_room}
use Rattle.page.proofs.Named.{page_named}

-- the page's length by the counts of the silo described
pub described_size : (s : List ℕ) (d : Described) (n : ℕ) → d ≡ described_of s → n ≡ page_size d.depths.count d.wall.count → n ≡ page_due s
unfolding page_due wall_of
described_size s d n e f = f ∙ ap (λ (d : Described). page_size d.depths.count d.wall.count) e

-- of the sheet lent, which is accepted
pub accepted_size : {s : List ℕ} (a : AcceptedSheet) → a.sheet.now ≡ s → {n : ℕ} → n ≡ page_size a.described.depths.count a.described.wall.count → n ≡ page_due s
accepted_size {s} a same e = described_size s a.described _ (a.silo ∙ ap described_of same) e

-- what the page call answers for a buffer of n bytes: the sheet's refusal, or 18; never 13
module _ (s : List ℕ) (n : ℕ) where
  pub page_never_13 : first_unmet (page_rules s n) ≡ 13 → ⊥
  unfolding page_rules
  page_never_13 = call_never_13 true s _ refl

  pub refused_page : (refusal_of s ≡ 0 → ⊥) → first_unmet (page_rules s n) ≡ refusal_of s
  unfolding page_rules
  refused_page h = sheet_first s _ h

  pub last_of_page : refusal_of s ≡ 0 → first_unmet (page_rules s n) ≡ first_unmet (18 unless leb (page_due s) n ∷ [])
  unfolding page_rules
  last_of_page h = sheet_passed s _ h

-- beside its length call (document 02, C-17): the refusal that it answers, or 20; and 20 where it tells a length, for which the buffer has room
module _ (f : List ℕ → FillingNumbers) (t s lent left : List ℕ) (r : ℕ) (p : PagePromise f t s lent r left) where
  pub refused_or_20 : (k : ℕ) → page_length s ≡ Err k → (r ≡ k) ⊎ (r ≡ 20)
  unfolding page_rules
  refused_or_20 = beside_refused s _ (page_due s) p.1.answer

  pub measured_refused : (n : ℕ) → page_length s ≡ Ok n → n ≤ length lent → (r ≡ 0 → ⊥) → r ≡ 20
  unfolding page_rules first_unmet
  measured_refused n e room = beside_due s _ (page_due s) p.1.answer n e (λ o. simp (le-leb (page_due s) (length lent) (omega (arith, o, room))))

  -- what it leaves is, byte for byte, what it left while the list was in rows (document 02, C-18)
  pub page_unmoved : r ≡ 0 → (rows : List ℕ) → FilledBy row_place (f t) s rows → left ≡ page_text row_place rows (depth_count s) ++ drop (page_due s) lent
  page_unmoved e rows b = (p.1.done e).text ∙ ap (λ (x : List ℕ). x ++ drop (page_due s) lent) (sym (page_named row_place (f t) s rows b))

-- an accepted sheet's page has the length told, whatever the filling numbers that meet demand 3
pub page_length_is : (f : FillingNumbers) (s list : List ℕ) → refusal_of s ≡ 0 → Claim f s list → length (page f s) ≡ page_due s
page_length_is f s list h c =
    sym (ap length (page_named load_place f s list c.filled)) ∙ page_text_length load_place list (nine_digits f s list h c) (depth_count s) ∙ page_room s list c.filled.sized

-- it is what the program writes
pub page_is : (s : List ℕ) → page_text load_place (answers s) (depth_count s) ≡ page computed s
page_is s = page_named load_place computed s (answers s) (answers_filled s)

module _ (s lent : List ℕ) where
  -- any refusal leaves the buffer as it was
  refused_with : (r : ℕ) → r ≡ first_unmet (page_rules s (length lent)) → (r ≡ 0 → ⊥) → PagePromise computed_by table s lent r lent
  refused_with r e n = (tabulated, fills_refused (page_rules s (length lent)) (Written computed s lent) lent r e n)

  pub refused : (r : ℕ) → r ≡ refusal_of s → (r ≡ 0 → ⊥) → PagePromise computed_by table s lent r lent
  refused r e n = refused_with r (e ∙ sym (refused_page s (length lent) (λ o. n (e ∙ o)))) n

  pub short : refusal_of s ≡ 0 → length lent < page_due s → PagePromise computed_by table s lent 18 lent
  unfolding first_unmet
  short h n = refused_with 18 (sym (last_of_page s (length lent) h ∙ simp (lt-leb (page_due s) (length lent) n))) (λ o. omega arith)

  pub written : (left : List ℕ) → refusal_of s ≡ 0 → page_due s ≤ length lent → left ≡ sets lent 0 (page_text load_place (answers s) (depth_count s))
      → PagePromise computed_by table s lent 0 left
  unfolding first_unmet
  written left h n e =
      let held : Claim computed s (answers s) = claim s (answers s) h (answers_filled s) in
      let long : 0 + length (page computed s) ≡ page_due s = omega (arith, page_length_is computed s (answers s) h held) in
      let met : first_unmet (page_rules s (length lent)) ≡ 0 = last_of_page s (length lent) h ∙ simp (le-leb (page_due s) (length lent) n) in
      let done : Written computed s lent left =
      record {
        text =
            e ∙ ap (sets lent 0) (page_is s)
            ∙ sets-eq (page computed s) lent 0 (omega (arith, long, n))
            ∙ ap (λ (k : ℕ). page computed s ++ drop k lent) long;
        demand = (answers s, held);
      } in
      (tabulated, fills_done (page_rules s (length lent)) (Written computed s lent) lent left met done)

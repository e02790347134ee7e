-- Sheets that describe one silo have one page (`one_page`): a sheet of six records beside the same with a headroom of 0 (`level_page`, document 02, C-13),
-- and one with a blank factor beside the same with 155 (`page_acts_as_155`, C-14); their length calls answer the same.
-- Assumes nothing.
use Prim.Native.Nat.{ℕ, ◌+◌, ◌≤◌}
use mathlib.Core.Path.{◌≡◌, refl, ap, sym, ◌∙◌}
use mathlib.Core.List.{List, [], ◌∷◌, ◌++◌}
use lib.Dec.{leb}
use lib.ListN.{length}
use Rattle.records.specs.Rules.{◌unless◌, first_unmet}
use Rattle.records.proofs.Fills.{fills_alike}
use Rattle.janssen.specs.Numbers.{FillingNumbers}
use Rattle.records.specs.Format.{record_place}
use Rattle.sheet.specs.Refusal.{refusal_of}
use Rattle.sheet.proofs.Chains.{sheet_met, answers_alike}
use Rattle.sheet.proofs.Parts.{SameParts, loads_alike}
use Rattle.answers.specs.Factor.{with_factor, Blank}
use Rattle.answers.specs.Place.{load_place}
use Rattle.answers.specs.Answers.{Filled}
use Rattle.answers.proofs.LengthLaws.{told_same}
use Rattle.answers.proofs.OneSilo.{OneSilo, Alike, filled_same, measured_alike, accepted_alike}
use Rattle.answers.proofs.Headroom.{level, level_alike}
use Rattle.answers.proofs.Factor.{blank_alike}
use Rattle.page.specs.Page.{page, page_due, page_length, page_rules}
use Rattle.page.specs.Promise.{PagePromise}
use Rattle.page.specs.program.Text.{page_text}
use Rattle.page.proofs.Named.{page_named}

module _ (s s' : List ℕ) where
  due_same : SameParts s s' → page_due s ≡ page_due s'
  unfolding page_due
  due_same p = rw (p.depth_counts, p.strake_counts) refl

  -- the list of the other is also that of s
  page_same : OneSilo s s' → (f : FillingNumbers) (list : List ℕ) → Filled f s' list → page f s ≡ page f s'
  page_same o f list a =
      sym (page_named load_place f s list (filled_same s s' o f list a)) ∙ ap (page_text load_place list) o.parts.depth_counts ∙ page_named load_place f s' list a

  module _ (alike : Alike s s') where
    pub one_page_length : page_length s ≡ page_length s'
    one_page_length = told_same alike.refusals.lengths (λ h. due_same (measured_alike s s' alike h).parts)

    answer_by : (n : ℕ) → first_unmet (page_rules s n) ≡ first_unmet (page_rules s' n)
    unfolding page_rules
    answer_by n =
        answers_alike s s' _ _ (loads_alike s s' alike.refusals)
        (λ h. ap (λ (m : ℕ). first_unmet (18 unless leb m n ∷ [])) (due_same (accepted_alike s s' alike h).parts))

    accepted_by : (n : ℕ) → first_unmet (page_rules s n) ≡ 0 → refusal_of s ≡ 0
    unfolding page_rules
    accepted_by n h = sheet_met s _ h

    pub one_page : (f : List ℕ → FillingNumbers) (t lent left left' : List ℕ) (r r' : ℕ) → PagePromise f t s lent r left → PagePromise f t s' lent r' left'
        → (r ≡ r') × (left ≡ left')
    one_page f t lent left left' r r' a b =
        fills_alike a.1 b.1 (answer_by (length lent))
        (λ h x y.
        let o : OneSilo s s' = accepted_alike s s' alike (accepted_by (length lent) h) in
        let (list, claim) = y.demand in
        x.text ∙ rw (page_same o (f t) list claim.filled, due_same o.parts) refl ∙ sym y.text)

-- a sheet of six records, and a headroom of 0 behind it
module _ (s : List ℕ) (six : record_place s 6 ≡ length s) (short : length s + 8 ≤ 1024) where
  pub level_page_length : page_length s ≡ page_length (s ++ level)
  level_page_length = one_page_length s (s ++ level) (level_alike s six short)

  pub level_page : (f : List ℕ → FillingNumbers) (t lent left left' : List ℕ) (r r' : ℕ) → PagePromise f t s lent r left → PagePromise f t (s ++ level) lent r' left'
      → (r ≡ r') × (left ≡ left')
  level_page = one_page s (s ++ level) (level_alike s six short)

-- a blank factor, and 155 written in
module _ (s : List ℕ) (b : Blank s) where
  pub blank_page_length : page_length s ≡ page_length (with_factor 155 s)
  blank_page_length = one_page_length s (with_factor 155 s) (blank_alike s b)

  pub page_acts_as_155 : (f : List ℕ → FillingNumbers) (t lent left left' : List ℕ) (r r' : ℕ) → PagePromise f t s lent r left → PagePromise f t (with_factor 155 s) lent r' left'
      → (r ≡ r') × (left ≡ left')
  page_acts_as_155 = one_page s (with_factor 155 s) (blank_alike s b)

-- The reply list beside others: at 0 degrees it has p_p of the answer list (`as_answered`), and sheets that describe one silo have one reply (`one_reply`):
-- a sheet of six records beside the same with a headroom of 0 (`level_reply`, document 02, C-13), and one with a blank factor beside the same with 155
-- (`reply_acts_as_155`, C-14).
use Prim.Native.Nat.{ℕ, ◌+◌, ◌*◌, ◌≤◌, ◌<◌}
use mathlib.Core.Path.{◌≡◌, refl, ap, sym, subst, ◌∙◌}
use mathlib.Core.List.{List, [], ◌∷◌, ◌++◌}
use native.Mathlib.Decide.{dec_lt}
use native.Mathlib.Omega.{arith}
use lib.Dec.{leb, eqb}
use lib.ListN.{length, get_or}
use lib.Seq.{ext_get_or}
use lib.IntN.{ℤ, pos}
use Rattle.fraction.proofs.Up.{up_unique}
use Rattle.cosine.specs.Cosine.{CosineTable}
use Rattle.janssen.specs.Section.{d_c}
use Rattle.janssen.specs.Numbers.{FillingNumbers}
use Rattle.records.specs.Format.{record_place}
use Rattle.records.specs.Rules.{◌unless◌, first_unmet}
use Rattle.records.proofs.Fills.{fills_alike}
use Rattle.records.proofs.Chain.{chains_alike}
use Rattle.description.specs.Silo.{depth_count, V_of}
use Rattle.sheet.specs.Refusal.{sheet_rules_at}
use Rattle.sheet.proofs.Chains.{accepted_at, rules_numbered}
use Rattle.loads.specs.declared.Silo.{Silo}
use Rattle.loads.specs.Load.{load_number}
use Rattle.loads.specs.Load.Load.{p_p}
use Rattle.answers.specs.Answers.{silo_of, depth, Filled}
use Rattle.answers.specs.Order.{load_in}
use Rattle.answers.proofs.Places.{at_load}
use Rattle.answers.specs.Factor.{with_factor, Blank}
use Rattle.answers.proofs.OneSilo.{Alike, accepted_alike}
use Rattle.answers.proofs.Headroom.{level, level_alike}
use Rattle.answers.proofs.Factor.{blank_alike}
use Rattle.shell.specs.Shell.{apart, size, ReplyList, ReplyListOf, is_circle, shell_rules}
use Rattle.shell.specs.Promise.{ShellPromise}
use Rattle.shell.proofs.Quadrants.{near}
use Rattle.shell.proofs.Call.{shell_accepted}

-- the size at 0 degrees is p_p
size_whole : {c : ℕ → ℕ} → CosineTable c → (p : ℕ) → size c p 0 ≡ p
unfolding size
size_whole {c} cosines p =
    let e = cosines.exact.0 in
    up_unique (p * c 0) 1000000000 p (omega arith) (omega (arith, ap (λ (x : ℕ). p * x) e)) (omega (arith, ap (λ (x : ℕ). p * x) e))

-- p_p of the given depth is the one that the answer list has for it
pub as_answered : (f : FillingNumbers) (c : ℕ → ℕ) → CosineTable c → (s answers : List ℕ) (z : ℕ) (list : List ℤ) → Filled f s answers → ReplyListOf f c s z list
    → (i : ℕ) → i < depth_count s → depth s i ≡ z → get_or list 0 (pos 0) ≡ pos (load_in s answers p_p i)
unfolding apart
as_answered f c cosines s answers z list a r i h e =
    let p = load_number f (silo_of s) p_p z in
    r.pressures 0 (omega arith)
    ∙ near c p 0 0 refl (omega arith)
    ∙ ap pos (size_whole cosines p ∙ ap (load_number f (silo_of s) p_p) (sym e) ∙ sym (at_load a p_p i h))

-- every number of the list is fixed
round_once : {c : ℕ → ℕ} (d p : ℕ) (list list' : List ℤ) → ReplyList c d p list → ReplyList c d p list' → list ≡ list'
round_once d p list list' r r' = ext_get_or (pos 0) list list' (r.sized ∙ sym r'.sized) each
  where
    last : (i : ℕ) → i ≡ 360 → get_or list i (pos 0) ≡ get_or list' i (pos 0)
    last i e = ap (λ (k : ℕ). get_or list k (pos 0)) e ∙ r.force ∙ sym r'.force ∙ ap (λ (k : ℕ). get_or list' k (pos 0)) (sym e)

    at : (i : ℕ) → i < length list → Dec (i < 360) → get_or list i (pos 0) ≡ get_or list' i (pos 0)
    at i l (yes h) = r.pressures i h ∙ sym (r'.pressures i h)
    at i l (no h) = last i (omega (arith, r.sized))

    each : (i : ℕ) → i < length list → get_or list i (pos 0) ≡ get_or list' i (pos 0)
    each i l = at i l (dec_lt i 360)

module _ (s s' : List ℕ) (z : ℕ) (alike : Alike s s') where
  answer_by : (n : ℕ) → first_unmet (shell_rules s z n) ≡ first_unmet (shell_rules s' z n)
  unfolding shell_rules
  answer_by n =
      chains_alike (sheet_rules_at s z) (sheet_rules_at s' z) _ _ (rules_numbered (leb z (V_of s)) s) (rules_numbered (leb z (V_of s')) s') (alike.refusals.loads_at z)
      (λ h. ap (λ (c : Silo). first_unmet (19 unless is_circle c.section ∷ 14 unless eqb n 361 ∷ [])) (accepted_alike s s' alike (accepted_at s z h).0).silos)

  pub one_reply : (f : List ℕ → FillingNumbers) (t : List ℕ) (c : ℕ → ℕ) (lent left left' : List ℤ) (r r' : ℕ)
      → ShellPromise f t c s z lent r left → ShellPromise f t c s' z lent r' left' → (r ≡ r') × (left ≡ left')
  one_reply f t c lent left left' r r' a b =
      fills_alike a.2 b.2 (answer_by (length lent))
      (λ h x y.
      let silos = (accepted_alike s s' alike (shell_accepted s z (length lent) h).0).silos in
      round_once _ _ left left' x.filled
      (subst (λ (x : Silo). ReplyList c (d_c x.section) (load_number (f t) x p_p z) left') (sym silos) y.filled))

module _ (f : List ℕ → FillingNumbers) (t : List ℕ) (c : ℕ → ℕ) (s : List ℕ) (z : ℕ) (lent left left' : List ℤ) (r r' : ℕ) where
  -- a sheet of six records, and a headroom of 0 behind it
  pub level_reply : record_place s 6 ≡ length s → length s + 8 ≤ 1024 → ShellPromise f t c s z lent r left
      → ShellPromise f t c (s ++ level) z lent r' left' → (r ≡ r') × (left ≡ left')
  level_reply six short a b = one_reply s (s ++ level) z (level_alike s six short) f t c lent left left' r r' a b

  -- a blank factor, and 155 written in
  pub reply_acts_as_155 : Blank s → ShellPromise f t c s z lent r left → ShellPromise f t c (with_factor 155 s) z lent r' left'
      → (r ≡ r') × (left ≡ left')
  reply_acts_as_155 blank a b = one_reply s (with_factor 155 s) z (blank_alike s blank) f t c lent left left' r r' a b

-- Two sheets that are refused alike and, where their records are in order, describe one silo with the same wall and depths (`OneSilo`) have one answer: the
-- length call answers the same (`one_length`), and the load call answers the same and leaves the same list (`one_call`).
-- Assumes nothing.
use Prim.Native.Nat.{ℕ, suc, ◌<◌}
use mathlib.Core.List.{List, [], ◌∷◌}
use mathlib.Core.Path.{◌≡◌, refl, ap, sym, ◌∙◌, subst}
use lib.Dec.{eqb}
use lib.ListN.{length, get_or, take}
use Rattle.janssen.specs.Numbers.{FillingNumbers}
use Rattle.records.specs.Rules.{◌unless◌, first_unmet}
use Rattle.records.proofs.Fills.{fills_alike}
use Rattle.description.specs.Silo.{strake_count, depth_count, edge_of, sum}
use Rattle.sheet.specs.Refusal.{length_refusal, refusal_of}
use Rattle.sheet.specs.Accepted.{Layout}
use Rattle.sheet.proofs.Chains.{accepted_measured, answers_alike}
use Rattle.sheet.proofs.Acceptance.{measured}
use Rattle.sheet.proofs.Parts.{SameParts, RefusedAlike, loads_alike}
use Rattle.loads.specs.declared.Silo.{Silo}
use Rattle.loads.specs.Load.{Load}
use Rattle.loads.specs.Load.{eight, load_number, bottom_numbers}
use Rattle.loads.specs.Load.Load.{listed_depth, p_he}
use Rattle.answers.specs.Place.{load_place, bottom_place, strake_place}
use Rattle.answers.specs.Length.{length_due, answers_length}
use Rattle.answers.specs.Answers.{silo_of, depth, strake_in, Filled, loads_rules}
use Rattle.answers.specs.Order.{load_in}
use Rattle.answers.specs.Promise.{Promise}
use Rattle.answers.proofs.Places.{at_load, filled_once}
use Rattle.answers.proofs.LengthLaws.{told_same}
use Rattle.answers.proofs.Call.{not_refused}

-- the same silo, wall and depths
pub record OneSilo (s s' : List ℕ) : Type 0 where
  pub parts : SameParts s s'
  pub silos : silo_of s ≡ silo_of s'

-- sheets that no call tells apart
pub record Alike (s s' : List ℕ) : Type 0 where
  pub refusals : RefusedAlike s s'
  pub silo : Layout s → OneSilo s s'

module _ (s s' : List ℕ) where
  due_same : SameParts s s' → length_due s ≡ length_due s'
  unfolding length_due
  due_same p = rw (p.depth_counts, p.strake_counts) refl

  -- the numbers of the other's list, at the depths and edges of s
  module _ (p : SameParts s s') (f : FillingNumbers) (list : List ℕ) (a : Filled f s' list) where
    listed : (i : ℕ) → i < depth_count s → i < depth_count s'
    listed i h = subst (λ (n : ℕ). i < n) p.depth_counts h

    depth_same : (i : ℕ) → depth s' i ≡ depth s i
    depth_same i = ap (λ (d : List ℕ). get_or d i 0) (sym p.depths)

    numbers_by : (r i : ℕ) → r < 8 → i < depth_count s → get_or list (load_place (depth_count s') r i) 0 ≡ load_number f (silo_of s') (get_or eight r listed_depth) (depth s i)
    numbers_by r i g h = a.at_depths r i g (listed i h) ∙ ap (load_number f (silo_of s') (get_or eight r listed_depth)) (depth_same i)

    pub depths_by : (l : Load) (i : ℕ) → i < depth_count s → load_in s' list l i ≡ load_number f (silo_of s') l (depth s i)
    depths_by l i h = at_load a l i (listed i h) ∙ ap (load_number f (silo_of s') l) (depth_same i)

    pub strakes_by : (k : ℕ) → k < strake_count s → strake_in s' list k ≡ load_number f (silo_of s') p_he (edge_of s (suc k))
    unfolding edge_of
    strakes_by k h =
        a.at_strakes k (subst (λ (n : ℕ). k < n) p.strake_counts h)
        ∙ ap (λ (d : List ℕ). load_number f (silo_of s') p_he (sum (take (suc k) d))) (sym p.strakes)

  -- what fills the answers of the other fills those of s
  pub filled_same : OneSilo s s' → (f : FillingNumbers) (list : List ℕ) → Filled f s' list → Filled f s list
  filled_same o f list a =
      let p = o.parts in
      let count = p.depth_counts in
      let silo = sym o.silos in
      record {
        sized = a.sized ∙ sym (due_same p);
        at_depths =
            λ r i g h. ap (λ (n : ℕ). get_or list (load_place n r i) 0) count
            ∙ numbers_by p f list a r i g h
            ∙ ap (λ (c : Silo). load_number f c (get_or eight r listed_depth) (depth s i)) silo;
        at_bottom =
            λ k h. ap (λ (n : ℕ). get_or list (bottom_place n k) 0) count
            ∙ a.at_bottom k h
            ∙ ap (λ (c : Silo). get_or (bottom_numbers f c) k 0) silo;
        at_strakes =
            λ k h. ap (λ (n : ℕ). get_or list (strake_place n k) 0) count
            ∙ strakes_by p f list a k h
            ∙ ap (λ (c : Silo). load_number f c p_he (edge_of s (suc k))) silo;
      }

  module _ (alike : Alike s s') where
    pub measured_alike : length_refusal s ≡ 0 → OneSilo s s'
    measured_alike h = alike.silo (measured s h).layout

    pub accepted_alike : refusal_of s ≡ 0 → OneSilo s s'
    accepted_alike h = measured_alike (accepted_measured s h)

    pub one_length : answers_length s ≡ answers_length s'
    one_length = told_same alike.refusals.lengths (λ h. due_same (measured_alike h).parts)

    answer_by : (n : ℕ) → first_unmet (loads_rules s n) ≡ first_unmet (loads_rules s' n)
    unfolding loads_rules
    answer_by n =
        answers_alike s s' _ _ (loads_alike s s' alike.refusals)
        (λ h. ap (λ (m : ℕ). first_unmet (14 unless eqb n m ∷ [])) (due_same (accepted_alike h).parts))

    pub one_call : (f : List ℕ → FillingNumbers) (t lent left left' : List ℕ) (r r' : ℕ) → Promise f t s lent r left → Promise f t s' lent r' left'
        → (r ≡ r') × (left ≡ left')
    one_call f t lent left left' r r' a b =
        fills_alike a.1 b.1 (answer_by (length lent))
        (λ h x y. filled_once (f t) s left left' x.filled (filled_same (accepted_alike (not_refused s (length lent) h)) (f t) left' y.filled))

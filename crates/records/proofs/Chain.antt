-- Chains of rules: what the first rule that is not met tells of those before it and behind it.
--     met            no refusal: every rule is met
--     skipped        no refusal in the first part: the refusal is that of the second
--     stopped        a refusal in the first part is the refusal of the whole
--     apart          no refusal in the whole: none in each part
--     chains_alike   two wholes with the same refusals in their parts
--     next, last     the rules tried one after the other: one that is met leaves those behind it; one that is not is the refusal
--     inserted       a rule put between others is the refusal, or leaves it
--     absent         a number that no rule has is never the refusal
--     first_below    the refusal is below what all numbers are below
-- A refusal is told from 0 by its number, so that the numbers have to be positive (`numbered`): a test that computes for every chain.
use Prim.Native.Nat.{ℕ, zero, suc, ◌≤◌, ◌<◌}
use mathlib.Core.Bool.{Bool, true, false, cond, ◌&&◌, ◌||◌, false≢true}
use mathlib.Core.List.{List, [], ◌∷◌, ◌++◌}
use mathlib.Core.Logic.{◌⊎◌, inl, inr}
use mathlib.Core.Path.{◌≡◌, refl, sym, ◌∙◌}
use native.Mathlib.Decide.{dec_le}
use native.Mathlib.Omega.{arith}
use borrow.Author.Tests.{eq-eqb, ltb-true}
use lib.Dec.{eqb, ltb}
use lib.ListN.{drop}
use Rattle.records.specs.Rules.{Rule, ◌unless◌, first_unmet}
use Rattle.records.proofs.Tests.{absurd, both_true, either_right}

abbrev positive : ℕ → Bool
positive zero = false
positive (suc n) = true

abbrev pub numbered : List Rule → Bool
numbered [] = true
numbered (r ∷ l) = positive r.refusal && numbered l

-- whether rule i of a chain is met
abbrev pub met_at : List Rule → ℕ → Bool
met_at [] i = true
met_at (r ∷ l) zero = r.met
met_at (r ∷ l) (suc i) = met_at l i

-- the first rule of a chain without refusal
first_met : (n : ℕ) (b : Bool) (l : List Rule) → positive n ≡ true → first_unmet (n unless b ∷ l) ≡ 0 → (b ≡ true) × (first_unmet l ≡ 0)
unfolding first_unmet
first_met n true l p h = (refl, h)
first_met zero false l p h = absurd (false≢true p)
first_met (suc n) false l p h = absurd (omega arith)

rule_apart : (r : Rule) (l : List Rule) → numbered (r ∷ l) ≡ true → first_unmet (r ∷ l) ≡ 0 → (r.met ≡ true) × (numbered l ≡ true) × (first_unmet l ≡ 0)
rule_apart r l p h =
    let q = both_true (positive r.refusal) (numbered l) p in
    let m = first_met r.refusal r.met l q.0 h in
    (m.0, q.1, m.1)

pub met : (l : List Rule) → numbered l ≡ true → first_unmet l ≡ 0 → (i : ℕ) → met_at l i ≡ true
met [] p h i = refl
met (r ∷ l) p h zero = (rule_apart r l p h).0
met (r ∷ l) p h (suc i) = let q = rule_apart r l p h in met l q.1 q.2 i

module _ (b : List Rule) where
  pub skipped : (a : List Rule) → numbered a ≡ true → first_unmet a ≡ 0 → first_unmet (a ++ b) ≡ first_unmet b
  unfolding first_unmet
  skipped [] p h = refl
  skipped (r ∷ a) p h = let q = rule_apart r a p h in rw q.0 (skipped a q.1 q.2)

  stopped_at : (m : Bool) (n : ℕ) (a : List Rule) → ((first_unmet a ≡ 0 → ⊥) → first_unmet (a ++ b) ≡ first_unmet a)
      → (cond m (first_unmet a) n ≡ 0 → ⊥) → cond m (first_unmet (a ++ b)) n ≡ cond m (first_unmet a) n
  stopped_at true n a rest h = rest h
  stopped_at false n a rest h = refl

  pub stopped : (a : List Rule) → (first_unmet a ≡ 0 → ⊥) → first_unmet (a ++ b) ≡ first_unmet a
  unfolding first_unmet
  stopped [] h = absurd (h refl)
  stopped (r ∷ a) h = stopped_at r.met r.refusal a (stopped a) h

  pub apart : (a : List Rule) → numbered a ≡ true → first_unmet (a ++ b) ≡ 0 → (first_unmet a ≡ 0) × (first_unmet b ≡ 0)
  unfolding first_unmet
  apart [] p h = (refl, h)
  apart (r ∷ a) p h =
      let q = both_true (positive r.refusal) (numbered a) p in
      let m = first_met r.refusal r.met (a ++ b) q.0 h in
      let rest = apart a q.1 m.1 in
      (rw m.0 rest.0, rest.1)

-- two first parts with one refusal, and the same of what is behind where there is none
pub chains_alike : (a a' b b' : List Rule) → numbered a ≡ true → numbered a' ≡ true → first_unmet a ≡ first_unmet a'
    → (first_unmet a ≡ 0 → first_unmet b ≡ first_unmet b') → first_unmet (a ++ b) ≡ first_unmet (a' ++ b')
chains_alike a a' b b' p p' e alike = go (dec_le (first_unmet a) 0)
  where
    go : Dec (first_unmet a ≤ 0) → first_unmet (a ++ b) ≡ first_unmet (a' ++ b')
    go (yes z) = let h : first_unmet a ≡ 0 = omega arith in skipped b a p h ∙ alike h ∙ sym (skipped b' a' p' (sym e ∙ h))
    go (no z) = stopped b a (λ o. omega arith) ∙ e ∙ sym (stopped b' a' (λ o. omega (arith, e)))

-- the number of rule i of a chain
abbrev pub number_at : List Rule → ℕ → ℕ
number_at [] i = 0
number_at (r ∷ l) zero = r.refusal
number_at (r ∷ l) (suc i) = number_at l i

pub next : (l : List Rule) (i : ℕ) → met_at l i ≡ true → first_unmet (drop i l) ≡ first_unmet (drop (suc i) l)
unfolding first_unmet
next [] zero h = refl
next [] (suc i) h = refl
next (r ∷ l) zero h = rw h refl
next (r ∷ l) (suc i) h = next l i h

pub last : (l : List Rule) (i : ℕ) → met_at l i ≡ false → first_unmet (drop i l) ≡ number_at l i
unfolding first_unmet
last [] i h = absurd (false≢true (sym h))
last (r ∷ l) zero h = rw h refl
last (r ∷ l) (suc i) h = last l i h

either_first : (m : Bool) (k n : ℕ) → (cond m n k ≡ n) ⊎ (cond m n k ≡ k)
either_first true k n = inl refl
either_first false k n = inr refl

either_behind : (m : Bool) (k : ℕ) {x y n : ℕ} → (x ≡ y) ⊎ (x ≡ n) → (cond m x k ≡ cond m y k) ⊎ (cond m x k ≡ n)
either_behind true k h = h
either_behind false k h = inl refl

pub inserted : (a : List Rule) (r : Rule) (b : List Rule) → (first_unmet (a ++ (r ∷ b)) ≡ first_unmet (a ++ b)) ⊎ (first_unmet (a ++ (r ∷ b)) ≡ r.refusal)
unfolding first_unmet
inserted [] r b = either_first r.met r.refusal (first_unmet b)
inserted (q ∷ a) r b = either_behind q.met q.refusal (inserted a r b)

-- whether a number is that of a rule
abbrev pub has : List Rule → ℕ → Bool
has [] n = false
has (r ∷ l) n = eqb r.refusal n || has l n

among_next : (m : Bool) (k n : ℕ) (l : List Rule) → (first_unmet l ≡ n → has l n ≡ true) → cond m (first_unmet l) k ≡ n → (eqb k n || has l n) ≡ true
among_next true k n l rest h = either_right (eqb k n) (has l n) (rest h)
among_next false k n l rest h = simp (eq-eqb k n h)

among : (l : List Rule) (n : ℕ) → 0 < n → first_unmet l ≡ n → has l n ≡ true
unfolding first_unmet
among [] n p h = absurd (omega arith)
among (r ∷ l) n p h = among_next r.met r.refusal n l (among l n p) h

pub absent : (l : List Rule) (n : ℕ) → 0 < n → has l n ≡ false → first_unmet l ≡ n → ⊥
absent l n p h e = false≢true (sym h ∙ among l n p e)

-- whether every rule's number is below m
abbrev pub below : ℕ → List Rule → Bool
below m [] = true
below m (r ∷ l) = ltb r.refusal m && below m l

below_next : (met : Bool) (k m : ℕ) (l : List Rule) → k < m → first_unmet l < m → cond met (first_unmet l) k < m
below_next true k m l h g = g
below_next false k m l h g = h

pub first_below : (m : ℕ) (l : List Rule) → 0 < m → below m l ≡ true → first_unmet l < m
unfolding first_unmet
first_below m [] p h = p
first_below m (r ∷ l) p h =
    let q = both_true (ltb r.refusal m) (below m l) h in
    below_next r.met r.refusal m l (ltb-true r.refusal m q.0) (first_below m l p q.1)

-- A call that is lent a list: refused, done, and two calls that are refused alike and done alike.
use Prim.Native.Nat.{ℕ, ◌≤◌}
use mathlib.Core.Path.{◌≡◌, refl, sym, ◌∙◌}
use mathlib.Core.List.{List}
use native.Mathlib.Decide.{dec_le}
use native.Mathlib.Omega.{arith}
use Rattle.records.specs.Rules.{Rule, first_unmet, Fills}

module _ {A : Type 0} (rules : List Rule) (Done : List A → Type 0) (lent : List A) where
  pub fills_refused : (r : ℕ) → r ≡ first_unmet rules → (r ≡ 0 → ⊥) → Fills rules Done lent r lent
  fills_refused r e n = record { answer = e; unchanged = λ _. refl; done = λ o. absurd (n o) }

  pub fills_done : (left : List A) → first_unmet rules ≡ 0 → Done left → Fills rules Done lent 0 left
  fills_done left e d = record { answer = sym e; unchanged = λ o. absurd (o refl); done = λ _. d }

module _ {A : Type 0} {rules rules' : List Rule} {Done Done' : List A → Type 0} {lent left left' : List A} {r r' : ℕ}
    (a : Fills rules Done lent r left) (b : Fills rules' Done' lent r' left')
    (answers : first_unmet rules ≡ first_unmet rules') (once : first_unmet rules ≡ 0 → Done left → Done' left' → left ≡ left') where
  answers_same : r ≡ r'
  answers_same = a.answer ∙ answers ∙ sym b.answer

  left_by : Dec (r ≤ 0) → left ≡ left'
  left_by (yes z) =
      let h : r ≡ 0 = omega (arith, z) in
      once (sym a.answer ∙ h) (a.done h) (b.done (sym answers_same ∙ h))
  left_by (no n) = a.unchanged (λ z. n (omega (arith, z))) ∙ sym (b.unchanged (λ z. n (omega (arith, z, answers_same))))

  pub fills_alike : (r ≡ r') × (left ≡ left')
  fills_alike = (answers_same, left_by (dec_le r 0))

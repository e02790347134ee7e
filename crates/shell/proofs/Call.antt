-- What the call for the patch round the shell answers and leaves, in its four cases: refused for the sheet or the depth, for a rectangle, for the list's
-- length, filled.
use Prim.Native.Nat.{ℕ, ◌≤◌}
use mathlib.Core.Path.{◌≡◌, refl, sym, subst, ◌∙◌}
use mathlib.Core.Bool.{true, false}
use mathlib.Core.List.{List, [], ◌∷◌}
use native.Mathlib.Omega.{arith}
use borrow.Author.Tests.{eq-eqb, ne_eqb, eqb-true}
use lib.Dec.{leb, eqb}
use lib.ListN.{length}
use lib.IntN.{ℤ}
use Rattle.records.specs.Rules.{◌unless◌, first_unmet}
use Rattle.records.proofs.Fills.{fills_refused, fills_done}
use Rattle.records.proofs.Chain.{met, apart, stopped, skipped}
use Rattle.exponential.specs.program.Table.{table}
use Rattle.exponential.proofs.TableLaws.{tabulated}
use Rattle.cosine.specs.program.Table.{entry}
use Rattle.cosine.proofs.CosineLaws.{tabulated as cosines_tabulated}
use Rattle.janssen.specs.program.Pressure.{computed_by, computed}
use Rattle.description.specs.Silo.{section_of, V_of}
use Rattle.sheet.specs.Refusal.{sheet_rules_at, refusal_of}
use Rattle.sheet.proofs.Chains.{accepted_at, given_met, rules_numbered, call_never_13}
use Rattle.sheet.proofs.Acceptance.{accepted}
use Rattle.loads.specs.declared.Basis.{Basis}
use Rattle.loads.specs.Load.Load.{p_p}
use Rattle.loads.specs.declared.Silo.{Silo}
use Rattle.loads.specs.program.Basis.{Reached}
use Rattle.loads.proofs.LoadLaws.{holds}
use Rattle.answers.specs.Answers.{silo_of}
use Rattle.answers.specs.program.Fill.{answers}
use Rattle.answers.proofs.Places.{answers_filled}
use Rattle.answers.proofs.Demand.{silo_fits, reached, claim}
use Rattle.shell.specs.Shell.{folded, size, p_ps, ReplyListOf, is_circle, shell_rules}
use Rattle.shell.specs.program.Fill.{patch_at}
use Rattle.shell.specs.Holds.{ShellClaim}
use Rattle.shell.specs.Promise.{ShellPromise}
use Rattle.shell.proofs.Quadrants.{folded_small}
use Rattle.shell.proofs.Bounds.{patch_fits}
use Rattle.shell.proofs.Sizes.{size_holds}

-- the basis of an accepted sheet serves the patch at a depth of its wall
pub patch_asks : (s : List ℕ) (z : ℕ) (h : refusal_of s ≡ 0) (under : z ≤ V_of s) (b : Basis) (of : b.silo ≡ silo_of s) → Reached b.silo z
patch_asks s z h under b of = subst (λ (c : Silo). Reached c z) (sym of) (reached s (accepted s h).measured z under)

-- what holds of the list of an accepted sheet and a depth of its wall
pub shell_claim : (s : List ℕ) (z : ℕ) (list : List ℤ) → refusal_of s ≡ 0 → z ≤ V_of s → ReplyListOf computed entry s z list → ShellClaim computed entry s z list
unfolding p_ps
shell_claim s z list h under r =
    let p = patch_at computed s z in
    let a = (accepted s h).measured in
    let kept = holds (silo_of s) (silo_fits s a) p_p z (reached s a z under) in
    record {
      filled = r;
      sizes = λ θ g. (size entry p (folded θ), r.pressures θ g, size_holds _ _ p (folded θ) (patch_fits s z h under) (folded_small θ g) kept);
      demand = (answers s, claim s (answers s) h (answers_filled s));
    }

-- what the call answers, given the depth z and lent n numbers; never 13
module _ (s : List ℕ) (z n : ℕ) where
  pub shell_never_13 : first_unmet (shell_rules s z n) ≡ 13 → ⊥
  unfolding shell_rules
  shell_never_13 = call_never_13 (leb z (V_of s)) s _ refl

  refused_shell : (first_unmet (sheet_rules_at s z) ≡ 0 → ⊥) → first_unmet (shell_rules s z n) ≡ first_unmet (sheet_rules_at s z)
  unfolding shell_rules
  refused_shell h = stopped _ (sheet_rules_at s z) h

  own_of_shell : first_unmet (sheet_rules_at s z) ≡ 0
      → first_unmet (shell_rules s z n) ≡ first_unmet (19 unless is_circle (section_of s) ∷ 14 unless eqb n 361 ∷ [])
  unfolding shell_rules
  own_of_shell h = skipped _ (sheet_rules_at s z) (rules_numbered (leb z (V_of s)) s) h

  -- it answers 0 exactly for an accepted sheet of a circle, a depth at most V, and 361 numbers
  pub shell_accepted : first_unmet (shell_rules s z n) ≡ 0 → (refusal_of s ≡ 0) × (z ≤ V_of s) × (is_circle (section_of s) ≡ true) × (n ≡ 361)
  unfolding shell_rules
  shell_accepted h =
      let own = 19 unless is_circle (section_of s) ∷ 14 unless eqb n 361 ∷ [] in
      let parts = apart own (sheet_rules_at s z) (rules_numbered (leb z (V_of s)) s) h in
      let a = accepted_at s z parts.0 in
      let m = met own refl parts.1 in
      (a.0, a.1, m 0, eqb-true n 361 (m 1))

  pub shell_not_refused : refusal_of s ≡ 0 → z ≤ V_of s → is_circle (section_of s) ≡ true → n ≡ 361 → first_unmet (shell_rules s z n) ≡ 0
  unfolding first_unmet
  shell_not_refused h under c e = own_of_shell (given_met s z under ∙ h) ∙ simp (c, eq-eqb n 361 e)

module _ (s : List ℕ) (z : ℕ) (lent : List ℤ) where
  -- any refusal leaves the list as it was
  refused_with : (r : ℕ) → r ≡ first_unmet (shell_rules s z (length lent)) → (r ≡ 0 → ⊥) → ShellPromise computed_by table entry s z lent r lent
  refused_with r e n = (tabulated, cosines_tabulated, fills_refused (shell_rules s z (length lent)) (ShellClaim computed entry s z) lent r e n)

  pub refused : (r : ℕ) → r ≡ first_unmet (sheet_rules_at s z) → (r ≡ 0 → ⊥) → ShellPromise computed_by table entry s z lent r lent
  refused r e n = refused_with r (e ∙ sym (refused_shell s z (length lent) (λ o. n (e ∙ o)))) n

  module _ (h : first_unmet (sheet_rules_at s z) ≡ 0) where
    pub rectangle : is_circle (section_of s) ≡ false → ShellPromise computed_by table entry s z lent 19 lent
    unfolding first_unmet
    rectangle c = refused_with 19 (sym (own_of_shell s z (length lent) h ∙ simp c)) (λ o. omega arith)

    module _ (c : is_circle (section_of s) ≡ true) where
      pub other_length : (length lent ≡ 361 → ⊥) → ShellPromise computed_by table entry s z lent 14 lent
      unfolding first_unmet
      other_length n = refused_with 14 (sym (own_of_shell s z (length lent) h ∙ simp (c, ne_eqb (length lent) 361 n))) (λ o. omega arith)

      pub filled : (left : List ℤ) → length lent ≡ 361 → ReplyListOf computed entry s z left → ShellPromise computed_by table entry s z lent 0 left
      unfolding first_unmet
      filled left n r =
          let a = accepted_at s z h in
          let met : first_unmet (shell_rules s z (length lent)) ≡ 0 = own_of_shell s z (length lent) h ∙ simp (c, eq-eqb (length lent) 361 n) in
          (tabulated, cosines_tabulated, fills_done (shell_rules s z (length lent)) (ShellClaim computed entry s z) lent left met (shell_claim s z left a.0 a.1 r))

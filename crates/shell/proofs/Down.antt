-- Going down, no size and no force of the reply is smaller, whatever the filling numbers and the table are (`sizes_down`): p_p does not fall by demand 3, and
-- sizes and force rise with it.
-- Assumes nothing.
use Prim.Native.Nat.{ℕ, ◌≤◌, ◌<◌}
use mathlib.Core.Path.{◌≡◌, ap, subst, ◌∙◌}
use mathlib.Core.List.{List}
use native.Mathlib.Decide.{dec_lt}
use native.Mathlib.Omega.{arith}
use lib.ListN.{get_or}
use lib.IntN.{ℤ, pos, nat_abs}
use Rattle.janssen.specs.Section.{d_c}
use Rattle.janssen.specs.Numbers.{FillingNumbers}
use Rattle.description.specs.Silo.{section_of, V_of}
use Rattle.loads.specs.Load.{load_depth, load_number}
use Rattle.loads.specs.Load.Load.{p_p}
use Rattle.answers.specs.Order.{rank}
use Rattle.answers.specs.Answers.{silo_of}
use Rattle.shell.specs.Shell.{folded, outward, size, p_ps, ReplyList, ReplyListOf}
use Rattle.shell.specs.Holds.{ShellClaim}
use Rattle.shell.proofs.Signs.{signed_size}
use Rattle.shell.proofs.Bounds.{size_rises, force_rises}

module _ (c : ℕ → ℕ) where
  -- a list's sizes are those of p_p
  sizes_in : (d p : ℕ) (list : List ℤ) → ReplyList c d p list → (θ : ℕ) → θ < 360 → nat_abs (get_or list θ (pos 0)) ≡ size c p (folded θ)
  unfolding p_ps
  sizes_in d p list r θ g = ap nat_abs (r.pressures θ g) ∙ signed_size (outward θ) (size c p (folded θ))

  -- with a greater p_p, no size and no force is smaller
  lists_rise : (d p p' : ℕ) (list list' : List ℤ) → ReplyList c d p list → ReplyList c d p' list' → p ≤ p' → (i : ℕ) → i < 361
      → nat_abs (get_or list i (pos 0)) ≤ nat_abs (get_or list' i (pos 0))
  lists_rise d p p' list list' r r' h i l = go (dec_lt i 360)
    where
      go : Dec (i < 360) → nat_abs (get_or list i (pos 0)) ≤ nat_abs (get_or list' i (pos 0))
      go (yes g) = omega (arith, sizes_in d p list r i g, sizes_in d p' list' r' i g, size_rises c p p' (folded i) h)
      go (no g) =
          let e : 360 ≡ i = omega arith in
          subst (λ (k : ℕ). nat_abs (get_or list k (pos 0)) ≤ nat_abs (get_or list' k (pos 0))) e (rw (r.force, r'.force) (force_rises d p p' h))

pub sizes_down : (f : FillingNumbers) (c : ℕ → ℕ) (s : List ℕ) (z z' : ℕ) (list list' : List ℤ) → ShellClaim f c s z list → ReplyListOf f c s z' list'
    → load_depth (silo_of s) z ≤ load_depth (silo_of s) z' → z' ≤ V_of s → (i : ℕ) → i < 361
    → nat_abs (get_or list i (pos 0)) ≤ nat_abs (get_or list' i (pos 0))
sizes_down f c s z z' list list' claim r' g under =
    lists_rise c (d_c (section_of s)) (load_number f (silo_of s) p_p z) (load_number f (silo_of s) p_p z') list list' claim.filled r'
    (claim.demand.1.down p_p (λ e. omega (arith, ap rank e)) z z' under g)

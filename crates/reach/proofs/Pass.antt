-- One pass over the pressures: those passed have their depths, and the last of these carries the next pressure, which is no smaller.
use Prim.Native.Nat.{ℕ, suc, ◌+◌, ◌≤◌, ◌<◌}
use mathlib.Core.List.{List}
use mathlib.Core.Path.{◌≡◌, subst, ◌∙◌}
use native.Mathlib.Decide.{dec_lt}
use native.Mathlib.Omega.{arith}
use lib.ListN.{length, get_or, set, length-set}
use lib.Seq.{get_or-set_same, get_or-set_other}
use Rattle.reach.specs.Reach.{Deepest, Depths}
use Rattle.reach.specs.Order.{NeverFalls}

module _ (load : ℕ → ℕ) (foot : ℕ) (pressures : List ℕ) where
  -- i pressures passed, and the search at low
  pub record Passed (list : List ℕ) (low i : ℕ) : Type 0 where
    pub sized : length list ≡ length pressures
    pub within : i ≤ length pressures
    pub inside : low ≤ foot
    pub carries : i < length pressures → load low ≤ get_or pressures i 0
    pub done : (j : ℕ) → j < i → Deepest load foot (get_or pressures j 0) (get_or list j 0)

  pub next : (list : List ℕ) (low i d : ℕ) → NeverFalls pressures → Passed list low i → i < length pressures
      → Deepest load foot (get_or pressures i 0) d → Passed (set list i d) d (i + 1)
  next list low i d never x h found =
      record {
        sized = length-set list i d ∙ x.sized;
        within = omega (arith, h);
        inside = found.inside;
        carries = λ g. let e : i + 1 ≡ suc i = omega arith in rw e (omega (arith, found.carries, never i (omega (arith, g))));
        done = λ j g. done j g (dec_lt j i);
      }
    where
      done : (j : ℕ) → j < i + 1 → Dec (j < i) → Deepest load foot (get_or pressures j 0) (get_or (set list i d) j 0)
      done j g (yes l) = rw (get_or-set_other list i j d 0 (λ e. omega (arith, e, l))) (x.done j l)
      done j g (no l) =
          let e : i ≡ j = omega (arith, g, l) in
          subst (λ (k : ℕ). Deepest load foot (get_or pressures k 0) (get_or (set list i d) k 0)) e
          (rw (get_or-set_same list i d 0 (omega (arith, x.sized, h))) found)

  pub all_passed : (list : List ℕ) (low i : ℕ) → Passed list low i → length pressures ≤ i → Depths load foot pressures list
  all_passed list low i x h = record { sized = x.sized; each = λ j g. x.done j (omega (arith, g, h)) }

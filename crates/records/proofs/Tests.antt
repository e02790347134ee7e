-- Tests that are true, taken apart and put together.
use Prim.Native.Nat.{ℕ, ◌≤◌}
use mathlib.Core.Bool.{Bool, true, false, not, ◌&&◌, ◌||◌}
use mathlib.Core.Logic.{◌⊎◌, inl, inr}
use mathlib.Core.Path.{◌≡◌, refl}
use native.Mathlib.Omega.{arith}
use borrow.Author.Tests.{leb-true, le-leb}
use lib.Dec.{T, leb}
use Rattle.records.specs.Rules.{within}

pub absurd : {A : Type 0} → ⊥ → A
absurd x = elim x [ ]

pub holds_true : (b : Bool) → T b → b ≡ true
holds_true true h = refl
holds_true false h = elim h [ ]

pub fails_false : (b : Bool) → T (not b) → b ≡ false
fails_false false h = refl
fails_false true h = elim h [ ]

pub false_true : false ≡ true → ⊥
false_true h = let z : ◌≡◌ {A = ℕ} 0 1 = cc in omega arith

pub both_true : (a b : Bool) → (a && b) ≡ true → (a ≡ true) × (b ≡ true)
both_true true b h = (refl, h)
both_true false b h = absurd (false_true h)

pub either_true : (a b : Bool) → (a || b) ≡ true → (a ≡ true) ⊎ (b ≡ true)
either_true true b h = inl refl
either_true false b h = inr h

-- a test that holds by its second half
pub either_right : (a b : Bool) → b ≡ true → (a || b) ≡ true
either_right true b h = refl
either_right false b h = h

pub within_true : (low high x : ℕ) → within low high x ≡ true → (low ≤ x) × (x ≤ high)
within_true low high x h =
    let p = both_true (leb low x) (leb x high) h in
    (leb-true low x p.0, leb-true x high p.1)

pub true_within : (low high x : ℕ) → low ≤ x → x ≤ high → within low high x ≡ true
true_within low high x l h = simp (le-leb low x l, le-leb x high h)

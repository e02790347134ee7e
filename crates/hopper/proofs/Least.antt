-- The least number that passes a test. By induction on the bound: nothing below the answer passes, and the answer passes or is the bound.
use Prim.Native.Nat.{ℕ, zero, suc, ◌≤◌, ◌<◌}
use mathlib.Core.Path.{◌≡◌, refl, sym, ◌∙◌}
use mathlib.Core.Bool.{Bool, true, false, cond, true≢false}
use native.Mathlib.Omega.{arith}
use native.Mathlib.Decide.{dec_lt}
use Rattle.hopper.specs.Least.{least}

pub record Found (test : ℕ → Bool) (bound n : ℕ) : Type 0 where
  pub within : n ≤ bound
  pub none_below : (m : ℕ) → m < n → test m ≡ false
  pub passes : test n ≡ false → n ≡ bound

-- what fails below n, and at n, fails up to n
below_next : (test : ℕ → Bool) (n m : ℕ) → ((m : ℕ) → m < n → test m ≡ false) → test n ≡ false → m < suc n → test m ≡ false
below_next test n m h e less = at (dec_lt m n)
  where
    at : Dec (m < n) → test m ≡ false
    at (yes l) = h m l
    at (no l) = let same : m ≡ n = omega arith in rw same e

step : (test : ℕ → Bool) (bound n : ℕ) (b : Bool) → test n ≡ b → Found test bound n → Found test (suc bound) (cond b n (suc bound))
step test bound n true e f = record {
  within = omega (arith, f.within);
  none_below = f.none_below;
  passes = λ e'. absurd (true≢false (sym e ∙ e'));
}
step test bound n false e f = record {
  within = omega arith;
  none_below = λ m h. below_next test n m f.none_below e (rw (f.passes e) h);
  passes = λ e'. refl;
}

pub found : (test : ℕ → Bool) (bound : ℕ) → Found test bound (least test bound)
unfolding least
found test zero = record { within = omega arith; none_below = λ m h. absurd (omega arith); passes = λ e. refl }
found test (suc n) = step test n (least test n) (test (least test n)) refl (found test n)

-- the answer passes where the bound does
pub least_passes : (test : ℕ → Bool) (bound : ℕ) → test bound ≡ true → test (least test bound) ≡ true
least_passes test bound h = at (test (least test bound)) refl
  where
    at : (b : Bool) → test (least test bound) ≡ b → b ≡ true
    at true e = refl
    at false e = sym e ∙ (rw ((found test bound).passes e) h)

-- a number that passes, within the bound, with none that passes below it, is the answer
pub least_unique : (test : ℕ → Bool) (bound n : ℕ) → n ≤ bound → test n ≡ true → ((m : ℕ) → m < n → test m ≡ false) → n ≡ least test bound
least_unique test bound n within passes none = at (dec_lt n (least test bound)) (dec_lt (least test bound) n)
  where
    found' : Found test bound (least test bound)
    found' = found test bound

    at : Dec (n < least test bound) → Dec (least test bound < n) → n ≡ least test bound
    at (yes l) d = absurd (true≢false (sym passes ∙ found'.none_below n l))
    at (no l) (yes m) = absurd (omega (arith, found'.passes (none (least test bound) m)))
    at (no l) (no m) = omega arith

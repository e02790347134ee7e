-- From a filling pressure's own band to its lower fractions. Where P·S_n ≤ P + p·S_n for every n, a lower fraction v has
-- v·S_n ≤ p·S_n for some n, and S_n is positive. Where P + p·S_n ≤ (P + 2)·S_n for some n, p - 2 is a lower fraction;
-- 0 always is one, at n = 0.
use Prim.Native.Nat.{ℕ, zero, suc, ◌+◌, ◌-◌, ◌*◌, ◌≤◌, ◌<◌}
use mathlib.Core.Path.{◌≡◌, refl, ap}
use native.Mathlib.Omega.{arith}
use native.Mathlib.Nat.{mul-pos, le_of_mul-le-mul_right, pow-zero}
use native.Mathlib.Decide.{dec_le, dec_lt}
use Rattle.fraction.specs.Fraction.{Fraction, whole, ◌⊕◌, ◌⊗◌, ◌⪯◌, ◌≺◌}
use Rattle.fraction.proofs.Order.{pos_left, pos_right, ⪯_trans}
use Rattle.exponential.specs.Series.{S, term, factorial}
use Rattle.janssen.specs.declared.Section.{Section}
use Rattle.janssen.specs.Filling.{Grain, Kind, factors, q, P}
use Rattle.janssen.specs.Band.{FillingBand}
use Rattle.allowance.specs.Allowance.{Lower, Allowance}

-- the first sum is 1
first_top : (q : Fraction) → (S 0 q).top ≡ 1
unfolding S term
first_top q = pow-zero q.top

first_bottom : (q : Fraction) → (S 0 q).bottom ≡ 1
unfolding S term factorial
first_bottom q = rw pow-zero refl

-- a sum with a positive bottom is positive
sum_positive : (n : ℕ) (q : Fraction) → 0 < (S n q).bottom → 0 < (S n q).top
unfolding S term
sum_positive zero q h = rw pow-zero (omega arith)
sum_positive (suc n) q h =
    let mine : 0 < (S n q).bottom = pos_left _ _ h in
    let next : 0 < (term (suc n) q).bottom = pos_right (S n q).bottom _ h in
    omega (arith, mul-pos (sum_positive n q mine) next)

-- a lower fraction is at most a pressure that is at or above
lower_below : {P q v : Fraction} (p : ℕ) → ((n : ℕ) → P ⊗ S n q ⪯ P ⊕ whole p ⊗ S n q) → Lower P q v → v ⪯ whole p
lower_below {P} {q} {v} p band low =
    let n : ℕ = low.below.0 in
    let h : P ⊕ v ⊗ S n q ⪯ P ⊕ whole p ⊗ S n q = ⪯_trans low.below.1 (band n) in
    let b : 0 < P.bottom = pos_left _ _ h.left in
    let t : 0 < (S n q).bottom = pos_right v.bottom _ (pos_right P.bottom _ h.left) in
    record {
      left = pos_left v.bottom _ (pos_right P.bottom _ h.left);
      right = omega arith;
      order =
          le_of_mul-le-mul_right {k = (S n q).top * (P.bottom * P.bottom * (S n q).bottom)}
          (cancelled P.top P.bottom (S n q).top (S n q).bottom v.top v.bottom p h.order)
          (mul-pos (sum_positive n q t) (mul-pos (mul-pos b b) t));
    }
  where
    cancelled : (a b s t x y p : ℕ) →
        (a * (y * t) + x * s * b) * (b * (1 * t)) ≤ (a * (1 * t) + p * s * b) * (b * (y * t)) →
        x * 1 * (s * (b * b * t)) ≤ p * y * (s * (b * b * t))
    cancelled a b s t x y p h = omega arith

-- 0 is a lower fraction
lower_zero : (P q : Fraction) → 0 < P.bottom → Lower P q (whole 0)
lower_zero P q h = record {
  below = (
    0,
    record {
      left = mul-pos h (rw first_bottom (omega arith));
      right = mul-pos h (rw first_bottom (omega arith));
      order = rw (first_top, first_bottom) (omega arith);
    },
  );
}

-- two less than a pressure that is less than 2 above is a lower fraction
lower_near : (P q : Fraction) (p : ℕ) → 0 < P.bottom → (n : ℕ) → P ⊕ whole p ⊗ S n q ⪯ (P ⊕ whole 2) ⊗ S n q →
    Lower P q (whole (p - 2))
lower_near P q p h n band = at (dec_le 2 p)
  where
    shifted : (a b s t x p : ℕ) → p ≡ x + 2 →
        (a * (1 * t) + p * s * b) * (b * 1 * t) ≤ (a * 1 + 2 * b) * s * (b * (1 * t)) →
        (a * (1 * t) + x * s * b) * (b * t) ≤ a * s * (b * (1 * t))
    shifted a b s t x p e h = omega (arith, ap (λ (z : ℕ). z * s * b * b * t) e)

    at : Dec (2 ≤ p) → Lower P q (whole (p - 2))
    at (yes two) = record {
      below = (
        n,
        record {
          left = band.left;
          right = mul-pos h (pos_right 1 _ (pos_right P.bottom _ band.left));
          order = shifted P.top P.bottom (S n q).top (S n q).bottom (p - 2) p (omega arith) band.order;
        },
      );
    }
    at (no less) = let e : p - 2 ≡ 0 = omega arith in rw e (lower_zero P q h)

-- what a load's allowance needs of its filling pressure p
pub record Filled (P q : Fraction) (p : ℕ) : Type 0 where
  pub over : (v : Fraction) → Lower P q v → v ⪯ whole p
  pub near : Lower P q (whole (p - 2))

-- a load that rests on one pressure: it suffices to look at fractions at most p, and at p - 2
pub allowed : {P q : Fraction} {p w load : ℕ} (F : Fraction → Fraction) → Filled P q p →
    ((v : Fraction) → v ⪯ whole p → F v ⪯ whole load) →
    ((v : ℕ) → p ≤ v + 2 → whole load ≺ F (whole v) ⊕ whole w) →
    Allowance (Lower P q) F w load
allowed {P} {q} {p} F fill above near = record {
  at_or_above = λ v low. above v (fill.over v low);
  less_above = (whole (p - 2), fill.near, near (p - 2) (omega arith));
}

-- from the band of a filling pressure
pub filled_by_band :
    {k : Kind} {s : Section} {p : Grain} {z x : ℕ} → FillingBand (whole 2) k s p z x → Filled (P k s p) (q (factors k) s p z) x
filled_by_band {k} {s} {p} {z} {x} band = record { over = λ v low. lower_below x band.above low; near = at (dec_lt 0 z) }
  where
    proper : 0 < (P k s p).bottom
    proper = pos_left _ _ (band.above 0).left

    at : Dec (0 < z) → Lower (P k s p) (q (factors k) s p z) (whole (x - 2))
    at (yes deep) = lower_near (P k s p) (q (factors k) s p z) x proper (band.close deep).0 (band.close deep).1
    at (no surface) =
        let none : x ≡ 0 = band.surface (omega arith) in rw none (lower_zero (P k s p) (q (factors k) s p z) proper)

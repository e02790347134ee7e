-- The series grows no faster than its own q-fold: S_n ≤ 1 + q·S_n, that is (1 - q)·S_n ≤ 1. Each term of S_(n+1) but the first is at
-- most q times the term before it.
use Prim.Native.Nat.{ℕ, zero, suc, ◌*◌, ◌^◌, ◌<◌}
use native.Mathlib.Omega.{arith}
use native.Mathlib.Nat.{pow-suc, pow-zero, mul-pos, mul-le-mul_left, le-add_right}
use Rattle.fraction.specs.Fraction.{Fraction, whole, ◌⊕◌, ◌⊗◌, ◌⪯◌}
use Rattle.fraction.proofs.Order.{⪯_trans, ⊕_more, ⊕_mono}
use Rattle.exponential.specs.Series.{S, term, factorial}
use Rattle.exponential.proofs.Terms.{S_positive, term_positive}

-- a sum taken apart another way
shared : (q x y : Fraction) → 0 < q.bottom → 0 < x.bottom → 0 < y.bottom → (whole 1 ⊕ q ⊗ x) ⊕ q ⊗ y ⪯ whole 1 ⊕ q ⊗ (x ⊕ y)
shared q x y hq hx hy = record {
  left = mul-pos (mul-pos (omega arith) (mul-pos hq hx)) (mul-pos hq hy);
  right = mul-pos (omega arith) (mul-pos hq (mul-pos hx hy));
  order = omega arith;
}

module _ (q : Fraction) (hq : 0 < q.bottom) where
  term_next : (n : ℕ) → term (suc (suc n)) q ⪯ q ⊗ term (suc n) q
  unfolding term factorial
  term_next n = record {
    left = term_positive (suc (suc n)) q hq;
    right = mul-pos hq (term_positive (suc n) q hq);
    order =
        rw (pow-suc q.top (suc n), pow-suc q.bottom (suc n))
        (omega (
          arith,
          mul-le-mul_left (q.top ^ suc n * q.top * q.bottom * q.bottom ^ suc n * factorial (suc n)) (le-add_right 1 (suc n)),
        ));
  }

  first : term 0 q ⊕ term 1 q ⪯ whole 1 ⊕ q ⊗ term 0 q
  unfolding term factorial
  first = record {
    left = mul-pos (term_positive 0 q hq) (term_positive 1 q hq);
    right = mul-pos (omega arith) (mul-pos hq (term_positive 0 q hq));
    order = simp (pow-zero, pow-suc q.top 0, pow-suc q.bottom 0) (omega arith);
  }

  next : (n : ℕ) → S (suc n) q ⪯ whole 1 ⊕ q ⊗ S n q
  unfolding S
  next zero = first
  next (suc n) =
      ⪯_trans (⊕_mono (next n) (term_next n)) (shared q (S n q) (term (suc n) q) hq (S_positive n q hq) (term_positive (suc n) q hq))

  pub S_growth : (n : ℕ) → S n q ⪯ whole 1 ⊕ q ⊗ S n q
  unfolding S
  S_growth n = ⪯_trans (⊕_more (S n q) (term (suc n) q) (S_positive n q hq) (term_positive (suc n) q hq)) (next n)

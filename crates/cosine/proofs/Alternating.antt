-- The alternating series at x up to 2: each lower partial sum is at most each upper one (`sums_meet`). From the second term on the terms fall, so the
-- lower sums rise and the upper sums fall.
use Prim.Native.Nat.{ℕ, zero, suc, ◌+◌, ◌-◌, ◌*◌, ◌^◌, ◌≤◌, ◌<◌}
use mathlib.Core.Path.{◌≡◌}
use native.Mathlib.Omega.{arith}
use native.Mathlib.Nat.{pow-suc, mul-pos, mul-le-mul_left, add-zero, add-suc}
use native.Mathlib.Decide.{dec_le}
use Rattle.fraction.specs.Fraction.{Fraction, whole, ◌⊕◌, ◌⪯◌}
use Rattle.fraction.proofs.Order.{⪯_refl, ⪯_trans, ⊕_more, ⊕_mono}
use Rattle.exponential.specs.Series.{term, factorial}
use Rattle.exponential.proofs.Terms.{term_positive}
use Rattle.cosine.specs.Cosine.{every_fourth}

-- a sum taken apart another way
pub exchanged : (a b t : Fraction) → 0 < a.bottom → 0 < b.bottom → 0 < t.bottom → (a ⊕ t) ⊕ b ⪯ (a ⊕ b) ⊕ t
exchanged a b t ha hb ht = record { left = mul-pos (mul-pos ha ht) hb; right = mul-pos (mul-pos ha hb) ht; order = omega arith }

regrouped : (a b t : Fraction) → 0 < a.bottom → 0 < b.bottom → 0 < t.bottom → (a ⊕ b) ⊕ t ⪯ a ⊕ (b ⊕ t)
regrouped a b t ha hb ht = record { left = mul-pos (mul-pos ha hb) ht; right = mul-pos ha (mul-pos hb ht); order = omega arith }

grouped : (a b t : Fraction) → 0 < a.bottom → 0 < b.bottom → 0 < t.bottom → a ⊕ (b ⊕ t) ⪯ (a ⊕ b) ⊕ t
grouped a b t ha hb ht = record { left = mul-pos ha (mul-pos hb ht); right = mul-pos (mul-pos ha hb) ht; order = omega arith }

module _ (x : Fraction) (hx : 0 < x.bottom) where
  abbrev P : ℕ → Fraction
  P n = every_fourth 0 n x

  abbrev N : ℕ → Fraction
  N n = every_fourth 2 n x

  positive : (k n : ℕ) → 0 < (every_fourth k n x).bottom
  unfolding every_fourth
  positive k zero = term_positive k x hx
  positive k (suc n) = mul-pos (positive k n) (term_positive (4 * suc n + k) x hx)

  P_positive : (n : ℕ) → 0 < (P n).bottom
  P_positive = positive 0

  N_positive : (n : ℕ) → 0 < (N n).bottom
  N_positive = positive 2

  -- x^(j+1)/(j+1)! ≤ x^j/j! where x ≤ j + 1
  term_falls : (j : ℕ) → x ⪯ whole (suc j) → term (suc j) x ⪯ term j x
  unfolding term factorial
  term_falls j h = record {
    left = term_positive (suc j) x hx;
    right = term_positive j x hx;
    order =
        rw (pow-suc x.top j, pow-suc x.bottom j)
        (omega (arith, mul-le-mul_left (x.top ^ j * x.bottom ^ j * factorial j) h.order));
  }

  module _ (two : x ⪯ whole 2) where
    under : (j : ℕ) → 1 ≤ j → x ⪯ whole (suc j)
    under j h = ⪯_trans two (record { left = omega arith; right = omega arith; order = omega arith })

    falls_twice : (j k : ℕ) → 1 ≤ j → k ≡ suc (suc j) → term k x ⪯ term j x
    falls_twice j k h e = rw e (⪯_trans (term_falls (suc j) (under (suc j) (omega arith))) (term_falls j (under j h)))

    -- an upper sum k further on is no greater
    upper_falls : (n k : ℕ) → P (suc (n + k)) ⊕ N n ⪯ P (suc n) ⊕ N (n + k)
    unfolding every_fourth
    upper_falls n zero = rw add-zero (⪯_refl (P (suc n) ⊕ N n) (mul-pos (P_positive (suc n)) (N_positive n)))
    upper_falls n (suc k) =
        let m = n + k in
        let t : Fraction = term (4 * suc (suc m) + 0) x in
        let ht = term_positive (4 * suc (suc m) + 0) x hx in
        let s : Fraction = term (4 * suc m + 2) x in
        rw add-suc
        (⪯_trans (exchanged (P (suc m)) (N n) t (P_positive (suc m)) (N_positive n) ht)
        (⪯_trans (⊕_mono (upper_falls n k) (falls_twice (4 * suc m + 2) (4 * suc (suc m) + 0) (omega arith) (omega arith)))
        (regrouped (P (suc n)) (N m) s (P_positive (suc n)) (N_positive m) (term_positive (4 * suc m + 2) x hx))))

    -- a lower sum k further on is no smaller
    lower_rises : (n k : ℕ) → P n ⊕ N (n + k) ⪯ P (n + k) ⊕ N n
    unfolding every_fourth
    lower_rises n zero = rw add-zero (⪯_refl (P n ⊕ N n) (mul-pos (P_positive n) (N_positive n)))
    lower_rises n (suc k) =
        let m = n + k in
        let t : Fraction = term (4 * suc m + 2) x in
        let ht = term_positive (4 * suc m + 2) x hx in
        let s : Fraction = term (4 * suc m + 0) x in
        rw add-suc
        (⪯_trans (grouped (P n) (N m) t (P_positive n) (N_positive m) ht)
        (⪯_trans (⊕_mono (lower_rises n k) (falls_twice (4 * suc m + 0) (4 * suc m + 2) (omega arith) (omega arith)))
        (exchanged (P m) s (N n) (P_positive m) (term_positive (4 * suc m + 0) x hx) (N_positive n))))

    one_more : (n : ℕ) → P n ⪯ P (suc n)
    unfolding every_fourth
    one_more n = ⊕_more (P n) (term (4 * suc n + 0) x) (P_positive n) (term_positive (4 * suc n + 0) x hx)

    -- the lower sum m is at most the upper sum n
    pub sums_meet : (m n : ℕ) → P m ⊕ N n ⪯ P (suc n) ⊕ N m
    sums_meet m n = go (dec_le n m)
      where
        go : Dec (n ≤ m) → P m ⊕ N n ⪯ P (suc n) ⊕ N m
        go (yes h) =
            let e : n + (m - n) ≡ m = omega arith in
            ⪯_trans (⊕_mono (one_more m) (⪯_refl (N n) (N_positive n))) (rw e at (upper_falls n (m - n)))
        go (no h) =
            let e : m + (n - m) ≡ n = omega arith in
            ⪯_trans (rw e at (lower_rises m (n - m))) (⊕_mono (one_more n) (⪯_refl (N m) (N_positive m)))

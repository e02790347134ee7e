-- What holds of `lower`, the program's lower bound of 2^40·e^(-q) at q = Q/2^33, for Q/2^33 below 53: it lies below
-- (`lower_below`), less than 354 below (`lower_above`), 512 more reaches it at any fraction that Q/2^33 rounds up (`lower_reaches`),
-- it never rises with Q (`lower_falls`), and it is 2^40 at 0 (`lower_zero`).
-- The denominator is 2^33·(4 + 3y + y² + y³/6) with two terms rounded up, y = j/2^33 < 1/64: at least (4 - y)·S_n(y) for every n, and
-- at most 5/2 above it at n = 4.
-- Assumes nothing.
use mathlib.Core.Path.{◌≡◌, refl, ap}
use Prim.Native.Nat.{ℕ, ◌+◌, ◌-◌, ◌*◌, ◌/◌, ◌%◌, ◌^◌, max, ◌≤◌, ◌<◌}
use native.Mathlib.Nat.{mul-pos, mul-le-mul, mul-le-mul_left, mul-le-mul_right, le_refl, le_trans, div-mul-le_self, lt-div-mul-add, le-div_iff_mul-le, le-max_left, le-max_right, max-le, max-eq_left, max-eq_right, le_of_mul-le-mul_right}
use native.Mathlib.Numerals.{add-one}
use native.Mathlib.Decide.{dec_le}
use native.Mathlib.Omega.{arith}
use Rattle.fraction.specs.Fraction.{Fraction, up, ◌⊘◌, whole, ◌⊗◌, ◌⪯◌}
use Rattle.fraction.proofs.Order.{compare, ⪯_trans, ≺-⪯_trans, ⊗_mono, ⪯_refl}
use Rattle.fraction.proofs.Up.{up_ge, up_lt, up_mono}
use Rattle.exponential.specs.Series.{S}
use Rattle.exponential.specs.program.Table.{table}
use Rattle.exponential.specs.program.Lower.{Below, Above, denominator, between, entry_in, entry, lower_by, lower}
use Rattle.exponential.proofs.Terms.{terms, terms_are, S_positive}
use Rattle.exponential.proofs.Weighted.{wsum, weighted_bound, weighted_equal, sum_at_most, sum_at_least}
use Rattle.exponential.proofs.SeriesLaws.{S_one, S_mono, S_split}
use Rattle.exponential.proofs.Joins.{below_join, above_join}
use Rattle.exponential.proofs.TableLaws.{enclosed, entry_falls, entry_falls_by, entry_le}

module _ (j : ℕ) where
  second : ℕ
  second = up ((j * j) ⊘ 2 ^ 33)

  third : ℕ
  third = up ((j * second) ⊘ (6 * 2 ^ 33))

  denominator_is : denominator j ≡ 2 ^ 35 + 3 * j + second + third
  unfolding denominator second third
  denominator_is = refl

  second_ge : j * j ≤ second * 2 ^ 33
  unfolding second
  second_ge = up_ge (j * j) (2 ^ 33) (omega arith)

  second_lt : second * 2 ^ 33 < j * j + 2 ^ 33
  unfolding second
  second_lt = up_lt (j * j) (2 ^ 33) (omega arith)

  third_ge : j * second ≤ third * (6 * 2 ^ 33)
  unfolding third
  third_ge = up_ge (j * second) (6 * 2 ^ 33) (omega arith)

  third_lt : third * (6 * 2 ^ 33) < j * second + 6 * 2 ^ 33
  unfolding third
  third_lt = up_lt (j * second) (6 * 2 ^ 33) (omega arith)

  -- every S_n(y) is at most denominator / (4 - y)
  pub denominator_above : j < 2 ^ 27 → (n : ℕ) → whole (2 ^ 35 - j) ⊗ S n (j ⊘ 2 ^ 33) ⪯ whole (denominator j)
  unfolding wsum
  denominator_above h n =
      let u = terms (4 + n) j (2 ^ 33) in
      let is = terms_are (4 + n) j (2 ^ 33) in
      let two : 2 * 2 ^ 33 * u 2 ≤ second * u 0 =
      omega (arith, ap (λ (k : ℕ). j * k) (is 0 (omega arith)), is 1 (omega arith), mul-le-mul_right (u 0) second_ge) in
      let three : 2 ^ 33 * u 3 ≤ third * u 0 =
      omega (arith, is 2 (omega arith), mul-le-mul_left j two, mul-le-mul_right (u 0) third_ge) in
      sum_at_most (4 + n) j (2 ^ 33) n (2 ^ 35 - j) (denominator j) (omega arith) (omega arith)
      (rw denominator_is
      (omega (
        arith,
        weighted_bound (4 + n) j (2 ^ 33) (2 ^ 35 - j) 4 u is (omega arith) n (le_refl (4 + n)),
        is 0 (omega arith),
        two,
        three,
      )))

  pub denominator_large : 2 ^ 35 ≤ denominator j
  denominator_large = rw denominator_is (omega arith)

  -- and at most 5/2 above (4 - y)·S_4(y)
  pub denominator_below : j < 2 ^ 27 → (lo : ℕ) → lo + 5 ≡ 2 * denominator j → whole lo ⪯ whole (2 * (2 ^ 35 - j)) ⊗ S 4 (j ⊘ 2 ^ 33)
  unfolding wsum
  denominator_below h lo e =
      let u = terms 5 j (2 ^ 33) in
      let is = terms_are 5 j (2 ^ 33) in
      let one : 64 * u 1 ≤ u 0 = omega (arith, is 0 (omega arith), mul-le-mul_right (u 0) h) in
      let two : second * u 0 ≤ 2 * 2 ^ 33 * u 2 + u 0 =
      omega (arith, ap (λ (k : ℕ). j * k) (is 0 (omega arith)), is 1 (omega arith), mul-le-mul_right (u 0) second_lt) in
      let two' : 128 * u 2 ≤ u 1 = omega (arith, is 1 (omega arith), mul-le-mul_right (u 1) h) in
      let three : 384 * (third * u 0) ≤ 384 * (2 ^ 33 * u 3) + 385 * u 0 =
      omega (arith, is 2 (omega arith), mul-le-mul_left j two, mul-le-mul_right (u 0) third_lt, mul-le-mul_right (u 0) h) in
      let three' : 192 * u 3 ≤ u 2 = omega (arith, is 2 (omega arith), mul-le-mul_right (u 2) h) in
      let four : 256 * u 4 ≤ u 3 = omega (arith, is 3 (omega arith), mul-le-mul_right (u 3) h) in
      let last : 3 * (j * u 4) ≤ u 0 = omega (arith, mul-le-mul_right (u 4) h) in
      sum_at_least 5 j (2 ^ 33) 4 (2 * (2 ^ 35 - j)) lo (omega arith) (omega arith)
      (omega (
        arith,
        weighted_equal 5 j (2 ^ 33) (2 ^ 35 - j) 4 u is (omega arith) 4 (omega arith) (le_refl 4),
        ap (λ (k : ℕ). k * u 0) e,
        ap (λ (k : ℕ). k * u 0) denominator_is,
        is 0 (omega arith),
        two,
        three,
        last,
      ))

-- t is at least 2^40·e^(-q): t·S_n ≥ 2^40 for some n
abbrev pub Reaches : ℕ → Fraction → Type 0
Reaches t q = (n : ℕ) × (whole (2 ^ 40) ⪯ whole t ⊗ S n q)

-- a bound from below holds at every smaller q, a bound from above at every greater one
pub below_anti : {q q' : Fraction} (t : ℕ) → q ⪯ q' → Below t q' → Below t q
below_anti t h b n = ⪯_trans (⊗_mono (⪯_refl (whole t) (omega arith)) (S_mono n h)) (b n)

pub above_mono : {q q' : Fraction} (t : ℕ) → q ⪯ q' → Above t q → Above t q'
above_mono t h (n, a) = (n, ≺-⪯_trans a (⊗_mono (⪯_refl (whole t) (omega arith)) (S_mono n h)))

either_max : (P : ℕ → Type 0) (a b : ℕ) → P a → P b → P (max a b)
either_max P a b pa pb = go (dec_le a b)
  where
    go : Dec (a ≤ b) → P (max a b)
    go (yes l) = rw (max-eq_right l) pb
    go (no l) = rw (max-eq_left {n = a} {m = b} (omega arith)) pa

-- 354 covers the table's 256, the quotient's rounding, and 5/2 in 2^35 of the denominator
enough : (t num den q e lo : ℕ) → lo + 5 ≡ 2 * den → num ≤ den → t * num < q * den + den → q ≤ e → e ≤ 2 ^ 40 → 2 ^ 35 ≤ den
    → (t + 256) * (2 * num) ≤ (e + 354) * lo
enough t num den q e lo is hn ht hq he hd =
    omega (arith, mul-le-mul_right den hq, ap (λ (x : ℕ). e * x) is)

-- at Q = k·2^27 + j, from the entries at k/64 and (k + 1)/64
module _ (k j : ℕ) (hk : k < 3392) (hj : j < 2 ^ 27) where
  quotient : ℕ
  quotient = entry k * (2 ^ 35 - j) / denominator j

  quotient_le : quotient * denominator j ≤ entry k * (2 ^ 35 - j)
  unfolding quotient
  quotient_le = div-mul-le_self (entry k * (2 ^ 35 - j)) (denominator j)

  quotient_gt : entry k * (2 ^ 35 - j) < quotient * denominator j + denominator j
  unfolding quotient
  quotient_gt = lt-div-mul-add {a = entry k * (2 ^ 35 - j)} {b = denominator j} (omega (arith, denominator_large j))

  bound : ℕ
  bound = between (entry k) (entry (k + 1)) j

  here : k ⊘ 64 ⪯ (k * 2 ^ 27) ⊘ 2 ^ 33
  here = compare (omega arith) (omega arith) (omega arith)

  here' : (k * 2 ^ 27) ⊘ 2 ^ 33 ⪯ k ⊘ 64
  here' = compare (omega arith) (omega arith) (omega arith)

  next : (k * 2 ^ 27 + j) ⊘ 2 ^ 33 ⪯ (k + 1) ⊘ 64
  next = compare (omega arith) (omega arith) (omega arith)

  bound_below : Below bound ((k * 2 ^ 27 + j) ⊘ 2 ^ 33)
  unfolding bound between quotient
  bound_below =
      either_max (λ (t : ℕ). Below t ((k * 2 ^ 27 + j) ⊘ 2 ^ 33)) quotient (entry (k + 1))
      (below_join (k * 2 ^ 27) j (2 ^ 33) (entry k) quotient (2 ^ 35 - j) (denominator j) (omega arith)
      (omega (arith, denominator_large j))
      (below_anti (entry k) here' (enclosed k (omega arith)).0)
      (denominator_above j hj)
      quotient_le)
      (below_anti (entry (k + 1)) next (enclosed (k + 1) (omega arith)).0)

  bound_ge : quotient ≤ bound
  unfolding bound between quotient
  bound_ge = le-max_left quotient (entry (k + 1))

  bound_next : entry (k + 1) ≤ bound
  unfolding bound between quotient
  bound_next = le-max_right quotient (entry (k + 1))

  quotient_small : quotient ≤ entry k
  quotient_small =
      le_of_mul-le-mul_right {k = denominator j}
      (le_trans quotient_le (mul-le-mul_left (entry k) (omega (arith, denominator_large j))))
      (omega (arith, denominator_large j))

  bound_le : bound ≤ entry k
  unfolding bound between quotient
  bound_le = max-le quotient_small (rw add-one (entry_falls k (omega arith)))

  bound_above : Above (bound + 354) ((k * 2 ^ 27 + j) ⊘ 2 ^ 33)
  bound_above =
      let lo : ℕ = 2 * denominator j - 5 in
      let e : lo + 5 ≡ 2 * denominator j = omega (arith, denominator_large j) in
      above_join (k * 2 ^ 27) j (2 ^ 33) (entry k + 256) (bound + 354) lo (2 * (2 ^ 35 - j)) 4 (omega arith) (omega arith)
      (above_mono (entry k + 256) here (enclosed k (omega arith)).1)
      (denominator_below j hj lo e)
      (enough (entry k) (2 ^ 35 - j) (denominator j) quotient bound lo e (omega (arith, denominator_large j))
      quotient_gt bound_ge (le_trans bound_le (entry_le k (omega arith))) (denominator_large j))

module _ (Q : ℕ) (h : Q < 53 * 2 ^ 33) where
  whole_part : Q / 2 ^ 27 < 3392
  whole_part = omega arith

  parts : Q / 2 ^ 27 * 2 ^ 27 + Q % 2 ^ 27 ≡ Q
  parts = omega arith

  rest_small : Q % 2 ^ 27 < 2 ^ 27
  rest_small = omega arith

  -- at most 2^40·e^(-Q/2^33)
  pub lower_below : Below (lower Q) (Q ⊘ 2 ^ 33)
  unfolding lower_by bound
  lower_below = rw parts at (bound_below (Q / 2 ^ 27) (Q % 2 ^ 27) whole_part rest_small)

  -- less than 354 below it
  pub lower_above : Above (lower Q + 354) (Q ⊘ 2 ^ 33)
  unfolding lower_by bound
  lower_above = rw parts at (bound_above (Q / 2 ^ 27) (Q % 2 ^ 27) whole_part rest_small)

  lower_entry : lower Q ≤ entry (Q / 2 ^ 27)
  unfolding lower_by bound
  lower_entry = bound_le (Q / 2 ^ 27) (Q % 2 ^ 27) whole_part rest_small

  lower_next : entry (Q / 2 ^ 27 + 1) ≤ lower Q
  unfolding lower_by bound
  lower_next = bound_next (Q / 2 ^ 27) (Q % 2 ^ 27) whole_part rest_small

  pub lower_le : lower Q ≤ 2 ^ 40
  lower_le = le_trans lower_entry (entry_le (Q / 2 ^ 27) (omega (arith, whole_part)))

second_mono : {j j' : ℕ} → j ≤ j' → second j ≤ second j'
unfolding second
second_mono l = up_mono (compare (omega arith) (omega arith) (mul-le-mul_right (2 ^ 33) (mul-le-mul l l)))

third_mono : {j j' : ℕ} → j ≤ j' → third j ≤ third j'
unfolding third
third_mono l = up_mono (compare (omega arith) (omega arith) (mul-le-mul_right (6 * 2 ^ 33) (mul-le-mul l (second_mono l))))

denominator_mono : {j j' : ℕ} → j ≤ j' → denominator j ≤ denominator j'
denominator_mono {j} {j'} l =
    rw (denominator_is j, denominator_is j') (omega (arith, second_mono l, third_mono l))

-- within one entry the numerator falls and the denominator rises
between_falls : (t next : ℕ) {j j' : ℕ} → j ≤ j' → between t next j' ≤ between t next j
unfolding between
between_falls t next {j} {j'} l =
    max-le
    (le_trans
    ((le-div_iff_mul-le (omega (arith, denominator_large j))).1
    (le_trans
    (mul-le-mul_left (t * (2 ^ 35 - j') / denominator j') (denominator_mono l))
    (le_trans (div-mul-le_self (t * (2 ^ 35 - j')) (denominator j')) (mul-le-mul_left t (omega arith)))))
    (le-max_left (t * (2 ^ 35 - j) / denominator j) next))
    (le-max_right (t * (2 ^ 35 - j) / denominator j) next)

lower_falls_here : (Q Q' : ℕ) → Q ≤ Q' → Q' / 2 ^ 27 ≡ Q / 2 ^ 27 → lower Q' ≤ lower Q
unfolding lower_by
lower_falls_here Q Q' l e = rw e (between_falls (entry (Q / 2 ^ 27)) (entry (Q / 2 ^ 27 + 1)) (omega arith))

lower_falls_across : (Q Q' : ℕ) → Q' < 53 * 2 ^ 33 → Q / 2 ^ 27 < Q' / 2 ^ 27 → lower Q' ≤ lower Q
lower_falls_across Q Q' h l =
    let k : ℕ = Q / 2 ^ 27 + 1 in
    let e : k + (Q' / 2 ^ 27 - k) ≡ Q' / 2 ^ 27 = omega arith in
    le_trans (lower_entry Q' h)
    (le_trans (rw e at (entry_falls_by (Q' / 2 ^ 27 - k) k (omega arith))) (lower_next Q (omega arith)))

-- `lower` never rises with Q
pub lower_falls : (Q Q' : ℕ) → Q ≤ Q' → Q' < 53 * 2 ^ 33 → lower Q' ≤ lower Q
lower_falls Q Q' l h = go (dec_le (Q' / 2 ^ 27) (Q / 2 ^ 27))
  where
    go : Dec (Q' / 2 ^ 27 ≤ Q / 2 ^ 27) → lower Q' ≤ lower Q
    go (yes k) = lower_falls_here Q Q' l (omega arith)
    go (no k) = lower_falls_across Q Q' h (omega arith)

pub lower_zero : lower 0 ≡ 2 ^ 40
unfolding lower_by between denominator entry_in up table
lower_zero = refl

-- the part of a whole that Q/2^33 lies above a/b costs 132 in 2^40
cost : (E b c y Tx Bx Ty By Tz Bz : ℕ) → 0 < b → 0 < By → 0 < Bz → c + y ≡ b * 2 ^ 33 → 32 * y ≤ 33 * b → Bx ≤ Tx
    → 2 ^ 40 * Bz ≤ (E + 354) * Tz → Tz * (Bx * By) ≤ Tx * Ty * Bz → c * Ty ≤ b * 2 ^ 33 * By
    → 2 ^ 40 * Bx ≤ (E + 512) * Tx
cost E b c y Tx Bx Ty By Tz Bz hb hy hz e hd h1 hE hS hd' =
    let at_sum : 2 ^ 40 * (Bx * By) ≤ (E + 354) * (Tx * Ty) =
    le_of_mul-le-mul_right {k = Bz} (omega (arith, mul-le-mul_right (Bx * By) hE, mul-le-mul_left (E + 354) hS)) hz in
    let less : 2 ^ 40 * (Bx * c) ≤ (E + 354) * (Tx * (b * 2 ^ 33)) =
    le_of_mul-le-mul_right {k = By}
    (omega (arith, mul-le-mul_right c at_sum, mul-le-mul_left ((E + 354) * Tx) hd')) hy in
    le_of_mul-le-mul_right {k = b}
    (omega
    (arith, less, ap (λ (x : ℕ). Bx * x) e, mul-le-mul_left Bx hd, mul-le-mul_left b h1)) hb

-- (1 - y)·S_n(y) ≤ 1
pub near_one : (n y b c : ℕ) → 0 < b → c + y ≡ b → whole c ⊗ S n (y ⊘ b) ⪯ whole b
unfolding wsum
near_one n y b c hb e =
    let u = terms (1 + n) y b in
    sum_at_most (1 + n) y b n c b hb (omega arith)
    (omega (arith, weighted_bound (1 + n) y b c 1 u (terms_are (1 + n) y b) (omega arith) n (le_refl (1 + n))))

-- S_n at Q/2^33 is at most S_n(a/b)·S_n(y/c), y/c being what Q/2^33 has above a/b
split_off : (n Q a b y : ℕ) → 0 < b → a * 2 ^ 33 + y ≡ Q * b → S n (Q ⊘ 2 ^ 33) ⪯ S n (a ⊘ b) ⊗ S n (y ⊘ (b * 2 ^ 33))
split_off n Q a b y hb e =
    let B : 0 < b * 2 ^ 33 = mul-pos hb (omega arith) in
    ⪯_trans (S_mono n (compare {c = a * 2 ^ 33 + y} (omega arith) B (omega (arith, ap (λ (x : ℕ). x * 2 ^ 33) e))))
    (⪯_trans (S_split n (a * 2 ^ 33) y (b * 2 ^ 33) B)
    (⊗_mono (S_mono n (compare {c = a} {d = b} B hb (omega arith))) (⪯_refl (S n (y ⊘ (b * 2 ^ 33))) (S_positive n (y ⊘ (b * 2 ^ 33)) B))))

-- 512 more reaches 2^40·e^(-q) at every fraction q = a/b that Q/2^33 exceeds by less than (1 + 1/32)/2^33
pub lower_reaches : (Q : ℕ) → Q < 53 * 2 ^ 33 → (a b : ℕ) → 0 < b → a * 2 ^ 33 ≤ Q * b → 32 * (Q * b) < 32 * (a * 2 ^ 33) + 33 * b
    → Reaches (lower Q + 512) (a ⊘ b)
lower_reaches Q h a b hb l u = go (lower_above Q h)
  where
    go : Above (lower Q + 354) (Q ⊘ 2 ^ 33) → Reaches (lower Q + 512) (a ⊘ b)
    go (n, above) =
        let y : ℕ = Q * b - a * 2 ^ 33 in
        let is : a * 2 ^ 33 + y ≡ Q * b = omega arith in
        let B : 0 < b * 2 ^ 33 = mul-pos hb (omega arith) in
        let e : b * 2 ^ 33 - y + y ≡ b * 2 ^ 33 = omega arith in
        let Y : Fraction = S n (y ⊘ (b * 2 ^ 33)) in
        let Z : Fraction = S n (Q ⊘ 2 ^ 33) in
        let X : Fraction = S n (a ⊘ b) in
        let near : whole (b * 2 ^ 33 - y) ⊗ Y ⪯ whole (b * 2 ^ 33) = near_one n y (b * 2 ^ 33) (b * 2 ^ 33 - y) B e in
        let one : whole 1 ⪯ X = S_one n (a ⊘ b) hb in (
          n,
          record {
            left = omega arith;
            right = omega (arith, S_positive n (a ⊘ b) hb);
            order =
                omega (
                  arith,
                  cost (lower Q) b (b * 2 ^ 33 - y) y X.top X.bottom Y.top Y.bottom Z.top Z.bottom hb
                      (S_positive n (y ⊘ (b * 2 ^ 33)) B)
                      (S_positive n (Q ⊘ 2 ^ 33) (omega arith))
                      e
                      (omega arith)
                      (omega (arith, one.order))
                      (omega (arith, above.order))
                      (split_off n Q a b y hb is).order
                      (omega (arith, near.order)),
                );
          },
        )

-- The table's rule, proved once by one computed test over the whole table: sums of number 3, which are of nine terms from above and of eight from below,
-- serve at every degree. Every lower sum is at most every upper one (`sums_apart`), so no lower sum is above an entry of any table that keeps the rule
-- (`no_sum_above`); this table never rises (`entry_falls`).
-- Assumes nothing.
use mathlib.Core.Path.{◌≡◌, refl, subst}
use mathlib.Core.Bool.{Bool, true, false, cond, ◌&&◌}
use mathlib.Core.List.{List, [], ◌∷◌}
use Prim.Native.Nat.{ℕ, zero, suc, ◌+◌, ◌*◌, ◌≤◌, ◌<◌}
use native.Mathlib.Decide.{dec_lt}
use native.Mathlib.Nat.{mul-pos, add-zero, add-suc, suc-add, zero-add, le_refl, not-suc-le-zero, le_of_suc-le-suc}
use native.Mathlib.Omega.{arith}
use lib.Dec.{T, leb, ltb, leb→le, ltb→lt, eqb}
use mir.Facts.{and_yes}
use lib.ListN.{length, get_or}
use Rattle.fraction.specs.Fraction.{Fraction, ◌⊘◌, whole, ◌⊕◌, ◌⪯◌, ◌≺◌}
use Rattle.fraction.proofs.Order.{pos_left, pos_right, compare, ⪯_refl, ⪯_trans, ⊕_mono, ⊕_cancel}
use Rattle.exponential.specs.Series.{term, factorial}
use Rattle.cosine.specs.Cosine.{Difference, AtMost, LessAbove, every_fourth, radians, exactly, where_known, cosine_above, cosine_below, billionths, CosineTable}
use Rattle.cosine.specs.program.Table.{table, entry}
use Rattle.cosine.proofs.Alternating.{exchanged, sums_meet}

-- p ⪯ q and p ≺ q, tested
at_most : Fraction → Fraction → Bool
at_most p q = (ltb 0 p.bottom && ltb 0 q.bottom) && leb (p.top * q.bottom) (q.top * p.bottom)

less_than : Fraction → Fraction → Bool
less_than p q = (ltb 0 p.bottom && ltb 0 q.bottom) && ltb (p.top * q.bottom) (q.top * p.bottom)

at_most_is : (p q : Fraction) → T (at_most p q) → p ⪯ q
unfolding at_most
at_most_is p q t =
    let s = and_yes (ltb 0 p.bottom && ltb 0 q.bottom) (leb (p.top * q.bottom) (q.top * p.bottom)) t in
    let r = and_yes (ltb 0 p.bottom) (ltb 0 q.bottom) s.0 in
    record { left = ltb→lt 0 p.bottom r.0; right = ltb→lt 0 q.bottom r.1; order = leb→le _ _ s.1 }

less_than_is : (p q : Fraction) → T (less_than p q) → p ≺ q
unfolding less_than
less_than_is p q t =
    let s = and_yes (ltb 0 p.bottom && ltb 0 q.bottom) (ltb (p.top * q.bottom) (q.top * p.bottom)) t in
    let r = and_yes (ltb 0 p.bottom) (ltb 0 q.bottom) s.0 in
    record { left = ltb→lt 0 p.bottom r.0; right = ltb→lt 0 q.bottom r.1; order = ltb→lt _ _ s.1 }

-- the rule at one entry
is_above : Difference → ℕ → Bool
is_above c t = at_most c.more (billionths t ⊕ c.less)

is_near : Difference → ℕ → Bool
is_near c t = less_than (billionths t ⊕ c.less) (c.more ⊕ billionths 2)

meets : ℕ → ℕ → Bool
meets d t = is_above (cosine_above d 3) t && is_near (cosine_below d 3) t

-- what the test of one entry says
record Met (d t : ℕ) : Type 0 where
  never_below : (n : ℕ) × AtMost (cosine_above d n) (billionths t)
  less_above : (n : ℕ) × LessAbove (billionths 2) (cosine_below d n) (billionths t)

meets_is : (d t : ℕ) → T (meets d t) → Met d t
unfolding meets is_above is_near
meets_is d t h =
    let r = and_yes (is_above (cosine_above d 3) t) (is_near (cosine_below d 3) t) h in
    record { never_below = (3, at_most_is _ _ r.0); less_above = (3, less_than_is _ _ r.1) }

-- the rule at each entry of a list, the first at d degrees
all_meet : ℕ → List ℕ → Bool
all_meet d [] = true
all_meet d (t ∷ ts) = meets d t && all_meet (suc d) ts

each : (d : ℕ) (ts : List ℕ) → T (all_meet d ts) → (i : ℕ) → i < length ts → T (meets (d + i) (get_or ts i 0))
unfolding all_meet
each d [] h i l = absurd (not-suc-le-zero l)
each d (t ∷ ts) h zero l = rw add-zero (and_yes (meets d t) (all_meet (suc d) ts) h).0
each d (t ∷ ts) h (suc i) l =
    rw (add-suc, ← suc-add) (each (suc d) ts (and_yes (meets d t) (all_meet (suc d) ts) h).1 i (le_of_suc-le-suc l))

-- the computed test, over the whole table
tested : T (all_meet 0 table)
unfolding all_meet meets is_above is_near at_most less_than cosine_above cosine_below where_known every_fourth term factorial table
tested = tt

table_length : length table ≡ 91
unfolding table
table_length = refl

met : (d : ℕ) → d < 91 → Met d (entry d)
unfolding entry
met d l = meets_is d _ (rw zero-add at (each 0 table tested d (omega (arith, table_length))))

exact : (entry 0 ≡ 1000000000) × (entry 60 ≡ 500000000) × (entry 90 ≡ 0)
unfolding entry table
exact = (refl, refl, refl)

-- the rule of the table
pub tabulated : CosineTable entry
tabulated = record { never_below = λ d l. (met d l).never_below; less_above = λ d l. (met d l).less_above; exact = exact }

-- what holds of two differences that are equal where the cosine is known, and of two others, holds at every degree
at_known : (R : Difference → Difference → Type 0) → ((c : Fraction) → 0 < c.bottom → R (exactly c) (exactly c)) → (d : ℕ) (a b : Difference) → R a b
    → R (where_known d a) (where_known d b)
unfolding where_known
at_known R same d a b h = go (eqb d 0) (eqb d 60) (eqb d 90)
  where
    go : (x y z : Bool) → R (cond x (exactly (whole 1)) (cond y (exactly (1 ⊘ 2)) (cond z (exactly (whole 0)) a)))
        (cond x (exactly (whole 1)) (cond y (exactly (1 ⊘ 2)) (cond z (exactly (whole 0)) b)))
    go true y z = same (whole 1) (omega arith)
    go false true z = same (1 ⊘ 2) (omega arith)
    go false false true = same (whole 0) (omega arith)
    go false false false = h

-- one difference is at most another
abbrev pub Under : Difference → Difference → Type 0
Under a b = a.more ⊕ b.less ⪯ b.more ⊕ a.less

-- what is at most t is at most t from below too
pub under_most : (a b : Difference) (t : Fraction) → Under a b → AtMost b t → AtMost a t
under_most a b t u h =
    let ha : 0 < a.less.bottom = pos_right b.more.bottom a.less.bottom u.right in
    let hb : 0 < b.less.bottom = pos_right a.more.bottom b.less.bottom u.left in
    ⊕_cancel a.more (t ⊕ a.less) b.less
    (⪯_trans u (⪯_trans (⊕_mono h (⪯_refl a.less ha)) (exchanged t a.less b.less (pos_left t.bottom _ h.right) ha hb)))

-- sums taken apart another way
shuffled : (p q r s : Fraction) → 0 < p.bottom → 0 < q.bottom → 0 < r.bottom → 0 < s.bottom → (p ⊕ s) ⊕ (q ⊕ r) ⪯ (p ⊕ q) ⊕ (r ⊕ s)
shuffled p q r s hp hq hr hs =
    record { left = mul-pos (mul-pos hp hs) (mul-pos hq hr); right = mul-pos (mul-pos hp hq) (mul-pos hr hs); order = omega arith }

turned : (p q r s : Fraction) → 0 < p.bottom → 0 < q.bottom → 0 < r.bottom → 0 < s.bottom → (r ⊕ s) ⊕ (p ⊕ q) ⪯ (p ⊕ s) ⊕ (q ⊕ r)
turned p q r s hp hq hr hs =
    record { left = mul-pos (mul-pos hr hs) (mul-pos hp hq); right = mul-pos (mul-pos hp hs) (mul-pos hq hr); order = omega arith }

under_trans : (a b c : Difference) → Under a b → Under b c → Under a c
under_trans a b c u w =
    let am = pos_left a.more.bottom _ u.left in
    let bl = pos_right a.more.bottom _ u.left in
    let bm = pos_left b.more.bottom _ u.right in
    let al = pos_right b.more.bottom _ u.right in
    let cl = pos_right b.more.bottom _ w.left in
    let cm = pos_left c.more.bottom _ w.right in
    ⊕_cancel (a.more ⊕ c.less) (c.more ⊕ a.less) (b.less ⊕ b.more)
    (⪯_trans (shuffled a.more b.less b.more c.less am bl bm cl)
    (⪯_trans (⊕_mono u w) (turned c.more b.less b.more a.less cm bl bm al)))

-- the sums of one number at x, from above and from below
abbrev upper : Fraction → ℕ → Difference
upper x n = record { more = every_fourth 0 (suc n) x; less = every_fourth 2 n x }

abbrev lower : Fraction → ℕ → Difference
lower x n = record { more = every_fourth 0 n x; less = every_fourth 2 n x }

-- the upper sum of number 4 at the upper bound of π is at most the lower one at the lower bound: tested at every degree
gap : ℕ → Bool
gap d =
    let a = upper (radians 314159265358980 d) 4 in
    let b = lower (radians 314159265358979 d) 4 in
    at_most (a.more ⊕ b.less) (b.more ⊕ a.less)

gaps : ℕ → Bool
gaps zero = true
gaps (suc d) = gap d && gaps d

gap_below : (n d : ℕ) → d < suc n → T (gap n) → (d < n → T (gap d)) → Dec (d < n) → T (gap d)
gap_below n d l here below (yes g) = below g
gap_below n d l here below (no g) = let e : n ≡ d = omega arith in subst (λ (k : ℕ). T (gap k)) e here

each_gap : (n d : ℕ) → d < n → T (gaps n) → T (gap d)
unfolding gaps
each_gap zero d l h = absurd (not-suc-le-zero l)
each_gap (suc n) d l h =
    let both = and_yes (gap n) (gaps n) h in
    gap_below n d l both.0 (λ g. each_gap n d g both.1) (dec_lt d n)

tested_gaps : T (gaps 91)
unfolding gaps gap at_most every_fourth term factorial
tested_gaps = tt

-- every lower sum is at most every upper one, whichever bounds of π they are taken at
pub sums_apart : (d m n : ℕ) → d < 91 → Under (cosine_below d m) (cosine_above d n)
unfolding cosine_below cosine_above gap
sums_apart d m n l =
    let high = radians 314159265358980 d in
    let low = radians 314159265358979 d in
    at_known Under (λ c h. compare (omega arith) (omega arith) (omega arith)) d _ _
    (under_trans (lower high m) (upper high 4) (upper low n)
    (sums_meet high (omega arith) (compare (omega arith) (omega arith) (omega arith)) m 4)
    (under_trans (upper high 4) (lower low 4) (upper low n) (at_most_is _ _ (each_gap 91 d l tested_gaps))
    (sums_meet low (omega arith) (compare (omega arith) (omega arith) (omega arith)) 4 n)))

-- no lower sum is above an entry of a table that keeps its rule
pub no_sum_above : {c : ℕ → ℕ} → CosineTable c → (d n : ℕ) → d < 91 → AtMost (cosine_below d n) (billionths (c d))
no_sum_above {c} t d n l =
    let (m, u) = t.never_below d l in
    under_most (cosine_below d n) (cosine_above d m) (billionths (c d)) (sums_apart d n m l) u

-- the table never rises
falling : ℕ → List ℕ → Bool
falling x [] = true
falling x (y ∷ ys) = leb y x && falling y ys

none_above : (x : ℕ) (ys : List ℕ) → T (falling x ys) → (i : ℕ) → get_or ys i 0 ≤ x
unfolding falling
none_above x [] h i = omega arith
none_above x (y ∷ ys) h zero = leb→le y x (and_yes (leb y x) (falling y ys) h).0
none_above x (y ∷ ys) h (suc i) =
    let s = and_yes (leb y x) (falling y ys) h in omega (arith, none_above y ys s.1 i, leb→le y x s.0)

falls : (x : ℕ) (ys : List ℕ) → T (falling x ys) → (i j : ℕ) → i ≤ j → get_or ys j 0 ≤ get_or ys i 0
unfolding falling
falls x [] h i j l = omega arith
falls x (y ∷ ys) h zero zero l = le_refl y
falls x (y ∷ ys) h zero (suc j) l = none_above y ys (and_yes (leb y x) (falling y ys) h).1 j
falls x (y ∷ ys) h (suc i) zero l = absurd (not-suc-le-zero l)
falls x (y ∷ ys) h (suc i) (suc j) l = falls y ys (and_yes (leb y x) (falling y ys) h).1 i j (le_of_suc-le-suc l)

tested_falling : T (falling 1000000000 table)
unfolding falling table
tested_falling = tt

pub entry_falls : (d d' : ℕ) → d ≤ d' → entry d' ≤ entry d
unfolding entry
entry_falls d d' l = falls 1000000000 table tested_falling d d' l

pub entry_most : (d : ℕ) → entry d ≤ 1000000000
unfolding entry
entry_most d = none_above 1000000000 table tested_falling d

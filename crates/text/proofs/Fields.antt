-- A field is written from its right end: the last digit, and then a digit or a space for what is left of the number.
-- Assumes nothing.
use Prim.Native.Nat.{ℕ, zero, suc, ◌+◌, ◌-◌, ◌*◌, ◌/◌, ◌%◌, ◌^◌, ◌≤◌, ◌<◌}
use native.Mathlib.Nat.{pow-zero, pow-suc}
use native.Mathlib.Decide.{dec_lt}
use native.Mathlib.Omega.{arith}
use mathlib.Core.Bool.{cond}
use mathlib.Core.Path.{◌≡◌, refl, ap, sym, ◌∙◌}
use mathlib.Core.List.{List, [], ◌∷◌, ◌++◌, append_assoc}
use lib.Dec.{ltb, eqb}
use lib.ListN.{length, set, replicate, length-append, replicate-append-replicate}
use lib.Seq.{sets, set_comm}
use borrow.Author.Tests.{lt-ltb, le-ltb, ne_eqb}
use Rattle.records.proofs.Stores.{sets_append}
use Rattle.text.specs.Text.{space, digit, digits_within, field}
use Rattle.text.specs.Reading.{reading_on, reading}
use Rattle.text.specs.program.Mark.{mark, padded, number_field}

-- ---- stores
-- a store past a run may come before it
pub set_sets : (l : List ℕ) (at : ℕ) (xs : List ℕ) (j b : ℕ) → at + length xs ≤ j → set (sets l at xs) j b ≡ sets (set l j b) at xs
set_sets l at [] j b h = refl
set_sets l at (x ∷ xs) j b h =
    set_sets (set l at x) (suc at) xs j b (omega arith)
    ∙ ap (λ (r : List ℕ). sets r (suc at) xs) (set_comm l at j x b (λ e. apart at (length xs) j h e))
  where
    apart : (a n j : ℕ) → a + suc n ≤ j → a ≡ j → ⊥
    apart a n j h e = omega arith

pub sets_last : (l : List ℕ) (at k : ℕ) (xs : List ℕ) (b : ℕ) → length xs ≡ k → sets l at (xs ++ (b ∷ [])) ≡ sets (set l (at + k) b) at xs
sets_last l at k xs b e =
    sets_append l at xs (b ∷ [])
    ∙ set_sets l at xs (at + length xs) b (omega arith)
    ∙ ap (λ (n : ℕ). sets (set l (at + n) b) at xs) e

-- ---- k characters, from the right
pub length_padded : (k n : ℕ) → length (padded k n) ≡ k
unfolding padded
length_padded zero n = refl
length_padded (suc k) n = length-append (padded k (n / 10)) (mark n ∷ []) ∙ omega (arith, length_padded k (n / 10))

pub padded_next : (l : List ℕ) (at k n : ℕ) → sets l at (padded (suc k) n) ≡ sets (set l (at + k) (mark n)) at (padded k (n / 10))
unfolding padded
padded_next l at k n = sets_last l at k (padded k (n / 10)) (mark n) (length_padded k (n / 10))

pub padded_step : (l : List ℕ) (at i n m : ℕ) → 0 < i → m ≡ mark n → sets l at (padded i n) ≡ sets (set l (at + (i - 1)) m) at (padded (i - 1) (n / 10))
padded_step l at i n m h e =
    let f : i ≡ suc (i - 1) = omega arith in
    ap (λ (k : ℕ). sets l at (padded k n)) f
    ∙ padded_next l at (i - 1) n
    ∙ ap (λ (x : ℕ). sets (set l (at + (i - 1)) x) at (padded (i - 1) (n / 10))) (sym e)

pub padded_done : (l : List ℕ) (at i n : ℕ) → i ≤ 0 → sets l at (padded i n) ≡ l
unfolding padded
padded_done l at i n h = let e : i ≡ 0 = omega arith in rw e

-- ---- they are the decimal number, right-justified in as many characters
abbrev justified : ℕ → List ℕ → List ℕ
justified w t = replicate (w - length t) space ++ t

one_more : (k : ℕ) → replicate k space ++ (space ∷ []) ≡ replicate (suc k) space
one_more k = replicate-append-replicate k 1 space ∙ ap (λ (n : ℕ). replicate n space) e
  where
    e : k + 1 ≡ suc k
    e = omega arith

padded_none : (k : ℕ) → padded k 0 ≡ replicate k space
unfolding padded
padded_none zero = refl
padded_none (suc k) = ap (λ (l : List ℕ). l ++ (space ∷ [])) (padded_none k) ∙ one_more k

pub mark_some : (n : ℕ) → 0 < n → mark n ≡ digit (n % 10)
mark_some zero h = absurd (none h)
  where
    none : 0 < 0 → ⊥
    none h = omega arith
mark_some (suc n) h = refl

abbrev Right : ℕ → ℕ → Type 0
Right k n = padded k (n / 10) ++ (digit (n % 10) ∷ []) ≡ justified (suc k) (digits_within k n)

pub single : (k n : ℕ) → n < 10 → digits_within k n ≡ digit n ∷ []
unfolding digits_within
single zero n h = refl
single (suc k) n h = ap (λ b. cond b (digit n ∷ []) (digits_within k (n / 10) ++ (digit (n % 10) ∷ []))) (lt-ltb n 10 h)

pub double : (k n : ℕ) → 10 ≤ n → n < 100 → digits_within (suc k) n ≡ digit (n / 10) ∷ digit (n % 10) ∷ []
unfolding digits_within
double k n g h =
    ap (λ b. cond b (digit n ∷ []) (digits_within k (n / 10) ++ (digit (n % 10) ∷ []))) (le-ltb n 10 g)
    ∙ ap (λ (l : List ℕ). l ++ (digit (n % 10) ∷ [])) (single k (n / 10) (omega arith))

right_single : (k n : ℕ) → n < 10 → Right k n
right_single k n h =
    let a : n / 10 ≡ 0 = omega arith in
    let b : n % 10 ≡ n = omega arith in
    let d : suc k - 1 ≡ k = omega arith in
    rw (a, b, padded_none k, single k n h, d)

right_more : (k n : ℕ) → 10 ≤ n → Right k (n / 10) → Right (suc k) n
unfolding digits_within padded
right_more k n h ih =
    let D = digits_within k (n / 10) in
    let c = digit (n % 10) in
    let m : mark (n / 10) ≡ digit (n / 10 % 10) = mark_some (n / 10) (omega arith) in
    let e : suc (suc k) - length (D ++ (c ∷ [])) ≡ suc k - length D = gap k D c in
    ap (λ (x : ℕ). (padded k (n / 10 / 10) ++ (x ∷ [])) ++ (c ∷ [])) m
    ∙ ap (λ (l : List ℕ). l ++ (c ∷ [])) ih
    ∙ append_assoc (replicate (suc k - length D) space) D (c ∷ [])
    ∙ ap (λ (x : ℕ). replicate x space ++ (D ++ (c ∷ []))) (sym e)
    ∙ ap (λ b. justified (suc (suc k)) (cond b (digit n ∷ []) (D ++ (c ∷ [])))) (sym (le-ltb n 10 h))
  where
    gap : (k : ℕ) (D : List ℕ) (c : ℕ) → suc (suc k) - length (D ++ (c ∷ [])) ≡ suc k - length D
    gap k D c = omega (arith, length-append D (c ∷ []))

right : (k n : ℕ) → n < 10 ^ suc k → Right k n
right zero n h = right_single zero n h
right (suc k) n h = go (dec_lt n 10) (right k (n / 10) (omega (arith, h, pow-suc 10 (suc k))))
  where
    go : Dec (n < 10) → Right k (n / 10) → Right (suc k) n
    go (yes l) ih = right_single (suc k) n l
    go (no g) ih = right_more k n (omega (arith, g)) ih

-- a number of nine digits has the same digits within ten
more_room : (k n : ℕ) → n < 10 ^ suc k → digits_within (suc k) n ≡ digits_within k n
unfolding digits_within
more_room zero n h = single 1 n h
more_room (suc k) n h =
    ap (λ (l : List ℕ). cond (ltb n 10) (digit n ∷ []) (l ++ (digit (n % 10) ∷ []))) (more_room k (n / 10) (omega (arith, h, pow-suc 10 (suc k))))

-- the field of a number of at most nine digits
module _ (n : ℕ) (h : n < 10 ^ 9) where
  pub field_is : padded 8 (n / 10) ++ (digit (n % 10) ∷ []) ≡ number_field n
  unfolding number_field
  field_is = right 8 n h ∙ ap field (sym (more_room 8 n h))

  pub field_length : length (number_field n) ≡ 9
  field_length =
      sym (ap length field_is) ∙ length-append (padded 8 (n / 10)) (digit (n % 10) ∷ []) ∙ omega (arith, length_padded 8 (n / 10))

  -- the whole field, when its last digit has been stored
  pub field_left : (l : List ℕ) (at : ℕ) → sets (set l (at + 8) (digit (n % 10))) at (padded 8 (n / 10)) ≡ sets l at (number_field n)
  field_left l at =
      sym (sets_last l at 8 (padded 8 (n / 10)) (digit (n % 10)) (length_padded 8 (n / 10)))
      ∙ ap (sets l at) field_is

-- a number with fewer digits has a space before them
padded_room : (k n : ℕ) → n < 10 ^ k → padded (suc k) n ≡ space ∷ padded k n
unfolding padded
padded_room zero n h =
    let e : n ≡ 0 = omega (arith, h, pow-zero 10) in
    rw e
padded_room (suc k) n h = ap (λ (l : List ℕ). l ++ (mark n ∷ [])) (padded_room k (n / 10) (omega (arith, h, pow-suc 10 k)))

pub field_spaced : (n : ℕ) → n < 10 ^ 8 → number_field n ≡ space ∷ (padded 7 (n / 10) ++ (digit (n % 10) ∷ []))
field_spaced n h =
    sym (field_is n (omega (arith, h))) ∙ ap (λ (l : List ℕ). l ++ (digit (n % 10) ∷ [])) (padded_room 7 (n / 10) (omega (arith, h)))

-- ---- read back, it is the number
reading_append : (n : ℕ) (t u : List ℕ) → reading_on n (t ++ u) ≡ reading_on (reading_on n t) u
unfolding reading_on
reading_append n [] u = refl
reading_append n (c ∷ t) u = reading_append (cond (eqb c space) n (10 * n + (c - digit 0))) t u

read_digit : (n d : ℕ) → reading_on n (digit d ∷ []) ≡ 10 * n + d
unfolding reading_on
read_digit n d =
    let e : 10 * n + (digit d - digit 0) ≡ 10 * n + d = omega arith in
    ap (λ b. cond b n (10 * n + (digit d - digit 0))) (ne_eqb (digit d) space (λ o. omega arith)) ∙ e

read_mark : (n : ℕ) → reading_on (n / 10) (mark n ∷ []) ≡ n
unfolding reading_on
read_mark zero = refl
read_mark (suc n) = read_digit (suc n / 10) (suc n % 10) ∙ omega arith

read_padded : (k n : ℕ) → n < 10 ^ k → reading (padded k n) ≡ n
unfolding padded reading_on
read_padded zero n h =
    let e : 0 ≡ n = omega (arith, h, pow-zero 10) in
    e
read_padded (suc k) n h =
    reading_append 0 (padded k (n / 10)) (mark n ∷ [])
    ∙ ap (λ (m : ℕ). reading_on m (mark n ∷ [])) (read_padded k (n / 10) (omega (arith, h, pow-suc 10 k)))
    ∙ read_mark n

pub field_read : (n : ℕ) → n < 10 ^ 9 → reading (number_field n) ≡ n
field_read n h =
    ap reading (sym (field_is n h))
    ∙ reading_append 0 (padded 8 (n / 10)) (digit (n % 10) ∷ [])
    ∙ ap (λ (m : ℕ). reading_on m (digit (n % 10) ∷ [])) (read_padded 8 (n / 10) (omega (arith, h)))
    ∙ read_digit (n / 10) (n % 10)
    ∙ omega arith

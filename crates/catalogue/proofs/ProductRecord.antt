-- The record that the catalogue writes is accepted as the product record of a sheet: with anything before and behind it, the bytes of a
-- product inside rule 7 read back as that product, and every row of the table is inside rule 7 on either wall.
use Prim.Native.Nat.{ℕ, zero, suc, ◌+◌, ◌*◌, ◌/◌, ◌%◌, ◌≤◌, ◌<◌}
use mathlib.Core.Bool.{Bool, true, ◌&&◌, ◌||◌}
use mathlib.Core.List.{List, [], ◌∷◌, ◌++◌}
use mathlib.Core.Logic.{◌⊎◌, inl, inr}
use mathlib.Core.Path.{◌≡◌, refl, ap, ◌∙◌}
use native.Mathlib.Omega.{arith}
use borrow.Author.Tests.{eqb-true, le-leb}
use lib.Dec.{eqb}
use lib.ListN.{length, get_or, length-append}
use Rattle.janssen.specs.declared.Product.{Product}
use Rattle.records.specs.Rules.{within, first_unmet}
use Rattle.records.specs.Format.{u16, u32, record_place, payload, allowed, record_rules}
use Rattle.records.proofs.Tests.{absurd, both_true, either_true, within_true}
use Rattle.records.proofs.Followed.{u16_behind, u32_behind}
use Rattle.description.specs.Silo.{product_sent}
use Rattle.sheet.specs.Refusal.{product_met}
use Rattle.catalogue.specs.declared.Material.{Material}
use Rattle.catalogue.specs.Table.{material, materials, row_of, product_for, record_of}

-- a test on every row of the table
all : (Material → Bool) → List Material → Bool
all f [] = true
all f (m ∷ l) = f m && all f l

all_at : (f : Material → Bool) (l : List Material) → all f l ≡ true → (i : ℕ) (d : Material) → i < length l → f (get_or l i d) ≡ true
unfolding all
all_at f [] h i d m = absurd (omega arith)
all_at f (x ∷ l) h zero d m = (both_true (f x) (all f l) h).0
all_at f (x ∷ l) h (suc i) d m = all_at f l (both_true (f x) (all f l) h).1 i d (omega arith)

-- every row on either wall is inside rule 7
inside : Material → Bool
inside m = product_met (product_for m 0) && product_met (product_for m 1)

rows_inside : all inside materials ≡ true
unfolding all inside materials product_for
rows_inside = refl

rows_met : (row wall : ℕ) → row < 10 → wall < 2 → product_met (product_for (row_of row) wall) ≡ true
unfolding row_of materials inside
rows_met row wall h w = on wall w (both_true (product_met (product_for (row_of row) 0)) _ (all_at inside materials rows_inside row (material 0 0 0 0 0) h))
  where
    on : (k : ℕ) → k < 2 → (product_met (product_for (row_of row) 0) ≡ true) × (product_met (product_for (row_of row) 1) ≡ true) → product_met (product_for (row_of row) k) ≡ true
    on zero l b = b.0
    on (suc zero) l b = b.1
    on (suc (suc k)) l b = absurd (omega arith)

-- a number that fits its bytes is read back from them
two_back : (n : ℕ) → n < 65536 → n % 256 + 256 * (n / 256 % 256) ≡ n
two_back n h = omega arith

four_back : (n : ℕ) → n < 4294967296 → n % 256 + 256 * (n / 256 % 256) + 65536 * (n / 65536 % 256 + 256 * (n / 65536 / 256 % 256)) ≡ n
four_back n h = omega arith

factor_most : (c : ℕ) → (eqb c 0 ≡ true) ⊎ (within 100 200 c ≡ true) → c < 65536
factor_most c (inl e) = omega (arith, eqb-true c 0 e)
factor_most c (inr e) = omega (arith, (within_true 100 200 c e).1)

-- a record with other bytes before and behind it
abbrev pub around : List ℕ → Product → List ℕ → List ℕ
around p r q = p ++ (record_of r ++ q)

module _ (p : List ℕ) (r : Product) (q : List ℕ) where
  header_length : u16 (around p r q) (length p) ≡ 10
  unfolding record_of u16
  header_length =
      let z : length p ≡ length p + 0 = omega arith in
      ap (u16 (around p r q)) z ∙ u16_behind p (record_of r ++ q) 0

  header_kind : u16 (around p r q) (length p + 2) ≡ 3
  unfolding record_of u16
  header_kind = u16_behind p (record_of r ++ q) 2

  around_length : length (around p r q) ≡ length p + 14 + length q
  unfolding record_of
  around_length = let n = length-append p (record_of r ++ q) in omega arith

  -- rules 2, 3 and 4 for the product record
  record_accepted : first_unmet (record_rules (around p r q) (length p) 1) ≡ 0
  unfolding first_unmet record_rules allowed
  record_accepted =
      let s = around p r q in
      let n = around_length in
      let f : length p + 4 ≤ length s = omega arith in
      let g : length p + 4 + 10 ≤ length s = omega arith in
      simp (le-leb (length p + 4) (length s) f, header_kind, header_length, le-leb (length p + 4 + 10) (length s) g)

  -- inside rule 7 it reads back as the product
  product_read_back : product_met r ≡ true → record_place (around p r q) 1 ≡ length p → product_sent (around p r q) ≡ r
  unfolding product_sent payload record_of u16 u32
  product_read_back m e =
      let s = around p r q in
      let l = record_of r ++ q in
      let γ_in = within 1000 30000 r.weight in
      let Ks_in = within 20 100 r.ratio in
      let μ_in = within 10 100 r.friction in
      let b3 = both_true (γ_in && Ks_in && μ_in) (eqb r.factor 0 || within 100 200 r.factor) m in
      let b2 = both_true (γ_in && Ks_in) μ_in b3.0 in
      let b1 = both_true γ_in Ks_in b2.0 in
      let at : (n : ℕ) → record_place s 1 + 4 + n ≡ length p + (4 + n) = λ n. omega arith in
      let w : u32 s (record_place s 1 + 4) ≡ r.weight = ap (λ x. u32 s (x + 4)) e ∙ u32_behind p l 4 ∙ four_back r.weight (omega (arith, (within_true 1000 30000 r.weight b1.0).1)) in
      let k : u16 s (record_place s 1 + 4 + 4) ≡ r.ratio = ap (u16 s) (at 4) ∙ u16_behind p l 8 ∙ two_back r.ratio (omega (arith, (within_true 20 100 r.ratio b1.1).1)) in
      let f : u16 s (record_place s 1 + 4 + 6) ≡ r.friction = ap (u16 s) (at 6) ∙ u16_behind p l 10 ∙ two_back r.friction (omega (arith, (within_true 10 100 r.friction b2.1).1)) in
      let c : u16 s (record_place s 1 + 4 + 8) ≡ r.factor = ap (u16 s) (at 8) ∙ u16_behind p l 12 ∙ two_back r.factor (factor_most r.factor (either_true (eqb r.factor 0) (within 100 200 r.factor) b3.1)) in
      simp (w, k, f, c)

-- the record of a row and a wall, as the product record of a sheet, passes rules 2 to 4 and rule 7, and is read as its product
module _ (before behind : List ℕ) (row wall : ℕ) where
  abbrev product : Product
  product = product_for (row_of row) wall

  abbrev sheet : List ℕ
  sheet = around before product behind

  pub catalogue_accepted : row < 10 → wall < 2 → record_place sheet 1 ≡ length before → (first_unmet (record_rules sheet (length before) 1) ≡ 0) × (product_sent sheet ≡ product) × (product_met (product_sent sheet) ≡ true)
  catalogue_accepted h w e =
      let m = rows_met row wall h w in
      let b = product_read_back before product behind m e in
      (record_accepted before product behind, b, ap product_met b ∙ m)

-- What the layers above may use of an accepted sheet: every number inside its range, the wall's edges, the depths.
-- A sum of at most 24 strakes of at most 3,000 is at most 72,000; each strake of at least 200 moves the edge down.
use Prim.Native.Nat.{ℕ, suc, ◌+◌, ◌-◌, ◌*◌, ◌≤◌, ◌<◌}
use mathlib.Core.List.{List, [], ◌∷◌}
use mathlib.Core.Logic.{◌⊎◌, ⊎_elim}
use mathlib.Core.Path.{◌≡◌, refl, ap, sym, ◌∙◌}
use native.Mathlib.Omega.{arith}
use borrow.Author.Tests.{eq-eqb, ne_eqb}
use lib.Dec.{leb}
use lib.ListN.{length, get_or, take}
use lib.Seq.{take-length}
use Rattle.janssen.specs.Section.{d_c}
use Rattle.janssen.specs.Filling.{grain_of}
use Rattle.janssen.specs.program.Range.{Within, InRange}
use Rattle.description.specs.Silo.{section_of, product_sent, product_of, factor_read, strakes_of, strake_count, depths_of, sum, V_of, headroom_of, h_of, edge_of}
use Rattle.description.specs.program.Described.{wall_of, described_of}
use Rattle.sheet.specs.declared.Asked.{Asked}
use Rattle.sheet.specs.Refusal.{value_rules}
use Rattle.sheet.specs.program.Examined.{tells, described_rules}
use Rattle.sheet.specs.Accepted.{Measured}
use Rattle.description.proofs.Walls.{strakes_length, wall_fits}
use Rattle.description.proofs.Sums.{sum_next, sum_take}

-- sums of a list whose elements are at most m
sum_most : (m : ℕ) (l : List ℕ) → ((i : ℕ) → i < length l → get_or l i 0 ≤ m) → sum l ≤ m * length l
unfolding sum
sum_most m [] h = omega arith
sum_most m (x ∷ l) h =
    let a = h 0 (omega arith) in
    let r = sum_most m l (λ i j. h (suc i) (omega arith)) in
    omega arith

-- C0 as it is read
factor_range : (c : ℕ) → (c ≡ 0) ⊎ Within 100 200 c → Within 100 200 (factor_read c)
unfolding factor_read
factor_range c x =
    ⊎_elim (λ e. simp (eq-eqb c 0 e) (record { least = omega arith; most = omega arith }))
    (λ w. let n : c ≡ 0 → ⊥ = λ z. omega arith in simp (ne_eqb c 0 n) w)
    x

-- the rules of the silo described are those of the sheet's values
pub described_judged : (asked : Asked) (s : List ℕ) (z : ℕ) → strake_count s ≤ 24
    → described_rules asked (described_of s) (depths_of s) z ≡ value_rules (tells asked) (leb z (V_of s)) s
unfolding described_rules value_rules wall_of h_of
described_judged asked s z h = rw (wall_fits s h).1 refl

module _ (s : List ℕ) where
  -- the edges: 0 at the brim, V at the foot, each below the one before by its strake. C-22 asks for these.
  pub edge_top : edge_of s 0 ≡ 0
  unfolding edge_of sum
  edge_top = refl

  pub edge_next : (k : ℕ) → k < strake_count s → edge_of s (suc k) ≡ edge_of s k + get_or (strakes_of s) k 0
  unfolding edge_of
  edge_next k h = let n = strakes_length s in sum_next (strakes_of s) k (omega arith)

  pub edge_foot : edge_of s (strake_count s) ≡ V_of s
  unfolding edge_of V_of
  edge_foot = ap (λ k. sum (take k (strakes_of s))) (sym (strakes_length s)) ∙ ap sum (take-length (strakes_of s))

  pub edge_most : (k : ℕ) → edge_of s k ≤ V_of s
  unfolding edge_of V_of
  edge_most k = sum_take (strakes_of s) k

  module _ (a : Measured s) where
    pub edge_rises : (k : ℕ) → k < strake_count s → edge_of s k < edge_of s (suc k)
    edge_rises k h =
        let e = edge_next k h in
        let l = a.strakes_range k h in
        omega arith

    -- V is at most 72,000 mm
    pub V_most : V_of s ≤ 72000
    unfolding V_of
    V_most =
        let n = strakes_length s in
        let f = a.layout.strakes_few in
        let m = sum_most 3000 (strakes_of s) (λ i j. (a.strakes_range i (omega arith)).most) in
        omega arith

    -- the grain stands less than ten widths high at the wall
    pub grain_below_ten : V_of s - headroom_of s < 10 * d_c (section_of s)
    unfolding h_of
    grain_below_ten = let h = a.below_ten in omega arith

    -- section and product as they are read
    pub in_range : InRange (section_of s) (grain_of (product_of s))
    unfolding product_of
    in_range =
        let r = a.values.range in
        record { a_in = r.a_in; b_in = r.b_in; γ_in = r.γ_in; Ks_in = r.Ks_in; μ_in = r.μ_in }

    pub factor_in : Within 100 200 (product_of s).factor
    unfolding product_of
    factor_in = factor_range (product_sent s).factor a.values.factor_range

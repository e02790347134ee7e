-- A sheet is not refused exactly when it is `Accepted`: no rule of the chain refuses when each is met, and each rule's test says the
-- inequalities of `Accepted`.
use Prim.Native.Nat.{ℕ, ◌*◌, ◌≤◌, min, max}
use mathlib.Core.Bool.{true, false, ◌&&◌, ◌||◌}
use mathlib.Core.List.{List}
use mathlib.Core.Logic.{◌⊎◌, inl, inr, ⊎_elim}
use mathlib.Core.Path.{◌≡◌, refl, sym, ap, ◌∙◌}
use native.Mathlib.Omega.{arith}
use borrow.Author.Tests.{leb-true, ltb-true, eqb-true, le-leb, lt-ltb, eq-eqb}
use lib.Dec.{leb, ltb, eqb}
use lib.ListN.{length}
use Rattle.janssen.specs.declared.Section.{Section}
use Rattle.janssen.specs.declared.Section.TheVariants.{Circle, Rectangle}
use Rattle.janssen.specs.declared.Product.{Product}
use Rattle.janssen.specs.Section.{side_a, side_b, d_c}
use Rattle.janssen.specs.Filling.{grain_of}
use Rattle.janssen.specs.program.Range.{Within, InRange}
use Rattle.description.specs.declared.Eccentricities.{Eccentricities}
use Rattle.description.specs.declared.Bottom.{Bottom}
use Rattle.records.specs.Rules.{within, first_unmet}
use Rattle.records.specs.Format.{u32, layout_rules}
use Rattle.records.proofs.Tests.{both_true, either_true, either_right, within_true, true_within}
use Rattle.records.proofs.Chain.{met_at, met, apart, skipped}
use Rattle.records.proofs.Numbers.{numbers_length}
use Rattle.description.specs.Silo.{section_of, product_sent, eccentricities_of, bottom_of, strakes_of, depths_of, depth_count, V_of, headroom_of, h_of}
use Rattle.description.proofs.Walls.{strakes_length}
use Rattle.sheet.specs.Refusal.{sides_met, proportion_met, product_met, flat, hopper, value_rules, rules_with, length_refusal, refusal_of}
use Rattle.sheet.specs.Accepted.{Hopper, Measured, Accepted}
use Rattle.sheet.proofs.Heights.{strakes_met_at, at_strakes_met, rising_most, rising_next, next_rising}
use Rattle.records.proofs.Fine.{layout_numbered}
use Rattle.sheet.proofs.Layouts.{layout_of, of_layout}
use Rattle.sheet.proofs.Chains.{accepted_measured, in_proportion}

pub depths_length : (s : List ℕ) → length (depths_of s) ≡ depth_count s
unfolding depths_of
depths_length s = numbers_length (u32 s) 4 _ (depth_count s)

-- a number that passes the test of a range
in_within : (low high x : ℕ) → within low high x ≡ true → Within low high x
in_within low high x h = let p = within_true low high x h in record { least = p.0; most = p.1 }

within_in : {low high x : ℕ} → Within low high x → within low high x ≡ true
within_in {low} {high} {x} w = true_within low high x w.least w.most

-- 6 and 7
range_of : (c : Section) (p : Product) → sides_met c ≡ true → product_met p ≡ true → InRange c (grain_of p) × ((p.factor ≡ 0) ⊎ Within 100 200 p.factor)
unfolding sides_met
range_of c p hs hp =
    let sides = both_true (within 500 50000 (side_a c)) (within 500 50000 (side_b c)) hs in
    let w = within 1000 30000 p.weight in
    let k = within 20 100 p.ratio in
    let m = within 10 100 p.friction in
    let f = eqb p.factor 0 || within 100 200 p.factor in
    let q3 = both_true (w && k && m) f hp in
    let q2 = both_true (w && k) m q3.0 in
    let q1 = both_true w k q2.0 in (
      record {
        a_in = in_within 500 50000 (side_a c) sides.0;
        b_in = in_within 500 50000 (side_b c) sides.1;
        γ_in = in_within 1000 30000 p.weight q1.0;
        Ks_in = in_within 20 100 p.ratio q1.1;
        μ_in = in_within 10 100 p.friction q2.1;
      },
      ⊎_elim (λ e. inl (eqb-true p.factor 0 e)) (λ e. inr (in_within 100 200 p.factor e)) (either_true (eqb p.factor 0) (within 100 200 p.factor) q3.1),
    )

of_sides : (c : Section) (p : Product) → InRange c (grain_of p) → sides_met c ≡ true
unfolding sides_met
of_sides c p i = simp (within_in i.a_in, within_in i.b_in)

-- 20
proportion_of : (c : Section) → proportion_met c ≡ true → (a b : ℕ) → c ≡ Rectangle a b → max a b ≤ 3 * min a b
unfolding proportion_met
proportion_of c h a b e = leb-true (max a b) (3 * min a b) (sym (ap proportion_met e) ∙ h)

of_proportion : (c : Section) → ((a b : ℕ) → c ≡ Rectangle a b → max a b ≤ 3 * min a b) → proportion_met c ≡ true
unfolding proportion_met
of_proportion (Circle d) h = refl
of_proportion (Rectangle a b) h = le-leb (max a b) (3 * min a b) (h a b refl)

of_factor : (c : ℕ) → (c ≡ 0) ⊎ Within 100 200 c → (eqb c 0 || within 100 200 c) ≡ true
of_factor c x = ⊎_elim (λ e. simp (eq-eqb c 0 e)) (λ w. either_right (eqb c 0) (within 100 200 c) (within_in w)) x

of_product : (c : Section) (p : Product) → InRange c (grain_of p) → (p.factor ≡ 0) ⊎ Within 100 200 p.factor → product_met p ≡ true
of_product c p i x = simp (within_in i.γ_in, within_in i.Ks_in, within_in i.μ_in, of_factor p.factor x)

-- 9
hopper_of : (dc : ℕ) (b : Bottom) → hopper dc b ≡ true → Hopper dc b
hopper_of dc b h =
    let some = leb 1 b.run in
    let narrow = ltb (2 * b.run) dc in
    let low = leb b.height 25000 in
    let p = both_true (some && narrow && low) (leb (363971 * b.run) (1000000 * b.height)) h in
    let q = both_true (some && narrow) low p.0 in
    let r = both_true some narrow q.0 in
    record {
      run_some = leb-true 1 b.run r.0;
      run_narrow = ltb-true (2 * b.run) dc r.1;
      height_most = leb-true b.height 25000 q.1;
      steep = leb-true (363971 * b.run) (1000000 * b.height) p.1;
    }

bottom_shape : (dc : ℕ) (b : Bottom) → (flat b || hopper dc b) ≡ true → ((b.height ≡ 0) × (b.run ≡ 0)) ⊎ Hopper dc b
bottom_shape dc b h =
    ⊎_elim
    (λ f. let p = both_true (eqb b.height 0) (eqb b.run 0) f in inl (eqb-true b.height 0 p.0, eqb-true b.run 0 p.1))
    (λ f. inr (hopper_of dc b f))
    (either_true (flat b) (hopper dc b) h)

of_bottom : (dc : ℕ) (b : Bottom) → ((b.height ≡ 0) × (b.run ≡ 0)) ⊎ Hopper dc b → (flat b || hopper dc b) ≡ true
of_bottom dc b x =
    ⊎_elim (λ p. simp (eq-eqb b.height 0 p.0, eq-eqb b.run 0 p.1))
    (λ h.
    either_right (flat b) (hopper dc b)
    (simp (
      le-leb 1 b.run h.run_some,
      lt-ltb (2 * b.run) dc h.run_narrow,
      le-leb b.height 25000 h.height_most,
      le-leb (363971 * b.run) (1000000 * b.height) h.steep,
    )))
    x

module _ (s : List ℕ) where
  abbrev dc : ℕ
  dc = d_c (section_of s)

  abbrev e : Eccentricities
  e = eccentricities_of s

  -- not refused where a length is asked for: measured
  pub measured : length_refusal s ≡ 0 → Measured s
  unfolding length_refusal rules_with value_rules
  measured h =
      let values = value_rules true true s in
      let parts = apart values (layout_rules s) (layout_numbered s) h in
      let m : (i : ℕ) → met_at values i ≡ true = met values refl parts.1 in
      let ranges = range_of (section_of s) (product_sent s) (m 0) (m 2) in
      let central = both_true (leb (4 * e.inlet) dc) (leb (4 * e.outlet) dc) (m 3) in
      let n = strakes_length s in
      let d = depths_length s in
      record {
        layout = layout_of s parts.0;
        values =
            record {
              range = ranges.0;
              factor_range = ranges.1;
              inlet_most = leb-true (4 * e.inlet) dc central.0;
              outlet_most = leb-true (4 * e.outlet) dc central.1;
              bottom_shape = bottom_shape dc (bottom_of s) (m 4);
            };
        strakes_range = λ i j. let p = strakes_met_at (strakes_of s) (m 5) i (omega arith) in record { least = p.0; most = p.1 };
        depths_most = λ i j. rising_most (V_of s) 0 (depths_of s) (m 6) i (omega arith);
        depths_rise = λ i j. rising_next (V_of s) 0 (depths_of s) (m 6) i (omega arith);
        headroom_less = ltb-true (headroom_of s) (V_of s) (m 7);
        below_ten = ltb-true (h_of s) (10 * dc) (m 8);
      }

  -- measured: not refused where a length is asked for
  pub length_told : Measured s → length_refusal s ≡ 0
  unfolding length_refusal rules_with first_unmet value_rules
  length_told a =
      let c = section_of s in
      let v = a.values in
      let n = strakes_length s in
      let d = depths_length s in
      skipped _ (layout_rules s) (layout_numbered s) (of_layout s a.layout)
      ∙ simp (
        of_sides c (product_sent s) v.range,
        of_product c (product_sent s) v.range v.factor_range,
        le-leb (4 * e.inlet) dc v.inlet_most,
        le-leb (4 * e.outlet) dc v.outlet_most,
        of_bottom dc (bottom_of s) v.bottom_shape,
        at_strakes_met (strakes_of s) (λ i j. let w = a.strakes_range i (omega arith) in (w.least, w.most)),
        next_rising (V_of s) 0 (depths_of s) (λ j. omega arith) (λ i j. a.depths_most i (omega arith)) (λ i j. a.depths_rise i (omega arith)),
        lt-ltb (headroom_of s) (V_of s) a.headroom_less,
        lt-ltb (h_of s) (10 * dc) a.below_ten,
      )

  -- not refused where loads are asked for: accepted
  pub accepted : refusal_of s ≡ 0 → Accepted s
  unfolding refusal_of rules_with value_rules
  accepted h =
      let values = (apart (value_rules false true s) (layout_rules s) (layout_numbered s) h).1 in
      record {
        measured = measured (accepted_measured s h);
        proportion = proportion_of (section_of s) (met (value_rules false true s) refl values 1);
      }

  -- accepted: not refused where loads are asked for
  pub not_refused : Accepted s → refusal_of s ≡ 0
  not_refused a = in_proportion s (of_proportion (section_of s) a.proportion) ∙ length_told a.measured

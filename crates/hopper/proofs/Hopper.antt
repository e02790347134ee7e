-- The hopper's loads: each fits its type, never falls when its pressure grows, and keeps its allowance. Upper side: the formulas keep the
-- order, and rounding goes up. Lower side, at v = p_vf - 2 and u = n3 - 13/3: 1.2cos²α + sin²α·k/4 is at most 1.2, so P_n is less than
-- 13/3 + 2.4 + 1 = 116/15 above, and P_t less than 1.15·116/15 + 1 < 10, since μ is at most 1.
use Prim.Native.Nat.{ℕ, ◌+◌, ◌-◌, ◌*◌, ◌^◌, ◌≤◌, ◌<◌}
use mathlib.Core.Path.{◌≡◌, ap, ◌∙◌}
use native.Mathlib.Omega.{arith}
use native.Mathlib.Nat.{mul-le-mul, mul-le-mul_left, mul-le-mul_right, mul-pos, mul-lt-mul_of_pos_right}
use Rattle.fraction.specs.Fraction.{Fraction, ◌⊘◌, whole, ◌⊕◌, ◌⊗◌, ◌⪯◌, ◌≺◌, up}
use Rattle.fraction.proofs.Order.{⪯_refl, ⪯_trans, ⊕_mono, ⊗_mono}
use Rattle.fraction.proofs.Up.{up_lt, up_le, up_mono, up_above, up_same, up_nest}
use Rattle.janssen.specs.declared.Section.{Section}
use Rattle.janssen.specs.Section.{R, side_a, side_b}
use Rattle.janssen.specs.Filling.{Grain}
use Rattle.janssen.specs.program.Range.{InRange}
use Rattle.allowance.specs.Allowance.{Lower, Allowance}
use Rattle.allowance.proofs.LowerLaws.{Filled}
use Rattle.allowance.proofs.Rounding.{wholes}
use Rattle.hopper.specs.Hopper.{base, squared, share, hopper_normal, hopper_friction, B, n3, P_n, P_t, Low, LowerHopper}
use Rattle.hopper.proofs.Root.{root_above, root_near}

-- H² + r² is positive
squares_pos : (H r : ℕ) → 0 < r → 0 < H * H + r * r
squares_pos H r hr = omega (arith, mul-pos hr hr)

-- the share of p_vf is proper and at most 1.2
share_proper : (H r k : ℕ) → 0 < r → 0 < (share H r k).bottom
share_proper H r k hr = let t = squares_pos H r hr in mul-pos {m = 10 * (H * H + r * r)} (omega arith) (omega arith)

share_most : (H r k : ℕ) → k ≤ 4 → 10 * (share H r k).top ≤ 12 * (share H r k).bottom
share_most H r k hk = omega (arith, mul-le-mul_right (H * H * (H * H + r * r)) hk)

-- a division by d and then by H² + r²
pub nested : (x top rise across n d H r : ℕ) → x ≡ up (top ⊘ (rise + across)) → top ≡ up ((n * (H * H)) ⊘ d) → rise ≡ H * H →
    across ≡ r * r → 0 < d → 0 < r → x ≡ up ((n * (H * H)) ⊘ (d * (H * H + r * r)))
nested x top rise across n d H r e et eh er hd hr =
    e ∙ rw (et, eh, er) (up_nest (n * (H * H)) d (H * H + r * r) hd (squares_pos H r hr))

-- B as the program divides
pub base_divided : (s : Section) (p : Grain) (H r : ℕ) → 0 < side_a s → 0 < r →
    up ((69 * side_a s * side_b s * (p.weight * p.ratio) * (H * H)) ⊘ (4000000 * (side_a s + side_b s) * (H * H + r * r))) ≡ B s p H r
unfolding B R
base_divided s p H r ha hr =
    let a : ℕ = side_a s in
    let b : ℕ = side_b s in
    let t : ℕ = H * H + r * r in
    up_same
    (69 * a * b * (p.weight * p.ratio) * (H * H))
    (4000000 * (a + b) * t)
    (3 * (a * b * 1000000) * p.weight * 115 * p.ratio * (H * H))
    (1 * (1000000 * (2 * (a * 1000 + b * 1000))) * 1 * 100 * 100 * t)
    (mul-pos {m = 4000000 * (a + b)} (omega arith) (squares_pos H r hr))
    (mul-pos {m = 1 * (1000000 * (2 * (a * 1000 + b * 1000))) * 1 * 100 * 100} (omega arith) (squares_pos H r hr))
    (omega arith)

pub base_proper : (s : Section) (p : Grain) (H r : ℕ) → InRange s p → 0 < r → 0 < (base s p H r).bottom
unfolding R
base_proper s p H r range hr =
    mul-pos
    {m = 1 * (1000000 * (2 * (side_a s * 1000 + side_b s * 1000))) * 1 * 100 * 100}
    (omega (arith, range.a_in.least))
    (squares_pos H r hr)

-- ranges
pub B_range : (s : Section) (p : Grain) (H r : ℕ) → InRange s p → 0 < r → B s p H r ≤ 2587500
B_range s p H r range hr =
    let a : ℕ = side_a s in
    let b : ℕ = side_b s in
    let t : ℕ = H * H + r * r in
    let sides : a * b ≤ (a + b) * 50000 = omega (arith, mul-le-mul_left a range.b_in.most) in
    let stored : p.weight * p.ratio ≤ 3000000 = mul-le-mul range.γ_in.most range.Ks_in.most in
    let height : H * H ≤ t = omega arith in
    rw (← base_divided s p H r (omega (arith, range.a_in.least)) hr)
    (up_le
    (69 * a * b * (p.weight * p.ratio) * (H * H))
    (4000000 * (a + b) * t)
    2587500
    (mul-pos {m = 4000000 * (a + b)} (omega (arith, range.a_in.least)) (squares_pos H r hr))
    (omega (arith, mul-le-mul (mul-le-mul sides stored) height)))

-- the answer for the sides a and b
pub base_answer : (s : Section) (p : Grain) (H r a b x : ℕ) → InRange s p → 0 < r → side_a s ≡ a → side_b s ≡ b →
    x ≡ up ((69 * a * b * (p.weight * p.ratio) * (H * H)) ⊘ (4000000 * (a + b) * (H * H + r * r))) →
    (x ≡ B s p H r) × (x ≤ 2587500)
base_answer s p H r a b x range hr ea eb e =
    let same : x ≡ B s p H r = (rw (← ea, ← eb) at e) ∙ base_divided s p H r (omega (arith, range.a_in.least)) hr in
    (same, omega (arith, B_range s p H r range hr))

pub P_n_range : (H r k n p : ℕ) → 0 < r → k ≤ 4 → n ≤ 10350000 → p < 2 ^ 25 → P_n H r k n p ≤ 2 ^ 26
unfolding P_n
P_n_range H r k n p hr hk hn hp =
    let g : Fraction = share H r k in
    let most : p ≤ 2 ^ 25 = omega arith in
    omega (
      arith,
      up_le (p * g.top) (1 * g.bottom) 40265319 (omega (arith, share_proper H r k hr))
          (omega (arith, mul-le-mul_right g.top most, share_most H r k hk)),
    )

-- P_n as the program divides
pub P_n_divided : (H r k n p rise across : ℕ) → rise ≡ H * H → across ≡ r * r → 0 < r →
    n + up ((p * (24 * across + 5 * k * rise)) ⊘ (20 * (rise + across))) ≡ P_n H r k n p
unfolding P_n
P_n_divided H r k n p rise across eh er hr =
    let t : 0 < H * H + r * r = squares_pos H r hr in
    rw (eh, er)
    (ap (λ (x : ℕ). n + x)
    (up_same (p * (24 * (r * r) + 5 * k * (H * H))) (20 * (H * H + r * r)) (p * (share H r k).top) (1 * (share H r k).bottom) (omega arith)
    (omega (arith, share_proper H r k hr)) (omega arith)))

pub P_t_range : (μ n : ℕ) → μ ≤ 100 → n ≤ 2 ^ 26 → P_t μ n ≤ 2 ^ 27
unfolding P_t
P_t_range μ n hm hn = up_le (n * 115 * μ) 10000 (2 ^ 27) (omega arith) (omega (arith, mul-le-mul_left n hm))

-- never falling: what C-23 asks of P_n and P_t rests on these
pub P_n_mono : (H r k n : ℕ) {p p' : ℕ} → 0 < r → p ≤ p' → P_n H r k n p ≤ P_n H r k n p'
unfolding P_n
P_n_mono H r k n hr h =
    omega (arith, up_mono (⊗_mono (wholes h) (⪯_refl (share H r k) (share_proper H r k hr))))

friction_order : (μ : ℕ) {v w : Fraction} → v ⪯ w → hopper_friction μ v ⪯ hopper_friction μ w
friction_order μ h = ⊗_mono (⊗_mono h (⪯_refl (115 ⊘ 100) (omega arith))) (⪯_refl (μ ⊘ 100) (omega arith))

pub P_t_mono : (μ : ℕ) {n n' : ℕ} → n ≤ n' → P_t μ n ≤ P_t μ n'
unfolding P_t
P_t_mono μ h = up_mono (friction_order μ (wholes h))

-- P_n and P_t from above
pn_above : (H r k n p : ℕ) (v u : Fraction) → 0 < r → v ⪯ whole p → u ⪯ whole n →
    hopper_normal H r k v u ⪯ whole (P_n H r k n p)
unfolding P_n
pn_above H r k n p v u hr hv hu =
    let g : Fraction = share H r k in
    let x : Fraction = whole p ⊗ g in
    let proper : 0 < g.bottom = share_proper H r k hr in
    let rounded : v ⊗ g ⪯ whole (up x) = ⪯_trans (⊗_mono hv (⪯_refl g proper)) (up_above x (omega arith)) in
    let sum : whole n ⊕ whole (up x) ⪯ whole (n + up x) = record { left = omega arith; right = omega arith; order = omega arith } in
    ⪯_trans (⊕_mono hu rounded) sum

pt_above : (μ n : ℕ) (v : Fraction) → v ⪯ whole n → hopper_friction μ v ⪯ whole (P_t μ n)
unfolding P_t
pt_above μ n v h = ⪯_trans (friction_order μ h) (up_above (hopper_friction μ (whole n)) (omega arith))

-- what P_n = x loses in all, for a share of t/b: less than 116/15
abbrev Loss : ℕ → ℕ → ℕ → ℕ → ℕ → Type 0
Loss n v t b x = 15 * b * x < 5 * ((3 * n - 13) * b) + 15 * (v * t) + 116 * b

pn_loss : (H r k n p v : ℕ) → 0 < r → k ≤ 4 → p ≤ v + 2 → Loss n v (share H r k).top (share H r k).bottom (P_n H r k n p)
unfolding P_n
pn_loss H r k n p v hr hk hp = lost (share H r k).top (share H r k).bottom (share_proper H r k hr) (share_most H r k hk)
  where
    lost : (t b : ℕ) → 0 < b → 10 * t ≤ 12 * b → Loss n v t b (n + up ((p * t) ⊘ (1 * b)))
    lost t b hb h =
        let root : 3 * n ≤ 3 * n - 13 + 13 = omega arith in
        omega (arith, mul-le-mul_right b root, mul-le-mul_right t hp, up_lt (p * t) (1 * b) (omega arith))

pn_near : (H r k n p v : ℕ) → 0 < r → k ≤ 4 → p ≤ v + 2 →
    whole (P_n H r k n p) ≺ hopper_normal H r k (whole v) ((3 * n - 13) ⊘ 3) ⊕ whole 8
pn_near H r k n p v hr hk hp =
    sized (share H r k).top (share H r k).bottom (P_n H r k n p) (share_proper H r k hr) (pn_loss H r k n p v hr hk hp)
  where
    sized : (t b x : ℕ) → 0 < b → Loss n v t b x →
        whole x ≺ ((3 * n - 13) ⊘ 3 ⊕ whole v ⊗ (t ⊘ b)) ⊕ whole 8
    sized t b x hb h = record { left = omega arith; right = omega arith; order = omega arith }

pt_near : (μ H r k n p v : ℕ) → μ ≤ 100 → 0 < r → k ≤ 4 → p ≤ v + 2 →
    whole (P_t μ (P_n H r k n p)) ≺ hopper_friction μ (hopper_normal H r k (whole v) ((3 * n - 13) ⊘ 3)) ⊕ whole 10
unfolding P_t
pt_near μ H r k n p v hm hr hk hp =
    sized (share H r k).top (share H r k).bottom (P_n H r k n p) (share_proper H r k hr) (pn_loss H r k n p v hr hk hp)
  where
    sized : (t b x : ℕ) → 0 < b → Loss n v t b x →
        whole (up ((x * 115 * μ) ⊘ 10000)) ≺ hopper_friction μ ((3 * n - 13) ⊘ 3 ⊕ whole v ⊗ (t ⊘ b)) ⊕ whole 10
    sized t b x hb h =
        let y : up ((x * 115 * μ) ⊘ 10000) * 10000 < x * 115 * μ + 10000 = up_lt (x * 115 * μ) 10000 (omega arith) in
        record {
          left = omega arith;
          right = omega arith;
          order = omega (arith, mul-lt-mul_of_pos_right {k = 3 * b} y (omega arith), mul-le-mul_left (23 * μ) h, mul-le-mul_right b hm);
        }

-- allowances, for p_vf = x at the wall's foot
module _ {P q : Fraction} (s : Section) (p : Grain) (H r k x : ℕ) (range : InRange s p) (hr : 0 < r) (hk : k ≤ 4) (fill : Filled P q x) where
  lowest : Low
  lowest = record { v = whole (x - 2); u = (3 * n3 p.friction (B s p H r) - 13) ⊘ 3 }

  lowest_lower : LowerHopper (Lower P q) p.friction (base s p H r) lowest
  unfolding lowest B
  lowest_lower = record {
    pressure = fill.near;
    root = root_near p.friction (base s p H r) range.μ_in.least (base_proper s p H r range hr);
  }

  n3_above : (u : Fraction) → squared p.friction u ⪯ base s p H r ⊗ base s p H r → u ⪯ whole (n3 p.friction (B s p H r))
  unfolding B
  n3_above u h =
      root_above p.friction (B s p H r) (base s p H r) u range.μ_in.least (up_above (base s p H r) (base_proper s p H r range hr)) h

  pub P_n_allowance :
      Allowance (LowerHopper (Lower P q) p.friction (base s p H r)) (λ l. hopper_normal H r k l.v l.u) 8
      (P_n H r k (n3 p.friction (B s p H r)) x)
  unfolding lowest
  P_n_allowance = record {
    at_or_above = λ l low. pn_above H r k _ x l.v l.u hr (fill.over l.v low.pressure) (n3_above l.u low.root);
    less_above = (lowest, lowest_lower, pn_near H r k (n3 p.friction (B s p H r)) x (x - 2) hr hk (omega arith));
  }

  pub P_t_allowance :
      Allowance (LowerHopper (Lower P q) p.friction (base s p H r)) (λ l. hopper_friction p.friction (hopper_normal H r k l.v l.u))
      10 (P_t p.friction (P_n H r k (n3 p.friction (B s p H r)) x))
  unfolding lowest
  P_t_allowance = record {
    at_or_above = λ l low. pt_above p.friction _ _ (P_n_allowance.at_or_above l low);
    less_above =
        let n : ℕ = n3 p.friction (B s p H r) in
        (lowest, lowest_lower, pt_near p.friction H r k n x (x - 2) range.μ_in.most hr hk (omega arith));
  }

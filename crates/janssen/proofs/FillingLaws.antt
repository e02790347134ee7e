-- The filling pressures, one theorem over the kind of pressure: inside the band of 65/64 Pa (`filling_band`) and so of 2 Pa
-- (`filling_band_two`), 0 at the surface, never falling with depth (`filling_rises`) nor with γ (`filling_heavier`).
-- Q/2^33 is at or above q and close to it, so `decay` lies below 2^40·e^(-q) and 512 more reaches it; the rest is rounding.
use Prim.Native.Nat.{ℕ, ◌+◌, ◌-◌, ◌*◌, ◌^◌, ◌≤◌, ◌<◌}
use mathlib.Core.Path.{◌≡◌, refl, ap, ap₂, ◌∙◌}
use native.Mathlib.Omega.{arith}
use native.Mathlib.Nat.{mul-le-mul_right, le_of_mul-le-mul_right, mul-le-mul, sub-le-sub_left}
use Rattle.fraction.specs.Fraction.{Fraction, ◌⊘◌, whole, ◌⪯◌, up}
use Rattle.fraction.proofs.Order.{compare, ⪯_refl, ⪯_trans, ⊕_mono, ⊗_mono}
use Rattle.fraction.proofs.Up.{up_ge, up_lt, up_le, up_mono, up_zero}
use Rattle.exponential.specs.Series.{S}
use Rattle.exponential.specs.program.Lower.{Below, lower}
use Rattle.exponential.proofs.Terms.{S_positive}
use Rattle.exponential.proofs.LowerLaws.{Reaches, lower_below, lower_reaches, lower_falls, lower_zero, lower_le, below_anti}
use Rattle.janssen.specs.declared.Section.{Section}
use Rattle.janssen.specs.Section.{R}
use Rattle.janssen.specs.Filling.{Grain, Kind, factors, q, z0, P, γR, Ks, μ}
use Rattle.janssen.specs.Filling.Kind.{horizontal, vertical, wall_friction}
use Rattle.janssen.specs.Band.{FillingBand}
use Rattle.janssen.specs.program.Range.{InRange, InDepth}
use Rattle.janssen.specs.program.Pressure.{step, limit, decay_by, decay, pressure, filling_by, filling}
use Rattle.janssen.proofs.Rounding.{rounded_above, rounded_close}
use Rattle.janssen.proofs.Geometry.{q_bottom, q_top, q_bottom_pos, q_pos, q_is, q_small, P_pos, P_small, P_most, most, R_pos}
use Rattle.janssen.proofs.Argument.{argument_above, argument_close, argument_small, argument_rises}

module _ (k : Kind) (s : Section) (p : Grain) (i : InRange s p) where
  abbrev a₁ : ℕ
  a₁ = (q (factors k) s p 1).top

  abbrev b₁ : ℕ
  b₁ = (q (factors k) s p 1).bottom

  pub step_above : a₁ * 2 ^ 55 ≤ step (factors k) s p * b₁
  unfolding step
  step_above = omega (arith, up_ge (a₁ * 2 ^ 55) (b₁ * 1) (omega (arith, q_pos s p i k 1)))

  pub step_close : step (factors k) s p * b₁ < a₁ * 2 ^ 55 + b₁
  unfolding step
  step_close = omega (arith, up_lt (a₁ * 2 ^ 55) (b₁ * 1) (omega (arith, q_pos s p i k 1)))

  q_scales : (z : ℕ) → ((q (factors k) s p z).top ≡ z * a₁) × ((q (factors k) s p z).bottom ≡ b₁)
  unfolding q
  q_scales z = (omega arith, refl)

  module _ (z : ℕ) (d : InDepth s z) where
    abbrev Q : ℕ
    Q = up ((z * step (factors k) s p) ⊘ 2 ^ 22)

    -- q is at most 52.9
    pub q_under : 10 * (z * a₁) ≤ 529 * b₁
    q_under =
        le_of_mul-le-mul_right {k = q_bottom s}
        (omega (
          arith,
          q_is s p i k z,
          mul-le-mul_right b₁ (q_small s p i k z d),
          ap (λ (x : ℕ). z * q_top k s p * x) (q_scales z).1,
          ap (λ (x : ℕ). x * q_bottom s) (q_scales z).0,
        ))
        (q_bottom_pos s p i)

    pub Q_small : Q < 53 * 2 ^ 33
    Q_small = argument_small a₁ b₁ z (step (factors k) s p) (q_pos s p i k 1) step_close d.wall q_under

    pub decay_below : Below (decay (step (factors k) s p) z) (q (factors k) s p z)
    unfolding decay_by
    decay_below =
        below_anti (lower Q)
        (record {
          left = q_pos s p i k z;
          right = omega arith;
          order =
              omega
              (arith, q_scales z, ap (λ (x : ℕ). Q * x) (q_scales z).1, argument_above a₁ b₁ z (step (factors k) s p) (q_pos s p i k 1) step_above);
        })
        (lower_below Q Q_small)

    pub decay_reaches : Reaches (decay (step (factors k) s p) z + 512) (q (factors k) s p z)
    unfolding decay_by
    decay_reaches =
        let e = ap (λ (x : ℕ). Q * x) (q_scales z).1 in
        lower_reaches Q Q_small (q (factors k) s p z).top (q (factors k) s p z).bottom (q_pos s p i k z)
        (omega (arith, q_scales z, argument_above a₁ b₁ z (step (factors k) s p) (q_pos s p i k 1) step_above))
        (omega (arith, q_scales z, argument_close a₁ b₁ z (step (factors k) s p) (q_pos s p i k 1) step_close d.wall))

    pub decay_most : decay (step (factors k) s p) z ≤ 2 ^ 40
    unfolding decay_by
    decay_most = lower_le Q Q_small

pub decay_surface : (step : ℕ) → decay step 0 ≡ 2 ^ 40
unfolding decay_by
decay_surface step =
    let e : 0 * step ≡ 0 = omega arith in
    ap (λ (x : ℕ). lower (up (x ⊘ 2 ^ 22))) e ∙ ap lower (up_zero (2 ^ 22) (omega arith)) ∙ lower_zero

pub filling_surface : (k : Kind) (s : Section) (p : Grain) → filling k s p 0 ≡ 0
unfolding filling_by pressure
filling_surface k s p =
    let e : limit k s p * (2 ^ 40 - decay (step (factors k) s p) 0) ≡ 0 =
    ap (λ (x : ℕ). limit k s p * (2 ^ 40 - x)) (decay_surface (step (factors k) s p)) ∙ omega arith in
    ap (λ (x : ℕ). up (x ⊘ 2 ^ 51)) e ∙ up_zero (2 ^ 51) (omega arith)

-- inside the band of 65/64 Pa
pub filling_band : (k : Kind) (s : Section) (p : Grain) (z : ℕ) → InRange s p → InDepth s z →
    FillingBand (65 ⊘ 64) k s p z (filling k s p z)
unfolding filling_by pressure limit
filling_band k s p z i d =
    let E : ℕ = decay (step (factors k) s p) z in
    let r = decay_reaches k s p i z d in
    record {
      above =
          λ n.
          rounded_above (P k s p) (S n (q (factors k) s p z)) E (P_pos s p i k) (S_positive n (q (factors k) s p z) (q_pos s p i k z))
          (decay_most k s p i z d)
          (decay_below k s p i z d n);
      close =
          λ h. (
            r.0,
            rounded_close (P k s p) (S r.0 (q (factors k) s p z)) E (P_pos s p i k)
                (S_positive r.0 (q (factors k) s p z) (q_pos s p i k z))
                (decay_most k s p i z d)
                r.1
                (P_small s p i k),
          );
      surface = λ e. rw e (filling_surface k s p);
    }

-- a wider band holds too
pub filling_wider : {w w' : Fraction} {k : Kind} {s : Section} {p : Grain} {z pressure : ℕ} → w ⪯ w' → InRange s p →
    FillingBand w k s p z pressure → FillingBand w' k s p z pressure
filling_wider {w} {w'} {k} {s} {p} {z} h i b = record {
  above = b.above;
  close =
      λ o.
      let c = b.close o in (
        c.0,
        ⪯_trans c.1
            (⊗_mono (⊕_mono (⪯_refl (P k s p) (P_pos s p i k)) h)
            (⪯_refl (S c.0 (q (factors k) s p z)) (S_positive c.0 (q (factors k) s p z) (q_pos s p i k z)))),
      );
  surface = b.surface;
}

pub filling_band_two : (k : Kind) (s : Section) (p : Grain) (z : ℕ) → InRange s p → InDepth s z →
    FillingBand (whole 2) k s p z (filling k s p z)
filling_band_two k s p z i d =
    filling_wider (record { left = omega arith; right = omega arith; order = omega arith }) i (filling_band k s p z i d)

-- a pressure rises with P and falls with e^(-q)
pub pressure_mono : (L L' E E' : ℕ) → L ≤ L' → E' ≤ E → pressure L E ≤ pressure L' E'
unfolding pressure
pressure_mono L L' E E' hL hE =
    up_mono
    (record {
      left = omega arith;
      right = omega arith;
      order = mul-le-mul_right (2 ^ 51) (mul-le-mul hL (sub-le-sub_left hE (2 ^ 40)));
    })

-- a greater depth never has the smaller pressure
pub filling_rises : (k : Kind) (s : Section) (p : Grain) (z z' : ℕ) → InRange s p → InDepth s z' → z ≤ z' →
    filling k s p z ≤ filling k s p z'
unfolding filling_by decay_by
filling_rises k s p z z' i d h =
    pressure_mono (limit k s p) (limit k s p) _ _ (omega arith)
    (lower_falls _ _ (argument_rises z z' (step (factors k) s p) h) (Q_small k s p i z' d))

-- bounds: what each number can be at most
pub limit_most : (k : Kind) (s : Section) (p : Grain) → InRange s p → limit k s p ≤ most k * 2 ^ 11
unfolding limit
limit_most k s p i =
    up_le ((P k s p).top * 2 ^ 11) ((P k s p).bottom * 1) (most k * 2 ^ 11) (omega (arith, P_pos s p i k)) (omega (arith, P_most s p i k))

-- a heavier product, otherwise alike, never has the smaller pressure: what C-23 asks rests on this
module _ (s : Section) (p p' : Grain) (i : InRange s p) (i' : InRange s p') (Ks_same : p.ratio ≡ p'.ratio) (μ_same : p.friction ≡ p'.friction)
    (heavier : p.weight ≤ p'.weight) where
  γR_mono : γR s p ⪯ γR s p'
  unfolding γR
  γR_mono = ⊗_mono (record { left = omega arith; right = omega arith; order = omega arith }) (⪯_refl (R s) (R_pos s p i))

  step_same : (k : Kind) → step (factors k) s p ≡ step (factors k) s p'
  unfolding step q z0 Ks μ
  step_same k = rw (Ks_same, μ_same)

  P_mono : (k : Kind) → P k s p ⪯ P k s p'
  unfolding P Ks μ
  P_mono horizontal =
      ⊗_mono γR_mono
      (compare {a = 10000} {b = 90 * p.friction} {c = 10000} {d = 90 * p'.friction} (omega (arith, i.μ_in.least))
      (omega (arith, i'.μ_in.least))
      (omega arith))
  P_mono vertical =
      let e : p.friction * p.ratio ≡ p'.friction * p'.ratio = ap₂ (λ (x y : ℕ). x * y) μ_same Ks_same in
      ⊗_mono γR_mono
      (compare {a = 100000000} {b = 90 * p.friction * (90 * p.ratio)} {c = 100000000} {d = 90 * p'.friction * (90 * p'.ratio)}
      (omega (arith, mul-le-mul i.μ_in.least i.Ks_in.least))
      (omega (arith, mul-le-mul i'.μ_in.least i'.Ks_in.least))
      (omega arith))
  P_mono wall_friction = γR_mono

  limit_mono : (k : Kind) → limit k s p ≤ limit k s p'
  unfolding limit
  limit_mono k = up_mono (⊗_mono (P_mono k) (⪯_refl (whole (2 ^ 11)) (omega arith)))

  pub filling_heavier : (k : Kind) (z : ℕ) → filling k s p z ≤ filling k s p' z
  unfolding filling_by
  filling_heavier k z = rw (step_same k) (pressure_mono (limit k s p) (limit k s p') _ _ (limit_mono k) (omega arith))

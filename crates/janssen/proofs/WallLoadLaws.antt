-- P_w lies in its band (`wall_load_band`).
-- At or above: 2^40 - C reaches 2^40·e^(-q), since C is at most 2^40 - E - 512, or 0. Less than 2 above: E lies below 2^40·e^(-q); where the
-- rounded z0·(1 - e^(-q)) would pass z, the load is 0, and the series grows no faster than its q-fold.
use Prim.Native.Nat.{ℕ, ◌+◌, ◌-◌, ◌*◌, ◌/◌, ◌^◌, ◌≤◌, ◌<◌}
use mathlib.Core.Path.{◌≡◌, refl, ap, ◌∙◌}
use native.Mathlib.Omega.{arith}
use native.Mathlib.Decide.{dec_le}
use native.Mathlib.Nat.{mul-le-mul_left, mul-pos, div-mul-le_self, lt-div-mul-add, le_of_mul-le-mul_right}
use Rattle.fraction.specs.Fraction.{Fraction, ◌⊘◌, whole, ◌⊕◌, ◌⊗◌, ◌⪯◌, up}
use Rattle.fraction.proofs.Order.{compare, ⪯_refl, ⪯_trans, ⊗_mono}
use Rattle.fraction.proofs.Up.{up_ge, up_lt, up_zero}
use Rattle.exponential.specs.Series.{S}
use Rattle.exponential.proofs.Terms.{S_positive}
use Rattle.exponential.proofs.SeriesLaws.{S_one}
use Rattle.exponential.proofs.LowerLaws.{Reaches}
use Rattle.janssen.specs.declared.Section.{Section}
use Rattle.janssen.specs.Section.{metres}
use Rattle.janssen.specs.Filling.{Grain, q, z0, P, γR, D, N, factors}
use Rattle.janssen.specs.Filling.Kind.{wall_friction}
use Rattle.janssen.specs.Band.{WallLoadBand}
use Rattle.janssen.specs.program.Range.{InRange, InDepth}
use Rattle.janssen.specs.program.Pressure.{step, limit, decay, z0_scaled, least_gone, loaded_depth, load, wall_load_by, wall_load}
use Rattle.janssen.proofs.Geometry.{q_pos, γR_pos, γR_most, z0_pos, D_most}
use Rattle.janssen.proofs.Growth.{S_growth}
use Rattle.janssen.proofs.FillingLaws.{decay_below, decay_reaches, decay_most}
use Rattle.janssen.proofs.WallLoadRounding.{load_above, load_close}

-- from the whole-number comparisons to those of document 01, for γR = g and z0 = d
module _ (g d S : Fraction) (z w : ℕ) (gB : 0 < g.bottom) (dB : 0 < d.bottom) (SB : 0 < S.bottom) where
  above_⪯ : g.top * d.top * 1000 * S.bottom + g.top * z * d.bottom * S.top ≤
      (w * g.bottom * d.bottom * 1000 + g.top * d.top * 1000) * S.top →
      g ⊗ d ⊕ g ⊗ metres z ⊗ S ⪯ (whole w ⊕ g ⊗ d) ⊗ S
  above_⪯ h = record {
    left = mul-pos (mul-pos gB dB) (mul-pos (mul-pos gB (omega arith)) SB);
    right = mul-pos (mul-pos (omega arith) (mul-pos gB dB)) SB;
    order = omega (arith, mul-le-mul_left (g.bottom * g.bottom * d.bottom * S.bottom) h);
  }

  close_⪯ : (w * g.bottom * d.bottom * 1000 + g.top * d.top * 1000) * S.top ≤
      g.top * d.top * 1000 * S.bottom + (g.top * z * d.bottom + 2 * g.bottom * d.bottom * 1000) * S.top →
      (whole w ⊕ g ⊗ d) ⊗ S ⪯ g ⊗ d ⊕ (g ⊗ metres z ⊕ whole 2) ⊗ S
  close_⪯ h = record {
    left = mul-pos (mul-pos (omega arith) (mul-pos gB dB)) SB;
    right = mul-pos (mul-pos gB dB) (mul-pos (mul-pos (mul-pos gB (omega arith)) (omega arith)) SB);
    order = omega (arith, mul-le-mul_left (g.bottom * g.bottom * d.bottom * S.bottom) h);
  }

-- 2^40 less the rounded 2^40·(1 - e^(-q)) reaches 2^40·e^(-q)
rest_reaches : (E : ℕ) (q : Fraction) → 0 < q.bottom → E ≤ 2 ^ 40 → Reaches (E + 512) q → Reaches (2 ^ 40 - least_gone E) q
rest_reaches E q hq hE (n, r) = go (dec_le (E + 512) (2 ^ 40))
  where
    go : Dec (E + 512 ≤ 2 ^ 40) → Reaches (2 ^ 40 - least_gone E) q
    go (yes h) = (n, ⪯_trans r (⊗_mono (compare (omega arith) (omega arith) (omega arith)) (⪯_refl (S n q) (S_positive n q hq))))
    go (no h) =
        let e : 2 ^ 40 - least_gone E ≡ 2 ^ 40 = omega arith in
        let o = S_one 0 q hq in
        rw e (0, record { left = omega arith; right = mul-pos (omega arith) o.right; order = omega (arith, o.order) })

module _ (s : Section) (p : Grain) (z : ℕ) (i : InRange s p) (d : InDepth s z) where
  abbrev E : ℕ
  E = decay (step (factors wall_friction) s p) z

  abbrev A : ℕ
  A = (γR s p).top

  abbrev B : ℕ
  B = (γR s p).bottom

  abbrev u : ℕ
  u = (z0 (factors wall_friction) s p).top

  abbrev v : ℕ
  v = (z0 (factors wall_friction) s p).bottom

  abbrev C : ℕ
  C = least_gone E

  abbrev X : ℕ
  X = z0_scaled s p * C / 2 ^ 40

  abbrev G : ℕ
  G = z * 2 ^ 11 - X

  abbrev L : ℕ
  L = limit wall_friction s p

  abbrev w : ℕ
  w = up ((L * G) ⊘ (2 ^ 22 * 1000))

  limit_in : (A * 2048 ≤ L * B) × (L * B ≤ A * 2048 + B)
  unfolding limit P
  limit_in =
      let h : 0 < B * 1 = omega (arith, γR_pos s p i) in
      (omega (arith, up_ge (A * 2 ^ 11) (B * 1) h), omega (arith, up_lt (A * 2 ^ 11) (B * 1) h))

  z0_in : (z0_scaled s p * v ≤ u * 2048000) × (u * 2048000 ≤ z0_scaled s p * v + v)
  unfolding z0_scaled
  z0_in = (div-mul-le_self (u * 2048000) v, omega (arith, lt-div-mul-add {a = u * 2048000} (z0_pos s p i)))

  w_in : (L * G ≤ w * 4194304000) × (w * 4194304000 ≤ L * G + 4194304000)
  w_in = (up_ge (L * G) 4194304000 (omega arith), omega (arith, up_lt (L * G) 4194304000 (omega arith)))

  above : Reaches (2 ^ 40 - C) (q (factors wall_friction) s p z) →
      (n : ℕ) × (D s p ⊕ N s p z ⊗ S n (q (factors wall_friction) s p z) ⪯ (whole w ⊕ D s p) ⊗ S n (q (factors wall_friction) s p z))
  unfolding D N
  above (n, r) =
      let T = S n (q (factors wall_friction) s p z) in (
        n,
        above_⪯ (γR s p) (z0 (factors wall_friction) s p) T z w (γR_pos s p i) (z0_pos s p i) (S_positive n _ (q_pos s p i wall_friction z))
            (load_above A B u v L (z0_scaled s p) C X G w z T.top T.bottom (2 ^ 40 - C) (omega arith) limit_in.0 z0_in.0 (omega arith)
            (omega arith) w_in.0 (omega (arith, r.order))),
      )

  reach : G ≤ 2 ^ 28
  reach = omega (arith, d.wall)

  -- z0·S_n ≤ z0 + z·S_n
  growth : (n : ℕ) → u * 1000 * (S n (q (factors wall_friction) s p z)).top ≤
      u * 1000 * (S n (q (factors wall_friction) s p z)).bottom + z * v * (S n (q (factors wall_friction) s p z)).top
  unfolding q
  growth n =
      let T = S n (q (factors wall_friction) s p z) in
      le_of_mul-le-mul_right {k = T.bottom}
      (omega (arith, (S_growth (q (factors wall_friction) s p z) (q_pos s p i wall_friction z) n).order))
      (S_positive n _ (q_pos s p i wall_friction z))

  close_at : (n : ℕ) → Dec (X ≤ z * 2 ^ 11) →
      (w * B * v * 1000 + A * u * 1000) * (S n (q (factors wall_friction) s p z)).top ≤
      A * u * 1000 * (S n (q (factors wall_friction) s p z)).bottom + (A * z * v + 2 * B * v * 1000) * (S n (q (factors wall_friction) s p z)).top
  close_at n (yes h) =
      let T = S n (q (factors wall_friction) s p z) in
      let b = decay_below wall_friction s p i z d n in
      load_close A B u v L (z0_scaled s p) C X G w z T.top T.bottom E (omega arith) (omega arith) limit_in.1 z0_in.1 (omega arith)
      (omega arith) d.wall w_in.1 (omega (arith, b.order)) (γR_most s p i) (D_most s p i)
  close_at n (no h) =
      let e : G ≡ 0 = omega arith in
      let none : w ≡ 0 = ap (λ (x : ℕ). up (x ⊘ 4194304000)) (ap (λ (x : ℕ). L * x) e ∙ omega arith) ∙ up_zero 4194304000 (omega arith) in
      rw none (omega (arith, mul-le-mul_left A (growth n)))

  close : (n : ℕ) → (whole w ⊕ D s p) ⊗ S n (q (factors wall_friction) s p z) ⪯ D s p ⊕ (N s p z ⊕ whole 2) ⊗ S n (q (factors wall_friction) s p z)
  unfolding D N
  close n =
      close_⪯ (γR s p) (z0 (factors wall_friction) s p) (S n (q (factors wall_friction) s p z)) z w (γR_pos s p i) (z0_pos s p i)
      (S_positive n _ (q_pos s p i wall_friction z))
      (close_at n (dec_le X (z * 2 ^ 11)))

  -- the load with its parts opened
  opened : wall_load s p z ≡ w
  unfolding wall_load_by load loaded_depth
  opened = refl

pub wall_load_surface : (s : Section) (p : Grain) → wall_load s p 0 ≡ 0
unfolding wall_load_by load loaded_depth
wall_load_surface s p =
    let L : ℕ = limit wall_friction s p in
    let e : 0 * 2 ^ 11 - z0_scaled s p * least_gone (decay (step (factors wall_friction) s p) 0) / 2 ^ 40 ≡ 0 = omega arith in
    ap (λ (x : ℕ). up ((L * x) ⊘ 4194304000)) e ∙ ap (λ (x : ℕ). up (x ⊘ 4194304000)) (omega arith) ∙ up_zero 4194304000 (omega arith)

-- inside the band of 2 N/m
pub wall_load_band : (s : Section) (p : Grain) (z : ℕ) → InRange s p → InDepth s z → WallLoadBand s p z (wall_load s p z)
wall_load_band s p z i d =
    rw (opened s p z i d)
    (record {
      above =
          above s p z i d
          (rest_reaches (decay (step (factors wall_friction) s p) z) (q (factors wall_friction) s p z) (q_pos s p i wall_friction z)
          (decay_most wall_friction s p i z d)
          (decay_reaches wall_friction s p i z d));
      close = close s p z i d;
      surface = λ e. rw (← (opened s p z i d)) (rw e (wall_load_surface s p));
    })

-- The sizes round the shell keep their allowance where p_p keeps its own (`size_holds`; `above_lower`). At or above: F·cos ≤ F·t ≤ p_p·t ≤ size. Less than 5 above:
-- size < p_p·t + 1, p_p < F + 3, t ≤ 1 and t < cos + 2·10^-9, and F·2·10^-9 is below 1.
use Prim.Native.Nat.{ℕ, ◌*◌, ◌^◌, ◌<◌}
use native.Mathlib.Omega.{arith}
use native.Mathlib.Nat.{mul-pos, mul-le-mul_left, mul-le-mul_right}
use Rattle.fraction.specs.Fraction.{Fraction, whole, ◌⊕◌, ◌⊗◌, ◌⪯◌, ◌≺◌, up}
use Rattle.fraction.proofs.Order.{pos_left, pos_right, ⪯_refl, ⪯_trans, ≺-⪯_trans, ≺-⪯, ⊕_mono, ⊗_mono}
use Rattle.fraction.proofs.Up.{up_above, up_lt}
use Rattle.allowance.specs.Allowance.{Allowance}
use Rattle.cosine.specs.Cosine.{Difference, AtMost, cosine_above, cosine_below, billionths}
use Rattle.cosine.specs.program.Table.{entry}
use Rattle.cosine.proofs.CosineLaws.{tabulated, under_most, sums_apart, entry_most}
use Rattle.shell.specs.Shell.{size}
use Rattle.shell.specs.Holds.{scaled, SizeHolds}

-- f·(t + l) = f·t + f·l
spread : (f t l : Fraction) → 0 < f.bottom → 0 < t.bottom → 0 < l.bottom → f ⊗ (t ⊕ l) ⪯ f ⊗ t ⊕ f ⊗ l
spread f t l hf ht hl = record {
  left = mul-pos hf (mul-pos ht hl);
  right = mul-pos (mul-pos hf ht) (mul-pos hf hl);
  order = omega arith;
}

gathered : (f t l : Fraction) → 0 < f.bottom → 0 < t.bottom → 0 < l.bottom → f ⊗ t ⊕ f ⊗ l ⪯ f ⊗ (t ⊕ l)
gathered f t l hf ht hl = record {
  left = mul-pos (mul-pos hf ht) (mul-pos hf hl);
  right = mul-pos hf (mul-pos ht hl);
  order = omega arith;
}

-- f·m ≤ n + f·l where m ≤ t + l, f ≤ p and p·t ≤ n
above : (f m l t p n : Fraction) → 0 < l.bottom → m ⪯ t ⊕ l → 0 < t.bottom → f ⪯ p → p ⊗ t ⪯ n → f ⊗ m ⪯ n ⊕ f ⊗ l
above f m l t p n hl ht' hb hf hn =
    ⪯_trans (⊗_mono (⪯_refl f hf.left) ht')
    (⪯_trans (spread f t l hf.left hb hl)
    (⊕_mono (⪯_trans (⊗_mono hf (⪯_refl t hb)) hn) (⪯_refl (f ⊗ l) (mul-pos hf.left hl))))

⊕_less : (p q r : Fraction) → p ≺ q → 0 < r.bottom → p ⊕ r ≺ q ⊕ r
⊕_less p q r h hr = record {
  left = mul-pos h.left hr;
  right = mul-pos h.right hr;
  order = omega (arith, mul-pos hr hr, mul-le-mul_right (r.bottom * r.bottom) h.order);
}

module _ (f m l t p : Fraction) (hf : 0 < f.bottom) (ht : 0 < t.bottom) (hl : 0 < l.bottom) (hm : 0 < m.bottom) where
  taken : (f ⊕ whole 3) ⊗ t ⊕ whole 1 ⊕ f ⊗ l ⪯ f ⊗ (t ⊕ l) ⊕ (whole 3 ⊗ t ⊕ whole 1)
  taken = record {
    left = mul-pos (mul-pos (mul-pos (mul-pos hf (omega arith)) ht) (omega arith)) (mul-pos hf hl);
    right = mul-pos (mul-pos hf (mul-pos ht hl)) (mul-pos (mul-pos (omega arith) ht) (omega arith));
    order = omega arith;
  }

  given : f ⊗ (m ⊕ billionths 2) ⊕ (whole 3 ⊗ whole 1 ⊕ whole 1) ⪯ f ⊗ m ⊕ (f ⊗ billionths 2 ⊕ whole 4)
  given = record {
    left = mul-pos (mul-pos hf (mul-pos hm (omega arith))) (omega arith);
    right = mul-pos (mul-pos hf hm) (mul-pos (mul-pos hf (omega arith)) (omega arith));
    order = omega arith;
  }

  five : f ⊗ m ⊕ (whole 1 ⊕ whole 4) ⪯ f ⊗ m ⊕ whole 5
  five = record { left = mul-pos (mul-pos hf hm) (omega arith); right = mul-pos (mul-pos hf hm) (omega arith); order = omega arith }

  -- n + f·l < f·m + 5 where n < p·t + 1, p ≤ f + 3, t ≤ 1, t + l ≤ m + 2·10^-9 and f·2·10^-9 ≤ 1
  below : (n : Fraction) → n ≺ p ⊗ t ⊕ whole 1 → p ⪯ f ⊕ whole 3 → t ⪯ whole 1 → t ⊕ l ⪯ m ⊕ billionths 2 → f ⊗ billionths 2 ⪯ whole 1
      → n ⊕ f ⊗ l ≺ f ⊗ m ⊕ whole 5
  below n hn hp ho hc hs =
      ≺-⪯_trans (⊕_less n (p ⊗ t ⊕ whole 1) (f ⊗ l) hn (mul-pos hf hl))
      (⪯_trans (⊕_mono (⊕_mono (⊗_mono hp (⪯_refl t ht)) (⪯_refl (whole 1) (omega arith))) (⪯_refl (f ⊗ l) (mul-pos hf hl)))
      (⪯_trans taken
      (⪯_trans
      (⊕_mono (⊗_mono (⪯_refl f hf) hc) (⊕_mono (⊗_mono (⪯_refl (whole 3) (omega arith)) ho) (⪯_refl (whole 1) (omega arith))))
      (⪯_trans given
      (⪯_trans (⊕_mono (⪯_refl (f ⊗ m) (mul-pos hf hm)) (⊕_mono hs (⪯_refl (whole 4) (omega arith)))) five)))))

-- a size that holds is at or above every product of F over a lower fraction and a lower sum of the cosine, whatever the pressures and the table are
pub above_lower : {A : Type 0} (Low : A → Type 0) (F : A → Fraction) (w d n : ℕ) → d < 91 → SizeHolds Low F w d n → (v : A) → Low v → (m : ℕ)
    → AtMost (scaled (F v) (cosine_below d m)) (whole n)
above_lower Low F w d n hd holds v low m =
    let (k, u) = holds.at_or_above v low in
    let f : Fraction = F v in
    let a : Difference = cosine_below d m in
    let b : Difference = cosine_above d k in
    let under = sums_apart d m k hd in
    let hf = pos_left f.bottom _ u.left in
    let am = pos_left a.more.bottom _ under.left in
    let bl = pos_right a.more.bottom _ under.left in
    let bm = pos_left b.more.bottom _ under.right in
    let al = pos_right b.more.bottom _ under.right in
    under_most (scaled f a) (scaled f b) (whole n)
    (⪯_trans (gathered f a.more b.less hf am bl) (⪯_trans (⊗_mono (⪯_refl f hf) under) (spread f b.more a.less hf bm al))) u

-- the sizes keep their allowance where p_p keeps its own, at any formula F
pub size_holds : {A : Type 0} (Low : A → Type 0) (F : A → Fraction) (p d : ℕ) → p < 2 ^ 21 → d < 91 → Allowance Low F 3 p → SizeHolds Low F 5 d (size entry p d)
unfolding size
size_holds Low F p d hp hd a =
    let t : Fraction = billionths (entry d) in
    let n : ℕ = up (whole p ⊗ t) in
    let u = tabulated.never_below d hd in
    let w = tabulated.less_above d hd in
    let v = a.less_above in
    let f = a.at_or_above v.0 v.1 in
    let close : whole n ≺ whole p ⊗ t ⊕ whole 1 = record { left = omega arith; right = omega arith; order = omega (arith, up_lt (p * entry d) 1000000000 (omega arith)) } in
    let reaches = up_above (whole p ⊗ t) (omega arith) in
    record {
      at_or_above = λ x low. (
        u.0,
        above (F x) _ _ t (whole p) (whole n) (omega (arith, u.1.right)) u.1 (omega arith) (a.at_or_above x low) reaches,
      );
      less_above = (
        v.0,
        v.1,
        w.0,
        below (F v.0) _ _ t (whole p) f.left (omega arith) (omega (arith, w.1.left)) (omega (arith, w.1.right)) (whole n) close (≺-⪯ v.2)
            (record { left = omega arith; right = omega arith; order = omega (arith, entry_most d) })
            (≺-⪯ w.1)
            (record { left = mul-pos f.left (omega arith); right = omega arith; order = omega (arith, f.order, mul-le-mul_left (F v.0).bottom hp) }),
      );
    }

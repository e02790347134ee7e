-- The list is symmetric: the pressures at θ and 360 - θ are equal, those at θ and 180 - θ opposite, and from 0 to 180 degrees none rises (`symmetric`).
use Prim.Native.Nat.{ℕ, zero, suc, ◌-◌, ◌≤◌}
use mathlib.Core.Path.{◌≡◌, refl, sym, ap, ◌∙◌}
use mathlib.Core.List.{List}
use native.Mathlib.Omega.{arith}
use native.Mathlib.Nat.{le_of_suc-le-suc}
use native.Mathlib.Decide.{dec_le}
use lib.Dec.{le→leb}
use lib.IntN.{ℤ, pos, neg_ℤ, neg_ℤ-neg_ℤ}
use lib.Signed.{◌≤ℤ◌}
use Rattle.cosine.specs.program.Table.{entry}
use Rattle.shell.specs.Shell.{apart, size, p_ps, ReplyList}
use Rattle.shell.specs.Symmetry.{Symmetric}
use Rattle.shell.proofs.Quadrants.{near, far}
use Rattle.shell.proofs.Bounds.{size_falls}

-- the order of signed numbers, by their sizes
outward_order : (n m : ℕ) → n ≤ m → pos n ≤ℤ pos m
outward_order n m h = record { le = le→leb n m h }

inward_order : (n m : ℕ) → n ≤ m → neg_ℤ (pos m) ≤ℤ neg_ℤ (pos n)
inward_order zero zero h = record { le = tt }
inward_order zero (suc m) h = record { le = tt }
inward_order (suc n) zero h = absurd (omega arith)
inward_order (suc n) (suc m) h = record { le = le→leb n m (le_of_suc-le-suc h) }

across_order : (n m : ℕ) → neg_ℤ (pos n) ≤ℤ pos m
across_order zero m = record { le = le→leb 0 m (omega arith) }
across_order (suc n) m = record { le = tt }

module _ (p : ℕ) where
  abbrev at : ℕ → ℤ
  at θ = p_ps entry p θ

  -- the pressure is set by the angle from 0
  same_angle : (θ θ' : ℕ) → apart θ ≡ apart θ' → apart θ ≤ 180 → at θ ≡ at θ'
  same_angle θ θ' e h = go (dec_le (apart θ) 90)
    where
      go : Dec (apart θ ≤ 90) → at θ ≡ at θ'
      go (yes l) = near entry p θ (apart θ) refl (omega arith) ∙ sym (near entry p θ' (apart θ) (sym e) (omega arith))
      go (no l) = far p θ (180 - apart θ) (omega arith) (omega arith) ∙ sym (far p θ' (180 - apart θ) (omega arith) (omega arith))

  -- and opposite at the angle that makes it up to 180
  opposite_angle : (θ θ' : ℕ) → apart θ ≡ 180 - apart θ' → apart θ' ≤ 180 → at θ ≡ neg_ℤ (at θ')
  opposite_angle θ θ' e h = go (dec_le (apart θ') 90)
    where
      go : Dec (apart θ' ≤ 90) → at θ ≡ neg_ℤ (at θ')
      go (yes l) = far p θ (apart θ') e (omega arith) ∙ ap neg_ℤ (sym (near entry p θ' (apart θ') refl (omega arith)))
      go (no l) =
          let d = 180 - apart θ' in
          near entry p θ d e (omega arith) ∙ sym (neg_ℤ-neg_ℤ (pos (size entry p d))) ∙ ap neg_ℤ (sym (far p θ' d (omega arith) (omega arith)))

  falls : (θ θ' : ℕ) → θ ≤ θ' → θ' ≤ 180 → at θ' ≤ℤ at θ
  unfolding apart
  falls θ θ' h g = go (dec_le θ 90) (dec_le θ' 90)
    where
      go : Dec (θ ≤ 90) → Dec (θ' ≤ 90) → at θ' ≤ℤ at θ
      go (yes a) (yes b) =
          rw (near entry p θ θ (omega arith) (omega arith), near entry p θ' θ' (omega arith) (omega arith))
          (outward_order (size entry p θ') (size entry p θ) (size_falls p θ θ' h))
      go (yes a) (no b) =
          rw (near entry p θ θ (omega arith) (omega arith), far p θ' (180 - θ') (omega arith) (omega arith))
          (across_order (size entry p (180 - θ')) (size entry p θ))
      go (no a) (yes b) = absurd (omega arith)
      go (no a) (no b) =
          rw (far p θ (180 - θ) (omega arith) (omega arith), far p θ' (180 - θ') (omega arith) (omega arith))
          (inward_order (size entry p (180 - θ)) (size entry p (180 - θ')) (size_falls p (180 - θ') (180 - θ) (omega arith)))

-- the list of any silo and any depth
pub symmetric : (d p : ℕ) (list : List ℤ) → ReplyList entry d p list → Symmetric list
unfolding apart
symmetric d p list r = record {
  mirrored = λ θ h g. r.pressures (360 - θ) (omega arith) ∙ same_angle p (360 - θ) θ (omega arith) (omega arith) ∙ sym (r.pressures θ g);
  opposite = λ θ g. r.pressures (180 - θ) (omega arith) ∙ opposite_angle p (180 - θ) θ (omega arith) (omega arith) ∙ ap neg_ℤ (sym (r.pressures θ (omega arith)));
  opposite_beyond = λ θ h g. r.pressures (540 - θ) (omega arith) ∙ opposite_angle p (540 - θ) θ (omega arith) (omega arith) ∙ ap neg_ℤ (sym (r.pressures θ g));
  never_rises = λ θ θ' h g. rw (r.pressures θ (omega arith), r.pressures θ' (omega arith)) (falls p θ θ' h g);
}

-- How large sizes and force are, so that each fits an i32; both rise with p_p.
use Prim.Native.Nat.{ℕ, ◌*◌, ◌^◌, ◌≤◌, ◌<◌}
use mathlib.Core.Path.{◌≡◌, refl}
use mathlib.Core.List.{List}
use native.Mathlib.Omega.{arith}
use native.Mathlib.Nat.{mul-le-mul, mul-le-mul_left, mul-le-mul_right}
use Rattle.fraction.specs.Fraction.{◌⊘◌, up}
use Rattle.fraction.proofs.Order.{compare}
use Rattle.fraction.proofs.Up.{up_le, up_mono, up_same}
use Rattle.cosine.specs.program.Table.{entry}
use Rattle.cosine.proofs.CosineLaws.{entry_falls, entry_most}
use Rattle.janssen.specs.program.Pressure.{computed}
use Rattle.janssen.specs.Section.{d_c}
use Rattle.janssen.specs.Filling.{grain_of}
use Rattle.janssen.proofs.Geometry.{d_c_most}
use Rattle.description.specs.Silo.{section_of, product_of, V_of}
use Rattle.sheet.specs.Refusal.{refusal_of}
use Rattle.sheet.proofs.Acceptance.{accepted}
use Rattle.sheet.proofs.Described.{V_most, in_range}
use Rattle.loads.specs.Load.{load_depth}
use Rattle.loads.proofs.Bounds.{patch_small}
use Rattle.answers.specs.Answers.{silo_of}
use Rattle.answers.proofs.Demand.{silo_fits, reached}
use Rattle.shell.specs.Shell.{size, F_p}
use Rattle.shell.specs.program.Fill.{patch_at}

-- ---- sizes
pub size_is : (p d : ℕ) → size entry p d ≡ up ((p * entry d) ⊘ 1000000000)
unfolding size
size_is p d = refl

pub product_fits : (p t : ℕ) → p < 2 ^ 21 → t ≤ 1000000000 → p * t < 2 ^ 63
product_fits p t hp ht = let h : p ≤ 2 ^ 21 = omega arith in omega (arith, mul-le-mul h ht)

-- none is above p_p
pub quotient_most : (p t : ℕ) → t ≤ 1000000000 → up ((p * t) ⊘ 1000000000) ≤ p
quotient_most p t h = up_le (p * t) 1000000000 p (omega arith) (mul-le-mul_left p h)

pub size_most : (p d : ℕ) → size entry p d ≤ p
size_most p d = omega (arith, size_is p d, quotient_most p (entry d) (entry_most d))

-- they rise with p_p and fall with the angle
pub size_rises : (c : ℕ → ℕ) (p p' d : ℕ) → p ≤ p' → size c p d ≤ size c p' d
unfolding size
size_rises c p p' d h = up_mono (compare (omega arith) (omega arith) (omega (arith, mul-le-mul_right (c d) h)))

pub size_falls : (p d d' : ℕ) → d ≤ d' → size entry p d' ≤ size entry p d
unfolding size
size_falls p d d' h = up_mono (compare (omega arith) (omega arith) (omega (arith, mul-le-mul_left p (entry_falls d d' h))))

-- ---- the force
pub force_is : (d p : ℕ) → F_p d p ≡ up ((355 * d * d * p) ⊘ 1130000000)
unfolding F_p
force_is d p = up_same _ _ (355 * d * d * p) 1130000000 (omega arith) (omega arith) (omega arith)

pub force_rises : (d p p' : ℕ) → p ≤ p' → F_p d p ≤ F_p d p'
unfolding F_p
force_rises d p p' h = up_mono (compare (omega arith) (omega arith) (omega (arith, mul-le-mul_left (d * d) h)))

area : (d : ℕ) → d ≤ 50000 → d * d ≤ 2500000000
area d h = mul-le-mul h h

module _ (d p : ℕ) (hd : d ≤ 50000) (hp : p < 2 ^ 21) where
  pub force_square : 355 * d * d < 2 ^ 63
  force_square = omega (arith, area d hd)

  volume : d * d * p ≤ 2500000000 * 2 ^ 21
  volume = mul-le-mul {m₁ = p} {m₂ = 2 ^ 21} (area d hd) (omega arith)

  pub force_top : 355 * d * d * p < 2 ^ 63
  force_top = omega (arith, volume)

  -- it is an i32
  pub rounded_most : up ((355 * d * d * p) ⊘ 1130000000) < 2 ^ 31
  rounded_most = omega (arith, up_le (355 * d * d * p) 1130000000 2147483647 (omega arith) (omega (arith, volume)))

  pub force_most : F_p d p < 2 ^ 31
  force_most = omega (arith, force_is d p, rounded_most)

-- ---- of an accepted sheet and a depth at most at the wall's foot
module _ (s : List ℕ) (z : ℕ) (h : refusal_of s ≡ 0) (under : z ≤ V_of s) where
  pub patch_fits : patch_at computed s z < 2 ^ 21
  unfolding load_depth
  patch_fits = let a = (accepted s h).measured in patch_small (silo_of s) (silo_fits s a) z (reached s a z under) (omega (arith, V_most s a))

  pub width_most : d_c (section_of s) ≤ 50000
  width_most = let a = (accepted s h).measured in d_c_most (section_of s) (grain_of (product_of s)) (in_range s a)

  -- every number of the reply list fits an i32
  pub sizes_fit : (d : ℕ) → size entry (patch_at computed s z) d < 2 ^ 31
  sizes_fit d = omega (arith, size_most (patch_at computed s z) d, patch_fits)

  pub force_fits : F_p (d_c (section_of s)) (patch_at computed s z) < 2 ^ 31
  force_fits = force_most (d_c (section_of s)) (patch_at computed s z) width_most patch_fits

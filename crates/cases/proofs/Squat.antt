-- The marked discharge loads of a squat silo.
use Prim.Native.Nat.{ℕ}
use mathlib.Core.List.{List}
use mathlib.Core.Path.{◌≡◌, ap, ap₂, ◌∙◌}
use Rattle.fraction.specs.Fraction.{up}
use Rattle.janssen.specs.Section.{d_c}
use Rattle.janssen.specs.Numbers.{FillingNumbers}
use Rattle.discharge.specs.Discharge.{magnifier, magnified_load}
use Rattle.discharge.specs.program.Magnifier.{horizontal_magnifier, friction_magnifier}
use Rattle.loads.specs.Load.{full_height, load_number}
use Rattle.loads.specs.Load.Load.{p_hf, p_wf, p_he, p_we}
use Rattle.description.specs.Silo.{section_of, product_of}
use Rattle.answers.specs.Answers.{silo_of}
use Rattle.answers.proofs.Demand.{same_height}
use Rattle.cases.specs.Cases.{OfHeight}

-- h 7,499 over 5,000: C_h is 1 + 0.8·2,499/5,000 at C0 140, C_w 1 + 0.2·2,499/5,000
module _ (g : FillingNumbers) (s : List ℕ) (u : OfHeight 7499 s) where
  height : full_height (silo_of s) ≡ 7499
  height = same_height s ∙ u.height

  pub squat_discharge : (product_of s).factor ≡ 140 → (z : ℕ) → load_number g (silo_of s) p_hf z ≡ 17597 → load_number g (silo_of s) p_he z ≡ 24633
  unfolding magnified_load magnifier up
  squat_discharge f z e =
      ap₂ (λ (h p : ℕ). magnified_load (horizontal_magnifier (product_of s).factor h (d_c (section_of s))) p) height e
      ∙ ap₂ (λ (C d : ℕ). magnified_load (horizontal_magnifier C 7499 d) 17597) f u.width

  pub squat_friction_discharge : (z : ℕ) → load_number g (silo_of s) p_wf z ≡ 7345 → load_number g (silo_of s) p_we z ≡ 8080
  unfolding magnified_load magnifier up
  squat_friction_discharge z e =
      ap₂ (λ (h p : ℕ). magnified_load (friction_magnifier h (d_c (section_of s))) p) height e
      ∙ ap (λ (d : ℕ). magnified_load (friction_magnifier 7499 d) 7345) u.width

-- Discharge, patch and flat floor, made from filling pressures in Pa. Document 01, "Loads made from filling"; document 02, C-11; source 001,
-- clauses 5.2.1.2, 5.2.2.1 and 5.3. Formulas are over fractions, rounding nothing; the load rounds its own up at the whole pressure that it rests on.
use Rattle.std.specs.Prelude.{ℕ, ◌-◌, ◌*◌, cond, leb, ltb}
use Rattle.fraction.specs.Fraction.{Fraction, ◌⊘◌, whole, ◌⊕◌, ◌⊗◌, up}
use Rattle.janssen.specs.Filling.{hundredths}

-- 1 + rate·(h/d_c − 1) of a squat silo that is higher than wide; rate in hundredths, h and d_c in mm
abbrev pub squat_magnifier : ℕ → ℕ → ℕ → Fraction
squat_magnifier rate h d = whole 1 ⊕ hundredths rate ⊗ ((h - d) ⊘ d)

-- a magnifier by the silo's kind: slender, 2h ≥ 3·d_c, C in hundredths; squat, the above where h > d_c, else 1 (1.4.15 and 5.33)
unfoldable pub magnifier : ℕ → ℕ → ℕ → ℕ → Fraction
magnifier C rate h d = cond (leb (3 * d) (2 * h)) (hundredths C) (cond (ltb d h) (squat_magnifier rate h d) (whole 1))

-- β = 1 + 4e/d_c (5.25), e and d_c in mm
abbrev pub β : ℕ → ℕ → Fraction
β e d = whole 1 ⊕ ((4 * e) ⊘ d)

-- 0.2·β·p_he (5.24)
abbrev pub patch : ℕ → ℕ → Fraction → Fraction
patch e d v = (2 ⊘ 10) ⊗ β e d ⊗ v

-- C of the flat floor (5.13 and 5.14)
abbrev pub C_b : Fraction
C_b = 12 ⊘ 10

-- up(C·p): p_he = up(C_h·p_hf) (5.21), p_we = up(C_w·p_wf) (5.20), the floor up(1.2·p_vf(V))
unfoldable pub magnified_load : Fraction → ℕ → ℕ
magnified_load C p = up (C ⊗ whole p)

-- p_p = up(0.2·β·p_he)
unfoldable pub patch_load : ℕ → ℕ → ℕ → ℕ
patch_load e d h = up (patch e d (whole h))

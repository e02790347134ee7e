-- The rules of a sheet's values, as the program tries them on the silo described; and what it finds in any sheet.
use Rattle.std.specs.Prelude.{ℕ, ◌+◌, ◌-◌, ◌*◌, Bool, true, false, ◌&&◌, ◌||◌, List, [], ◌∷◌, ◌≡◌, leb, ltb, take, Result, IfOk}
use Rattle.janssen.specs.Section.{d_c}
use Rattle.description.specs.declared.Described.{Described}
use Rattle.description.specs.Silo.{V_of}
use Rattle.description.specs.program.Described.{described_of, Sized}
use Rattle.records.specs.declared.refusal.Refusal.{Refusal}
use Rattle.records.specs.Refusal.{answer}
use Rattle.records.specs.Rules.{Rule, ◌unless◌, first_unmet}
use Rattle.sheet.specs.declared.Asked.{Asked}
use Rattle.sheet.specs.declared.Asked.TheVariants.{Length, Loads}
use Rattle.sheet.specs.Refusal.{sides_met, proportion_met, product_met, eccentricities_met, flat, hopper, strakes_met, depths_met, rules_with}

-- whether only a length is asked for, so that 20 is not tried
abbrev pub tells : Asked → Bool
tells Length = true
tells Loads = false

-- the rules of the values, of the silo described
unfoldable pub described_rules : Asked → Described → List ℕ → ℕ → List Rule
described_rules asked d depths z =
    6 unless sides_met d.section
    ∷ 20 unless (tells asked || proportion_met d.section)
    ∷ 7 unless product_met d.product
    ∷ 8 unless eccentricities_met (d_c d.section) d.eccentricities
    ∷ 9 unless (flat d.bottom || hopper (d_c d.section) d.bottom)
    ∷ 10 unless strakes_met (take d.wall.count d.wall.heights)
    ∷ 11 unless (leb z d.wall.foot && depths_met d.wall.foot 0 depths)
    ∷ 17 unless ltb d.headroom d.wall.foot
    ∷ 12 unless ltb (d.wall.foot - d.headroom + d.bottom.height) (10 * d_c d.section)
    ∷ []

-- the first refusal of a sheet beside which the depth z mm is given, or the silo described; its counts are small
pub record Examined (asked : Asked) (s : List ℕ) (z : ℕ) (r : Result Described Refusal) : Type 0 where
  pub refusal : answer r ≡ first_unmet (rules_with (tells asked) (leb z (V_of s)) s)
  pub silo : IfOk r (λ d. d ≡ described_of s)
  pub sized : IfOk r (λ d. Sized d)

-- The rules of a sheet in order, and the first refusal that applies to it. Document 01, "Who can be refused"; document 02, C-13, C-16 and C-17.
use Rattle.std.specs.Prelude.{ℕ, ◌+◌, ◌*◌, min, max, Bool, true, false, ◌&&◌, ◌||◌, List, [], ◌∷◌, ◌++◌, leb, ltb, eqb}
use Rattle.janssen.specs.declared.Section.{Section}
use Rattle.janssen.specs.declared.Section.TheVariants.{Circle, Rectangle}
use Rattle.janssen.specs.declared.Product.{Product}
use Rattle.janssen.specs.Section.{side_a, side_b, d_c}
use Rattle.description.specs.declared.Eccentricities.{Eccentricities}
use Rattle.description.specs.declared.Bottom.{Bottom}
use Rattle.records.specs.Rules.{within, Rule, ◌unless◌, first_unmet}
use Rattle.records.specs.Format.{layout_rules}
use Rattle.description.specs.Silo.{section_of, product_sent, eccentricities_of, bottom_of, strakes_of, depths_of, V_of, headroom_of, h_of}

-- 6: d, a and b from 500 to 50,000
unfoldable pub sides_met : Section → Bool
sides_met c = within 500 50000 (side_a c) && within 500 50000 (side_b c)

-- 20: the long side of a rectangle at most three times the short one
unfoldable pub proportion_met : Section → Bool
proportion_met (Circle d) = true
proportion_met (Rectangle a b) = leb (max a b) (3 * min a b)

-- 7: γ from 1,000 to 30,000, Ks from 20 to 100, μ from 10 to 100, C0 0 or from 100 to 200
abbrev pub product_met : Product → Bool
product_met p =
    within 1000 30000 p.weight && within 20 100 p.ratio && within 10 100 p.friction
    && (eqb p.factor 0 || within 100 200 p.factor)

-- 8: no eccentricity with 4e > d_c
abbrev pub eccentricities_met : ℕ → Eccentricities → Bool
eccentricities_met dc e = leb (4 * e.inlet) dc && leb (4 * e.outlet) dc

-- 9: flat; or r ≥ 1, 2r < d_c, H ≤ 25,000 and 1,000,000·H ≥ 363,971·r (α over 20°)
abbrev pub flat : Bottom → Bool
flat b = eqb b.height 0 && eqb b.run 0

abbrev pub hopper : ℕ → Bottom → Bool
hopper dc b =
    leb 1 b.run && ltb (2 * b.run) dc && leb b.height 25000 && leb (363971 * b.run) (1000000 * b.height)

-- 10: each strake from 200 to 3,000
unfoldable pub strakes_met : List ℕ → Bool
strakes_met [] = true
strakes_met (x ∷ l) = within 200 3000 x && strakes_met l

-- 11: each depth from low to top, and the next at least one more
unfoldable pub depths_met : ℕ → ℕ → List ℕ → Bool
depths_met top low [] = true
depths_met top low (z ∷ l) = within low top z && depths_met top (z + 1) l

-- the rules of a sheet's values, in order, by two tests: where only a length or a count is told, 20 is not tried; 11 is of the listed depths and of one given
-- beside the sheet, which is at most V or is not (where none is given, it is). 17: g < V; 12: h < 10·d_c; 13 is retired (document 02, C-11)
unfoldable pub value_rules : Bool → Bool → List ℕ → List Rule
value_rules length_only depth_met s =
    6 unless sides_met (section_of s)
    ∷ 20 unless (length_only || proportion_met (section_of s))
    ∷ 7 unless product_met (product_sent s)
    ∷ 8 unless eccentricities_met (d_c (section_of s)) (eccentricities_of s)
    ∷ 9 unless (flat (bottom_of s) || hopper (d_c (section_of s)) (bottom_of s))
    ∷ 10 unless strakes_met (strakes_of s)
    ∷ 11 unless (depth_met && depths_met (V_of s) 0 (depths_of s))
    ∷ 17 unless ltb (headroom_of s) (V_of s)
    ∷ 12 unless ltb (h_of s) (10 * d_c (section_of s))
    ∷ []

-- 1 to 5 on the records, then those of the values
unfoldable pub rules_with : Bool → Bool → List ℕ → List Rule
rules_with length_only depth_met s = layout_rules s ++ value_rules length_only depth_met s

-- where loads are worked out: of a sheet alone, and of a sheet beside which the depth z mm is given
abbrev pub sheet_rules : List ℕ → List Rule
sheet_rules s = rules_with false true s

abbrev pub sheet_rules_at : List ℕ → ℕ → List Rule
sheet_rules_at s z = rules_with false (leb z (V_of s)) s

-- 0, or the number of the first refusal: where a length is told, and where loads are worked out
unfoldable pub length_refusal : List ℕ → ℕ
length_refusal s = first_unmet (rules_with true true s)

unfoldable pub refusal_of : List ℕ → ℕ
refusal_of s = first_unmet (sheet_rules s)

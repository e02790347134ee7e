-- The catalogue of products: table 7.1 of source 001. Document 01, "Answer list" and "Who can be refused".
use Rattle.std.specs.Prelude.{ℕ, cond, ◌&&◌, List, [], ◌∷◌, ◌++◌, length, get_or, leb, eqb}
use Rattle.janssen.specs.declared.Product.{Product}
use Rattle.records.specs.Rules.{Rule, ◌unless◌, first_unmet}
use Rattle.records.specs.Format.{two_bytes, four_bytes, record_bytes}
use Rattle.catalogue.specs.declared.Material.{Material}

-- γ (N/m³), Ks, μ on steel, μ on concrete, C0 (hundredths)
abbrev pub material : ℕ → ℕ → ℕ → ℕ → ℕ → Material
material w k s c f = record { weight = w; ratio = k; steel = s; concrete = c; factor = f }

-- table 7.1, in its order: barley, cement, clinker, dry sand, flour, fly ash, maize, sugar, wheat, coal
unfoldable pub materials : List Material
materials =
    material 8500 55 35 45 135
    ∷ material 16000 50 40 50 140
    ∷ material 18000 45 45 55 140
    ∷ material 16000 45 40 50 140
    ∷ material 7000 40 30 40 145
    ∷ material 14000 45 45 55 145
    ∷ material 8500 50 30 40 140
    ∷ material 9500 50 45 55 140
    ∷ material 9000 55 30 40 130
    ∷ material 10000 50 45 55 145
    ∷ []

-- row counted from 0
unfoldable pub row_of : ℕ → Material
row_of row = get_or materials row (material 0 0 0 0 0)

-- wall 0 steel, wall 1 concrete
unfoldable pub product_for : Material → ℕ → Product
product_for m wall =
    record { weight = m.weight; ratio = m.ratio; friction = cond (eqb wall 0) m.steel m.concrete; factor = m.factor }

-- the product record of 14 bytes: kind 3, γ, Ks, μ, C0
unfoldable pub record_of : Product → List ℕ
record_of p =
    record_bytes 3 (four_bytes p.weight ++ two_bytes p.ratio ++ two_bytes p.friction ++ two_bytes p.factor)

-- 15 no such row or wall, then 16 the buffer is not of 14 bytes
unfoldable pub catalogue_rules : ℕ → ℕ → ℕ → List Rule
catalogue_rules row wall n = 15 unless (leb row 9 && leb wall 1) ∷ 16 unless eqb n 14 ∷ []

-- the buffer afterwards: the record, or as it was at a refusal
unfoldable pub catalogue_after : ℕ → ℕ → List ℕ → List ℕ
catalogue_after row wall old =
    cond (eqb (first_unmet (catalogue_rules row wall (length old))) 0) (record_of (product_for (row_of row) wall)) old

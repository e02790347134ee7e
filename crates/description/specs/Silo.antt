-- The silo that a sheet describes. Document 01, "Sheet"; document 02, C-13 and C-14.
use Rattle.std.specs.Prelude.{ℕ, ◌+◌, ◌-◌, ◌/◌, cond, List, [], ◌∷◌, take, eqb}
use Rattle.janssen.specs.declared.Section.{Section}
use Rattle.janssen.specs.declared.Section.TheVariants.{Circle, Rectangle}
use Rattle.janssen.specs.declared.Product.{Product}
use Rattle.description.specs.declared.Eccentricities.{Eccentricities}
use Rattle.description.specs.declared.Bottom.{Bottom}
use Rattle.records.specs.Format.{u16, u32, numbers, kind, payload, payload_length, record_count}

-- kind 1, circle: d; or kind 2, rectangle: a, b, mm
unfoldable pub section_of : List ℕ → Section
section_of s =
    cond (eqb (kind s 0) 1) (Circle (u32 s (payload s 0)))
    (Rectangle (u32 s (payload s 0)) (u32 s (payload s 0 + 4)))

-- γ (N/m³), Ks, μ, C0 (hundredths) as sent
unfoldable pub product_sent : List ℕ → Product
product_sent s =
    record { weight = u32 s (payload s 1); ratio = u16 s (payload s 1 + 4); friction = u16 s (payload s 1 + 6); factor = u16 s (payload s 1 + 8) }

-- the factor C0 = 0 is read as 155 (source 001, equation 7.4 at 40°)
unfoldable pub factor_read : ℕ → ℕ
factor_read c = cond (eqb c 0) 155 c

unfoldable pub product_of : List ℕ → Product
product_of s =
    record { weight = (product_sent s).weight; ratio = (product_sent s).ratio; friction = (product_sent s).friction; factor = factor_read (product_sent s).factor }

-- e_i and e_o, mm
unfoldable pub eccentricities_of : List ℕ → Eccentricities
eccentricities_of s = record { inlet = u32 s (payload s 2); outlet = u32 s (payload s 2 + 4) }

-- H and r, mm; both 0 is a flat floor
unfoldable pub bottom_of : List ℕ → Bottom
bottom_of s = record { height = u32 s (payload s 3); run = u32 s (payload s 3 + 4) }

-- strake heights, top first, mm
unfoldable pub strake_count : List ℕ → ℕ
strake_count s = payload_length s 4 / 2

unfoldable pub strakes_of : List ℕ → List ℕ
strakes_of s = numbers (u16 s) 2 (payload s 4) (strake_count s)

-- depths below the brim, mm
unfoldable pub depth_count : List ℕ → ℕ
depth_count s = payload_length s 5 / 4

unfoldable pub depths_of : List ℕ → List ℕ
depths_of s = numbers (u32 s) 4 (payload s 5) (depth_count s)

unfoldable pub sum : List ℕ → ℕ
sum [] = 0
sum (x ∷ l) = x + sum l

-- V is the sum of the strakes, mm
unfoldable pub V_of : List ℕ → ℕ
V_of s = sum (strakes_of s)

-- the lower edge of the k-th strake from the top, mm below the brim
unfoldable pub edge_of : List ℕ → ℕ → ℕ
edge_of s k = sum (take k (strakes_of s))

-- the headroom g, from the brim down to the grain's surface, mm; a sheet of six records means 0
unfoldable pub headroom_of : List ℕ → ℕ
headroom_of s = cond (eqb (record_count s) 6) 0 (u32 s (payload s 6))

-- h = V - g + H, mm
unfoldable pub h_of : List ℕ → ℕ
h_of s = V_of s - headroom_of s + (bottom_of s).height

-- The kinds of record by name, and the number of each. Document 01, "Sheet".
use Rattle.std.specs.Prelude.{ℕ, ◌≡◌, ◌<◌, ◌⊎◌, Result, MatchResult}
use Rattle.records.specs.declared.kind.Kind.{Kind}
use Rattle.records.specs.declared.kind.Kind.TheVariants.{Circle, Rectangle, Product, Eccentricities, Bottom, Strakes, Depths, Headroom}
use Rattle.records.specs.declared.refusal.Refusal.{Refusal}
use Rattle.records.specs.declared.refusal.Refusal.TheVariants.{KindNotDue}

abbrev pub code : Kind → ℕ
code Circle = 1
code Rectangle = 2
code Product = 3
code Eccentricities = 4
code Bottom = 5
code Strakes = 6
code Depths = 7
code Headroom = 8

-- the kind of a number, or the refusal of a number that no kind has
abbrev pub Decodes : ℕ → Result Kind Refusal → Type 0
Decodes n r = MatchResult r (λ kind. code kind ≡ n) (λ e. (e ≡ KindNotDue) × ((n ≡ 0) ⊎ (8 < n)))

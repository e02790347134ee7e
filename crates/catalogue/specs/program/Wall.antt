-- The walls by name, as the program holds them, and the number of each.
use Rattle.std.specs.Prelude.{ℕ}
use Rattle.catalogue.specs.declared.Wall.{Wall}
use Rattle.catalogue.specs.declared.Wall.TheVariants.{Steel, Concrete}

abbrev pub wall_number : Wall → ℕ
wall_number Steel = 0
wall_number Concrete = 1

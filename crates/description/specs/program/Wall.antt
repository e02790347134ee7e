-- The state that goes down a wall, strake by strake: the strakes passed, and the lower edge of the last.
use Rattle.std.specs.Prelude.{ℕ, zero, suc, ◌+◌, List, get_or}
use Rattle.description.specs.declared.WallState.{WallState}

-- the brim, before the first strake
unfoldable pub wall_top : WallState
wall_top = record { passed = 0; edge = 0 }

-- the state after one strake more, of a height, with its lower edge
unfoldable pub wall_lowered : ℕ → WallState → WallState
wall_lowered height t = record { passed = t.passed + 1; edge = t.edge + height }

-- the state after k strakes of these heights
unfoldable pub wall_after : List ℕ → ℕ → WallState
wall_after heights zero = wall_top
wall_after heights (suc k) = wall_lowered (get_or heights k 0) (wall_after heights k)

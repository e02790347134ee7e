-- Going down the wall strake by strake: after k strakes the state is at the sum of the first k heights (`edge_after`), which does not lie
-- below the wall's foot.
-- Assumes nothing.
use Prim.Native.Nat.{ℕ, suc, ◌≤◌, ◌<◌}
use mathlib.Core.List.{List}
use mathlib.Core.Path.{◌≡◌, ap}
use native.Mathlib.Omega.{arith}
use lib.ListN.{length, get_or, take}
use Rattle.description.specs.declared.WallState.{WallState}
use Rattle.description.specs.Silo.{sum}
use Rattle.description.specs.program.Wall.{wall_lowered, wall_after}
use Rattle.description.proofs.Sums.{sum_take}
use Rattle.description.proofs.Walls.{edge_after}
use Rattle.loads.specs.declared.Silo.{Silo}
use Rattle.loads.specs.program.Basis.{Reached}
use Rattle.loads.proofs.LoadLaws.{load_depth_rises}

pub above_foot : (c : Silo) {depth foot : ℕ} → Reached c foot → depth ≤ foot → Reached c depth
above_foot c {depth} {foot} d h =
    record {
      below_ten = omega (arith, d.below_ten, load_depth_rises c depth foot h);
      wall = omega (arith, d.wall, load_depth_rises c depth foot h);
    }

-- the strake k of a wall's heights
module _ (heights : List ℕ) (k : ℕ) (h : k < length heights) where
  -- after it, the edge is the sum of the strakes down to it
  pub next_edge : (wall_after heights (suc k)).edge ≡ sum (take (suc k) heights)
  next_edge = edge_after heights (suc k) (omega (arith, h))

  pub next_inside : (wall_after heights (suc k)).edge ≤ sum heights
  next_inside = omega (arith, next_edge, sum_take heights (suc k))

  pub next_state : {t : WallState} → t ≡ wall_after heights k → wall_lowered (get_or heights k 0) t ≡ wall_after heights (suc k)
  unfolding wall_after
  next_state e = ap (wall_lowered (get_or heights k 0)) e

-- The loads of an answer list by name, and the order of the numbers in the lists that the load call leaves.
use Rattle.std.specs.Prelude.{ℕ, ◌≤◌, ◌≡◌, List, get_or}
use Rattle.janssen.specs.Numbers.{FillingNumbers}
use Rattle.description.specs.Silo.{depth_count}
use Rattle.sheet.specs.Refusal.{refusal_of}
use Rattle.loads.specs.Load.{Load}
use Rattle.loads.specs.Load.Load.{listed_depth, p_hf, p_wf, p_vf, P_w, p_he, p_we, p_p}
use Rattle.answers.specs.Place.{load_place}
use Rattle.answers.specs.Answers.{Filled}

-- which of the eight a load is
abbrev pub rank : Load → ℕ
rank listed_depth = 0
rank p_hf = 1
rank p_wf = 2
rank p_vf = 3
rank P_w = 4
rank p_he = 5
rank p_we = 6
rank p_p = 7

-- a load of the depth i in a sheet's answer list
abbrev pub load_in : List ℕ → List ℕ → Load → ℕ → ℕ
load_in s list l i = get_or list (load_place (depth_count s) (rank l) i) 0

-- a list that the call left for an accepted sheet
pub record LeftFor (f : FillingNumbers) (s list : List ℕ) : Type 0 where
  pub accepted : refusal_of s ≡ 0
  pub filled : Filled f s list

-- a greater depth never has the smaller number, and equal depths have equal ones
pub record Ordered (depth depth' n n' : ℕ) : Type 0 where
  pub rises : depth ≤ depth' → n ≤ n'
  pub falls : depth' ≤ depth → n' ≤ n
  pub same : depth ≡ depth' → n ≡ n'

-- p_p of a sheet, and the reply list as the program fills it.
use Rattle.std.specs.Prelude.{ℕ, ◌+◌, ◌-◌, List, set, ℤ, pos, neg_ℤ}
use Rattle.janssen.specs.Numbers.{FillingNumbers}
use Rattle.loads.specs.Load.{load_number}
use Rattle.loads.specs.Load.Load.{p_p}
use Rattle.answers.specs.Answers.{silo_of}

-- a size in its four places, d degrees to either side of 0 and of 180; d from 0 to 90
abbrev pub placed : List ℤ → ℕ → ℕ → List ℤ
placed list d n = set (set (set (set list d (pos n)) (360 - d) (pos n)) (180 - d) (neg_ℤ (pos n))) (180 + d) (neg_ℤ (pos n))

-- p_p at the depth z mm below the brim
abbrev pub patch_at : FillingNumbers → List ℕ → ℕ → ℕ
patch_at f s z = load_number f (silo_of s) p_p z

-- The most that a load can be, whatever the sheet: so every number has a field's room on the page. Document 02, C-15.
use Rattle.std.specs.Prelude.{ℕ, ◌+◌, ◌*◌, ◌^◌}
use Rattle.loads.specs.Load.{Load}
use Rattle.loads.specs.Load.Load.{listed_depth, p_hf, p_wf, p_vf, P_w, p_he, p_we, p_p}

-- at a depth below the brim, mm: γR/μ, γR, γR/(μ·Ks) and γR·z at the largest sizes, and 2 more, which the bands leave; on discharge at most twice as much
abbrev pub bound : Load → ℕ → ℕ
bound listed_depth depth = depth
bound p_hf depth = 4166669
bound p_wf depth = 375002
bound p_vf depth = 23148151
bound P_w depth = 375 * depth + 2
bound p_he depth = 8333338
bound p_we depth = 750004
bound p_p depth = 8333338

-- floor, P_n and P_t
abbrev pub bottom_bound : ℕ
bottom_bound = 2 ^ 27

-- Every number of an accepted sheet's answer list has at most nine digits, and a load of a depth at most eight, whatever the filling numbers that meet demand
-- 3: none is above its bound (`loads/specs/Bound.antt`), and no wall is higher than 72,000 mm.
-- Assumes nothing.
use Prim.Native.Nat.{ℕ, suc, ◌^◌, ◌≤◌, ◌<◌}
use mathlib.Core.Path.{◌≡◌}
use mathlib.Core.List.{List}
use native.Mathlib.Decide.{dec_lt}
use native.Mathlib.Omega.{arith}
use lib.ListN.{length, get_or, get_or-eq_default}
use Rattle.janssen.specs.Numbers.{FillingNumbers}
use Rattle.description.specs.Silo.{strake_count, depth_count, edge_of, V_of}
use Rattle.sheet.specs.Refusal.{refusal_of}
use Rattle.sheet.proofs.Acceptance.{accepted}
use Rattle.sheet.proofs.Described.{V_most, edge_most}
use Rattle.loads.specs.Load.{Load}
use Rattle.loads.specs.Load.{eight, load_number}
use Rattle.loads.specs.Load.Load.{listed_depth, p_hf, p_wf, p_vf, P_w, p_he, p_we, p_p}
use Rattle.loads.specs.Bound.{bound}
use Rattle.loads.specs.program.Basis.{Fits}
use Rattle.loads.proofs.Bounds.{within_bound, bottom_within}
use Rattle.answers.specs.Place.{load_place}
use Rattle.answers.specs.Answers.{silo_of, depth, bottom_in, strake_in}
use Rattle.answers.specs.Claim.{Claim}
use Rattle.answers.proofs.Places.{every_place}
use Rattle.answers.proofs.Demand.{silo_fits}

-- down to 72,000 mm a load's bound has eight digits
bound_small : (l : Load) (depth : ℕ) → depth ≤ 72000 → bound l depth < 10 ^ 8
bound_small listed_depth depth h = omega arith
bound_small p_hf depth h = omega arith
bound_small p_wf depth h = omega arith
bound_small p_vf depth h = omega arith
bound_small P_w depth h = omega arith
bound_small p_he depth h = omega arith
bound_small p_we depth h = omega arith
bound_small p_p depth h = omega arith

module _ (f : FillingNumbers) (s list : List ℕ) (h : refusal_of s ≡ 0) (claim : Claim f s list) where
  abbrev fits : Fits (silo_of s)
  fits = silo_fits s (accepted s h).measured

  V_small : V_of s ≤ 72000
  V_small = V_most s (accepted s h).measured

  -- a load at any depth of the wall
  eight_down : (l : Load) (z : ℕ) → z ≤ V_of s → load_number f (silo_of s) l z < 10 ^ 8
  eight_down l z g = omega (arith, within_bound f (silo_of s) fits z (λ x. claim.holds x z g) l, bound_small l z (omega (arith, g, V_small)))

  pub eight_digits : (r i : ℕ) → r < 8 → i < depth_count s → get_or list (load_place (depth_count s) r i) 0 < 10 ^ 8
  eight_digits r i l g =
      omega (arith, claim.filled.at_depths r i l g, eight_down (get_or eight r listed_depth) (depth s i) ((accepted s h).measured.depths_most i g))

  bottom_digits : (k : ℕ) → k < 10 → bottom_in s list k < 10 ^ 9
  bottom_digits k g =
      omega (arith, claim.filled.at_bottom k g, bottom_within f (silo_of s) fits (λ x. claim.holds x (V_of s) (omega arith)) k g)

  strake_digits : (k : ℕ) → k < strake_count s → strake_in s list k < 10 ^ 9
  strake_digits k g = omega (arith, claim.filled.at_strakes k g, eight_down p_he (edge_of s (suc k)) (edge_most s (suc k)))

  pub nine_digits : (i : ℕ) → get_or list i 0 < 10 ^ 9
  nine_digits i = go (dec_lt i (length list))
    where
      go : Dec (i < length list) → get_or list i 0 < 10 ^ 9
      go (yes g) =
          every_place s (λ n. get_or list n 0 < 10 ^ 9) (λ r i v u. omega (arith, eight_digits r i v u)) bottom_digits strake_digits i
          (omega (arith, claim.filled.sized))
      go (no g) = omega (arith, get_or-eq_default list 0 {n = i} (omega arith))

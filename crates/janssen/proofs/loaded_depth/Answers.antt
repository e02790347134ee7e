-- The two saturating differences are those of the definition.
use Prim.Native.Nat.{ℕ, ◌*◌, ◌-◌, ◌/◌, ◌^◌, ◌≤◌}
use mathlib.Core.Path.{◌≡◌, ap, ◌∙◌}
use native.Mathlib.Omega.{arith}
use native.Mathlib.Nat.{mul_comm}
use Rattle.janssen.specs.program.Pressure.{least_gone, loaded_depth}
use Rattle.janssen.proofs.loaded_depth.Goals as goal

-- from what has surely gone, and what the wall carries of it
depth_is : (z0 decay z sure carried r : ℕ) → z ≤ 2 ^ 17 → sure ≡ least_gone decay → carried ≡ sure * z0 / 2 ^ 40 → r ≡ z * 2048 - carried →
    (r ≡ loaded_depth z0 decay z) × (r ≤ 2 ^ 28)
unfolding loaded_depth
depth_is z0 decay z sure carried r small e f h =
    let gone = f ∙ ap (λ (x : ℕ). x / 2 ^ 40) (mul_comm sure z0 ∙ ap (λ (x : ℕ). z0 * x) e) in
    (h ∙ ap (λ (x : ℕ). z * 2048 - x) gone, omega arith)

pub returns : goal.returns
returns c = depth_is _ _ _ _ _ _ c.requires.2 c.saturating_sub-sure.ensures c.product_quotient-carried.ensures c.saturating_sub.ensures

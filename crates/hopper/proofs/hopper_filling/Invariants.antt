use Prim.Native.Nat.{ℕ, ◌-◌, ◌*◌, ◌≤◌, ◌<◌}
use Rattle.hopper.proofs.hopper_filling.Given as goal

abbrev pub invariant-loop-low : goal.invariant-loop-low
invariant-loop-low l = (l.low ≤ l.high) ×
    (l.high ≤ 4 * l.base) ×
    (1000 * (l.base * l.base) ≤ 9 * l.friction * (l.high * l.high)) ×
    ((m : ℕ) → m < l.low → 9 * l.friction * (m * m) < 1000 * (l.base * l.base))

abbrev pub decreases-loop-low : goal.decreases-loop-low
decreases-loop-low l = l.high - l.low

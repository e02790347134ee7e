-- Every depth before i is met: what is due is what those left say.
use Prim.Native.Nat.{◌+◌, ◌*◌, ◌-◌}
use mathlib.Core.Path.{◌≡◌}
use Rattle.records.specs.Format.{u32, numbers}
use Rattle.description.specs.Silo.{depths_of}
use Rattle.sheet.specs.Refusal.{depths_met}
use Rattle.sheet.proofs.rules.depths_met.Given as goal

abbrev pub invariant-loop-i : goal.invariant-loop-i
invariant-loop-i l =
    depths_met l.foot 0 (depths_of l.sheet) ≡ depths_met l.foot l.low (numbers (u32 l.sheet) 4 (l.depths.start + 4 * l.i) (l.depths.count - l.i))

-- The places hold the strakes passed: with those left put in from i on they hold the whole wall, and the sum so far and that of the strakes left make V.
use lib.Seq.{sets}
use lib.ListN.{length, replicate}
use Rattle.records.specs.Format.{u16, numbers}
use Prim.Native.Nat.{◌+◌, ◌*◌, ◌-◌, ◌≤◌}
use mathlib.Core.Path.{◌≡◌}
use Rattle.description.specs.Silo.{V_of, strakes_of, sum}
use Rattle.description.proofs.values.read_wall.Given as goal

abbrev pub invariant-loop-i : goal.invariant-loop-i
invariant-loop-i l =
    let s = l.sheet in
    let left = numbers (u16 s) 2 (l.start + 2 * l.i) (l.count - l.i) in record {
      sized : length l.heights ≡ 24;
      small : l.foot ≤ 65535 * l.i;
      filled : sets (replicate 24 0) 0 (strakes_of s) ≡ sets l.heights l.i left;
      summed : V_of s ≡ l.foot + sum left;
    }

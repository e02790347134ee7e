use Prim.Native.Nat.{◌+◌, ◌-◌, ◌*◌}
use mathlib.Core.Path.{◌≡◌}
use lib.ListN.{length}
use lib.Seq.{sets}
use Rattle.answers.specs.Each.{each}
use Rattle.answers.specs.Place.{bottom_place}
use Rattle.page.specs.program.Text.{at_rest}
use Rattle.page.proofs.fill.AnswerList.put_rest.Given as goal

abbrev pub invariant-loop-k : goal.invariant-loop-k
invariant-loop-k l =
    let list = l.self.numbers.now in
    let from = bottom_place l.self.places.depths 0 in
    let count = length list - from in
    sets l.initial.out l.at (each (at_rest list from) 0 count) ≡ sets l.out (l.at + 10 * l.k) (each (at_rest list from) l.k (count - l.k))

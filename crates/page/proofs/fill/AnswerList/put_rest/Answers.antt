-- The invariant: what is to be stored in all from `at` is what is still to be stored from `at + 10·k`, the lines from k on.
use Prim.Native.Nat.{ℕ, ◌+◌, ◌-◌, ◌*◌, ◌<◌, ◌≤◌}
use mathlib.Core.Path.{ap, sym, ◌∙◌}
use mathlib.Core.List.{List}
use native.Mathlib.Omega.{arith}
use lib.ListN.{length, get_or}
use lib.Seq.{sets}
use Rattle.std.proofs.lemmas.List.Edits.{length-between, get_or-between}
use Rattle.answers.specs.Each.{each}
use Rattle.answers.specs.Place.{bottom_place}
use Rattle.answers.proofs.Stores.{each_next, each_done}
use Rattle.page.specs.program.Text.{at_rest, number_text}
use Rattle.page.proofs.Lines.{rest_line}
use Rattle.page.proofs.fill.AnswerList.put_rest.Goals as goal

pub loop-k-preserved : goal.loop-k-preserved
loop-k-preserved c =
    let l = c.loop-k in
    let a = c.args in
    let list = a.self.now.numbers.now in
    let from = bottom_place a.self.now.places.depths 0 in
    let n = length list - from in
    let found = c.bottom in
    let t : l.k < n = omega (arith, c.loop-k-test.true, length-between list found.result (length list) (omega arith), found.ensures) in
    let number = get_or-between list found.result (length list) l.k 0 (omega (arith, t, found.ensures)) ∙ ap (λ (x : ℕ). get_or list (x + l.k) 0) found.ensures in
    l.invariant
    ∙ each_next (at_rest list from) l.out (a.at + 10 * l.k) (a.at + 10 * (l.k + 1)) n l.k t (omega (arith, rest_line list a.self.now.digits from l.k))
    ∙ ap (λ (x : List ℕ). sets x (a.at + 10 * (l.k + 1)) (each (at_rest list from) (l.k + 1) (n - (l.k + 1))))
    (sym (c.put_line.ensures ∙ ap (λ (x : ℕ). sets l.out (a.at + 10 * l.k) (number_text x)) number))

pub returns : goal.returns
returns c =
    let l = c.loop-k in
    let a = c.args in
    let list = a.self.now.numbers.now in
    let from = bottom_place a.self.now.places.depths 0 in
    let n = length list - from in
    let found = c.bottom in
    let t : n ≤ l.k = omega (arith, c.loop-k-test.false, length-between list found.result (length list) (omega arith), found.ensures) in
    sym (l.invariant ∙ each_done (at_rest list from) l.out (a.at + 10 * l.k) n l.k t)

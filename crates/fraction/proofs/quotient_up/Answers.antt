use mathlib.Core.Path.{sym, ◌∙◌}
use Rattle.std.proofs.lemmas.Grind.{div_ceil_times}
use Rattle.fraction.proofs.Up.{up_unique}
use Rattle.fraction.proofs.quotient_up.Goals as goal

pub returns : goal.returns
returns c =
    let a = c.args in
    let bounds = div_ceil_times a.n a.d c.requires in
    c.div_ceil.ensures ∙ sym (up_unique a.n a.d _ c.requires bounds.0 bounds.1)

-- The quotient by digits is the quotient.
use Rattle.fraction.proofs.Division.{product_digits}
use Rattle.fraction.proofs.product_quotient.Goals as goal

pub returns : goal.returns
returns c = product_digits c.args.t c.args.n c.args.d 1048576 c.requires.3

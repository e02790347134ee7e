-- The filling pressure is that of the wall's foot, which its curve reaches.
use Rattle.loads.proofs.LoadLaws.{prepared_reaches}
use Rattle.loads.proofs.Basis.bottom_numbers.Goals as goal

pub at-vertical-requires : goal.at-vertical-requires
at-vertical-requires c =
    let b = c.args.self.now in
    (prepared_reaches b b.silo.foot c.load_depth-depth.ensures b.fits.foot_reached).vertical_reaches

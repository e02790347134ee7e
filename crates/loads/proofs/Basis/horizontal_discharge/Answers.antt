-- The filling pressure is that of the load depth, which its curve reaches.
use Rattle.loads.proofs.LoadLaws.{prepared_reaches, magnifiers_moderate}
use Rattle.loads.proofs.Basis.horizontal_discharge.Goals as goal

pub at-p_hf-requires : goal.at-p_hf-requires
at-p_hf-requires c = (prepared_reaches c.args.self.now c.args.z c.load_depth-depth.ensures c.requires).horizontal_reaches

pub magnified-requires : goal.magnified-requires
magnified-requires c = ((magnifiers_moderate c.args.self.now).0, c.at-p_hf.ensures.1)

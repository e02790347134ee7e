-- The filling loads are those of the load depth, which the curves reach; magnifiers and d_c are those of the silo.
use Rattle.loads.proofs.LoadLaws.{prepared_reaches, dc_fits, magnifiers_moderate}
use Rattle.loads.proofs.Basis.depth_numbers.Goals as goal

pub loads_at-filling-requires : goal.loads_at-filling-requires
loads_at-filling-requires c = prepared_reaches c.args.self.now c.args.z c.load_depth-depth.ensures c.requires.0

pub magnified-p_he-requires : goal.magnified-p_he-requires
magnified-p_he-requires c = ((magnifiers_moderate c.args.self.now).0, c.loads_at-filling.ensures.1)

pub magnified-p_we-requires : goal.magnified-p_we-requires
magnified-p_we-requires c = ((magnifiers_moderate c.args.self.now).1, c.loads_at-filling.ensures.2)

pub patch-p_p-requires : goal.patch-p_p-requires
patch-p_p-requires c = let d = dc_fits c.args.self.now in (d.0, d.1, d.2, c.magnified-p_he.ensures.1)

-- The patch rests on the rounded p_he and on the section's d_c.
use Rattle.loads.proofs.LoadLaws.{dc_fits}
use Rattle.loads.proofs.Basis.patch_load.Goals as goal

pub patch-requires : goal.patch-requires
patch-requires c = let d = dc_fits c.args.self.now in (d.0, d.1, d.2, c.horizontal_discharge-p_he.ensures.1)

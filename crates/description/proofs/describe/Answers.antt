-- A wall has at most 24 strakes.
use Rattle.description.proofs.Walls.{strakes_most}
use Rattle.description.proofs.describe.Goals as goal

pub read_wall-requires : goal.read_wall-requires
read_wall-requires c =
    let records = c.args.records.now in
    (c.place-5.ensures.0, c.place-6.ensures.0, c.place-6.ensures.1, strakes_most records.sheet.now records.met)

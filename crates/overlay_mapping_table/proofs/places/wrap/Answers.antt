use Rattle.overlay_mapping_table.proofs.Ways.{masked}
use Rattle.overlay_mapping_table.proofs.places.wrap.Goals as goal

pub returns-clause-same : goal.returns-clause-same
returns-clause-same c = masked c.args.n c.args.place c.requires

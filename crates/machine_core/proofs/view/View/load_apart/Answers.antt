use Rattle.std.proofs.Common.{length, refl}
use Rattle.ovl_io.specs.Permissions.{readable}
use Rattle.machine_core.proofs.Viewing.{unchanged_parted}
use Rattle.machine_core.proofs.view.View.load_apart.Goals as goal

pub returns-in-Ok-clause-made : goal.returns-in-Ok-clause-made
returns-in-Ok-clause-made c =
    unchanged_parted c.args.self.now _ refl refl c.args.address (length c.args.into.now) readable c.requires.count c.part.ensures c.load.ensures.same c.load.ensures.translations

pub returns-in-Err-clause-made : goal.returns-in-Err-clause-made
returns-in-Err-clause-made c =
    unchanged_parted c.args.self.now _ refl refl c.args.address (length c.args.into.now) readable c.requires.count c.part.ensures c.load.ensures.same c.load.ensures.translations

use Rattle.std.proofs.Common.{refl}
use Rattle.std.specs.Prelude.{Ok, Err}
use Rattle.machine_core.proofs.Viewing.{leaves_refused, stored_parted}
use Rattle.machine_core.proofs.view.View.store_apart.Goals as goal

pub returns-in-Ok-clause-made : goal.returns-in-Ok-clause-made
returns-in-Ok-clause-made c done =
    let stores = c.in-Ok.ensures.stores in
    stored_parted c.args.self.now _ refl refl c.args.address c.args.bytes.now (Ok tt) c.requires.count c.part.ensures (stores.0, stores.1, c.units.ensures.fits) c.store.ensures.translations

pub returns-in-Err-clause-unmade : goal.returns-in-Err-clause-unmade
returns-in-Err-clause-unmade c done =
    let view = c.args.self.now in
    stored_parted view _ refl refl c.args.address c.args.bytes.now (Err c.refused.result) c.requires.count c.part.ensures
    (leaves_refused view.memory.now c.store.new.self view.space c.args.address c.args.bytes.now c.in-Err.error c.refused.result c.refused.ensures c.in-Err.ensures.stores) c.store.ensures.translations

use Rattle.std.proofs.Common.{arith}
use Rattle.overlay_memory.specs.View.{state_of}
use Rattle.machine_core.proofs.Adding.{placed_added}
use Rattle.machine_core.proofs.load.place.Goals as goal

pub returns-in-Ok-clause-added : goal.returns-in-Ok-clause-added
returns-in-Ok-clause-added c =
    placed_added (state_of c.args.memory.now) (state_of c.place_page.new.self) c.args.p c.args.page c.args.perms c.args.bytes.now (omega arith) c.in-Ok.ensures.places.0

use Rattle.std.proofs.Common.{◌+◌, refl, arith}
use Rattle.overlay_memory.proofs.Forgetting.{both, none_later}
use Rattle.overlay_memory.proofs.epochs.SeenPages.clear.Goals as goal

pub returns : goal.returns
returns c =
    both _ _ _ _ (none_later c.self.inside.epoch (c.self.inside.epoch + 1) c.self.inside.places.items (omega arith) c.self.invariant.count c.self.invariant.past) refl

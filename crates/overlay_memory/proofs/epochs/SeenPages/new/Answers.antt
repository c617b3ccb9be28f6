use Rattle.std.proofs.Common.{refl}
use Rattle.overlay_memory.proofs.Forgetting.{both, kept_first, none_first}
use Rattle.overlay_memory.proofs.epochs.SeenPages.new.Goals as goal

pub invariant_of-result : goal.invariant_of-result
invariant_of-result c = kept_first c.in_ok-places.places.items _ c.in_ok-places.ensures refl

pub returns : goal.returns
returns c = both _ _ _ _ (none_first c.in_ok-places.places.items 1025 c.in_ok-places.ensures refl) refl

use Rattle.std.proofs.Common.{◌-◌, length}
use Rattle.segment_store.specs.Places.{HasLifted}
use Rattle.segment_store.proofs.places.lift.Given as goal

abbrev pub invariant-lifting : goal.invariant-lifting
invariant-lifting l = HasLifted (length l.fn.region - 64) l.block l.fn.bits l.yielded l.line-iterator l.fn.region l.region

use Rattle.std.proofs.Common.{◌-◌, length}
use Rattle.segment_store.specs.Places.{HasLaid}
use Rattle.segment_store.proofs.places.lay.Given as goal

abbrev pub invariant-laying : goal.invariant-laying
invariant-laying l = HasLaid (length l.fn.region - 64) l.block l.fn.bits l.yielded l.line-iterator l.fn.region l.region

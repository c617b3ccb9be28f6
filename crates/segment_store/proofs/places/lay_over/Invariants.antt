use Rattle.std.proofs.Common.{◌-◌, length}
use Rattle.segment_store.specs.Places.{HasLaidOver}
use Rattle.segment_store.proofs.places.lay_over.Given as goal

abbrev pub invariant-laying : goal.invariant-laying
invariant-laying l = HasLaidOver (length l.fn.region - 64) l.first l.fn.bits l.yielded l.line-iterator l.fn.region l.region

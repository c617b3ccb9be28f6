use Rattle.segment_store.specs.Places.{HasLifted}
use Rattle.segment_store.proofs.places.lay_in_page.Given as goal

abbrev pub invariant-laying : goal.invariant-laying
invariant-laying l = HasLifted l.first l.block l.fn.bits l.yielded l.line-iterator l.fn.region l.region

use Rattle.std.proofs.Common.{arith}
use Rattle.segment_store.proofs.Known.{known}
use Rattle.segment_store.proofs.store.SegmentStore.get.Goals as goal

pub place-requires-clause-line : goal.place-requires-clause-line
place-requires-clause-line c = (known _ _ c.self.view_is c.self.invariant c.args.block c.requires.there c.args.line c.requires.line).low

pub place-requires-clause-block : goal.place-requires-clause-block
place-requires-clause-block c = (known _ _ c.self.view_is c.self.invariant c.args.block c.requires.there c.args.line c.requires.line).within

pub line-requires : goal.line-requires
line-requires c = record { there = omega (arith, (known _ _ c.self.view_is c.self.invariant c.args.block c.requires.there c.args.line c.requires.line).before, c.place.ensures) }

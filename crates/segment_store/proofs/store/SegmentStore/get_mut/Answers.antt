use Rattle.std.proofs.Common.{sym, subst, arith}
use Rattle.segment_store.specs.Store.{with_line_at}
use Rattle.segment_store.specs.contracts.store.SegmentStore.{the_view}
use Rattle.segment_store.specs.Kept.{IsStore}
use Rattle.segment_store.specs.Laws.{line_set_store}
use Rattle.segment_store.proofs.Known.{known}
use Rattle.segment_store.proofs.store.SegmentStore.get_mut.Goals as goal

pub place-at-requires-clause-line : goal.place-at-requires-clause-line
place-at-requires-clause-line c = (known _ _ c.self.view_is c.self.invariant c.args.block c.requires.there c.args.line c.requires.line).low

pub place-at-requires-clause-block : goal.place-at-requires-clause-block
place-at-requires-clause-block c = (known _ _ c.self.view_is c.self.invariant c.args.block c.requires.there c.args.line c.requires.line).within

pub line_mut-requires : goal.line_mut-requires
line_mut-requires c = record { there = omega (arith, (known _ _ c.self.view_is c.self.invariant c.args.block c.requires.there c.args.line c.requires.line).before, c.place-at.ensures) }

pub invariant_of-self-lent : goal.invariant_of-self-lent
invariant_of-self-lent c w =
    let line = known _ _ c.self.view_is c.self.invariant c.args.block c.requires.there c.args.line c.requires.line in
    subst (λ at. IsStore (with_line_at (the_view c.self.inside) at w)) (sym c.place-at.ensures)
    (line_set_store (the_view c.self.inside) c.self.invariant c.args.block line.there c.args.line line.has w)

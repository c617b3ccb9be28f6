use Rattle.std.proofs.Common.{sym, subst}
use Rattle.segment_store.specs.Store.{HoldsLine}
use Rattle.segment_store.specs.contracts.store.SegmentStore.{the_view}
use Rattle.segment_store.proofs.Known.{holds_before, holds_store}
use Rattle.segment_store.proofs.store.SegmentStore.line_mut.Goals as goal

pub line_mut-requires : goal.line_mut-requires
line_mut-requires c =
    record { there = holds_before _ c.self.invariant c.args.at (subst (λ s. HoldsLine s c.args.at) (sym c.self.view_is) c.requires.holds) }

pub invariant_of-self-lent : goal.invariant_of-self-lent
invariant_of-self-lent c w =
    holds_store (the_view c.self.inside) c.self.invariant c.args.at (subst (λ s. HoldsLine s c.args.at) (sym c.self.view_is) c.requires.holds) w

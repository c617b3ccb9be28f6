use Rattle.std.proofs.Common.{◌+◌, ◌*◌, ◌≤◌, refl, subst, sym, arith}
use Rattle.unit_map.specs.Pieces.{units_in}
use Rattle.segment_store.specs.Store.{Store, IsFrame}
use Rattle.segment_store.specs.contracts.store.SegmentStore.{the_view}
use Rattle.segment_store.specs.Laws.{frame_inside}
use Rattle.segment_store.proofs.Composing.{HasComposed, composed_frame}
use Rattle.segment_store.proofs.store.SegmentStore.compose_frame.Goals as goal
use Rattle.segment_store.proofs.store.SegmentStore.compose_frame.Goals.{After-self}

taken : (c : After-self) → IsFrame (the_view c.self.inside) c.args.to
taken c = subst (λ s. IsFrame s c.args.to) (sym c.self.view_is) c.requires.to

-- the frame that is composed lies in the region
inside : (c : After-self) → 16 * c.args.to + 16 ≤ units_in c.self.inside.map
inside c = frame_inside (the_view c.self.inside) c.self.invariant c.args.to (taken c)

pub copy_page-requires-clause-target : goal.copy_page-requires-clause-target
copy_page-requires-clause-target c = omega (arith, inside (goal.at.copy_page-requires-clause-target c).After-self, c.self.invariant.lines)

pub overflow_mul-to : goal.overflow_mul-to
overflow_mul-to c = record { fits = omega (arith, inside (goal.at.overflow_mul-to c).After-self, c.self.invariant.pieces.few) }

pub lay_over-requires-clause-inside : goal.lay_over-requires-clause-inside
lay_over-requires-clause-inside c = omega (arith, inside (goal.at.lay_over-requires-clause-inside c).After-self, c.self.invariant.lines, c.copy_page.ensures.size)

abbrev after : goal.After-lay_over → Store
after c = the_view record { region = c.lay_over.new.region; map = c.self.inside.map; slots = c.self.inside.slots }

has : (c : goal.After-lay_over) → HasComposed (the_view c.self.inside) (after c) c.args.from c.args.bits c.args.to
has c =
    composed_frame (the_view c.self.inside) (after c) c.copy_page.new.region c.args.from c.args.bits c.args.to c.self.invariant
    (subst (λ s. IsFrame s c.args.to) (sym c.self.view_is) c.requires.to) c.copy_page.ensures c.lay_over.ensures refl refl

pub invariant_of-self : goal.invariant_of-self
invariant_of-self c = (has c).fills.store

pub returns : goal.returns
returns c = let is = has c in rw (← c.self.view_is) (record { fills = is.fills; lines = is.lines })

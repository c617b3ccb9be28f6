use Rattle.std.proofs.Common.{◌≡◌, ◌+◌, ◌*◌, ◌≤◌, refl, subst, sym, ap, ◌∙◌, arith}
use Rattle.unit_map.specs.Pieces.{units_in}
use Rattle.overlay_bits.specs.Lines.{has_line}
use Rattle.segment_store.specs.Store.{Store, IsFrame, IsSegment, lines_at}
use Rattle.segment_store.specs.contracts.store.SegmentStore.{the_view}
use Rattle.segment_store.specs.Laws.{block_in, frame_inside, lies_at}
use Rattle.segment_store.proofs.Composing.{HasLaidInFrame, apart_frame, laid_in_frame}
use Rattle.segment_store.proofs.store.SegmentStore.lay_in_frame.Goals as goal
use Rattle.segment_store.proofs.store.SegmentStore.lay_in_frame.Goals.{After-self}

there : (c : After-self) → IsSegment (the_view c.self.inside) c.args.block
there c = subst (λ s. IsSegment s c.args.block) (sym c.self.view_is) c.requires.there

taken : (c : After-self) → IsFrame (the_view c.self.inside) c.args.frame
taken c = subst (λ s. IsFrame s c.args.frame) (sym c.self.view_is) c.requires.frame

-- the frame lies in the region
inside : (c : After-self) → 16 * c.args.frame + 16 ≤ units_in c.self.inside.map
inside c = frame_inside (the_view c.self.inside) c.self.invariant c.args.frame (taken c)

pub overflow_mul-frame : goal.overflow_mul-frame
overflow_mul-frame c = record { fits = omega (arith, inside (goal.at.overflow_mul-frame c).After-self, c.self.invariant.pieces.few) }

pub lay_in_page-requires-clause-block : goal.lay_in_page-requires-clause-block
lay_in_page-requires-clause-block c = block_in _ c.self.invariant c.args.block (there (goal.at.lay_in_page-requires-clause-block c).After-self)

pub lay_in_page-requires-clause-lie : goal.lay_in_page-requires-clause-lie
lay_in_page-requires-clause-lie c line has =
    let bits = subst (λ s. lines_at s c.args.block.unit ≡ c.args.bits) (sym c.self.view_is) c.requires.bits in
    lies_at (the_view c.self.inside) c.self.invariant c.args.block (there (goal.at.lay_in_page-requires-clause-lie c).After-self) line (ap (λ b. has_line b line) bits ∙ has)

pub lay_in_page-requires-clause-inside : goal.lay_in_page-requires-clause-inside
lay_in_page-requires-clause-inside c = omega (arith, inside (goal.at.lay_in_page-requires-clause-inside c).After-self, c.self.invariant.lines)

pub lay_in_page-requires-clause-apart : goal.lay_in_page-requires-clause-apart
lay_in_page-requires-clause-apart c =
    let at = (goal.at.lay_in_page-requires-clause-apart c).After-self in apart_frame (the_view c.self.inside) c.args.block c.args.frame c.self.invariant (there at) (taken at)

abbrev after : goal.After-lay_in_page → Store
after c = the_view record { region = c.lay_in_page.new.region; map = c.self.inside.map; slots = c.self.inside.slots }

has : (c : goal.After-lay_in_page) → HasLaidInFrame (the_view c.self.inside) (after c) c.args.block c.args.bits c.args.frame
has c =
    laid_in_frame (the_view c.self.inside) (after c) c.args.block c.args.bits c.args.frame c.self.invariant (subst (λ s. IsFrame s c.args.frame) (sym c.self.view_is) c.requires.frame)
    c.lay_in_page.ensures.are c.lay_in_page.ensures.lifts refl refl

pub invariant_of-self : goal.invariant_of-self
invariant_of-self c = (has c).fills.store

pub returns : goal.returns
returns c = let is = has c in rw (← c.self.view_is) (record { fills = is.fills; lines = is.lines })

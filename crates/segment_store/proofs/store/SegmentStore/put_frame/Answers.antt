use Rattle.std.proofs.Common.{◌+◌, ◌*◌, ◌≤◌, refl, subst, sym, ap, ◌∙◌, arith}
use Rattle.line_store.specs.Lines.{with_put}
use Rattle.unit_map.specs.Pieces.{units_in}
use Rattle.segment_store.specs.Store.{Store, IsFrame}
use Rattle.segment_store.specs.contracts.store.SegmentStore.{the_view}
use Rattle.segment_store.specs.Laws.{frame_inside}
use Rattle.segment_store.proofs.Composing.{HasPutFrame, put_in_frame}
use Rattle.segment_store.proofs.store.SegmentStore.put_frame.Goals as goal
use Rattle.segment_store.proofs.store.SegmentStore.put_frame.Goals.{After-self}

taken : (c : After-self) → IsFrame (the_view c.self.inside) c.args.frame
taken c = subst (λ s. IsFrame s c.args.frame) (sym c.self.view_is) c.requires.frame

-- the frame lies in the region
inside : (c : After-self) → 16 * c.args.frame + 16 ≤ units_in c.self.inside.map
inside c = frame_inside (the_view c.self.inside) c.self.invariant c.args.frame (taken c)

pub overflow_mul-frame : goal.overflow_mul-frame
overflow_mul-frame c = record { fits = omega (arith, inside (goal.at.overflow_mul-frame c).After-self, c.self.invariant.pieces.few) }

pub put_lines-requires : goal.put_lines-requires
put_lines-requires c = record { there = omega (arith, inside (goal.at.put_lines-requires c).After-self, c.self.invariant.lines, c.requires.lines) }

abbrev after : goal.After-put_lines → Store
after c = the_view record { region = c.put_lines.new.self; map = c.self.inside.map; slots = c.self.inside.slots }

has : (c : goal.After-put_lines) → HasPutFrame (the_view c.self.inside) (after c) c.args.frame c.args.lines.now
has c =
    put_in_frame (the_view c.self.inside) (after c) c.args.frame c.args.lines.now c.self.invariant (subst (λ s. IsFrame s c.args.frame) (sym c.self.view_is) c.requires.frame) c.requires.lines
    (c.put_lines.ensures.put ∙ ap (with_put c.self.inside.region (64 * c.args.frame) c.args.lines.now) c.requires.lines) c.put_lines.ensures.count refl refl

pub invariant_of-self : goal.invariant_of-self
invariant_of-self c = (has c).fills.store

pub returns : goal.returns
returns c = let is = has c in rw (← c.self.view_is) (record { fills = is.fills; lines = is.lines })

use Rattle.std.proofs.Common.{◌≡◌, ◌<◌, false, length, subst, sym, refl, arith}
use Rattle.overlay_bits.specs.Lines.{has_line, with_line}
use Rattle.segment_store.specs.Pointers.{capacity_of}
use Rattle.segment_store.specs.Store.{Store, IsSegment, lines_at}
use Rattle.segment_store.specs.contracts.store.SegmentStore.{the_view}
use Rattle.segment_store.specs.Changes.{HasLinesNow, Inserts, KeepsFrames, KeepsOtherSegments, KeepsScratch}
use Rattle.segment_store.specs.Laws.{block_in, pointers_there, set_there}
use Rattle.segment_store.proofs.Filling.{HasInserted, has_inserted, some_slot}
use Rattle.segment_store.proofs.Laying.{reserved}
use Rattle.segment_store.proofs.store.SegmentStore.insert.Goals as goal

pub reserve-at-requires-clause-block : goal.reserve-at-requires-clause-block
reserve-at-requires-clause-block c = block_in _ c.self.invariant c.args.block (subst (λ s. IsSegment s c.args.block) (sym c.self.view_is) c.requires.there)

pub reserve-at-requires-clause-free : goal.reserve-at-requires-clause-free
reserve-at-requires-clause-free c h =
    let store = the_view c.self.inside in
    let there = subst (λ s. IsSegment s c.args.block) (sym c.self.view_is) c.requires.there in
    some_slot store.lines c.args.block (lines_at store c.args.block.unit) h (pointers_there store c.self.invariant c.args.block there h)
    (subst (λ s. length (lines_at s c.args.block.unit) < capacity_of c.args.block.order) (sym c.self.view_is) c.requires.room)

pub put_line-requires : goal.put_line-requires
put_line-requires c =
    let store = the_view c.self.inside in
    let there = subst (λ s. IsSegment s c.args.block) (sym c.self.view_is) c.requires.there in
    let within = block_in store c.self.invariant c.args.block there in
    let r = reserved c.args.block (lines_at store c.args.block.unit) c.args.line store.lines c.reserve-at.new.region (pointers_there store c.self.invariant c.args.block there) (record {
      low = c.requires.line;
      within = within;
      set = set_there store c.self.invariant c.args.block there;
      absent = subst (λ s. has_line (lines_at s c.args.block.unit) c.args.line ≡ false) (sym c.self.view_is) c.requires.absent;
      free = λ h. some_slot store.lines c.args.block (lines_at store c.args.block.unit) h (pointers_there store c.self.invariant c.args.block there h)
          (subst (λ s. length (lines_at s c.args.block.unit) < capacity_of c.args.block.order) (sym c.self.view_is) c.requires.room);
    }) c.reserve-at.ensures.reserves in
    record { there = omega (arith, r.to, within.inside, c.reserve-at.ensures.place, c.reserve-at.ensures.reserves.size) }

abbrev after : goal.After-add_line → Store
after c = the_view record { region = c.put_line.new.self; map = c.self.inside.map; slots = c.add_line.new.slots }

has : (c : goal.After-add_line) → HasInserted (the_view c.self.inside) (after c) c.args.block c.args.line c.args.bytes.now
has c =
    let there = subst (λ s. IsSegment s c.args.block) (sym c.self.view_is) c.requires.there in
    has_inserted (the_view c.self.inside) _ c.reserve-at.new.region c.args.block c.args.line c.reserve-at.result c.args.bytes.now c.self.invariant there c.requires.line
    (subst (λ s. has_line (lines_at s c.args.block.unit) c.args.line ≡ false) (sym c.self.view_is) c.requires.absent)
    c.reserve-at.ensures.reserves c.reserve-at.ensures.place c.put_line.ensures refl c.add_line.ensures.added

pub invariant_of-self : goal.invariant_of-self
invariant_of-self c = (has c).filled.store

pub returns-clause-inserts : goal.returns-clause-inserts
returns-clause-inserts c = subst (λ s. Inserts s (after c) c.args.block c.args.line c.args.bytes.now) c.self.view_is (has c).inserts

pub returns-clause-lines : goal.returns-clause-lines
returns-clause-lines c = subst (λ s. HasLinesNow s (after c) c.args.block (with_line (lines_at s c.args.block.unit) c.args.line)) c.self.view_is (has c).filled.lines

pub returns-clause-segments : goal.returns-clause-segments
returns-clause-segments c = subst (λ s. KeepsOtherSegments s c.args.block.unit (after c)) c.self.view_is (has c).filled.segments

pub returns-clause-frames : goal.returns-clause-frames
returns-clause-frames c = subst (λ s. KeepsFrames s (after c)) c.self.view_is (has c).filled.frames

pub returns-clause-scratch : goal.returns-clause-scratch
returns-clause-scratch c = subst (λ s. KeepsScratch s (after c)) c.self.view_is (has c).filled.scratch

pub returns-clause-store : goal.returns-clause-store
returns-clause-store c = (has c).filled.store

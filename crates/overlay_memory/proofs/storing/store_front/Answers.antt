use Rattle.std.proofs.Common.{◌*◌, ◌+◌, ◌-◌, ◌/◌, ◌%◌, ◌++◌, List, ℕ, length, take, drop, ap, refl, ◌∙◌, arith}
use Rattle.overlay_memory.specs.Fronts.{IsFrontWritePlace}
use Rattle.overlay_memory.specs.Pieces.{IsFilled}
use Rattle.overlay_memory.proofs.Fronting.{filled_fronts, hits_fronts, hits_true}
use Rattle.overlay_memory.proofs.Placing.{is_put_place, place_filled, place_stored}
use Rattle.overlay_memory.proofs.Truths.{filled_true}
use Rattle.overlay_memory.proofs.storing.store_front.Goals as goal
use Rattle.overlay_memory.proofs.storing.store_front.Goals.{After-count_hit}
use Rattle.overlay_pages.specs.Calls.{with_line_at_place}
use Rattle.overlay_pages.specs.View.{MemoryView, state_of}
use Rattle.translation_cache.specs.Bare.{bare, bare_hits}

-- where the line stands
at : (c : After-count_hit) → IsFrontWritePlace c.args.pages.now c.args.fronts.now c.args.space c.args.address c.write_place-place.result
at c = c.write_place-place.ensures.place (omega (arith, c.if-place.false, c.write_place-place.type_inv))

-- what it is then
abbrev line : After-count_hit → List ℕ
line c =
    let from = c.args.address % 64 in
    let old = c.line_at_place_mut.result.now in
    take from old ++ (c.copy_from_slice.new.self ++ drop (from + length c.args.bytes.now - from) (drop from old))

abbrev after : After-count_hit → MemoryView
after c = with_line_at_place c.args.pages.now c.write_place-place.result (line c)

filled : (c : After-count_hit) → IsFilled (state_of c.args.pages.now) (state_of (after c)) c.args.space
    (4096 * (c.args.address / 4096) + (64 * (c.args.address / 64 % 64) + c.args.address % 64)) c.args.bytes.now
filled c =
    let from = c.args.address % 64 in
    place_filled c.args.pages.now c.args.fronts.now c.args.space c.args.address c.write_place-place.result (at c) (from + length c.args.bytes.now - from)
    c.args.bytes.now c.line_at_place_mut.result.now c.copy_from_slice.new.self c.line_at_place_mut.ensures.value c.line_at_place_mut.ensures.state
    c.copy_from_slice.ensures.after (omega arith) (omega arith) c.requires.some c.requires.one_line

pub returns-then-place-clause-fronts : goal.returns-then-place-clause-fronts
returns-then-place-clause-fronts c = c.write_place-place.ensures.fronts (bare c.args.cache.now) c.requires.fronts

pub line_at_place_mut-requires : goal.line_at_place_mut-requires
line_at_place_mut-requires c = record {
  place = is_put_place c.args.pages.now c.args.fronts.now c.args.space c.args.address c.write_place-place.result (c.write_place-place.ensures.place (omega (arith, c.if-place.false, c.write_place-place.type_inv)));
}

pub returns-clause-stores : goal.returns-clause-stores
returns-clause-stores c = λ done.
    let here = (goal.at.returns-clause-stores c).After-count_hit in
    place_stored c.args.pages.now c.args.fronts.now c.args.space c.args.address c.write_place-place.result (at here) (state_of (after here)) c.args.bytes.now
    c.line_at_place_mut.ensures.joined c.requires.small c.requires.some c.requires.one_line (filled here)

pub returns-clause-hits : goal.returns-clause-hits
returns-clause-hits c = λ done. ap bare c.count_hit.ensures ∙ bare_hits 1 c.args.cache.now

pub returns-clause-held : goal.returns-clause-held
returns-clause-held c =
    let here = (goal.at.returns-clause-held c).After-count_hit in
    hits_true (state_of (after here)) c.args.cache.now c.count_hit.new.self 1 c.count_hit.ensures
    (filled_true (state_of c.args.pages.now) (state_of (after here)) c.args.space _ c.args.bytes.now c.args.cache.now (filled here) c.requires.held)

pub returns-clause-fronts : goal.returns-clause-fronts
returns-clause-fronts c =
    let here = (goal.at.returns-clause-fronts c).After-count_hit in
    hits_fronts (after here) (bare c.args.cache.now) (bare c.count_hit.new.self) 1 c.write_place-place.new.fronts
    (ap bare c.count_hit.ensures ∙ bare_hits 1 c.args.cache.now)
    (filled_fronts c.args.pages.now (after here) (bare c.args.cache.now) c.write_place-place.new.fronts refl (c.line_at_place_mut.ensures.places (line here))
    (c.write_place-place.ensures.fronts (bare c.args.cache.now) c.requires.fronts))

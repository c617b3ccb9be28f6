use Rattle.std.proofs.Common.{◌/◌, ap, sym, ◌∙◌, arith}
use Rattle.overlay_pages.specs.State.{memory_of}
use Rattle.overlay_pages.specs.Spots.{IsFoundPageAt}
use Rattle.overlay_pages.specs.View as seen
use Rattle.ovl_io.specs.PageBytes.{page_allows}
use Rattle.overlay_memory.specs.Fronts.{held_of}
use Rattle.overlay_memory.specs.View.{TranslatedView, state_of, translations_of}
use Rattle.overlay_memory.proofs.Counting.{allows_is}
use Rattle.overlay_memory.proofs.Fronting.{front_looked_for, held_there, seen_found, seen_itself, translated_there}
use Rattle.overlay_memory.proofs.memory.OverlayMemory.bring_front.Goals as goal
use Rattle.overlay_memory.proofs.memory.OverlayMemory.bring_front.Goals.{After-contains}
use Rattle.translation_cache.specs.Bare.{bare}
use Rattle.translation_cache.specs.Counted.{translated}

-- the page as the tables have it
at : (c : After-contains) → IsFoundPageAt c.self.inside.pages c.args.space (c.args.address / 4096) c.in-Some.known.now.found
at c =
    seen_found c.self.inside.pages c.args.space (c.args.address / 4096) c.in-Some.known.now c.self.inside.fronts c.self.invariant.1.seen c.in-Some.ensures (omega (arith, c.ranges.address.fits))

pub bring_seen-requires-clause-known : goal.bring_seen-requires-clause-known
bring_seen-requires-clause-known c = seen_itself c.args.space (c.args.address / 4096) c.in-Some.known.now c.self.inside.fronts c.in-Some.ensures

pub returns-else-not-contains-clause-may : goal.returns-else-not-contains-clause-may
returns-else-not-contains-clause-may c = λ e.
    sym (ap (λ (m : TranslatedView). page_allows (memory_of (state_of m) c.args.space) c.args.need.0 (c.args.address / 4096)) c.self.view_is)
    ∙ sym (allows_is (seen.state_of c.self.inside.pages) c.args.space (c.args.address / 4096) c.self.inside.cache (held_of c.in-Some.known.now.found) c.args.need.0
    (sym (held_there c.self.inside.pages c.args.space (c.args.address / 4096) c.in-Some.known.now.found (at (goal.at.returns-else-not-contains-clause-may c).After-contains))))
    ∙ sym (c.contains.ensures tt) ∙ c.if-not-contains.false

pub returns-else-not-contains-clause-front : goal.returns-else-not-contains-clause-front
returns-else-not-contains-clause-front c = λ e.
    front_looked_for c.self.inside.pages c.args.space (c.args.address / 4096) c.in-Some.known.now.found (bare c.self.inside.cache) (bare c.bring_seen.new.cache)
    (at (goal.at.returns-else-not-contains-clause-front c).After-contains) c.bring_seen.ensures.front

pub returns-else-not-contains-clause-translations : goal.returns-else-not-contains-clause-translations
returns-else-not-contains-clause-translations c = λ e.
    translated_there c.self.inside.pages c.args.space (c.args.address / 4096) c.in-Some.known.now.found (bare c.self.inside.cache) (bare c.bring_seen.new.cache)
    (at (goal.at.returns-else-not-contains-clause-translations c).After-contains) c.bring_seen.ensures.translated
    ∙ ap (λ (m : TranslatedView). translated c.args.space (memory_of (state_of m) c.args.space) (c.args.address / 4096) (translations_of m)) c.self.view_is

use Rattle.std.proofs.Common.{◌<◌, ◌/◌, sym, subst, ◌∙◌, arith}
use Rattle.overlay_memory.specs.Code.{IsFrontLine}
use Rattle.overlay_memory.specs.View.{TranslatedView}
use Rattle.overlay_memory.proofs.Fronting.{front_there, known_found, known_ahead}
use Rattle.overlay_memory.proofs.memory.OverlayMemory.front_line.Goals as goal
use Rattle.overlay_pages.specs.declared.spots.TheConstants.{NO_PAGE}
use Rattle.translation_cache.specs.Bare.{bare}

pub line_at-requires : goal.line_at-requires
line_at-requires c =
    let pages = c.self.inside.pages in
    let at = known_found pages c.args.space (c.args.address / 4096) c.in-Some.known.now (bare c.self.inside.cache) c.self.inside.fronts c.self.invariant.1 c.in-Some.ensures
    (omega (arith, c.ranges.address.fits)) in
    record { found = (c.line.ensures pages at.is).is }

pub returns-then-contains : goal.returns-then-contains
returns-then-contains c =
    let pages = c.self.inside.pages in
    let t = bare c.self.inside.cache in
    let so = c.in-Some.ensures in
    let low : c.args.address / 4096 < NO_PAGE = omega (arith, c.ranges.address.fits) in
    let at = known_found pages c.args.space (c.args.address / 4096) c.in-Some.known.now t c.self.inside.fronts c.self.invariant.1 so low in
    subst (λ (m : TranslatedView). IsFrontLine m c.args.space c.args.need.0 c.args.address c.line_at.result.now) c.self.view_is
    (front_there pages c.args.space c.args.address c.line_of.result c.in-Some.known.now.found c.line.result at c.line_of.ensures.line (c.line.ensures pages at.is)
    c.self.inside.cache c.args.need.0 c.line_at.result.now (sym (c.contains.ensures tt) ∙ c.if-contains.true)
    (known_ahead pages c.args.space (c.args.address / 4096) c.in-Some.known.now t c.self.inside.fronts c.self.invariant.1 so low)
    c.line_at.ensures.value c.line_at.ensures.bytes)

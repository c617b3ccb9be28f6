use Rattle.std.proofs.Common.{◌/◌, ap, ◌∙◌, arith}
use Rattle.overlay_memory.proofs.Fronting.{hits_fronts, hits_true, known_found, known_translated}
use Rattle.overlay_memory.proofs.storing.store_line.Goals as goal
use Rattle.overlay_pages.specs.View.{state_of}
use Rattle.translation_cache.specs.Bare.{bare, bare_hits}

pub store_found-requires-clause-found : goal.store_found-requires-clause-found
store_found-requires-clause-found c =
    known_found c.args.pages.now c.args.space (c.args.address / 4096) c.in-Some.known.now (bare c.args.cache.now) c.args.fronts.now c.requires.fronts c.in-Some.ensures (omega (arith, c.ranges.address.fits))

pub store_found-requires-clause-held : goal.store_found-requires-clause-held
store_found-requires-clause-held c =
    hits_true (state_of c.args.pages.now) c.args.cache.now c.count_hit.new.self 1 c.count_hit.ensures c.requires.held

pub store_found-requires-clause-fronts : goal.store_found-requires-clause-fronts
store_found-requires-clause-fronts c =
    hits_fronts c.args.pages.now (bare c.args.cache.now) (bare c.count_hit.new.self) 1 c.args.fronts.now
    (ap bare c.count_hit.ensures ∙ bare_hits 1 c.args.cache.now) c.requires.fronts

pub returns-in-Some-clause-translated : goal.returns-in-Some-clause-translated
returns-in-Some-clause-translated c =
    c.store_found.ensures.lists
    ∙ known_translated c.args.pages.now c.args.space (c.args.address / 4096) c.in-Some.known.now (bare c.args.cache.now) c.args.fronts.now c.requires.fronts c.in-Some.ensures (omega (arith, c.ranges.address.fits))
    (bare c.count_hit.new.self) (ap bare c.count_hit.ensures ∙ bare_hits 1 c.args.cache.now)

use Rattle.std.proofs.Common.{ap, ◌∙◌}
use Rattle.overlay_memory.proofs.Fronting.{hits_fronts, hits_true, known_found, known_front, known_translated}
use Rattle.overlay_memory.proofs.translating.translate.Goals as goal
use Rattle.overlay_pages.specs.View.{state_of}
use Rattle.translation_cache.specs.Bare.{bare, bare_hits}

pub returns-in-Some-clause-found : goal.returns-in-Some-clause-found
returns-in-Some-clause-found c =
    known_found c.args.pages.now c.args.space c.args.page c.in-Some.known.now (bare c.args.cache.now) c.args.fronts.now c.requires.fronts c.in-Some.ensures c.requires.low

pub returns-in-Some-clause-front : goal.returns-in-Some-clause-front
returns-in-Some-clause-front c =
    known_front c.args.pages.now c.args.space c.args.page c.in-Some.known.now (bare c.args.cache.now) c.args.fronts.now c.requires.fronts c.in-Some.ensures c.requires.low
    (bare c.count_hit.new.self) (ap bare c.count_hit.ensures ∙ bare_hits 1 c.args.cache.now)

pub returns-in-Some-clause-translated : goal.returns-in-Some-clause-translated
returns-in-Some-clause-translated c =
    known_translated c.args.pages.now c.args.space c.args.page c.in-Some.known.now (bare c.args.cache.now) c.args.fronts.now c.requires.fronts c.in-Some.ensures c.requires.low
    (bare c.count_hit.new.self) (ap bare c.count_hit.ensures ∙ bare_hits 1 c.args.cache.now)

pub returns-in-Some-clause-held : goal.returns-in-Some-clause-held
returns-in-Some-clause-held c =
    hits_true (state_of c.args.pages.now) c.args.cache.now c.count_hit.new.self 1 c.count_hit.ensures c.requires.held

pub returns-in-Some-clause-fronts : goal.returns-in-Some-clause-fronts
returns-in-Some-clause-fronts c =
    hits_fronts c.args.pages.now (bare c.args.cache.now) (bare c.count_hit.new.self) 1 c.args.fronts.now
    (ap bare c.count_hit.ensures ∙ bare_hits 1 c.args.cache.now) c.requires.fronts

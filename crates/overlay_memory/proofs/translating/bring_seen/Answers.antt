use Rattle.std.proofs.Common.{Some, ap, sym, subst, ◌∙◌}
use Rattle.overlay_memory.specs.Fronts.{AreFronts}
use Rattle.overlay_memory.proofs.Fronting.{brought_known, held_there, known_itself, now_front}
use Rattle.overlay_memory.proofs.translating.bring_seen.Goals as goal
use Rattle.translation_cache.specs.Bare.{bare, formed_bare}

pub look_up-requires-clause-there : goal.look_up-requires-clause-there
look_up-requires-clause-there c =
    let found = c.args.found.now in
    let at = known_itself c.args.pages.now found c.args.fronts.now c.requires.fronts.seen c.requires.known c.requires.low in
    ap Some c.cached_of.ensures ∙ held_there c.args.pages.now found.space found.page found at

pub returns-clause-front : goal.returns-clause-front
returns-clause-front c =
    let found = c.args.found.now in
    let at = known_itself c.args.pages.now found c.args.fronts.now c.requires.fronts.seen c.requires.known c.requires.low in
    now_front c.args.pages.now found.space found.page (bare c.args.cache.now) (bare c.look_up.new.cache) c.args.fronts.now
    (formed_bare c.args.cache.now c.look_up.ensures.formed) c.look_up.ensures.translated c.requires.fronts found at

pub returns-clause-fronts : goal.returns-clause-fronts
returns-clause-fronts c =
    let found = c.args.found.now in
    let at = known_itself c.args.pages.now found c.args.fronts.now c.requires.fronts.seen c.requires.known c.requires.low in
    subst (AreFronts c.args.pages.now (bare c.look_up.new.cache)) (sym c.bring.ensures)
    (brought_known c.args.pages.now found.space found.page (bare c.args.cache.now) (bare c.look_up.new.cache) c.args.fronts.now
    (formed_bare c.args.cache.now c.look_up.ensures.formed) c.look_up.ensures.translated c.requires.fronts found at c.requires.known c.requires.low)

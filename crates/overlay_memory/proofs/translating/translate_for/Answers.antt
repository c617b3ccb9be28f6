use Rattle.std.proofs.Common.{sym, ◌∙◌}
use Rattle.overlay_memory.proofs.Counting.{allows_is, denied_is}
use Rattle.overlay_memory.proofs.Fronting.{absent_held, held_there}
use Rattle.overlay_memory.specs.Fronts.{held_of}
use Rattle.overlay_memory.proofs.translating.translate_for.Goals as goal
use Rattle.overlay_pages.specs.View.{state_of}

pub returns-in-Some-clause-allowed : goal.returns-in-Some-clause-allowed
returns-in-Some-clause-allowed c =
    c.contains.ensures tt
    ∙ allows_is (state_of c.args.pages.now) c.args.space c.args.page c.args.cache.now (held_of c.in-Some.found) c.args.need.0
    (sym (held_there c.args.pages.now c.args.space c.args.page c.in-Some.found c.in-Some.ensures.found))

pub returns-in-None-clause-allowed : goal.returns-in-None-clause-allowed
returns-in-None-clause-allowed c =
    denied_is (state_of c.args.pages.now) c.args.space c.args.page c.args.cache.now c.args.need.0
    (absent_held (state_of c.args.pages.now) c.args.space c.args.page c.in-None.ensures.found)

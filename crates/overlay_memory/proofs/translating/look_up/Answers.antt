use Rattle.overlay_memory.proofs.Counting.{absent_after, entered_true, hit_translated, looked_true, miss_translated}
use Rattle.overlay_memory.proofs.translating.look_up.Goals as goal
use Rattle.overlay_pages.specs.View.{state_of}

pub enter-requires : goal.enter-requires
enter-requires c = record {
  absent = absent_after (state_of c.args.pages.now) c.args.space c.args.page c.args.cache.now c.look.new.self c.in-None.ensures.formed c.in-None.ensures.found c.in-None.ensures.looked;
}

pub returns-in-Some-clause-translated : goal.returns-in-Some-clause-translated
returns-in-Some-clause-translated c =
    hit_translated (state_of c.args.pages.now) c.args.space c.args.page c.args.cache.now c.in-Some.field-0 c.look.new.self c.in-Some.ensures.found c.in-Some.ensures.looked

pub returns-in-Some-clause-held : goal.returns-in-Some-clause-held
returns-in-Some-clause-held c =
    looked_true (state_of c.args.pages.now) c.args.space c.args.page c.args.cache.now c.look.new.self c.in-Some.ensures.formed c.in-Some.ensures.looked c.requires.held

pub returns-in-None-clause-translated : goal.returns-in-None-clause-translated
returns-in-None-clause-translated c =
    miss_translated (state_of c.args.pages.now) c.args.space c.args.page c.args.cache.now c.args.there c.look.new.self c.enter.new.self c.in-None.ensures.found
    c.requires.there c.in-None.ensures.looked c.enter.ensures

pub returns-in-None-clause-held : goal.returns-in-None-clause-held
returns-in-None-clause-held c =
    entered_true (state_of c.args.pages.now) c.args.space c.args.page c.args.cache.now c.args.there c.look.new.self c.enter.new.self c.in-None.ensures.formed
    c.requires.there c.in-None.ensures.looked c.enter.ensures c.requires.held

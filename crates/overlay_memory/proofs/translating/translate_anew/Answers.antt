use Rattle.std.proofs.Common.{Some, ap, sym, subst, ◌∙◌}
use Rattle.overlay_memory.specs.Fronts.{AreFronts, with_found}
use Rattle.overlay_memory.proofs.Fronting.{held_there, none_fronts, now_front, put_fronts}
use Rattle.overlay_memory.proofs.translating.translate_anew.Goals as goal
use Rattle.overlay_pages.specs.declared.spots.FoundPage.{FoundPage}
use Rattle.translation_cache.specs.Bare.{bare, formed_bare}

-- Where it is found in the tables.

pub look_up-requires-clause-there : goal.look_up-requires-clause-there
look_up-requires-clause-there c =
    ap Some c.cached_of.ensures ∙ held_there c.args.pages.now c.args.space c.args.page c.in-Some-find_page.found c.in-Some-find_page.ensures.found

pub returns-in-Some-find_page-clause-front : goal.returns-in-Some-find_page-clause-front
returns-in-Some-find_page-clause-front c =
    now_front c.args.pages.now c.args.space c.args.page (bare c.args.cache.now) (bare c.look_up.new.cache) c.args.fronts.now
    (formed_bare c.args.cache.now c.look_up.ensures.formed) c.look_up.ensures.translated c.requires.fronts c.in-Some-find_page.found c.in-Some-find_page.ensures.found

pub returns-in-Some-find_page-clause-fronts : goal.returns-in-Some-find_page-clause-fronts
returns-in-Some-find_page-clause-fronts c =
    subst (AreFronts c.args.pages.now (bare c.look_up.new.cache)) (sym c.put.ensures)
    (put_fronts c.args.pages.now c.args.space c.args.page (bare c.args.cache.now) (bare c.look_up.new.cache) c.args.fronts.now
    (formed_bare c.args.cache.now c.look_up.ensures.formed) c.look_up.ensures.translated c.requires.fronts c.in-Some-find_page.found c.in-Some-find_page.ensures.found)

-- Where it isn't there.

pub returns-in-None-clause-fronts : goal.returns-in-None-clause-fronts
returns-in-None-clause-fronts c =
    subst (AreFronts c.args.pages.now (bare c.look_in_vain.new.cache)) (sym c.put-in-None.ensures)
    (subst (λ (f : FoundPage). AreFronts c.args.pages.now (bare c.look_in_vain.new.cache) (with_found c.args.space c.args.page f c.args.fronts.now)) (sym c.none.ensures)
    (none_fronts c.args.pages.now c.args.space c.args.page (bare c.args.cache.now) (bare c.look_in_vain.new.cache) c.args.fronts.now
    (formed_bare c.args.cache.now c.look_in_vain.ensures.formed) c.look_in_vain.ensures.translated c.requires.fronts))

use Rattle.std.proofs.Common.{Some, sym, ap, ◌∙◌}
use Rattle.overlay_pages.specs.View.{state_of}
use Rattle.overlay_memory.proofs.Fronting.{held_there}
use Rattle.overlay_memory.specs.FoundLaws.{there_found}
use Rattle.overlay_memory.proofs.Settled.{lists_replaced, placed_anew, replaced_true}
use Rattle.overlay_memory.proofs.settling.settle.Goals as goal

pub returns-clause-held : goal.returns-clause-held
returns-clause-held c =
    replaced_true (state_of c.args.pages.now) (state_of c.settle_found-settled.new.self) c.args.page.now.space c.args.page.now.page
    (placed_anew (state_of c.args.pages.now) (state_of c.settle_found-settled.new.self) c.args.page.now.space c.args.page.now.page
    (there_found c.args.pages.now c.args.page.now c.requires.found) c.settle_found-settled.ensures.placed)
    c.args.cache.now c.replace.new.self c.cached_of.result c.replace.ensures.formed c.replace.ensures.replaced
    (sym (held_there c.settle_found-settled.new.self c.args.page.now.space c.args.page.now.page c.settle_found-settled.result c.settle_found-settled.ensures.found)
    ∙ sym (ap Some c.cached_of.ensures)) c.requires.held

pub returns-clause-lists : goal.returns-clause-lists
returns-clause-lists c =
    lists_replaced c.args.page.now.space c.args.page.now.page c.cached_of.result c.args.cache.now c.replace.new.self c.replace.ensures.replaced

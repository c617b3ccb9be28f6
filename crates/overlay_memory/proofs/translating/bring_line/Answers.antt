use Rattle.std.proofs.Common.{ap, is_some, ◌∙◌}
use Rattle.overlay_pages.specs.View.{state_of}
use Rattle.overlay_pages.specs.ViewLaws.{state_page_there}
use Rattle.overlay_memory.proofs.Noting.{line_true}
use Rattle.overlay_memory.proofs.translating.bring_line.Goals as goal
use Rattle.translation_cache.specs.Bare.{bare, bare_updated}
use Rattle.translation_cache.specs.Translations.{cached_with}

pub returns-clause-held : goal.returns-clause-held
returns-clause-held c =
    let at = c.requires.found in
    line_true c.args.pages.now c.args.page.space c.args.page.page c.args.line (state_of c.bring_found.new.self) c.args.cache.now c.set_bit.new.self c.bring_found.ensures.joined
    (ap is_some (state_page_there c.args.pages.now c.args.page.space c.args.page.page at.x at.there)) c.requires.line c.requires.apart c.bring_found.ensures.state
    c.set_bit.ensures.formed c.set_bit.ensures.bit c.requires.held

pub returns-clause-lists : goal.returns-clause-lists
returns-clause-lists c = ap bare c.set_bit.ensures.bit ∙ bare_updated (cached_with c.args.line) c.args.page.space c.args.page.page c.args.cache.now

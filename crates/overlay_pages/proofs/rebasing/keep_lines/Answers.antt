use Rattle.overlay_pages.proofs.Common.{◌∙◌}
use Rattle.overlay_pages.proofs.Views.{state_of}
use Rattle.overlay_pages.proofs.Kept.{all_kept, keep_fits, keep_low, none_kept, one_kept}
use Rattle.overlay_pages.proofs.rebasing.keep_lines.Goals as goal

pub keeping-init : goal.keeping-init
keeping-init c = none_kept (state_of c.args.pages.now) c.args.page.now.space c.args.page.now.page c.args.bits _ 31 c.args.kept.now
    c.iter-line-items.ensures.are (c.into_iter-line-iterator.ensures.into_iter_gives ∙ c.iter-line-items.ensures.lines) c.requires.few c.told-kept

pub bounds-kept-at : goal.bounds-kept-at
bounds-kept-at c =
    keep_fits (state_of c.args.pages.now) c.args.page.now.space c.args.page.now.page c.args.bits _ c.keeping.at 31 c.keeping.kept c.keeping.invariant c.in-Some.line c.next.new.self c.in-Some.ensures.steps

pub line-requires : goal.line-requires
line-requires c =
    keep_low (state_of c.args.pages.now) c.args.page.now.space c.args.page.now.page c.args.bits _ c.keeping.at 31 c.keeping.kept c.keeping.invariant c.in-Some.line c.next.new.self c.in-Some.ensures.steps

pub line_at-requires : goal.line_at-requires
line_at-requires c = record { found = (c.line.ensures c.args.pages.now c.requires.found).is }

pub keeping-preserved : goal.keeping-preserved
keeping-preserved c =
    let at = c.line.ensures c.args.pages.now c.requires.found in
    one_kept (state_of c.args.pages.now) c.args.page.now.space c.args.page.now.page c.args.bits _ c.keeping.at 31 c.keeping.kept c.keeping.invariant c.in-Some.line c.next.new.self c.in-Some.ensures.steps
    c.line.result c.line_at.result.now at.space_is at.page_is at.line_is c.line_at.ensures.value

pub returns : goal.returns
returns c =
    all_kept (state_of c.args.pages.now) c.args.page.now.space c.args.page.now.page c.args.bits _ c.keeping.at 31 c.keeping.kept c.keeping.invariant c.in-None.ensures.steps.0

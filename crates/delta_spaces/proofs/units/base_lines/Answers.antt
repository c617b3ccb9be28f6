use Rattle.std.proofs.Common.{sym, ◌∙◌}
use Rattle.overlay_memory.specs.View.{state_of}
use Rattle.delta_spaces.proofs.Counting.{base_own, no_own}
use Rattle.delta_spaces.proofs.units.base_lines.Goals as goal

pub returns-then-has_page : goal.returns-then-has_page
returns-then-has_page c = base_own (state_of c.args.mem.now) c.args.base c.args.page c.lines_of.result c.lines_of.ensures.own

pub returns-else-has_page : goal.returns-else-has_page
returns-else-has_page c =
    c.empty.ensures ∙ no_own (state_of c.args.mem.now) c.args.base c.args.page (sym c.has_page.ensures.there ∙ c.if-has_page.false)

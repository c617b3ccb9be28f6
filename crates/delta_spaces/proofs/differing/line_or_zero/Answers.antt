use Rattle.std.proofs.Common.{sym, ◌∙◌}
use Rattle.overlay_memory.specs.View.{state_of}
use Rattle.delta_spaces.proofs.Lines.{zero_line_is}
use Rattle.delta_spaces.proofs.differing.line_or_zero.Goals as goal

pub returns-else-there : goal.returns-else-there
returns-else-there c = zero_line_is (state_of c.args.mem.now) c.args.space c.args.page c.args.line (sym c.requires.there ∙ c.if-there.false) c.requires.line

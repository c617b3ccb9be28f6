use Rattle.overlay_pages.specs.State.{memory_of}
use Rattle.overlay_memory.specs.View.{state_of}
use Rattle.delta_spaces.proofs.Whole.{length_is}
use Rattle.delta_spaces.proofs.measuring.image_length.Goals as goal

pub returns : goal.returns
returns c =
    length_is (state_of c.args.mem.now) c.args.saved (memory_of (state_of c.args.mem.now) c.args.base) c.args.state c.args.regs.now c.pages.result c.count_lines-lines.result
    c.length_by.result c.pages.ensures.count c.count_lines-lines.ensures.count c.length_by.ensures.length

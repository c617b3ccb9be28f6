use Rattle.std.proofs.Common.{◌∙◌}
use Rattle.overlay_pages.specs.State.{memory_of}
use Rattle.overlay_memory.specs.View.{state_of}
use Rattle.delta_spaces.proofs.Walking.{gathered_made}
use Rattle.delta_spaces.proofs.gathering.gather_page.Goals as goal

pub returns : goal.returns
returns c =
    gathered_made (state_of c.args.mem.now) c.args.saved c.args.page (memory_of (state_of c.args.mem.now) c.args.base) c.perms_of-perms.result _ c.differing.result c.perms_of-perms.ensures.perms
    (c.new.ensures ∙ c.in_ok-lines.ensures)
    c.differing.ensures.lines

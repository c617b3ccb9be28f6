use Rattle.overlay_pages.specs.State.{memory_of}
use Rattle.overlay_memory.specs.View.{state_of}
use Rattle.delta_spaces.proofs.Walking.{next_itself, walking_more}
use Rattle.delta_spaces.proofs.gathering.gather_from.Goals as goal

pub returns-then-n-eq0-clause-walking : goal.returns-then-n-eq0-clause-walking
returns-then-n-eq0-clause-walking c =
    walking_more (state_of c.args.mem.now) c.args.saved c.args.page c.args.page (memory_of (state_of c.args.mem.now) c.args.base) _ _ _
    (next_itself (state_of c.args.mem.now) c.args.saved c.args.page c.requires.there) c.requires.low c.requires.walking c.in_ok-gather_page.ensures c.in_ok-push.ensures.items

use Rattle.std.proofs.Common.{sym, subst}
use Rattle.overlay_pages.specs.State.{memory_of}
use Rattle.overlay_memory.specs.View.{state_of}
use Rattle.overlay_memory.specs.Joined.{page_low}
use Rattle.delta_spaces.specs.Gathered.{IsWalking}
use Rattle.delta_spaces.proofs.Walking.{walking_all, walking_none, walking_past}
use Rattle.delta_spaces.proofs.gathering.gather_pages.Goals as goal

pub gathering-init : goal.gathering-init
gathering-init c =
    subst (λ pages. IsWalking (memory_of (state_of c.args.mem.now) c.args.saved) (memory_of (state_of c.args.mem.now) c.args.base) pages 0) (sym c.in_ok-pages.ensures.items)
    (walking_none (memory_of (state_of c.args.mem.now) c.args.saved) (memory_of (state_of c.args.mem.now) c.args.base))

pub gather_from-requires-clause-low : goal.gather_from-requires-clause-low
gather_from-requires-clause-low c = page_low c.args.mem.now.pages c.has_space-here.ensures.joined c.args.saved c.in-Some.page c.in-Some.ensures.1

pub gather_from-requires-clause-walking : goal.gather_from-requires-clause-walking
gather_from-requires-clause-walking c =
    walking_past (state_of c.args.mem.now) c.args.saved c.gathering.at c.in-Some.page (memory_of (state_of c.args.mem.now) c.args.base) c.gathering.pages.items c.in-Some.ensures
    (page_low c.args.mem.now.pages c.has_space-here.ensures.joined c.args.saved c.in-Some.page c.in-Some.ensures.1) c.gathering.invariant

pub returns : goal.returns
returns c =
    walking_all (state_of c.args.mem.now) c.args.saved c.gathering.at (memory_of (state_of c.args.mem.now) c.args.base) c.gathering.pages.items c.gathering.invariant c.in_default.ensures

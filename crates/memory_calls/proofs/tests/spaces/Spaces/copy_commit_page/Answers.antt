use Rattle.std.specs.Prelude.{IsSome}
use Rattle.std.proofs.Common.{subst, sym}
use Rattle.overlay_memory.specs.View.{state_of}
use Rattle.space_maps.specs.Spaces.{page_in}
use Rattle.memory_calls.proofs.Awaiting.{none_awaits_copied}
use Rattle.memory_calls.proofs.tests.spaces.Spaces.copy_commit_page.Goals as goal

pub invariant_of-self : goal.invariant_of-self
invariant_of-self g c =
    none_awaits_copied (state_of c.self.inside.memory) (state_of c.copy_commit_page.new.self) c.args.space c.args.page c.copy_commit_page.ensures.copied
    (subst (λ v. IsSome (page_in (state_of v) c.args.space c.args.page)) (sym c.self.view_is) c.has_copy_room.ensures.there) c.self.invariant

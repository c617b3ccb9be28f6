use Rattle.std.proofs.Common.{ap, ◌∙◌}
use Rattle.overlay_pages.specs.State.{State}
use Rattle.overlay_memory.specs.View.{state_of}
use Rattle.space_maps.specs.Spaces.{holds_space, space_in}
use Rattle.fork_checkpoint.proofs.Shares.{ready_cleared, refilled}
use Rattle.fork_checkpoint.proofs.sharing.refill_space.Goals as goal

pub clear_space-requires-clause-there : goal.clear_space-requires-clause-there
clear_space-requires-clause-there c = ap (λ (v : State). holds_space v c.args.to) (ap state_of c.copy_table.ensures.same) ∙ c.requires.there

pub clear_space-requires-clause-none_awaits : goal.clear_space-requires-clause-none_awaits
clear_space-requires-clause-none_awaits c = ap (λ (v : State). (space_in v c.args.to).awaiting) (ap state_of c.copy_table.ensures.same) ∙ c.requires.none_awaits

pub share_table-requires : goal.share_table-requires
share_table-requires c = record {
  ready = ready_cleared (state_of c.args.mem.now) (state_of c.copy_table.new.self) (state_of c.clear_space.new.self) c.args.from c.args.to c.in-Ok.table.pages c.requires.differ
      c.requires.from_there c.requires.from_unmarked c.requires.none_awaits c.requires.low c.requires.fits (ap state_of c.copy_table.ensures.same) c.clear_space.ensures.state c.in-Ok.ensures.table c.in-Ok.ensures.once;
}

pub returns-in-Ok-clause-refills : goal.returns-in-Ok-clause-refills
returns-in-Ok-clause-refills c =
    refilled (state_of c.args.mem.now) (state_of c.copy_table.new.self) (state_of c.clear_space.new.self) (state_of c.share_table.new.mem) c.args.from c.args.to c.requires.differ
    (ap state_of c.copy_table.ensures.same) c.clear_space.ensures.state c.share_table.ensures.shared

use Rattle.std.proofs.Common.{ap, ◌∙◌}
use Rattle.overlay_pages.specs.State.{State}
use Rattle.overlay_memory.specs.View.{state_of}
use Rattle.fork_checkpoint.specs.Copied.{with_copy}
use Rattle.fork_checkpoint.proofs.Shares.{ready_made}
use Rattle.fork_checkpoint.proofs.sharing.fill_space.Goals as goal

pub share_table-requires : goal.share_table-requires
share_table-requires c = record {
  ready = ready_made (state_of c.args.mem.now) (state_of c.copy_table.new.self) c.args.from c.args.to c.in-Ok.table.pages c.requires.differ c.requires.there c.requires.unmarked c.requires.space
      c.requires.bare c.requires.low c.requires.fits (ap state_of c.copy_table.ensures.same) c.in-Ok.ensures.table c.in-Ok.ensures.once;
}

pub returns-in-Ok-clause-fills : goal.returns-in-Ok-clause-fills
returns-in-Ok-clause-fills c = c.share_table.ensures.shared ∙ ap (λ (v : State). with_copy v c.args.from c.args.to) (ap state_of c.copy_table.ensures.same)

use Rattle.std.proofs.Common.{◌∙◌, sym}
use Rattle.overlay_memory.specs.View.{state_of}
use Rattle.promotion.specs.Settled.{mark_of}
use Rattle.speculation.proofs.Marks.{discarded, none_kept}
use Rattle.speculation.proofs.speculating.discard.Goals as goal

pub set_speculating-requires-clause-small : goal.set_speculating-requires-clause-small
set_speculating-requires-clause-small c off =
    none_kept (mark_of (state_of c.args.mem.now) c.args.space) (state_of c.args.mem.now) (state_of c.discard_all.new.mem) c.args.space c.discard_all.ensures.discarded

pub returns-clause-discards : goal.returns-clause-discards
returns-clause-discards c = (
  sym c.is_speculating.ensures.mark ∙ c.if-not-is_speculating.false,
  discarded (mark_of (state_of c.args.mem.now) c.args.space) (state_of c.args.mem.now) (state_of c.discard_all.new.mem)
      (state_of c.set_speculating.new.self) c.args.space c.discard_all.ensures.discarded c.requires.there
      c.set_speculating.ensures.state,
)

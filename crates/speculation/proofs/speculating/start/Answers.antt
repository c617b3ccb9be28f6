use Rattle.std.proofs.Common.{◌∙◌, sym}
use Rattle.overlay_memory.specs.View.{state_of}
use Rattle.speculation.proofs.Marks.{started}
use Rattle.speculation.proofs.speculating.start.Goals as goal

pub returns-in-Ok-clause-starts : goal.returns-in-Ok-clause-starts
returns-in-Ok-clause-starts c = (
  sym c.is_speculating.ensures.mark ∙ c.if-is_speculating.false,
  c.in-Ok.ensures.settles.0,
  started (state_of c.args.mem.now) (state_of c.settle.new.mem) (state_of c.set_speculating.new.self) c.args.space c.in-Ok.ensures.settles.1 c.requires.there c.set_speculating.ensures.state,
)

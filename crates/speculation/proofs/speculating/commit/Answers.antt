use Rattle.std.proofs.Common.{◌∙◌, sym}
use Rattle.overlay_memory.specs.View.{state_of}
use Rattle.speculation.proofs.Marks.{committed, none_left, none_left_marked}
use Rattle.speculation.proofs.speculating.commit.Goals as goal

pub set_speculating-requires-clause-small : goal.set_speculating-requires-clause-small
set_speculating-requires-clause-small c off =
    none_left (state_of c.args.mem.now) (state_of c.commit_pages.new.mem) c.args.space c.commit_pages.ensures.committed

pub returns-clause-commits : goal.returns-clause-commits
returns-clause-commits c = (
  sym c.is_speculating.ensures.mark ∙ c.if-not-is_speculating.false,
  committed (state_of c.args.mem.now) (state_of c.commit_pages.new.mem) (state_of c.set_speculating.new.self) c.args.space c.commit_pages.ensures.committed c.requires.there c.set_speculating.ensures.state,
)

pub returns-clause-small : goal.returns-clause-small
returns-clause-small c =
    none_left_marked (state_of c.args.mem.now) (state_of c.commit_pages.new.mem) (state_of c.set_speculating.new.self) c.args.space c.commit_pages.ensures.committed c.requires.there c.set_speculating.ensures.state

use Rattle.std.proofs.Common.{◌∙◌}
use Rattle.overlay_memory.specs.View.{state_of}
use Rattle.fork_checkpoint.proofs.Shares.{HasAdopted, has_adopted}
use Rattle.fork_checkpoint.proofs.sharing.share_table.Goals as goal

abbrev adopted : (c : goal.After-share_all-arg-1) → HasAdopted (state_of c.args.mem.now) (state_of c.adopt_table.new.self) c.args.from c.args.to
adopted c = has_adopted (state_of c.args.mem.now) (state_of c.adopt_table.new.self) c.args.from c.args.to c.args.table.pages c.requires.ready c.adopt_table.ensures.state

pub share_all-requires-clause-there : goal.share_all-requires-clause-there
share_all-requires-clause-there c = (adopted c).beside.there c.requires.ready.there

pub share_all-requires-clause-unmarked : goal.share_all-requires-clause-unmarked
share_all-requires-clause-unmarked c = (adopted c).beside.unmarked c.requires.ready.unmarked

pub share_all-requires-clause-space : goal.share_all-requires-clause-space
share_all-requires-clause-space c = (adopted c).beside.space

pub share_all-requires-clause-empty : goal.share_all-requires-clause-empty
share_all-requires-clause-empty c = (adopted c).empty_is

pub share_all-requires-clause-awaits : goal.share_all-requires-clause-awaits
share_all-requires-clause-awaits c = (adopted c).awaits

pub share_all-requires-clause-low : goal.share_all-requires-clause-low
share_all-requires-clause-low c = (adopted c).beside.low c.requires.ready.low

pub share_all-requires-clause-fits : goal.share_all-requires-clause-fits
share_all-requires-clause-fits c = (adopted c).beside.fits c.requires.ready.fits

pub returns-clause-shared : goal.returns-clause-shared
returns-clause-shared c =
    c.share_all.ensures.shared
    ∙ (has_adopted (state_of c.args.mem.now) (state_of c.adopt_table.new.self) c.args.from c.args.to c.args.table.pages c.requires.ready c.adopt_table.ensures.state).copy

use Rattle.std.proofs.Common.{arith}
use Rattle.overlay_memory.specs.View.{state_of}
use Rattle.delta_spaces.proofs.Lines.{line_read, never_refused}
use Rattle.delta_spaces.proofs.differing.line_of.Goals as goal

pub unreachable-requires : goal.unreachable-requires
unreachable-requires c =
    never_refused (state_of c.args.mem.now) c.args.space c.args.page _ c.args.line c.requires.there (omega (arith, c.from.ensures)) c.requires.line c.in-Err.field-0
    c.in-Err.ensures.access

pub returns : goal.returns
returns c =
    line_read (state_of c.args.mem.now) c.args.space c.args.page _ c.args.line c.requires.there (omega (arith, c.from.ensures)) c.requires.line _ c.in-Ok.ensures.bytes

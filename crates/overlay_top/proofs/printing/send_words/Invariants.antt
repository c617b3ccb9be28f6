use Rattle.std.proofs.Common.{◌≡◌, ◌*◌}
use Rattle.std.specs.FinMap.{get}
use Rattle.command_core.specs.declared.TheConstants.{WORD_BYTES}
use Rattle.command_core.specs.Commands.{disasm_text}
use Rattle.overlay_top.specs.Printing.{Sees, memory_in}
use Rattle.overlay_top.proofs.Texts.{IsDone}
use Rattle.overlay_top.proofs.printing.send_words.Given as goal

-- what was sent, and the lines from the address on, are the lines of all
abbrev pub invariant-sending : goal.invariant-sending
invariant-sending g l = record {
  same : l.report.sink.ghost_name ≡ l.fn.report.sink.ghost_name;
  sound : g.K.Sink.faults l.report.sink.now ≡ g.K.Sink.faults l.fn.report.sink.now;
  sees : Sees (get l.session.state.wholes.processes l.p) l.at (WORD_BYTES * l.left);
  text : g.K.Sink.tells → IsDone (g.K.Sink.taken l.fn.report.sink.now) (g.K.Sink.taken l.report.sink.now) (disasm_text l.session.modes.extension (memory_in l.p l.session.state) l.at l.left)
      (disasm_text l.session.modes.extension (memory_in l.p l.session.state) l.address l.words);
}

abbrev pub decreases-sending : goal.decreases-sending
decreases-sending g l = l.left

use Rattle.std.proofs.Common.{◌∙◌, ◌*◌, sym, refl}
use Rattle.std.specs.FinMap.{get}
use Rattle.command_core.specs.declared.TheConstants.{WORD_BYTES}
use Rattle.command_core.specs.Commands.{disasm_done, disasm_text, dump_done, dump_text, list_done, regs_done, rules, stats_done}
use Rattle.overlay_top.proofs.Doing.{prints_keep, regs_keep, text_done, turns_done}
use Rattle.overlay_top.proofs.commands.do_command.Goals.{in-Dump, in-Disasm, in-List, in-Regs, in-Run, in-Stats, in-Step}
use Rattle.overlay_top.proofs.commands.do_command.Goals as goal

pub returns-in-Ok-clause-does : goal.returns-in-Ok-clause-does
returns-in-Ok-clause-does g c =
    let session = c.args.session.now in
    let state = session.state in
    elim c.match-command.branch [
      | in-Run w ↦
          rw (w.report-is, w.session-is, w.in-Run.is)
          (turns_done g.K.Sink c.args.report.now.sink.now _ _ session _ w.run_all-sent.result _ (sym w.sent-is ∙ c.in-Ok.is) w.run_all-sent.ensures.takes)
      | in-Step w ↦
          rw (w.report-is, w.session-is, w.in-Step.is)
          (turns_done g.K.Sink c.args.report.now.sink.now _ _ session _ w.step-sent.result _ (sym w.sent-is ∙ c.in-Ok.is) w.step-sent.ensures.takes)
      | in-List w ↦
          rw (w.report-is, w.session-is, w.in-List.is)
          (text_done g.K.Sink c.args.report.now.sink.now _ (list_done rules state) session w.list-sent.result _ (sym w.sent-is ∙ c.in-Ok.is) refl w.list-sent.ensures.sends)
      | in-Stats w ↦
          rw (w.report-is, w.session-is, w.in-Stats.is)
          (text_done g.K.Sink c.args.report.now.sink.now _ (stats_done state) session w.stats-sent.result _ (sym w.sent-is ∙ c.in-Ok.is) refl w.stats-sent.ensures.sends)
      | in-Regs w ↦
          rw (w.report-is, w.session-is, w.in-Regs.is)
          (text_done g.K.Sink c.args.report.now.sink.now _ (regs_done rules w.in-Regs.p state) session w.regs-sent.result _ (sym w.sent-is ∙ c.in-Ok.is)
          (regs_keep w.in-Regs.p (get state.wholes.processes w.in-Regs.p) state) w.regs-sent.ensures.sends)
      | in-Dump w ↦
          rw (w.report-is, w.session-is, w.in-Dump.is)
          (text_done g.K.Sink c.args.report.now.sink.now _ (dump_done rules w.in-Dump.p w.in-Dump.address w.in-Dump.count state) session w.dump-sent.result _
          (sym w.sent-is ∙ c.in-Ok.is)
          (prints_keep w.in-Dump.address w.in-Dump.count (λ memory. dump_text memory w.in-Dump.address w.in-Dump.count) (get state.wholes.processes w.in-Dump.p) state)
          w.dump-sent.ensures.sends)
      | in-Disasm w ↦
          rw (w.report-is, w.session-is, w.in-Disasm.is)
          (text_done g.K.Sink c.args.report.now.sink.now _ (disasm_done rules session.modes.extension w.in-Disasm.p w.in-Disasm.address w.in-Disasm.words state) session w.disasm-sent.result _
          (sym w.sent-is ∙ c.in-Ok.is)
          (prints_keep w.in-Disasm.address (WORD_BYTES * w.in-Disasm.words) (λ memory. disasm_text session.modes.extension memory w.in-Disasm.address w.in-Disasm.words)
          (get state.wholes.processes w.in-Disasm.p) state)
          w.disasm-sent.ensures.sends)
    ]

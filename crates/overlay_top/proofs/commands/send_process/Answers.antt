use Rattle.std.proofs.Common.{◌++◌, ap, sym, refl}
use Rattle.command_core.specs.Commands.{registers_text}
use Rattle.overlay_top.specs.Printing.{view_text}
use Rattle.overlay_top.proofs.Errors.{by_err}
use Rattle.overlay_top.proofs.Texts.{more_done, none_done, sends_cut, sends_last}
use Rattle.overlay_top.proofs.commands.send_process.Goals as goal

pub returns-in_err-send-clause-sends : goal.returns-in_err-send-clause-sends
returns-in_err-send-clause-sends g c =
    let start = c.args.report.now.sink.now in
    let whole = view_text c.args.p c.args.view.now in
    let rest = registers_text c.args.view.now.regs in
    sends_cut g.K.Sink start start c.send.new.self.sink.now refl whole c.regs_line.new.out.items rest whole c.in_err-send.field-0.0
    c.from_residual.result c.in_err-send.field-0.0 (by_err c.from_residual.result c.in_err-send.field-0.0 c.from_residual.ensures)
    (ap (λ bs. bs ++ rest) (sym c.regs_line.ensures)) (λ tells. none_done (g.K.Sink.taken start) whole) c.in_err-send.ensures.sends

pub returns-clause-sends : goal.returns-clause-sends
returns-clause-sends g c =
    let start = c.args.report.now.sink.now in
    let whole = view_text c.args.p c.args.view.now in
    let rest = registers_text c.args.view.now.regs in
    sends_last g.K.Sink start c.send.new.self.sink.now c.send_registers.new.report.sink.now c.in_ok-send.ensures.sends.0
    rest rest whole c.send_registers.result refl
    (λ tells. more_done (g.K.Sink.taken start) (g.K.Sink.taken start) (g.K.Sink.taken c.send.new.self.sink.now) whole c.regs_line.new.out.items rest whole
    (ap (λ bs. bs ++ rest) (sym c.regs_line.ensures)) (c.in_ok-send.ensures.sends.1 tells) (none_done (g.K.Sink.taken start) whole))
    c.send_registers.ensures.sends

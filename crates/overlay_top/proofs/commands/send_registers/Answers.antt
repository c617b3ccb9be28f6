use Rattle.std.proofs.Common.{◌+◌, ◌-◌, ◌∙◌, [], arith, refl, sym, append-nil}
use Rattle.command_core.specs.Commands.{registers_from, registers_text}
use Rattle.overlay_top.proofs.Errors.{by_err}
use Rattle.overlay_top.proofs.Registers.{next_register, none_left}
use Rattle.overlay_top.proofs.Texts.{last_done, more_done, none_done, sends_cut}
use Rattle.overlay_top.proofs.commands.send_registers.Goals as goal

pub sending-init : goal.sending-init
sending-init g c = record {
  same = refl;
  sound = refl;
  within = omega arith;
  text = λ tells. none_done (g.K.Sink.taken c.args.report.now.sink.now) (registers_text c.args.regs.now);
}

pub sending-preserved : goal.sending-preserved
sending-preserved g c =
    let regs = c.args.regs.now in
    let i = c.sending.i in
    let next = next_register regs i c.register_value.result c.register_line.new.out.items c.sending-test.true c.register_value.ensures c.register_line.ensures in
    record {
      same = c.in_ok-send.ensures.same ∙ c.sending.invariant.same;
      sound = c.in_ok-send.ensures.sends.0 ∙ c.sending.invariant.sound;
      within = omega (arith, c.sending-test.true);
      text = λ tells.
          more_done (g.K.Sink.taken c.args.report.now.sink.now) (g.K.Sink.taken c.sending.report.sink.now) (g.K.Sink.taken c.send.new.self.sink.now)
          (registers_from regs i (32 - i)) c.register_line.new.out.items (registers_from regs (i + 1) (32 - (i + 1))) (registers_text regs) next
          (c.in_ok-send.ensures.sends.1 tells) (c.sending.invariant.text tells);
    }

pub returns-in_err-send-clause-sends : goal.returns-in_err-send-clause-sends
returns-in_err-send-clause-sends g c =
    let regs = c.args.regs.now in
    let i = c.sending.i in
    let next = next_register regs i c.register_value.result c.register_line.new.out.items c.sending-test.true c.register_value.ensures c.register_line.ensures in
    sends_cut g.K.Sink c.args.report.now.sink.now c.sending.report.sink.now c.send.new.self.sink.now c.sending.invariant.sound
    (registers_from regs i (32 - i)) c.register_line.new.out.items (registers_from regs (i + 1) (32 - (i + 1))) (registers_text regs)
    c.in_err-send.field-0.0 c.from_residual.result c.in_err-send.field-0.0 (by_err c.from_residual.result c.in_err-send.field-0.0 c.from_residual.ensures)
    next c.sending.invariant.text c.in_err-send.ensures.sends

pub returns-clause-sends : goal.returns-clause-sends
returns-clause-sends g c = (
  c.sending.invariant.sound,
  λ tells.
      last_done (g.K.Sink.taken c.args.report.now.sink.now) (g.K.Sink.taken c.sending.report.sink.now) (g.K.Sink.taken c.sending.report.sink.now)
      (registers_from c.args.regs.now c.sending.i (32 - c.sending.i)) [] (registers_text c.args.regs.now) (none_left c.args.regs.now c.sending.i c.sending-test.false)
      (sym (append-nil (g.K.Sink.taken c.sending.report.sink.now))) (c.sending.invariant.text tells),
)

use Rattle.std.proofs.Common.{◌∙◌, refl, sym}
use Rattle.image_lines.specs.Lines.{printed}
use Rattle.overlay_top.proofs.Blocks.{next_block}
use Rattle.overlay_top.proofs.Errors.{by_err}
use Rattle.overlay_top.proofs.Texts.{more_done, none_done, sends_cut, sends_last}
use Rattle.overlay_top.proofs.printing.send_image_lines.Goals as goal

pub sending-init : goal.sending-init
sending-init g c = record {
  same = refl;
  sound = refl;
  text = λ tells. none_done (g.K.Sink.taken c.args.report.now.sink.now) (printed c.args.image.now);
}

pub sending-preserved : goal.sending-preserved
sending-preserved g c =
    let rest = c.sending.rest.now in
    let behind = c.split_at.result.1.now in
    let next = next_block rest c.split_at.result.0.now behind c.image_lines.new.out.items c.sending-test.true c.split_at.ensures.front c.split_at.ensures.back c.image_lines.ensures in
    record {
      same = c.in_ok-send.ensures.same ∙ c.sending.invariant.same;
      sound = c.in_ok-send.ensures.sends.0 ∙ c.sending.invariant.sound;
      text = λ tells.
          more_done (g.K.Sink.taken c.args.report.now.sink.now) (g.K.Sink.taken c.sending.report.sink.now) (g.K.Sink.taken c.send.new.self.sink.now)
          (printed rest) c.image_lines.new.out.items (printed behind) (printed c.args.image.now) next
          (c.in_ok-send.ensures.sends.1 tells) (c.sending.invariant.text tells);
    }

pub returns-in_err-send-clause-sends : goal.returns-in_err-send-clause-sends
returns-in_err-send-clause-sends g c =
    let rest = c.sending.rest.now in
    let behind = c.split_at.result.1.now in
    let next = next_block rest c.split_at.result.0.now behind c.image_lines.new.out.items c.sending-test.true c.split_at.ensures.front c.split_at.ensures.back c.image_lines.ensures in
    sends_cut g.K.Sink c.args.report.now.sink.now c.sending.report.sink.now c.send.new.self.sink.now c.sending.invariant.sound
    (printed rest) c.image_lines.new.out.items (printed behind) (printed c.args.image.now)
    c.in_err-send.field-0.0 c.from_residual.result c.in_err-send.field-0.0 (by_err c.from_residual.result c.in_err-send.field-0.0 c.from_residual.ensures)
    next c.sending.invariant.text c.in_err-send.ensures.sends

pub returns-in_err-send-clause-same : goal.returns-in_err-send-clause-same
returns-in_err-send-clause-same g c = c.in_err-send.ensures.same ∙ c.sending.invariant.same

pub returns-clause-sends : goal.returns-clause-sends
returns-clause-sends g c =
    sends_last g.K.Sink c.args.report.now.sink.now c.sending.report.sink.now c.send-2.new.self.sink.now c.sending.invariant.sound
    (printed c.sending.rest.now) c.image_lines-2.new.out.items (printed c.args.image.now) c.send-2.result (sym c.image_lines-2.ensures) c.sending.invariant.text c.send-2.ensures.sends

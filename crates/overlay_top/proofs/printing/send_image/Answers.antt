use Rattle.std.proofs.Common.{◌++◌, ap, sym, refl}
use Rattle.image_lines.specs.Lines.{printed}
use Rattle.report_text.specs.Lines.{exported_text}
use Rattle.overlay_top.proofs.Errors.{by_err}
use Rattle.overlay_top.proofs.Texts.{more_done, none_done, sends_cut, sends_last}
use Rattle.overlay_top.proofs.printing.send_image.Goals as goal

pub returns-in_err-send-clause-sends : goal.returns-in_err-send-clause-sends
returns-in_err-send-clause-sends g c =
    let start = c.args.report.now.sink.now in
    let rest = printed c.args.image.now in
    let whole = exported_text c.args.name.now c.args.base.now c.args.image.now in
    sends_cut g.K.Sink start start c.send.new.self.sink.now refl whole c.exported_line.new.out.items rest whole c.in_err-send.field-0.0
    c.from_residual.result c.in_err-send.field-0.0 (by_err c.from_residual.result c.in_err-send.field-0.0 c.from_residual.ensures)
    (ap (λ bs. bs ++ rest) (sym c.exported_line.ensures)) (λ tells. none_done (g.K.Sink.taken start) whole) c.in_err-send.ensures.sends

pub returns-clause-sends : goal.returns-clause-sends
returns-clause-sends g c =
    let start = c.args.report.now.sink.now in
    let rest = printed c.args.image.now in
    let whole = exported_text c.args.name.now c.args.base.now c.args.image.now in
    sends_last g.K.Sink start c.send.new.self.sink.now c.send_image_lines.new.report.sink.now c.in_ok-send.ensures.sends.0
    rest rest whole c.send_image_lines.result refl
    (λ tells. more_done (g.K.Sink.taken start) (g.K.Sink.taken start) (g.K.Sink.taken c.send.new.self.sink.now) whole c.exported_line.new.out.items rest whole
    (ap (λ bs. bs ++ rest) (sym c.exported_line.ensures)) (c.in_ok-send.ensures.sends.1 tells) (none_done (g.K.Sink.taken start) whole))
    c.send_image_lines.ensures.sends

use Rattle.std.proofs.Common.{◌+◌, ◌++◌, ◌∙◌, sym, ap, subst, refl, arith}
use Rattle.std.specs.Prelude.{flat_map}
use Rattle.std.specs.FinMap.{entries}
use Rattle.command_core.specs.Commands.{process_text}
use Rattle.command_core.specs.Looks.{from_number}
use Rattle.overlay_top.proofs.Errors.{by_err}
use Rattle.overlay_top.proofs.Texts.{IsDone, more_done, none_done, sends_cut}
use Rattle.overlay_top.proofs.Listing.{from_first, line_is, lines_next}
use Rattle.overlay_top.proofs.commands.list_processes.Goals as goal

pub listing-init : goal.listing-init
listing-init g c = record {
  same = refl;
  sound = refl;
  low = omega arith;
  text = λ tells.
      subst (λ left. IsDone (g.K.Sink.taken c.args.report.now.sink.now) (g.K.Sink.taken c.args.report.now.sink.now) left (flat_map process_text (entries c.args.session.now.state.wholes.processes)))
      (ap (flat_map process_text) (sym (from_first c.args.session.now.state.wholes.processes)))
      (none_done (g.K.Sink.taken c.args.report.now.sink.now) (flat_map process_text (entries c.args.session.now.state.wholes.processes)));
}

pub listing-preserved : goal.listing-preserved
listing-preserved g c =
    let ps = c.args.session.now.state.wholes.processes in
    let p = c.in-Some.p in
    let next = c.in-Some.ensures.next in
    let line = line_is ps p next.0 c.in-Ok.view c.process_line.new.out.items next.1 c.in-Ok.ensures.looks c.process_line.ensures in
    record {
      same = c.in_ok-send.ensures.same ∙ c.listing.invariant.same;
      sound = c.in_ok-send.ensures.sends.0 ∙ c.listing.invariant.sound;
      low = omega (arith, c.in-Some.ensures.within.1);
      text = λ tells.
          more_done (g.K.Sink.taken c.args.report.now.sink.now) (g.K.Sink.taken c.listing.report.sink.now) (g.K.Sink.taken c.send.new.self.sink.now)
          (flat_map process_text (from_number c.listing.from ps)) c.process_line.new.out.items (flat_map process_text (from_number (p + 1) ps)) _
          (lines_next ps c.listing.from p next ∙ ap (λ bs. bs ++ flat_map process_text (from_number (p + 1) ps)) (sym line))
          (c.in_ok-send.ensures.sends.1 tells) (c.listing.invariant.text tells);
    }

pub returns-in_err-send-clause-sends : goal.returns-in_err-send-clause-sends
returns-in_err-send-clause-sends g c =
    let ps = c.args.session.now.state.wholes.processes in
    let p = c.in-Some.p in
    let next = c.in-Some.ensures.next in
    let line = line_is ps p next.0 c.in-Ok.view c.process_line.new.out.items next.1 c.in-Ok.ensures.looks c.process_line.ensures in
    sends_cut g.K.Sink c.args.report.now.sink.now c.listing.report.sink.now c.send.new.self.sink.now c.listing.invariant.sound
    (flat_map process_text (from_number c.listing.from ps)) c.process_line.new.out.items (flat_map process_text (from_number (p + 1) ps)) _
    c.in_err-send.field-0.0 c.from_residual.result c.in_err-send.field-0.0 (by_err c.from_residual.result c.in_err-send.field-0.0 c.from_residual.ensures)
    (lines_next ps c.listing.from p next ∙ ap (λ bs. bs ++ flat_map process_text (from_number (p + 1) ps)) (sym line))
    c.listing.invariant.text c.in_err-send.ensures.sends

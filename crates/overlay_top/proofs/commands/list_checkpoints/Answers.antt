use Rattle.std.proofs.Common.{◌+◌, ◌++◌, ◌∙◌, [], drop, sym, ap, arith, append-nil}
use Rattle.std.specs.Prelude.{flat_map}
use Rattle.std.proofs.lemmas.Option.{slice_get_within}
use Rattle.command_core.specs.Commands.{checkpoint_text}
use Rattle.overlay_top.proofs.Errors.{by_err}
use Rattle.overlay_top.proofs.Texts.{last_done, more_done, sends_cut}
use Rattle.overlay_top.proofs.Listing.{checkpoint_is, checkpoints_next, none_listed}
use Rattle.overlay_top.proofs.commands.list_checkpoints.Goals as goal

pub listing-smaller : goal.listing-smaller
listing-smaller g c = omega (arith, slice_get_within c.args.session.now.state.checkpoints c.listing.index _ c.in-Some.ensures.looks.1)

pub listing-preserved : goal.listing-preserved
listing-preserved g c =
    let xs = c.args.session.now.state.checkpoints in
    let (x, there, shows) = c.in-Some.ensures.looks in
    let line = checkpoint_is x c.in-Some.view c.checkpoint_line.new.out.items shows c.checkpoint_line.ensures in
    record {
      same = c.in_ok-send.ensures.same ∙ c.listing.invariant.same;
      sound = c.in_ok-send.ensures.sends.0 ∙ c.listing.invariant.sound;
      text = λ tells.
          more_done (g.K.Sink.taken c.args.report.now.sink.now) (g.K.Sink.taken c.listing.report.sink.now) (g.K.Sink.taken c.send.new.self.sink.now)
          (flat_map checkpoint_text (drop c.listing.index xs)) c.checkpoint_line.new.out.items (flat_map checkpoint_text (drop (c.listing.index + 1) xs)) _
          (checkpoints_next xs c.listing.index x there ∙ ap (λ bs. bs ++ flat_map checkpoint_text (drop (c.listing.index + 1) xs)) (sym line))
          (c.in_ok-send.ensures.sends.1 tells) (c.listing.invariant.text tells);
    }

pub returns-in_err-send-clause-sends : goal.returns-in_err-send-clause-sends
returns-in_err-send-clause-sends g c =
    let xs = c.args.session.now.state.checkpoints in
    let (x, there, shows) = c.in-Some.ensures.looks in
    let line = checkpoint_is x c.in-Some.view c.checkpoint_line.new.out.items shows c.checkpoint_line.ensures in
    sends_cut g.K.Sink c.args.report.now.sink.now c.listing.report.sink.now c.send.new.self.sink.now c.listing.invariant.sound
    (flat_map checkpoint_text (drop c.listing.index xs)) c.checkpoint_line.new.out.items (flat_map checkpoint_text (drop (c.listing.index + 1) xs)) _
    c.in_err-send.field-0.0 c.from_residual.result c.in_err-send.field-0.0 (by_err c.from_residual.result c.in_err-send.field-0.0 c.from_residual.ensures)
    (checkpoints_next xs c.listing.index x there ∙ ap (λ bs. bs ++ flat_map checkpoint_text (drop (c.listing.index + 1) xs)) (sym line))
    c.listing.invariant.text c.in_err-send.ensures.sends

-- none is left

pub returns-clause-sends : goal.returns-clause-sends
returns-clause-sends g c = (
  c.listing.invariant.sound,
  λ tells.
      last_done (g.K.Sink.taken c.args.report.now.sink.now) (g.K.Sink.taken c.listing.report.sink.now) (g.K.Sink.taken c.listing.report.sink.now) _ [] _
      (none_listed c.args.session.now.state.checkpoints c.listing.index c.in_default.ensures.looks) (sym (append-nil (g.K.Sink.taken c.listing.report.sink.now)))
      (c.listing.invariant.text tells),
)

use Rattle.std.proofs.Common.{◌∙◌, refl, subst, sym}
use Rattle.machine_core.specs.Laws.{like_chain, like_itself}
use Rattle.command_core.specs.Commands.{takes_left}
use Rattle.process_runs.specs.Turns.{left_of, ran_text}
use Rattle.overlay_top.specs.Running.{LeavesOn}
use Rattle.overlay_top.proofs.Endings.{ended_after, ended_as, ended_text, spoken}
use Rattle.overlay_top.proofs.Errors.{by_err}
use Rattle.overlay_top.proofs.Texts.{at_ok, more_done, none_done, sends_cut, sends_last}
use Rattle.overlay_top.proofs.commands.take_turns.Goals as goal

pub turns-smaller : goal.turns-smaller
turns-smaller g c = c.turns-test.ensures.fewer refl

pub turns-init : goal.turns-init
turns-init g c = record {
  same = refl;
  sound = refl;
  checkpoints = refl;
  breakpoints = refl;
  modes = refl;
  after = like_itself (left_of c.args.session.now.state.breakpoints c.args.session.now.state.wholes c.args.running.now).after;
  text = λ tells. none_done (g.K.Sink.taken c.args.report.now.sink.now) (ran_text (left_of c.args.session.now.state.breakpoints c.args.session.now.state.wholes c.args.running.now));
}

pub turns-preserved : goal.turns-preserved
turns-preserved g c =
    let says = spoken c.turns.session.state.breakpoints c.args.session.now.state.breakpoints c.turns.session.state.wholes c.turns.running c.turn_line.new.line.items
    c.turn_line.new.self.state.wholes c.turn_line.new.running c.turns.invariant.breakpoints (c.turns-test.ensures.says refl) in
    record {
      same = c.in_ok-send.ensures.same ∙ c.turns.invariant.same;
      sound = c.in_ok-send.ensures.sends.0 ∙ c.turns.invariant.sound;
      checkpoints = c.turn_line.ensures.others.checkpoints ∙ c.turns.invariant.checkpoints;
      breakpoints = c.turn_line.ensures.others.breakpoints ∙ c.turns.invariant.breakpoints;
      modes = c.turn_line.ensures.others.modes ∙ c.turns.invariant.modes;
      after =
          like_chain (left_of c.args.session.now.state.breakpoints c.args.session.now.state.wholes c.args.running.now).after (left_of c.args.session.now.state.breakpoints c.turns.session.state.wholes c.turns.running).after
          (left_of c.args.session.now.state.breakpoints c.turn_line.new.self.state.wholes c.turn_line.new.running).after c.turns.invariant.after says.1;
      text = λ tells.
          more_done (g.K.Sink.taken c.args.report.now.sink.now) (g.K.Sink.taken c.turns.report.sink.now) (g.K.Sink.taken c.send.new.self.sink.now) _
          c.turn_line.new.line.items (ran_text (left_of c.args.session.now.state.breakpoints c.turn_line.new.self.state.wholes c.turn_line.new.running)) _ says.0
          (c.in_ok-send.ensures.sends.1 tells) (c.turns.invariant.text tells);
    }

-- the sink failed at a line
pub returns-in_err-send-clause-takes : goal.returns-in_err-send-clause-takes
returns-in_err-send-clause-takes g c =
    let says = spoken c.turns.session.state.breakpoints c.args.session.now.state.breakpoints c.turns.session.state.wholes c.turns.running c.turn_line.new.line.items
    c.turn_line.new.self.state.wholes c.turn_line.new.running c.turns.invariant.breakpoints (c.turns-test.ensures.says refl) in
    let rest = ran_text (left_of c.args.session.now.state.breakpoints c.turn_line.new.self.state.wholes c.turn_line.new.running) in
    let is_err = by_err c.from_residual.result c.in_err-send.field-0.0 c.from_residual.ensures in
    record {
      sends = sends_cut g.K.Sink c.args.report.now.sink.now c.turns.report.sink.now c.send.new.self.sink.now c.turns.invariant.sound
          _ c.turn_line.new.line.items rest _ c.in_err-send.field-0.0 c.from_residual.result c.in_err-send.field-0.0 is_err
          says.0 c.turns.invariant.text c.in_err-send.ensures.sends;
      after = subst (λ r. LeavesOn {T = Unit {0}} (takes_left c.args.running.now c.args.session.now.state) c.turn_line.new.self r) (sym is_err) tt;
      modes = c.turn_line.ensures.others.modes ∙ c.turns.invariant.modes;
    }

pub returns-clause-takes : goal.returns-clause-takes
returns-clause-takes g c =
    let breaks = c.args.session.now.state.breakpoints in
    let ends = ended_as c.turns.session.state.breakpoints breaks c.turns.session.state.wholes c.turns.running c.turn_line.new.self.state.wholes
    c.turn_line.new.running c.turns.invariant.breakpoints (c.turns-test.ensures.ends refl) in
    record {
      sends = sends_last g.K.Sink c.args.report.now.sink.now c.turns.report.sink.now c.send-2.new.self.sink.now c.turns.invariant.sound
          _ c.stop_line.new.out.items _ c.send-2.result
          (ended_text breaks c.turns.session.state.wholes c.turns.running c.turn_line.new.self.state.wholes c.turn_line.new.running c.stop.result c.in-Some.stop c.taken.result
          c.stop_line.new.out.items c.stop_line.new.out.items ends c.stop.ensures c.in-Some.is c.taken.ensures c.stop_line.ensures refl)
          c.turns.invariant.text c.send-2.ensures.sends;
      after = at_ok c.send-2.result
          (ended_after c.args.session.now.state c.turns.session.state c.turn_line.new.self.state c.args.running.now c.turns.running c.turn_line.new.running
          c.turns.invariant.after ends (c.turn_line.ensures.others.checkpoints ∙ c.turns.invariant.checkpoints)
          (c.turn_line.ensures.others.breakpoints ∙ c.turns.invariant.breakpoints));
      modes = c.turn_line.ensures.others.modes ∙ c.turns.invariant.modes;
    }

use Rattle.std.proofs.Common.{refl, Err}
use Rattle.report_text.specs.Answers.{answer_text}
use Rattle.command_core.specs.Commands.{exec_turns, rules, tells_exec}
use Rattle.overlay_top.proofs.Texts.{more_done, none_done, sends_cut, sends_last}
use Rattle.overlay_top.proofs.commands.tell_loaded.Goals as goal

pub returns-in-Err-clause-takes : goal.returns-in-Err-clause-takes
returns-in-Err-clause-takes g c =
    let start = c.args.report.now.sink.now in
    let rest = (exec_turns rules c.args.session.now.modes.calls c.args.turns c.args.answer.now c.args.session.now.state).text in
    record {
      sends = sends_cut g.K.Sink start start c.send_answer.new.report.sink.now refl {T = Unit {0}} _ (answer_text c.args.answer.now) rest
          (tells_exec rules c.args.session.now.modes.calls c.args.turns c.args.answer.now c.args.session.now.state).text c.in-Err.failed (Err c.in-Err.failed) c.in-Err.failed refl refl
          (λ tells. none_done (g.K.Sink.taken start) _) c.in-Err.ensures.sends;
      after = tt;
      modes = refl;
    }

pub returns-in-Ok-clause-takes : goal.returns-in-Ok-clause-takes
returns-in-Ok-clause-takes g c =
    let start = c.args.report.now.sink.now in
    let rest = (exec_turns rules c.args.session.now.modes.calls c.args.turns c.args.answer.now c.args.session.now.state).text in
    record {
      sends = sends_last g.K.Sink start c.send_answer.new.report.sink.now c.turns_of_loaded.new.report.sink.now c.in-Ok.ensures.sends.0 rest rest
          (tells_exec rules c.args.session.now.modes.calls c.args.turns c.args.answer.now c.args.session.now.state).text c.turns_of_loaded.result refl
          (λ tells. more_done (g.K.Sink.taken start) (g.K.Sink.taken start) (g.K.Sink.taken c.send_answer.new.report.sink.now) _ (answer_text c.args.answer.now) rest _
          refl (c.in-Ok.ensures.sends.1 tells) (none_done (g.K.Sink.taken start) _))
          c.turns_of_loaded.ensures.takes.sends;
      after = c.turns_of_loaded.ensures.takes.after;
      modes = c.turns_of_loaded.ensures.takes.modes;
    }

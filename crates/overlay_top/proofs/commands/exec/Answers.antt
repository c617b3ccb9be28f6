use Rattle.std.proofs.Common.{ap, ◌∙◌}
use Rattle.command_core.specs.declared.modes.Modes.{Modes}
use Rattle.command_core.specs.Commands.{exec_done, rules, tells_exec}
use Rattle.overlay_top.proofs.Given.{ends_done, ends_failed, exec_like}
use Rattle.overlay_top.proofs.commands.exec.Goals as goal

pub returns-in-Ok-clause-does : goal.returns-in-Ok-clause-does
returns-in-Ok-clause-does g c =
    let state = c.args.session.now.state in
    let mid = c.load-answer.new.self in
    let calls = c.args.session.now.modes.calls in
    let like = exec_like calls mid.modes.calls (ap (λ (m : Modes). m.calls) c.load-answer.ensures.modes) c.args.file.now c.args.turns state c.load-answer.result mid.state c.load-answer.ensures.gives c.in_default.not-Memory in
    record {
      ends = ends_done g.K.Sink c.args.report.now.sink.now c.tell_loaded.new.report.sink.now (tells_exec rules mid.modes.calls c.args.turns c.load-answer.result mid.state)
          (exec_done rules calls c.args.file.now c.args.turns state) mid c.tell_loaded.new.session like.text c.in-Ok.ensures.takes like.after;
      modes = c.in-Ok.ensures.takes.modes ∙ c.load-answer.ensures.modes;
    }

pub returns-clause-does : goal.returns-clause-does
returns-clause-does g c =
    let state = c.args.session.now.state in
    let mid = c.load-answer.new.self in
    let calls = c.args.session.now.modes.calls in
    let like = exec_like calls mid.modes.calls (ap (λ (m : Modes). m.calls) c.load-answer.ensures.modes) c.args.file.now c.args.turns state c.load-answer.result mid.state c.load-answer.ensures.gives c.in_default.not-Memory in
    record {
      ends = ends_failed g.K.Sink c.args.report.now.sink.now c.tell_loaded.new.report.sink.now (tells_exec rules mid.modes.calls c.args.turns c.load-answer.result mid.state)
          (exec_done rules calls c.args.file.now c.args.turns state) mid c.tell_loaded.new.session like.text _ c.in-Err.ensures.takes;
      modes = c.in-Err.ensures.takes.modes ∙ c.load-answer.ensures.modes;
    }

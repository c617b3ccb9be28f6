use Rattle.std.proofs.Common.{◌++◌, ◌∙◌, ap, sym, refl}
use Rattle.command_core.specs.State.{registry_of}
use Rattle.command_core.specs.Commands.{checkpoints_text, list_head, processes_text}
use Rattle.overlay_top.proofs.Errors.{by_err}
use Rattle.overlay_top.proofs.Listing.{head_is}
use Rattle.overlay_top.proofs.Texts.{more_done, none_done, sends_cut, sends_last}
use Rattle.overlay_top.proofs.commands.list.Goals as goal

pub returns-in_err-send-clause-sends : goal.returns-in_err-send-clause-sends
returns-in_err-send-clause-sends g c =
    let state = c.args.session.now.state in
    let start = c.args.report.now.sink.now in
    let line = head_is state c.count_processes.result c.count_checkpoints.result c.list_line.new.out.items c.count_processes.ensures c.count_checkpoints.ensures c.list_line.ensures in
    let rest = processes_text (registry_of state) ++ checkpoints_text (registry_of state) in
    sends_cut g.K.Sink start start c.send.new.self.sink.now refl _ c.list_line.new.out.items rest (list_head (registry_of state) ++ rest) c.in_err-send.field-0.0
    c.from_residual.result c.in_err-send.field-0.0 (by_err c.from_residual.result c.in_err-send.field-0.0 c.from_residual.ensures)
    (ap (λ bs. bs ++ rest) (sym line)) (λ tells. none_done (g.K.Sink.taken start) (list_head (registry_of state) ++ rest)) c.in_err-send.ensures.sends

pub returns-in_err-list_processes-clause-sends : goal.returns-in_err-list_processes-clause-sends
returns-in_err-list_processes-clause-sends g c =
    let state = c.args.session.now.state in
    let start = c.args.report.now.sink.now in
    let line = head_is state c.count_processes.result c.count_checkpoints.result c.list_line.new.out.items c.count_processes.ensures c.count_checkpoints.ensures c.list_line.ensures in
    let rest = processes_text (registry_of state) ++ checkpoints_text (registry_of state) in
    let error = c.in_err-list_processes.field-0.0 in
    let result = c.from_residual-in_err-list_processes.result in
    sends_cut g.K.Sink start c.send.new.self.sink.now c.list_processes.new.report.sink.now c.in_ok-send.ensures.sends.0 rest (processes_text (registry_of state)) (checkpoints_text (registry_of state))
    (list_head (registry_of state) ++ rest) error result error (by_err result error c.from_residual-in_err-list_processes.ensures) refl
    (λ tells. more_done (g.K.Sink.taken start) (g.K.Sink.taken start) (g.K.Sink.taken c.send.new.self.sink.now) _ c.list_line.new.out.items rest (list_head (registry_of state) ++ rest)
    (ap (λ bs. bs ++ rest) (sym line)) (c.in_ok-send.ensures.sends.1 tells) (none_done (g.K.Sink.taken start) (list_head (registry_of state) ++ rest)))
    c.in_err-list_processes.ensures.sends

pub returns-clause-sends : goal.returns-clause-sends
returns-clause-sends g c =
    let state = c.args.session.now.state in
    let start = c.args.report.now.sink.now in
    let line = head_is state c.count_processes.result c.count_checkpoints.result c.list_line.new.out.items c.count_processes.ensures c.count_checkpoints.ensures c.list_line.ensures in
    let rest = processes_text (registry_of state) ++ checkpoints_text (registry_of state) in
    sends_last g.K.Sink start c.list_processes.new.report.sink.now c.list_checkpoints.new.report.sink.now (c.in_ok-list_processes.ensures.sends.0 ∙ c.in_ok-send.ensures.sends.0)
    (checkpoints_text (registry_of state)) (checkpoints_text (registry_of state)) (list_head (registry_of state) ++ rest) c.list_checkpoints.result refl
    (λ tells.
    more_done (g.K.Sink.taken start) (g.K.Sink.taken c.send.new.self.sink.now) (g.K.Sink.taken c.list_processes.new.report.sink.now) rest (processes_text (registry_of state))
    (checkpoints_text (registry_of state)) (list_head (registry_of state) ++ rest) refl (c.in_ok-list_processes.ensures.sends.1 tells)
    (more_done (g.K.Sink.taken start) (g.K.Sink.taken start) (g.K.Sink.taken c.send.new.self.sink.now) _ c.list_line.new.out.items rest (list_head (registry_of state) ++ rest)
    (ap (λ bs. bs ++ rest) (sym line)) (c.in_ok-send.ensures.sends.1 tells) (none_done (g.K.Sink.taken start) (list_head (registry_of state) ++ rest))))
    c.list_checkpoints.ensures.sends

use Rattle.std.proofs.Common.{ℕ, List, subst}
use Rattle.std.specs.FinMap.{get}
use Rattle.overlay_top.specs.Sending.{SendsText}
use Rattle.overlay_top.proofs.Registers.{refused_is, told_of, view_is}
use Rattle.overlay_top.proofs.commands.regs.Goals as goal

pub returns-in-Ok-clause-sends : goal.returns-in-Ok-clause-sends
returns-in-Ok-clause-sends g c =
    let state = c.args.session.now.state in
    subst (λ (text : List ℕ). SendsText g.K.Sink c.args.report.now.sink.now text c.send_process.new.report.sink.now c.send_process.result)
    (view_is c.args.p state (get state.wholes.processes c.args.p) c.in-Ok.view c.in-Ok.ensures.looks) c.send_process.ensures.sends

pub send_answer-requires : goal.send_answer-requires
send_answer-requires g c = told_of (get c.args.session.now.state.wholes.processes c.args.p) c.in-Err.code c.in-Err.ensures.looks

pub returns-in-Err-clause-sends : goal.returns-in-Err-clause-sends
returns-in-Err-clause-sends g c =
    let state = c.args.session.now.state in
    subst (λ (text : List ℕ). SendsText g.K.Sink c.args.report.now.sink.now text c.send_answer.new.report.sink.now c.send_answer.result)
    (refused_is c.args.p state (get state.wholes.processes c.args.p) c.in-Err.code c.in-Err.ensures.looks) c.send_answer.ensures.sends

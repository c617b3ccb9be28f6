use Rattle.std.proofs.Common.{refl, subst, sym}
use Rattle.machine_core.specs.Machine.{spaces_of}
use Rattle.command_core.specs.State.{registry_of}
use Rattle.command_core.specs.Sessions.{InSession, session_state}
use Rattle.command_core.specs.Kept.{checkpoints_in, shown_session, shown_state, spaces_kept}
use Rattle.command_core.specs.Giving.{GivesChange}
use Rattle.command_core.specs.ProcessChanges.{process_row}
use Rattle.command_core.specs.Changes.{on_process}
use Rattle.command_core.proofs.Places.{free_same}
use Rattle.command_core.proofs.Rows.{gives_found, gives_kept}
use Rattle.command_core.proofs.Wanting.{machine_keeps, told_keeps}
use Rattle.command_core.proofs.Breaks.{breaks_kept}
use Rattle.command_core.proofs.session.Session.change_process.Goals as goal

pub invariant_of-self : goal.invariant_of-self
invariant_of-self c = (
  c.change_process.ensures.done.keeps.session (spaces_kept c.self.inside.checkpoints) c.self.inside.numbers c.self.invariant.0,
  c.self.invariant.1,
  breaks_kept c.self.inside.machine c.change_process.new.machine c.self.inside.breakpoints c.change_process.ensures.done.keeps.stay c.self.invariant.2,
)

pub returns-in-Some-clause-gives : goal.returns-in-Some-clause-gives
returns-in-Some-clause-gives c =
    let s = c.self.inside in
    let old = s.machine in
    let new = c.change_process.new.machine in
    let row = process_row c.args.p c.args.change in
    let kept = checkpoints_in (spaces_of old) s.checkpoints in
    let done = c.change_process.ensures.done in
    subst (λ (s : InSession). GivesChange (on_process c.args.p row (registry_of s.state)) s.state c.change_process.result (shown_state new c.self.inside.checkpoints c.self.inside.breakpoints)) c.self.view_is
    (gives_kept (on_process c.args.p row) old new s.checkpoints s.breakpoints (free_same old new (spaces_kept s.checkpoints) done.keeps.free c.self.invariant.0.free) c.change_process.result
    (gives_found old kept s.breakpoints c.args.p row c.in-Some.process.now c.change_process.result (session_state new kept s.breakpoints) (sym c.in-Some.ensures.kept)
    (done.gives kept s.breakpoints)))

pub returns-in-Some-clause-want : goal.returns-in-Some-clause-want
returns-in-Some-clause-want c =
    let s = c.self.inside in
    let new = c.change_process.new.machine in
    told_keeps c.args.self.now (shown_session s.machine s.checkpoints s.breakpoints s.modes) (shown_session new s.checkpoints s.breakpoints s.modes)
    c.change_process.result c.change_process.result c.self.view_is refl
    (machine_keeps s.machine new s.checkpoints s.breakpoints s.modes c.change_process.result c.change_process.ensures.done.want)

use Rattle.std.proofs.Common.{refl, subst, sym}
use Rattle.machine_core.specs.Machine.{spaces_of, whole_in}
use Rattle.command_core.specs.State.{registry_of}
use Rattle.command_core.specs.Sessions.{InSession, session_state}
use Rattle.command_core.specs.Kept.{checkpoints_in, shown_session, shown_state, spaces_kept}
use Rattle.command_core.specs.Giving.{GivesChange, MachineGives}
use Rattle.command_core.specs.Debugging.{poke_row}
use Rattle.command_core.specs.Changes.{on_process}
use Rattle.command_core.proofs.Places.{free_same}
use Rattle.command_core.proofs.Rows.{gives_found, gives_kept}
use Rattle.command_core.proofs.Wanting.{machine_keeps, told_keeps}
use Rattle.command_core.proofs.Breaks.{breaks_kept}
use Rattle.command_core.proofs.session.Session.poke.Goals as goal

pub invariant_of-self : goal.invariant_of-self
invariant_of-self c = (
  c.poke.ensures.done.keeps.session (spaces_kept c.self.inside.checkpoints) c.self.inside.numbers c.self.invariant.0,
  c.self.invariant.1,
  breaks_kept c.self.inside.machine c.poke.new.machine c.self.inside.breakpoints c.poke.ensures.done.keeps.stay c.self.invariant.2,
)

pub returns-in-Some-clause-gives : goal.returns-in-Some-clause-gives
returns-in-Some-clause-gives c =
    let s = c.self.inside in
    let old = s.machine in
    let new = c.poke.new.machine in
    let row = poke_row c.args.p c.args.address c.args.bytes.now in
    let kept = checkpoints_in (spaces_of old) s.checkpoints in
    let done = subst (λ bytes. MachineGives (poke_row c.args.p c.args.address bytes (whole_in (spaces_of c.self.inside.machine) c.args.p c.in-Some.process.now))
    c.self.inside.machine c.poke.result c.poke.new.machine) c.as_slice.ensures c.poke.ensures.done in
    subst (λ (s : InSession). GivesChange (on_process c.args.p row (registry_of s.state)) s.state c.poke.result (shown_state new c.self.inside.checkpoints c.self.inside.breakpoints)) c.self.view_is
    (gives_kept (on_process c.args.p row) old new s.checkpoints s.breakpoints (free_same old new (spaces_kept s.checkpoints) done.keeps.free c.self.invariant.0.free) c.poke.result
    (gives_found old kept s.breakpoints c.args.p row c.in-Some.process.now c.poke.result (session_state new kept s.breakpoints) (sym c.in-Some.ensures.kept)
    (done.gives kept s.breakpoints)))

pub returns-in-Some-clause-want : goal.returns-in-Some-clause-want
returns-in-Some-clause-want c =
    let s = c.self.inside in
    let new = c.poke.new.machine in
    told_keeps c.args.self.now (shown_session s.machine s.checkpoints s.breakpoints s.modes) (shown_session new s.checkpoints s.breakpoints s.modes)
    c.poke.result c.poke.result c.self.view_is refl
    (machine_keeps s.machine new s.checkpoints s.breakpoints s.modes c.poke.result c.poke.ensures.done.want)

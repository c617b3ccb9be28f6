use Rattle.std.proofs.Common.{sym, ap, subst, ◌∙◌, refl}
use Rattle.std.specs.Option.{is_some}
use Rattle.std.specs.FinMap.{get, remove}
use Rattle.breakpoints.specs.Breakpoints.{Breaks}
use Rattle.ovl_io.specs.Keys.{removed_same}
use Rattle.machine_core.specs.Machine.{Machine, spaces_of}
use Rattle.report_text.specs.declared.answer.Answer.TheVariants.{Done}
use Rattle.command_core.specs.State.{registry_of}
use Rattle.command_core.specs.Sessions.{AreBreaksOf, InSession, session_state}
use Rattle.command_core.specs.Kept.{checkpoints_in, shown_state, spaces_kept}
use Rattle.command_core.specs.Giving.{GivesChange}
use Rattle.command_core.specs.Changes.{drop_row, on_process}
use Rattle.command_core.proofs.Breaks.{breaks_removed}
use Rattle.command_core.proofs.Dropping.{free_dropped, gives_dropped, left_dropped, session_dropped}
use Rattle.command_core.proofs.Places.{free_same}
use Rattle.command_core.proofs.Rows.{gives_found, gives_left}
use Rattle.command_core.proofs.session.Session.drop_process.Goals as goal

pub drop_space-requires-clause-no_process : goal.drop_space-requires-clause-no_process
drop_space-requires-clause-no_process c =
    ap (λ (m : Machine). get m.processes c.args.p) c.remove.ensures.removed ∙ removed_same c.self.inside.machine.processes c.args.p c.args.p refl

pub invariant_of-self : goal.invariant_of-self
invariant_of-self c =
    let s = c.self.inside in
    let there = ap is_some (sym c.in-Some.ensures.kept) in
    let new = c.drop_space.new.self in (
      session_dropped s.machine c.remove.new.self new c.args.p there c.remove.ensures.removed c.drop_space.ensures.dropped (spaces_kept s.checkpoints) s.numbers c.give_back.new.self
          c.self.invariant.0 c.give_back.ensures,
      c.self.invariant.1,
      subst (AreBreaksOf new) (sym c.clear.ensures)
          (breaks_removed s.machine new s.breakpoints c.args.p (left_dropped s.machine c.remove.new.self new c.args.p there c.remove.ensures.removed c.drop_space.ensures.dropped) c.self.invariant.2),
    )

pub returns-clause-gives : goal.returns-clause-gives
returns-clause-gives c =
    let s = c.self.inside in
    let old = s.machine in
    let new = c.drop_space.new.self in
    let p = c.args.p in
    let kept = checkpoints_in (spaces_of old) s.checkpoints in
    let free = free_dropped old c.remove.new.self new p (ap is_some (sym c.in-Some.ensures.kept)) c.remove.ensures.removed c.drop_space.ensures.dropped in
    subst (λ (s : InSession). GivesChange (on_process p (drop_row p) (registry_of s.state)) s.state Done (shown_state new c.self.inside.checkpoints c.clear.new.self)) c.self.view_is
    (subst (λ (breaks : Breaks). GivesChange (on_process p (drop_row p) (registry_of (shown_state old c.self.inside.checkpoints c.self.inside.breakpoints)))
    (shown_state old c.self.inside.checkpoints c.self.inside.breakpoints) Done (shown_state new c.self.inside.checkpoints breaks))
    (sym c.clear.ensures)
    (gives_left (on_process p (drop_row p)) old new s.checkpoints s.breakpoints (free_same old new (spaces_kept s.checkpoints) free c.self.invariant.0.free) Done
    (remove s.breakpoints p)
    (gives_found old kept s.breakpoints p (drop_row p) c.in-Some.field-0.now Done (session_state new kept (remove s.breakpoints p)) (sym c.in-Some.ensures.kept)
    (gives_dropped old c.remove.new.self new kept s.breakpoints p c.in-Some.field-0.now c.remove.ensures.after
    (ap (λ (m : Machine). get m.processes p) c.remove.ensures.removed ∙ removed_same old.processes p p refl) c.drop_space.ensures.dropped))))

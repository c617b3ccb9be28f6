use Rattle.std.proofs.Common.{ap, subst, sym, ◌∙◌, Ok, Some}
use Rattle.std.specs.Option.{is_some}
use Rattle.machine_core.specs.declared.process.Process as declared
use Rattle.report_text.specs.declared.answer.Answer.TheVariants.{Done, Refused}
use Rattle.report_text.specs.declared.answer.Code.TheVariants.{NoCheckpoint}
use Rattle.command_core.specs.State.{registry_of}
use Rattle.command_core.specs.Sessions.{InSession, HasNoProcess}
use Rattle.command_core.specs.Kept.{kept_named, shown_session, shown_state, spaces_kept}
use Rattle.command_core.specs.Giving.{GivesChange}
use Rattle.command_core.specs.Copies.{CopiesProcess}
use Rattle.command_core.specs.Checkpoints.{restore_row}
use Rattle.command_core.specs.Changes.{answer_of, on_process}
use Rattle.command_core.proofs.Copies.{copy_keeps}
use Rattle.command_core.proofs.Keeping.{found_has}
use Rattle.process_runs.specs.PlaceLaws.{not_free}
use Rattle.command_core.proofs.Savings.{free_unmarked, not_restored, restore_unnamed, restored_done, session_of_restored, told_mark}
use Rattle.command_core.proofs.Wanting.{copy_keeps_all, told_keeps}
use Rattle.command_core.proofs.Breaks.{breaks_kept, breaks_more}
use Rattle.command_core.proofs.session.Session.restore.Goals as goal

pub returns-in-None-get-clause-gives : goal.returns-in-None-get-clause-gives
returns-in-None-get-clause-gives c =
    let s = c.self.inside in
    subst (λ (s : InSession). GivesChange (on_process c.args.p (restore_row c.args.p c.args.name.now) (registry_of s.state)) s.state (Refused NoCheckpoint) s.state) c.self.view_is
    (restore_unnamed s.machine s.checkpoints s.breakpoints c.args.p c.args.name.now c.in-Some.field-0.now (sym c.in-Some.ensures.kept)
    (sym c.if-is_speculating.false ∙ told_mark s.machine c.args.p c.is_speculating.result c.memory.result.now c.is_speculating.ensures.mark c.memory.ensures)
    (sym (c.in-None-get.ensures ∙ ap (λ n. kept_named n s.checkpoints) c.as_slice.ensures)))

-- one has the name: its space is free

pub restore_process-requires-clause-differ : goal.restore_process-requires-clause-differ
restore_process-requires-clause-differ c =
    let s = c.self.inside in
    let x = c.in-Some-get.kept.now in
    not_free s.machine c.args.p x.space (ap is_some (sym c.in-Some.ensures.kept))
    (found_has c.as_slice.result.now (HasNoProcess s.machine) s.checkpoints x c.self.invariant.0.free (sym c.in-Some-get.ensures)).1

pub restore_process-requires-clause-saved : goal.restore_process-requires-clause-saved
restore_process-requires-clause-saved c =
    let s = c.self.inside in
    (found_has c.as_slice.result.now (HasNoProcess s.machine) s.checkpoints c.in-Some-get.kept.now c.self.invariant.0.free (sym c.in-Some-get.ensures)).0

pub restore_process-requires-clause-unmarked : goal.restore_process-requires-clause-unmarked
restore_process-requires-clause-unmarked c =
    let s = c.self.inside in
    let x = c.in-Some-get.kept.now in
    free_unmarked s.machine (spaces_kept s.checkpoints) s.numbers x.space c.self.invariant.0
    (found_has c.as_slice.result.now (HasNoProcess s.machine) s.checkpoints x c.self.invariant.0.free (sym c.in-Some-get.ensures))

-- it is done

pub invariant_of-self-2 : goal.invariant_of-self-2
invariant_of-self-2 c =
    let s = c.self.inside in
    let x = c.in-Some-get.kept.now in
    let copied = subst (λ (y : declared.Process). CopiesProcess (Some c.args.p) x.space c.args.p y s.machine c.restore_process.new.machine (Ok tt)) c.process-in-Some-get.ensures c.in-Ok.ensures in (
      session_of_restored s.machine c.restore_process.new.machine (spaces_kept s.checkpoints) s.numbers c.args.p x c.self.invariant.0 (ap is_some (sym c.in-Some.ensures.kept))
          (found_has c.as_slice.result.now (HasNoProcess s.machine) s.checkpoints x c.self.invariant.0.free (sym c.in-Some-get.ensures)) copied,
      c.self.invariant.1,
      breaks_more s.machine c.restore_process.new.machine s.breakpoints c.args.p (ap is_some copied.1.adopted) copied.1.others c.self.invariant.2,
    )

pub returns-clause-gives : goal.returns-clause-gives
returns-clause-gives c =
    let s = c.self.inside in
    let x = c.in-Some-get.kept.now in
    let copied = subst (λ (y : declared.Process). CopiesProcess (Some c.args.p) x.space c.args.p y s.machine c.restore_process.new.machine (Ok tt)) c.process-in-Some-get.ensures c.in-Ok.ensures in
    subst (λ (s : InSession). GivesChange (on_process c.args.p (restore_row c.args.p c.args.name.now) (registry_of s.state)) s.state Done
    (shown_state c.restore_process.new.machine c.self.inside.checkpoints c.self.inside.breakpoints)) c.self.view_is
    (restored_done s.machine s.checkpoints s.breakpoints c.args.p c.args.name.now c.in-Some.field-0.now (sym c.in-Some.ensures.kept) c.restore_process.new.machine x s.numbers c.self.invariant.0
    (sym c.if-is_speculating.false ∙ told_mark s.machine c.args.p c.is_speculating.result c.memory.result.now c.is_speculating.ensures.mark c.memory.ensures)
    (sym (c.in-Some-get.ensures ∙ ap (λ n. kept_named n s.checkpoints) c.as_slice.ensures)) copied)

-- it isn't

pub invariant_of-self : goal.invariant_of-self
invariant_of-self c =
    let s = c.self.inside in
    let keeps = copy_keeps c.in-Some-get.kept.now.space c.args.p s.machine c.restore_process.new.machine c.in-Err.error c.in-Err.ensures in
    (keeps.session (spaces_kept s.checkpoints) s.numbers c.self.invariant.0, c.self.invariant.1, breaks_kept s.machine c.restore_process.new.machine s.breakpoints keeps.stay c.self.invariant.2)

pub returns-in-Err-clause-gives : goal.returns-in-Err-clause-gives
returns-in-Err-clause-gives c =
    let s = c.self.inside in
    let x = c.in-Some-get.kept.now in
    subst (λ (s : InSession). GivesChange (on_process c.args.p (restore_row c.args.p c.args.name.now) (registry_of s.state)) s.state c.not_made.result
    (shown_state c.restore_process.new.machine c.self.inside.checkpoints c.self.inside.breakpoints)) c.self.view_is
    (subst (λ a. GivesChange (on_process c.args.p (restore_row c.args.p c.args.name.now) (registry_of (shown_state c.self.inside.machine c.self.inside.checkpoints c.self.inside.breakpoints)))
    (shown_state c.self.inside.machine c.self.inside.checkpoints c.self.inside.breakpoints) a (shown_state c.restore_process.new.machine c.self.inside.checkpoints c.self.inside.breakpoints)) (sym c.not_made.ensures)
    (not_restored s.machine s.checkpoints s.breakpoints c.args.p c.args.name.now c.in-Some.field-0.now (sym c.in-Some.ensures.kept) c.restore_process.new.machine x s.numbers c.self.invariant.0
    (sym c.if-is_speculating.false ∙ told_mark s.machine c.args.p c.is_speculating.result c.memory.result.now c.is_speculating.ensures.mark c.memory.ensures)
    (sym (c.in-Some-get.ensures ∙ ap (λ n. kept_named n s.checkpoints) c.as_slice.ensures)) c.in-Err.error c.in-Err.ensures))

pub returns-in-Err-clause-want : goal.returns-in-Err-clause-want
returns-in-Err-clause-want c =
    let s = c.self.inside in
    let new = c.restore_process.new.machine in
    told_keeps c.args.self.now (shown_session s.machine s.checkpoints s.breakpoints s.modes) (shown_session new s.checkpoints s.breakpoints s.modes)
    c.not_made.result (answer_of c.in-Err.error) c.self.view_is c.not_made.ensures
    (copy_keeps_all s.machine new s.checkpoints s.breakpoints s.modes c.in-Some-get.kept.now.space c.args.p c.in-Err.error c.in-Err.ensures)

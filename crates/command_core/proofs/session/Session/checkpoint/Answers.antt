use Rattle.std.proofs.Common.{◌≡◌, ◌∙◌, List, Some, None, ap, subst, sym, refl}
use Rattle.std.specs.Prelude.{Ok}
use Rattle.command_core.specs.Rows.{first_refusal}
use Rattle.report_text.specs.declared.answer.Answer.TheVariants.{Refused, Saved}
use Rattle.command_core.specs.declared.checkpoints.Kept.{Kept}
use Rattle.command_core.specs.State.{registry_of}
use Rattle.command_core.specs.Sessions.{InSession, IsSession}
use Rattle.command_core.specs.Kept.{shown_session, shown_state, spaces_kept}
use Rattle.command_core.specs.Giving.{GivesChange, WantKeeps}
use Rattle.command_core.specs.Checkpoints.{SavesSpace, checkpoint_refusals, checkpoint_row}
use Rattle.command_core.specs.Changes.{answer_of, on_process}
use Rattle.std.specs.FinMap.{get}
use Rattle.command_core.proofs.Breaks.{breaks_kept}
use Rattle.command_core.proofs.Numbers.{next_is, taken_free}
use Rattle.command_core.proofs.Copies.{copy_keeps}
use Rattle.command_core.proofs.Places.{free_number, none_before}
use Rattle.command_core.proofs.Savings.{checkpoint_refused, checkpoint_saved, checkpoint_unsaved, session_of_saved, taken_is, told_mark}
use Rattle.command_core.proofs.Wanting.{copy_keeps_all, told_keeps}
use Rattle.command_core.proofs.session.Session.checkpoint.Goals as goal

pub returns-in-Err-clause-gives : goal.returns-in-Err-clause-gives
returns-in-Err-clause-gives c =
    let s = c.self.inside in
    subst (λ (s : InSession). GivesChange (on_process c.args.p (checkpoint_row c.args.p c.args.name.now) (registry_of s.state)) s.state (Refused c.in-Err.code) s.state) c.self.view_is
    (checkpoint_refused s.machine s.checkpoints s.breakpoints c.args.p c.args.name.now c.in-Some.process.now (sym c.in-Some.ensures.kept)
    c.is_speculating-speculating.result c.has-taken.result
    (told_mark s.machine c.args.p c.is_speculating-speculating.result c.memory.result.now c.is_speculating-speculating.ensures.mark c.memory.ensures)
    (taken_is s.checkpoints c.as_slice.result.now c.args.name.now c.has-taken.result c.as_slice.ensures c.has-taken.ensures)
    c.in-Err.code (subst (λ o. first_refusal (checkpoint_refusals c.is_speculating-speculating.result c.has-taken.result o) ≡ Some c.in-Err.code) (next_is s.machine s.checkpoints s.breakpoints s.numbers c.self.invariant.0 c.least.result c.least.ensures) c.in-Err.ensures))

-- it is made

pub invariant_of-self : goal.invariant_of-self
invariant_of-self c =
    let s = c.self.inside in
    let free = free_number s.machine (spaces_kept s.checkpoints) s.numbers c.in-Ok.q c.self.invariant.0 (taken_free s.numbers c.least.result c.in-Ok.q c.least.ensures c.in-Ok.ensures.1) in
    let entered : Kept = record { name = c.args.name.now; space = c.in-Ok.q; regs = c.in-Some.process.now.regs; state = c.in-Some.process.now.state } in
    let saved = subst (λ t. SavesSpace c.args.p c.in-Ok.q c.self.inside.machine c.save_process.new.machine (Ok t)) c.in-Ok-save_process.ensures.kept.0 c.in-Ok-save_process.ensures.saves in (
      subst (λ (xs : List Kept). IsSession c.save_process.new.machine (spaces_kept xs) c.take.new.self) (sym c.in-Ok-save_process.ensures.kept.1)
          (session_of_saved s.machine c.save_process.new.machine s.checkpoints s.numbers c.take.new.self c.in-Ok.q c.args.p entered c.self.invariant.0 free.0 free.1 c.take.ensures
          (none_before s.machine (spaces_kept s.checkpoints) s.numbers c.in-Ok.q c.self.invariant.0 free.0) refl saved),
      c.self.invariant.1,
      breaks_kept s.machine c.save_process.new.machine s.breakpoints (λ q gone. ap (λ m. get m q) (sym saved.1.processes) ∙ gone) c.self.invariant.2,
    )

pub returns-in-Ok-save_process-clause-gives : goal.returns-in-Ok-save_process-clause-gives
returns-in-Ok-save_process-clause-gives c =
    let s = c.self.inside in
    let p = c.args.p in
    let name = c.args.name.now in
    let next = sym (next_is s.machine s.checkpoints s.breakpoints s.numbers c.self.invariant.0 c.least.result c.least.ensures) ∙ c.in-Ok.ensures.1 in
    let saved = subst (λ t. SavesSpace c.args.p c.in-Ok.q c.self.inside.machine c.save_process.new.machine (Ok t)) c.in-Ok-save_process.ensures.kept.0 c.in-Ok-save_process.ensures.saves in
    subst (λ (s : InSession). GivesChange (on_process c.args.p (checkpoint_row c.args.p c.args.name.now) (registry_of s.state)) s.state (Saved c.args.p c.in-Ok-save_process.told c.in-Ok.q)
    (shown_state c.save_process.new.machine c.save_process.new.checkpoints c.self.inside.breakpoints)) c.self.view_is
    (subst (λ t. GivesChange (on_process c.args.p (checkpoint_row c.args.p c.args.name.now) (registry_of (shown_state c.self.inside.machine c.self.inside.checkpoints c.self.inside.breakpoints)))
    (shown_state c.self.inside.machine c.self.inside.checkpoints c.self.inside.breakpoints) (Saved c.args.p t c.in-Ok.q)
    (shown_state c.save_process.new.machine c.save_process.new.checkpoints c.self.inside.breakpoints)) (sym c.in-Ok-save_process.ensures.kept.0)
    (subst (λ (xs : List Kept). GivesChange (on_process c.args.p (checkpoint_row c.args.p c.args.name.now) (registry_of (shown_state c.self.inside.machine c.self.inside.checkpoints c.self.inside.breakpoints)))
    (shown_state c.self.inside.machine c.self.inside.checkpoints c.self.inside.breakpoints) (Saved c.args.p c.args.name.now c.in-Ok.q)
    (shown_state c.save_process.new.machine xs c.self.inside.breakpoints)) (sym c.in-Ok-save_process.ensures.kept.1)
    (checkpoint_saved s.machine s.checkpoints s.breakpoints p name c.in-Some.process.now (sym c.in-Some.ensures.kept)
    c.is_speculating-speculating.result c.has-taken.result
    (told_mark s.machine p c.is_speculating-speculating.result c.memory.result.now c.is_speculating-speculating.ensures.mark c.memory.ensures)
    (taken_is s.checkpoints c.as_slice.result.now name c.has-taken.result c.as_slice.ensures c.has-taken.ensures)
    c.save_process.new.machine c.in-Ok.q s.numbers c.self.invariant.0 next
    (subst (λ o. first_refusal (checkpoint_refusals c.is_speculating-speculating.result c.has-taken.result o) ≡ None) (next_is s.machine s.checkpoints s.breakpoints s.numbers c.self.invariant.0 c.least.result c.least.ensures) c.in-Ok.ensures.0)
    (free_number s.machine (spaces_kept s.checkpoints) s.numbers c.in-Ok.q c.self.invariant.0 (taken_free s.numbers c.least.result c.in-Ok.q c.least.ensures c.in-Ok.ensures.1)).0 saved)))

-- it isn't

pub invariant_of-self-in-Err-save_process : goal.invariant_of-self-in-Err-save_process
invariant_of-self-in-Err-save_process c =
    let s = c.self.inside in
    let keeps = copy_keeps c.args.p c.in-Ok.q s.machine c.save_process.new.machine c.in-Err-save_process.error c.in-Err-save_process.ensures.saves in (
      subst (λ (xs : List Kept). IsSession c.save_process.new.machine (spaces_kept xs) c.self.inside.numbers) (sym c.in-Err-save_process.ensures.kept)
          (keeps.session (spaces_kept s.checkpoints) s.numbers c.self.invariant.0),
      c.self.invariant.1,
      breaks_kept s.machine c.save_process.new.machine s.breakpoints keeps.stay c.self.invariant.2,
    )

pub returns-in-Err-save_process-clause-gives : goal.returns-in-Err-save_process-clause-gives
returns-in-Err-save_process-clause-gives c =
    let s = c.self.inside in
    let p = c.args.p in
    let name = c.args.name.now in
    subst (λ (s : InSession). GivesChange (on_process c.args.p (checkpoint_row c.args.p c.args.name.now) (registry_of s.state)) s.state c.not_made.result
    (shown_state c.save_process.new.machine c.save_process.new.checkpoints c.self.inside.breakpoints)) c.self.view_is
    (subst (λ a. GivesChange (on_process c.args.p (checkpoint_row c.args.p c.args.name.now) (registry_of (shown_state c.self.inside.machine c.self.inside.checkpoints c.self.inside.breakpoints)))
    (shown_state c.self.inside.machine c.self.inside.checkpoints c.self.inside.breakpoints) a (shown_state c.save_process.new.machine c.save_process.new.checkpoints c.self.inside.breakpoints)) (sym c.not_made.ensures)
    (subst (λ (xs : List Kept). GivesChange (on_process c.args.p (checkpoint_row c.args.p c.args.name.now) (registry_of (shown_state c.self.inside.machine c.self.inside.checkpoints c.self.inside.breakpoints)))
    (shown_state c.self.inside.machine c.self.inside.checkpoints c.self.inside.breakpoints) (answer_of c.in-Err-save_process.error) (shown_state c.save_process.new.machine xs c.self.inside.breakpoints)) (sym c.in-Err-save_process.ensures.kept)
    (checkpoint_unsaved s.machine s.checkpoints s.breakpoints p name c.in-Some.process.now (sym c.in-Some.ensures.kept)
    c.is_speculating-speculating.result c.has-taken.result
    (told_mark s.machine p c.is_speculating-speculating.result c.memory.result.now c.is_speculating-speculating.ensures.mark c.memory.ensures)
    (taken_is s.checkpoints c.as_slice.result.now name c.has-taken.result c.as_slice.ensures c.has-taken.ensures)
    c.save_process.new.machine c.in-Ok.q s.numbers c.self.invariant.0 (sym (next_is s.machine s.checkpoints s.breakpoints s.numbers c.self.invariant.0 c.least.result c.least.ensures) ∙ c.in-Ok.ensures.1)
    (subst (λ o. first_refusal (checkpoint_refusals c.is_speculating-speculating.result c.has-taken.result o) ≡ None) (next_is s.machine s.checkpoints s.breakpoints s.numbers c.self.invariant.0 c.least.result c.least.ensures) c.in-Ok.ensures.0)
    c.in-Err-save_process.error c.in-Err-save_process.ensures.saves)))

pub returns-in-Err-save_process-clause-want : goal.returns-in-Err-save_process-clause-want
returns-in-Err-save_process-clause-want c =
    let s = c.self.inside in
    let old = shown_session s.machine s.checkpoints s.breakpoints s.modes in
    let new = c.save_process.new.machine in
    told_keeps c.args.self.now old (shown_session new c.save_process.new.checkpoints s.breakpoints s.modes)
    c.not_made.result (answer_of c.in-Err-save_process.error) c.self.view_is c.not_made.ensures
    (subst (λ (xs : List Kept). WantKeeps (shown_session c.self.inside.machine c.self.inside.checkpoints c.self.inside.breakpoints c.self.inside.modes)
    (answer_of c.in-Err-save_process.error) (shown_session c.save_process.new.machine xs c.self.inside.breakpoints c.self.inside.modes)) (sym c.in-Err-save_process.ensures.kept)
    (copy_keeps_all s.machine new s.checkpoints s.breakpoints s.modes c.args.p c.in-Ok.q c.in-Err-save_process.error c.in-Err-save_process.ensures.saves))

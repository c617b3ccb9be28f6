use Rattle.std.proofs.Common.{◌≡◌, ◌∙◌, ap, subst, sym, Some, None}
use Rattle.command_core.specs.Rows.{first_refusal}
use Rattle.command_core.specs.State.{registry_of}
use Rattle.command_core.specs.Sessions.{InSession}
use Rattle.command_core.specs.Kept.{shown_session, shown_state, spaces_kept}
use Rattle.command_core.specs.Giving.{GivesChange}
use Rattle.command_core.specs.Copies.{fork_refusals, fork_row}
use Rattle.command_core.specs.Changes.{answer_of, on_process}
use Rattle.report_text.specs.declared.answer.Answer.TheVariants.{Forked, Refused}
use Rattle.std.specs.Option.{is_some}
use Rattle.command_core.proofs.Breaks.{breaks_kept, breaks_more}
use Rattle.command_core.proofs.Numbers.{next_is, taken_free}
use Rattle.command_core.proofs.Copies.{copy_keeps}
use Rattle.command_core.proofs.Forkings.{fork_refused, forked, not_forked, session_forked}
use Rattle.command_core.proofs.Places.{free_number, none_before}
use Rattle.command_core.proofs.Savings.{told_mark}
use Rattle.command_core.proofs.Wanting.{copy_keeps_all, told_keeps}
use Rattle.command_core.proofs.session.Session.fork.Goals as goal

pub invariant_of-self : goal.invariant_of-self
invariant_of-self c =
    let s = c.self.inside in
    let free = free_number s.machine (spaces_kept s.checkpoints) s.numbers c.in-Ok.q c.self.invariant.0 (taken_free s.numbers c.least.result c.in-Ok.q c.least.ensures c.in-Ok.ensures.1) in
    let forked = c.in-Ok-fork_process.ensures in (
      session_forked s.machine c.fork_process.new.machine (spaces_kept s.checkpoints) s.numbers c.take.new.self c.in-Ok.q c.args.p c.in-Some.process.now c.self.invariant.0 free.0 free.1
          c.take.ensures (sym c.in-Some.ensures.kept) forked,
      c.self.invariant.1,
      breaks_more s.machine c.fork_process.new.machine s.breakpoints c.in-Ok.q (ap is_some forked.1.adopted) forked.1.others c.self.invariant.2,
    )

pub invariant_of-self-in-Err-fork_process : goal.invariant_of-self-in-Err-fork_process
invariant_of-self-in-Err-fork_process c =
    let s = c.self.inside in
    let keeps = copy_keeps c.args.p c.in-Ok.q s.machine c.fork_process.new.machine c.in-Err-fork_process.error c.in-Err-fork_process.ensures in
    (keeps.session (spaces_kept s.checkpoints) s.numbers c.self.invariant.0, c.self.invariant.1, breaks_kept s.machine c.fork_process.new.machine s.breakpoints keeps.stay c.self.invariant.2)

pub returns-in-Err-clause-gives : goal.returns-in-Err-clause-gives
returns-in-Err-clause-gives c =
    let s = c.self.inside in
    let mark = c.is_speculating-speculating.result in
    let state = c.in-Some.process.now.state in
    subst (λ (s : InSession). GivesChange (on_process c.args.p (fork_row c.args.p) (registry_of s.state)) s.state (Refused c.in-Err.code) s.state) c.self.view_is
    (fork_refused s.machine s.checkpoints s.breakpoints c.args.p c.in-Some.process.now mark
    (told_mark s.machine c.args.p mark c.memory.result.now c.is_speculating-speculating.ensures.mark c.memory.ensures) c.in-Err.code (sym c.in-Some.ensures.kept)
    (subst (λ o. first_refusal (fork_refusals c.in-Some.process.now.state c.is_speculating-speculating.result o) ≡ Some c.in-Err.code) (next_is s.machine s.checkpoints s.breakpoints s.numbers c.self.invariant.0 c.least.result c.least.ensures) c.in-Err.ensures))

pub returns-in-Ok-fork_process-clause-gives : goal.returns-in-Ok-fork_process-clause-gives
returns-in-Ok-fork_process-clause-gives c =
    let s = c.self.inside in
    let p = c.args.p in
    let mark = c.is_speculating-speculating.result in
    let next = sym (next_is s.machine s.checkpoints s.breakpoints s.numbers c.self.invariant.0 c.least.result c.least.ensures) ∙ c.in-Ok.ensures.1 in
    let absent = (free_number s.machine (spaces_kept s.checkpoints) s.numbers c.in-Ok.q c.self.invariant.0 (taken_free s.numbers c.least.result c.in-Ok.q c.least.ensures c.in-Ok.ensures.1)).0 in
    subst (λ (s : InSession). GivesChange (on_process c.args.p (fork_row c.args.p) (registry_of s.state)) s.state (Forked c.args.p c.in-Ok.q)
    (shown_state c.fork_process.new.machine c.self.inside.checkpoints c.self.inside.breakpoints)) c.self.view_is
    (forked s.machine s.checkpoints s.breakpoints p c.in-Some.process.now mark
    (told_mark s.machine p mark c.memory.result.now c.is_speculating-speculating.ensures.mark c.memory.ensures) c.fork_process.new.machine c.in-Ok.q s.numbers c.self.invariant.0
    (sym c.in-Some.ensures.kept) next
    (subst (λ o. first_refusal (fork_refusals c.in-Some.process.now.state c.is_speculating-speculating.result o) ≡ None) (next_is s.machine s.checkpoints s.breakpoints s.numbers c.self.invariant.0 c.least.result c.least.ensures) c.in-Ok.ensures.0)
    absent (c.self.invariant.2 c.in-Ok.q (none_before s.machine (spaces_kept s.checkpoints) s.numbers c.in-Ok.q c.self.invariant.0 absent)) c.in-Ok-fork_process.ensures)

pub returns-in-Err-fork_process-clause-gives : goal.returns-in-Err-fork_process-clause-gives
returns-in-Err-fork_process-clause-gives c =
    let s = c.self.inside in
    let p = c.args.p in
    let mark = c.is_speculating-speculating.result in
    let next = sym (next_is s.machine s.checkpoints s.breakpoints s.numbers c.self.invariant.0 c.least.result c.least.ensures) ∙ c.in-Ok.ensures.1 in
    subst (λ (s : InSession). GivesChange (on_process c.args.p (fork_row c.args.p) (registry_of s.state)) s.state c.not_made.result
    (shown_state c.fork_process.new.machine c.self.inside.checkpoints c.self.inside.breakpoints)) c.self.view_is
    (subst (λ a. GivesChange (on_process c.args.p (fork_row c.args.p) (registry_of (shown_state c.self.inside.machine c.self.inside.checkpoints c.self.inside.breakpoints)))
    (shown_state c.self.inside.machine c.self.inside.checkpoints c.self.inside.breakpoints) a (shown_state c.fork_process.new.machine c.self.inside.checkpoints c.self.inside.breakpoints)) (sym c.not_made.ensures)
    (not_forked s.machine s.checkpoints s.breakpoints p c.in-Some.process.now mark
    (told_mark s.machine p mark c.memory.result.now c.is_speculating-speculating.ensures.mark c.memory.ensures) c.fork_process.new.machine c.in-Ok.q s.numbers c.self.invariant.0
    (sym c.in-Some.ensures.kept) next
    (subst (λ o. first_refusal (fork_refusals c.in-Some.process.now.state c.is_speculating-speculating.result o) ≡ None) (next_is s.machine s.checkpoints s.breakpoints s.numbers c.self.invariant.0 c.least.result c.least.ensures) c.in-Ok.ensures.0)
    c.in-Err-fork_process.error c.in-Err-fork_process.ensures))

pub returns-in-Err-fork_process-clause-want : goal.returns-in-Err-fork_process-clause-want
returns-in-Err-fork_process-clause-want c =
    let s = c.self.inside in
    let new = c.fork_process.new.machine in
    told_keeps c.args.self.now (shown_session s.machine s.checkpoints s.breakpoints s.modes) (shown_session new s.checkpoints s.breakpoints s.modes)
    c.not_made.result (answer_of c.in-Err-fork_process.error) c.self.view_is c.not_made.ensures
    (copy_keeps_all s.machine new s.checkpoints s.breakpoints s.modes c.args.p c.in-Ok.q c.in-Err-fork_process.error c.in-Err-fork_process.ensures)

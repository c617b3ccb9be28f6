use Rattle.std.proofs.Common.{ap, sym, subst}
use Rattle.std.specs.Option.{is_some}
use Rattle.breakpoints.specs.Breakpoints.{Breaks}
use Rattle.report_text.specs.declared.answer.Answer.TheVariants.{Done}
use Rattle.command_core.specs.State.{registry_of}
use Rattle.command_core.specs.Sessions.{AreBreaksOf, InSession}
use Rattle.command_core.specs.Kept.{shown_state}
use Rattle.command_core.specs.Debugging.{unbreak_row}
use Rattle.command_core.specs.Changes.{on_process}
use Rattle.command_core.specs.Giving.{GivesChange}
use Rattle.command_core.proofs.Breaks.{breaks_without}
use Rattle.command_core.proofs.Debugging.{break_removed}
use Rattle.command_core.proofs.session.Session.remove_breakpoint.Goals as goal

pub invariant_of-self : goal.invariant_of-self
invariant_of-self c =
    let s = c.self.inside in
    let there = ap is_some (sym c.in-Some.ensures.kept) in (
      c.self.invariant.0,
      c.self.invariant.1,
      subst (AreBreaksOf s.machine) (sym c.remove.ensures) (breaks_without s.machine s.breakpoints c.args.p c.args.address there c.self.invariant.2),
    )

pub returns-clause-gives : goal.returns-clause-gives
returns-clause-gives c =
    let s = c.self.inside in
    let p = c.args.p in
    subst (λ (s : InSession). GivesChange (on_process p (unbreak_row p c.args.address) (registry_of s.state)) s.state Done
    (shown_state c.self.inside.machine c.self.inside.checkpoints c.remove.new.self)) c.self.view_is
    (subst (λ (breaks : Breaks). GivesChange (on_process p (unbreak_row p c.args.address)
    (registry_of (shown_state c.self.inside.machine c.self.inside.checkpoints c.self.inside.breakpoints)))
    (shown_state c.self.inside.machine c.self.inside.checkpoints c.self.inside.breakpoints) Done
    (shown_state c.self.inside.machine c.self.inside.checkpoints breaks)) (sym c.remove.ensures)
    (break_removed s.machine s.checkpoints s.breakpoints p c.args.address c.in-Some.field-0.now (sym c.in-Some.ensures.kept)))

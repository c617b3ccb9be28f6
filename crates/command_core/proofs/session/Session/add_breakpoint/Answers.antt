use Rattle.std.proofs.Common.{ap, sym, subst}
use Rattle.std.specs.Option.{is_some}
use Rattle.std.specs.FinSet.{insert as with_address}
use Rattle.breakpoints.specs.Breakpoints.{Breaks, addresses_of}
use Rattle.report_text.specs.declared.answer.Answer.TheVariants.{Done}
use Rattle.command_core.specs.State.{registry_of}
use Rattle.command_core.specs.Sessions.{AreBreaksOf, InSession}
use Rattle.command_core.specs.Kept.{shown_state}
use Rattle.command_core.specs.Debugging.{break_row}
use Rattle.command_core.specs.Changes.{on_process}
use Rattle.command_core.specs.Giving.{GivesChange}
use Rattle.command_core.proofs.Breaks.{breaks_put}
use Rattle.command_core.proofs.Debugging.{break_added}
use Rattle.command_core.proofs.session.Session.add_breakpoint.Goals as goal

pub invariant_of-self-2 : goal.invariant_of-self-2
invariant_of-self-2 c =
    let s = c.self.inside in
    let there = ap is_some (sym c.in-Some.ensures.kept) in (
      c.self.invariant.0,
      c.self.invariant.1,
      subst (AreBreaksOf s.machine) (sym c.in-Ok.ensures.added)
          (breaks_put s.machine s.breakpoints c.args.p (with_address (addresses_of s.breakpoints c.args.p) c.args.address) there c.self.invariant.2),
    )

pub returns-clause-gives : goal.returns-clause-gives
returns-clause-gives c =
    let s = c.self.inside in
    let p = c.args.p in
    subst (λ (s : InSession). GivesChange (on_process p (break_row p c.args.address) (registry_of s.state)) s.state Done
    (shown_state c.self.inside.machine c.self.inside.checkpoints c.add.new.self)) c.self.view_is
    (subst (λ (breaks : Breaks). GivesChange (on_process p (break_row p c.args.address)
    (registry_of (shown_state c.self.inside.machine c.self.inside.checkpoints c.self.inside.breakpoints)))
    (shown_state c.self.inside.machine c.self.inside.checkpoints c.self.inside.breakpoints) Done
    (shown_state c.self.inside.machine c.self.inside.checkpoints breaks)) (sym c.in-Ok.ensures.added)
    (break_added s.machine s.checkpoints s.breakpoints p c.args.address c.in-Some.field-0.now (sym c.in-Some.ensures.kept)))

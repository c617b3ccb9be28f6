use Rattle.std.proofs.Common.{subst}
use Rattle.command_core.specs.Sessions.{InSession}
use Rattle.command_core.specs.Kept.{shown_session, shown_state, spaces_kept}
use Rattle.command_core.specs.Giving.{GivesChange}
use Rattle.command_core.specs.Deduplication.{dedup_all_row}
use Rattle.command_core.proofs.Breaks.{breaks_kept}
use Rattle.command_core.proofs.Deduplicating.{gives_shown, line_keeps}
use Rattle.command_core.proofs.session.Session.dedup_all.Goals as goal

pub invariant_of-self : goal.invariant_of-self
invariant_of-self c = (
  c.dedup_pages.ensures.done.keeps.session (spaces_kept c.self.inside.checkpoints) c.self.inside.numbers c.self.invariant.0,
  c.self.invariant.1,
  breaks_kept c.self.inside.machine c.dedup_pages.new.machine c.self.inside.breakpoints c.dedup_pages.ensures.done.keeps.stay c.self.invariant.2,
)

pub returns-clause-gives : goal.returns-clause-gives
returns-clause-gives c =
    let s = c.self.inside in
    subst (λ (s : InSession). GivesChange (dedup_all_row c.args.p c.args.q s.state) s.state c.dedup_pages.result
    (shown_state c.dedup_pages.new.machine c.self.inside.checkpoints c.self.inside.breakpoints)) c.self.view_is
    (gives_shown (dedup_all_row c.args.p c.args.q) s.machine c.dedup_pages.new.machine s.checkpoints s.breakpoints s.numbers c.dedup_pages.result
    c.dedup_pages.ensures.told c.self.invariant.0 c.dedup_pages.ensures.done)

pub returns-clause-want : goal.returns-clause-want
returns-clause-want c =
    let s = c.self.inside in
    (line_keeps c.args.self.now (shown_session c.dedup_pages.new.machine s.checkpoints s.breakpoints s.modes) c.dedup_pages.result c.dedup_pages.ensures.told).0

pub returns-clause-told : goal.returns-clause-told
returns-clause-told c =
    let s = c.self.inside in
    (line_keeps c.args.self.now (shown_session c.dedup_pages.new.machine s.checkpoints s.breakpoints s.modes) c.dedup_pages.result c.dedup_pages.ensures.told).1

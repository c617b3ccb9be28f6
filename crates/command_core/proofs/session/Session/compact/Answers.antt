use Rattle.std.proofs.Common.{ap, arith, subst, ◌∙◌, refl}
use Rattle.overlay_memory.specs.View.{state_of, translations_of}
use Rattle.machine_core.specs.Machine.{with_memory}
use Rattle.report_text.specs.declared.answer.Answer.TheVariants.{Done}
use Rattle.command_core.specs.State.{registry_of}
use Rattle.command_core.specs.Sessions.{InSession, free_blocks_of}
use Rattle.command_core.specs.Kept.{shown_state, spaces_kept}
use Rattle.command_core.specs.Rows.{still_row}
use Rattle.command_core.specs.Giving.{GivesChange}
use Rattle.command_core.proofs.Breaks.{breaks_kept}
use Rattle.command_core.proofs.Places.{keeps_before}
use Rattle.command_core.proofs.Rows.{gives_moved}
use Rattle.command_core.proofs.session.Session.compact.Goals as goal

pub returns-clause-gives : goal.returns-clause-gives
returns-clause-gives c =
    let s = c.self.inside in
    subst (λ (s : InSession). GivesChange (still_row (registry_of s.state)) s.state Done
    (shown_state (with_memory c.self.inside.machine c.compact.new.self) c.self.inside.checkpoints c.self.inside.breakpoints)) c.self.view_is
    (gives_moved s.machine (with_memory s.machine c.compact.new.self) s.checkpoints s.breakpoints
    (c.compact.ensures.state ∙ ap state_of c.memory_mut.ensures.value, c.compact.ensures.translations ∙ ap translations_of c.memory_mut.ensures.value, refl, refl))

pub returns-clause-settled : goal.returns-clause-settled
unfolding free_blocks_of
returns-clause-settled c =
    let settled = c.compact.ensures.settled in
    (settled 0 (omega arith), (settled 1 (omega arith), (settled 2 (omega arith), (settled 3 (omega arith), tt))))

pub invariant_of-self : goal.invariant_of-self
invariant_of-self c =
    let s = c.self.inside in
    let new = with_memory s.machine c.compact.new.self in
    let keeps = keeps_before s.machine new
    (c.compact.ensures.state ∙ ap state_of c.memory_mut.ensures.value, c.compact.ensures.translations ∙ ap translations_of c.memory_mut.ensures.value, refl, refl) in
    (keeps.session (spaces_kept s.checkpoints) s.numbers c.self.invariant.0, c.self.invariant.1, breaks_kept s.machine new s.breakpoints keeps.stay c.self.invariant.2)

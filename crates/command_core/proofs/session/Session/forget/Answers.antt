use Rattle.std.proofs.Common.{◌≡◌, List, sym, ap, subst, ◌∙◌, None}
use Rattle.std.specs.Option.{option_map}
use Rattle.machine_core.specs.Machine.{spaces_of}
use Rattle.report_text.specs.declared.answer.Answer.TheVariants.{Done, Refused}
use Rattle.report_text.specs.declared.answer.Code.TheVariants.{NoCheckpoint}
use Rattle.command_core.specs.declared.checkpoints.Kept.{Kept}
use Rattle.command_core.specs.State.{registry_of}
use Rattle.command_core.specs.Sessions.{InSession, IsSession}
use Rattle.command_core.specs.Kept.{checkpoint_in, kept_but, kept_named, shown_state, spaces_kept}
use Rattle.command_core.specs.Giving.{GivesChange}
use Rattle.command_core.specs.Checkpoints.{forget_row, on_checkpoint}
use Rattle.command_core.proofs.Dropping.{gives_forgot, session_forgot}
use Rattle.command_core.proofs.Keeping.{found_has, named_shown, none_but}
use Rattle.command_core.proofs.Places.{number_bounds}
use Rattle.command_core.proofs.Rows.{gives_unnamed}
use Rattle.std.specs.FinMap.{get}
use Rattle.command_core.proofs.Breaks.{breaks_kept}
use Rattle.command_core.proofs.session.Session.forget.Goals as goal

-- none has the name

pub invariant_of-self : goal.invariant_of-self
invariant_of-self c =
    let s = c.self.inside in
    let none : kept_named c.args.name.now s.checkpoints ≡ None = sym (c.in-None.ensures.removed ∙ ap (λ n. kept_named n s.checkpoints) c.as_slice.ensures) in
    let same = c.remove.ensures.others ∙ ap (λ n. kept_but n s.checkpoints) c.as_slice.ensures ∙ none_but c.args.name.now s.checkpoints none in
    (subst (λ (xs : List Kept). IsSession s.machine (spaces_kept xs) s.numbers) (sym same) c.self.invariant.0, c.self.invariant.1, c.self.invariant.2)

pub returns-in-None-clause-gives : goal.returns-in-None-clause-gives
returns-in-None-clause-gives c =
    let s = c.self.inside in
    let name = c.args.name.now in
    let none : kept_named c.args.name.now s.checkpoints ≡ None = sym (c.in-None.ensures.removed ∙ ap (λ n. kept_named n s.checkpoints) c.as_slice.ensures) in
    let same = c.remove.ensures.others ∙ ap (λ n. kept_but n s.checkpoints) c.as_slice.ensures ∙ none_but name s.checkpoints none in
    subst (λ (s : InSession). GivesChange (on_checkpoint c.args.name.now (forget_row c.args.name.now) (registry_of s.state)) s.state (Refused NoCheckpoint)
    (shown_state c.self.inside.machine c.remove.new.self c.self.inside.breakpoints)) c.self.view_is
    (subst (λ (xs : List Kept). GivesChange (on_checkpoint c.args.name.now (forget_row c.args.name.now) (registry_of (shown_state c.self.inside.machine c.self.inside.checkpoints c.self.inside.breakpoints)))
    (shown_state c.self.inside.machine c.self.inside.checkpoints c.self.inside.breakpoints) (Refused NoCheckpoint) (shown_state c.self.inside.machine xs c.self.inside.breakpoints)) (sym same)
    (gives_unnamed (shown_state s.machine s.checkpoints s.breakpoints) name (forget_row name)
    (named_shown name (spaces_of s.machine) s.checkpoints ∙ ap (option_map (checkpoint_in (spaces_of s.machine))) none)))

-- one has it

pub drop_space-requires-clause-space : goal.drop_space-requires-clause-space
drop_space-requires-clause-space c =
    (found_has c.as_slice.result.now _ c.self.inside.checkpoints c.in-Some.kept c.self.invariant.0.free (sym c.in-Some.ensures.removed)).0

pub drop_space-requires-clause-no_process : goal.drop_space-requires-clause-no_process
drop_space-requires-clause-no_process c =
    (found_has c.as_slice.result.now _ c.self.inside.checkpoints c.in-Some.kept c.self.invariant.0.free (sym c.in-Some.ensures.removed)).1

pub give_back-requires : goal.give_back-requires
give_back-requires c =
    let free = found_has c.as_slice.result.now _ c.self.inside.checkpoints c.in-Some.kept c.self.invariant.0.free (sym c.in-Some.ensures.removed) in
    (number_bounds c.in-Some.kept.space (c.self.invariant.0.in_range c.in-Some.kept.space free.0)).1

pub invariant_of-self-in-Some : goal.invariant_of-self-in-Some
invariant_of-self-in-Some c =
    let s = c.self.inside in
    let name = c.as_slice.result.now in (
      subst (λ (xs : List Kept). IsSession c.drop_space.new.self (spaces_kept xs) c.give_back.new.self) (sym c.remove.ensures.others)
          (session_forgot s.machine c.drop_space.new.self s.checkpoints s.breakpoints name c.in-Some.kept s.numbers c.self.invariant.0 (sym c.in-Some.ensures.removed) c.drop_space.ensures.dropped c.give_back.new.self c.give_back.ensures),
      c.self.invariant.1,
      breaks_kept s.machine c.drop_space.new.self s.breakpoints (λ q gone. ap (λ m. get m q) (sym c.drop_space.ensures.dropped.processes) ∙ gone) c.self.invariant.2,
    )

pub returns-in-Some-clause-gives : goal.returns-in-Some-clause-gives
returns-in-Some-clause-gives c =
    let s = c.self.inside in
    let name = c.as_slice.result.now in
    subst (λ (s : InSession). GivesChange (on_checkpoint c.args.name.now (forget_row c.args.name.now) (registry_of s.state)) s.state Done
    (shown_state c.drop_space.new.self c.remove.new.self c.self.inside.breakpoints)) c.self.view_is
    (subst (λ n. GivesChange (on_checkpoint n (forget_row n) (registry_of (shown_state c.self.inside.machine c.self.inside.checkpoints c.self.inside.breakpoints)))
    (shown_state c.self.inside.machine c.self.inside.checkpoints c.self.inside.breakpoints) Done (shown_state c.drop_space.new.self c.remove.new.self c.self.inside.breakpoints)) c.as_slice.ensures
    (subst (λ (xs : List Kept). GivesChange (on_checkpoint c.as_slice.result.now (forget_row c.as_slice.result.now) (registry_of (shown_state c.self.inside.machine c.self.inside.checkpoints c.self.inside.breakpoints)))
    (shown_state c.self.inside.machine c.self.inside.checkpoints c.self.inside.breakpoints) Done (shown_state c.drop_space.new.self xs c.self.inside.breakpoints)) (sym c.remove.ensures.others)
    (gives_forgot s.machine c.drop_space.new.self s.checkpoints s.breakpoints name c.in-Some.kept s.numbers c.self.invariant.0 (sym c.in-Some.ensures.removed) c.drop_space.ensures.dropped)))

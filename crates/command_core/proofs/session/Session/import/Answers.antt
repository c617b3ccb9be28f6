use Rattle.std.proofs.Common.{◌∙◌, List, ap, length, subst, sym, refl}
use Rattle.std.specs.Prelude.{Ok}
use Rattle.std.specs.FinMap.{get}
use Rattle.report_text.specs.declared.answer.Answer.TheVariants.{Imported, Refused}
use Rattle.report_text.specs.declared.answer.Code.TheVariants.{NameTaken, NoCheckpoint, NumbersUsed}
use Rattle.delta_image.specs.declared.delta.DeltaPage.{DeltaPage}
use Rattle.delta_spaces.specs.Built.{import_of}
use Rattle.command_core.specs.declared.checkpoints.Kept.{Kept}
use Rattle.command_core.specs.State.{registry_of}
use Rattle.command_core.specs.Sessions.{HasNoProcess, InSession, IsSession}
use Rattle.command_core.specs.Kept.{kept_named, shown_session, shown_state, spaces_kept}
use Rattle.command_core.specs.Rows.{registered}
use Rattle.command_core.specs.Giving.{GivesChange, WantKeeps}
use Rattle.command_core.specs.Images.{ImportsSpace, import_row}
use Rattle.command_core.specs.Changes.{answer_of}
use Rattle.command_core.specs.Ample.{amply_imported}
use Rattle.command_core.specs.LikeLaws.{gives_as, registered_same}
use Rattle.command_core.proofs.Breaks.{breaks_kept}
use Rattle.command_core.proofs.Copies.{event_keeps}
use Rattle.command_core.proofs.Importing.{import_baseless, import_done, import_taken, import_unnumbered, import_unread, not_imported, session_of_imported}
use Rattle.command_core.proofs.Keeping.{found_has}
use Rattle.command_core.proofs.Numbers.{next_is, taken_free}
use Rattle.command_core.proofs.Places.{free_number, none_before}
use Rattle.command_core.proofs.Savings.{free_unmarked, taken_is}
use Rattle.command_core.proofs.Wanting.{event_keeps_all, told_keeps}
use Rattle.command_core.proofs.session.Session.import.Goals as goal

pub returns-then-has-clause-gives : goal.returns-then-has-clause-gives
returns-then-has-clause-gives c =
    let s = c.self.inside in
    subst (λ (s : InSession). GivesChange (import_row c.args.name.now c.args.base.now c.args.file.now (registry_of s.state)) s.state (Refused NameTaken) s.state) c.self.view_is
    (import_taken s.machine s.checkpoints s.breakpoints c.args.name.now c.args.base.now c.args.file.now
    (sym (taken_is s.checkpoints c.as_slice.result.now c.args.name.now c.has.result c.as_slice.ensures c.has.ensures) ∙ c.if-has.true))

pub returns-then-has-clause-stands : goal.returns-then-has-clause-stands
returns-then-has-clause-stands c =
    gives_as (registered (import_row c.args.name.now c.args.base.now c.args.file.now)) (registered_same (import_row c.args.name.now c.args.base.now c.args.file.now)) c.args.self.now c.args.self.now (Refused NameTaken)
    (returns-then-has-clause-gives c)

-- there is no such base

pub returns-in-None-clause-gives : goal.returns-in-None-clause-gives
returns-in-None-clause-gives c =
    let s = c.self.inside in
    subst (λ (s : InSession). GivesChange (import_row c.args.name.now c.args.base.now c.args.file.now (registry_of s.state)) s.state (Refused NoCheckpoint) s.state) c.self.view_is
    (import_baseless s.machine s.checkpoints s.breakpoints c.args.name.now c.args.base.now c.args.file.now (sym (taken_is s.checkpoints c.as_slice.result.now c.args.name.now c.has.result c.as_slice.ensures c.has.ensures) ∙ c.if-has.false)
    (sym (c.in-None.ensures ∙ ap (λ n. kept_named n s.checkpoints) c.as_slice-2.ensures)))

pub returns-in-None-clause-stands : goal.returns-in-None-clause-stands
returns-in-None-clause-stands c =
    gives_as (registered (import_row c.args.name.now c.args.base.now c.args.file.now)) (registered_same (import_row c.args.name.now c.args.base.now c.args.file.now)) c.args.self.now c.args.self.now (Refused NoCheckpoint)
    (returns-in-None-clause-gives c)

-- the file isn't taken

pub returns-in-Err-clause-gives : goal.returns-in-Err-clause-gives
returns-in-Err-clause-gives c =
    let s = c.self.inside in
    subst (λ (s : InSession). GivesChange (import_row c.args.name.now c.args.base.now c.args.file.now (registry_of s.state)) s.state c.in-Err.answer s.state) c.self.view_is
    (import_unread s.machine s.checkpoints s.breakpoints c.args.name.now c.args.base.now c.args.file.now (sym (taken_is s.checkpoints c.as_slice.result.now c.args.name.now c.has.result c.as_slice.ensures c.has.ensures) ∙ c.if-has.false)
    c.in-Some.kept.now (sym (c.in-Some.ensures ∙ ap (λ n. kept_named n s.checkpoints) c.as_slice-2.ensures)) c.in-Err.answer c.in-Err.ensures)

pub returns-in-Err-clause-stands : goal.returns-in-Err-clause-stands
returns-in-Err-clause-stands c =
    gives_as (registered (import_row c.args.name.now c.args.base.now c.args.file.now)) (registered_same (import_row c.args.name.now c.args.base.now c.args.file.now)) c.args.self.now c.args.self.now c.in-Err.answer
    (returns-in-Err-clause-gives c)

-- no number is free

pub returns-in-None-least-clause-gives : goal.returns-in-None-least-clause-gives
returns-in-None-least-clause-gives c =
    let s = c.self.inside in
    subst (λ (s : InSession). GivesChange (import_row c.args.name.now c.args.base.now c.args.file.now (registry_of s.state)) s.state (Refused NumbersUsed) s.state) c.self.view_is
    (import_unnumbered s.machine s.checkpoints s.breakpoints c.args.name.now c.args.base.now c.args.file.now (sym (taken_is s.checkpoints c.as_slice.result.now c.args.name.now c.has.result c.as_slice.ensures c.has.ensures) ∙ c.if-has.false)
    c.in-Some.kept.now (sym (c.in-Some.ensures ∙ ap (λ n. kept_named n s.checkpoints) c.as_slice-2.ensures)) c.in-Ok.delta c.in-Ok.ensures.said
    (sym (next_is s.machine s.checkpoints s.breakpoints s.numbers c.self.invariant.0 c.least.result c.least.ensures) ∙ c.in-None-least.is))

pub returns-in-None-least-clause-stands : goal.returns-in-None-least-clause-stands
returns-in-None-least-clause-stands c =
    gives_as (registered (import_row c.args.name.now c.args.base.now c.args.file.now)) (registered_same (import_row c.args.name.now c.args.base.now c.args.file.now)) c.args.self.now c.args.self.now (Refused NumbersUsed)
    (returns-in-None-least-clause-gives c)

pub import_space-requires-clause-there : goal.import_space-requires-clause-there
import_space-requires-clause-there c =
    let s = c.self.inside in
    let x = c.in-Some.kept.now in
    (found_has c.as_slice-2.result.now (HasNoProcess s.machine) s.checkpoints x c.self.invariant.0.free (sym c.in-Some.ensures)).0

pub import_space-requires-clause-unmarked : goal.import_space-requires-clause-unmarked
import_space-requires-clause-unmarked c =
    let s = c.self.inside in
    let x = c.in-Some.kept.now in
    free_unmarked s.machine (spaces_kept s.checkpoints) s.numbers x.space c.self.invariant.0
    (found_has c.as_slice-2.result.now (HasNoProcess s.machine) s.checkpoints x c.self.invariant.0.free (sym c.in-Some.ensures))

-- it is made

pub invariant_of-self : goal.invariant_of-self
invariant_of-self c =
    let s = c.self.inside in
    let delta = c.in-Ok.delta in
    let free = free_number s.machine (spaces_kept s.checkpoints) s.numbers c.in-Some-least.q c.self.invariant.0 (taken_free s.numbers c.least.result c.in-Some-least.q c.least.ensures c.in-Some-least.is) in
    let entered : Kept = record { name = c.args.name.now; space = c.in-Some-least.q; regs = delta.regs; state = delta.state } in
    let imported = subst (λ t. ImportsSpace c.in-Some.kept.now.space c.in-Some-least.q c.in-Ok.delta c.self.inside.machine c.import_space.new.machine (Ok t)) c.in-Ok-import_space.ensures.kept.0 c.in-Ok-import_space.ensures.imports in (
      subst (λ (xs : List Kept). IsSession c.import_space.new.machine (spaces_kept xs) c.take.new.self) (sym c.in-Ok-import_space.ensures.kept.1)
          (session_of_imported s.machine c.import_space.new.machine s.checkpoints s.numbers c.take.new.self c.in-Some.kept.now.space c.in-Some-least.q delta entered
          c.self.invariant.0 free.0 free.1 c.take.ensures (none_before s.machine (spaces_kept s.checkpoints) s.numbers c.in-Some-least.q c.self.invariant.0 free.0) refl
          c.in-Ok.ensures.few c.in-Ok.ensures.pages imported),
      c.self.invariant.1,
      breaks_kept s.machine c.import_space.new.machine s.breakpoints (λ q gone. ap (λ m. get m q) (sym imported.1.processes) ∙ gone) c.self.invariant.2,
    )

pub returns-in-Ok-import_space-clause-gives : goal.returns-in-Ok-import_space-clause-gives
returns-in-Ok-import_space-clause-gives c =
    let s = c.self.inside in
    let imported = subst (λ t. ImportsSpace c.in-Some.kept.now.space c.in-Some-least.q c.in-Ok.delta c.self.inside.machine c.import_space.new.machine (Ok t)) c.in-Ok-import_space.ensures.kept.0 c.in-Ok-import_space.ensures.imports in
    subst (λ (s : InSession). GivesChange (import_row c.args.name.now c.args.base.now c.args.file.now (registry_of s.state)) s.state
    (Imported c.in-Ok-import_space.told c.in-Some-least.q (length c.as_slice-in-Ok-import_space.result.now))
    (shown_state c.import_space.new.machine c.import_space.new.checkpoints c.self.inside.breakpoints)) c.self.view_is
    (subst (λ (ps : List DeltaPage). GivesChange (import_row c.args.name.now c.args.base.now c.args.file.now (registry_of (shown_state c.self.inside.machine c.self.inside.checkpoints c.self.inside.breakpoints))) (shown_state c.self.inside.machine c.self.inside.checkpoints c.self.inside.breakpoints)
    (Imported c.in-Ok-import_space.told c.in-Some-least.q (length ps)) (shown_state c.import_space.new.machine c.import_space.new.checkpoints c.self.inside.breakpoints))
    (sym c.as_slice-in-Ok-import_space.ensures)
    (subst (λ t. GivesChange (import_row c.args.name.now c.args.base.now c.args.file.now (registry_of (shown_state c.self.inside.machine c.self.inside.checkpoints c.self.inside.breakpoints))) (shown_state c.self.inside.machine c.self.inside.checkpoints c.self.inside.breakpoints)
    (Imported t c.in-Some-least.q (length c.in-Ok.delta.pages)) (shown_state c.import_space.new.machine c.import_space.new.checkpoints c.self.inside.breakpoints))
    (sym c.in-Ok-import_space.ensures.kept.0)
    (subst (λ (xs : List Kept). GivesChange (import_row c.args.name.now c.args.base.now c.args.file.now (registry_of (shown_state c.self.inside.machine c.self.inside.checkpoints c.self.inside.breakpoints))) (shown_state c.self.inside.machine c.self.inside.checkpoints c.self.inside.breakpoints)
    (Imported c.args.name.now c.in-Some-least.q (length c.in-Ok.delta.pages)) (shown_state c.import_space.new.machine xs c.self.inside.breakpoints))
    (sym c.in-Ok-import_space.ensures.kept.1)
    (import_done s.machine s.checkpoints s.breakpoints c.args.name.now c.args.base.now c.args.file.now (sym (taken_is s.checkpoints c.as_slice.result.now c.args.name.now c.has.result c.as_slice.ensures c.has.ensures) ∙ c.if-has.false)
    c.in-Some.kept.now (sym (c.in-Some.ensures ∙ ap (λ n. kept_named n s.checkpoints) c.as_slice-2.ensures)) c.in-Ok.delta c.in-Ok.ensures.said
    c.import_space.new.machine c.in-Some-least.q s.numbers c.self.invariant.0 (sym (next_is s.machine s.checkpoints s.breakpoints s.numbers c.self.invariant.0 c.least.result c.least.ensures) ∙ c.in-Some-least.is)
    (free_number s.machine (spaces_kept s.checkpoints) s.numbers c.in-Some-least.q c.self.invariant.0 (taken_free s.numbers c.least.result c.in-Some-least.q c.least.ensures c.in-Some-least.is)).0 imported))))

pub returns-in-Ok-import_space-clause-stands : goal.returns-in-Ok-import_space-clause-stands
returns-in-Ok-import_space-clause-stands c =
    gives_as (registered (import_row c.args.name.now c.args.base.now c.args.file.now)) (registered_same (import_row c.args.name.now c.args.base.now c.args.file.now)) c.args.self.now
    (shown_session c.import_space.new.machine c.import_space.new.checkpoints c.self.inside.breakpoints c.self.inside.modes)
    (Imported c.in-Ok-import_space.told c.in-Some-least.q (length c.as_slice-in-Ok-import_space.result.now)) (returns-in-Ok-import_space-clause-gives c)

-- it isn't

pub invariant_of-self-in-Err-import_space : goal.invariant_of-self-in-Err-import_space
invariant_of-self-in-Err-import_space c =
    let s = c.self.inside in
    let new = c.import_space.new.machine in
    let keeps = event_keeps (import_of c.in-Some.kept.now.space c.in-Some-least.q c.in-Ok.delta) s.machine new c.in-Err-import_space.error c.in-Err-import_space.ensures.imports in (
      subst (λ (xs : List Kept). IsSession c.import_space.new.machine (spaces_kept xs) c.self.inside.numbers) (sym c.in-Err-import_space.ensures.kept)
          (keeps.session (spaces_kept s.checkpoints) s.numbers c.self.invariant.0),
      c.self.invariant.1,
      breaks_kept s.machine new s.breakpoints keeps.stay c.self.invariant.2,
    )

pub returns-clause-gives : goal.returns-clause-gives
returns-clause-gives c =
    let s = c.self.inside in
    subst (λ (s : InSession). GivesChange (import_row c.args.name.now c.args.base.now c.args.file.now (registry_of s.state)) s.state c.not_made.result
    (shown_state c.import_space.new.machine c.import_space.new.checkpoints c.self.inside.breakpoints)) c.self.view_is
    (subst (λ a. GivesChange (import_row c.args.name.now c.args.base.now c.args.file.now (registry_of (shown_state c.self.inside.machine c.self.inside.checkpoints c.self.inside.breakpoints))) (shown_state c.self.inside.machine c.self.inside.checkpoints c.self.inside.breakpoints)
    a (shown_state c.import_space.new.machine c.import_space.new.checkpoints c.self.inside.breakpoints)) (sym c.not_made.ensures)
    (subst (λ (xs : List Kept). GivesChange (import_row c.args.name.now c.args.base.now c.args.file.now (registry_of (shown_state c.self.inside.machine c.self.inside.checkpoints c.self.inside.breakpoints))) (shown_state c.self.inside.machine c.self.inside.checkpoints c.self.inside.breakpoints)
    (answer_of c.in-Err-import_space.error) (shown_state c.import_space.new.machine xs c.self.inside.breakpoints)) (sym c.in-Err-import_space.ensures.kept)
    (not_imported s.machine s.checkpoints s.breakpoints c.args.name.now c.args.base.now c.args.file.now (sym (taken_is s.checkpoints c.as_slice.result.now c.args.name.now c.has.result c.as_slice.ensures c.has.ensures) ∙ c.if-has.false)
    c.in-Some.kept.now (sym (c.in-Some.ensures ∙ ap (λ n. kept_named n s.checkpoints) c.as_slice-2.ensures)) c.in-Ok.delta c.in-Ok.ensures.said
    c.import_space.new.machine c.in-Some-least.q s.numbers c.self.invariant.0 (sym (next_is s.machine s.checkpoints s.breakpoints s.numbers c.self.invariant.0 c.least.result c.least.ensures) ∙ c.in-Some-least.is)
    c.in-Err-import_space.error c.in-Err-import_space.ensures.imports)))

pub returns-clause-stands : goal.returns-clause-stands
returns-clause-stands c =
    gives_as (registered (import_row c.args.name.now c.args.base.now c.args.file.now)) (registered_same (import_row c.args.name.now c.args.base.now c.args.file.now)) c.args.self.now
    (shown_session c.import_space.new.machine c.import_space.new.checkpoints c.self.inside.breakpoints c.self.inside.modes) c.not_made.result (returns-clause-gives c)

pub returns-clause-ample : goal.returns-clause-ample
returns-clause-ample c =
    amply_imported c.args.name.now c.args.base.now c.args.file.now c.args.self.now
    (shown_session c.import_space.new.machine c.import_space.new.checkpoints c.self.inside.breakpoints c.self.inside.modes) c.not_made.result (returns-clause-stands c)

pub returns-clause-want : goal.returns-clause-want
returns-clause-want c =
    let s = c.self.inside in
    let new = c.import_space.new.machine in
    told_keeps c.args.self.now (shown_session s.machine s.checkpoints s.breakpoints s.modes) (shown_session new c.import_space.new.checkpoints s.breakpoints s.modes)
    c.not_made.result (answer_of c.in-Err-import_space.error) c.self.view_is c.not_made.ensures
    (subst (λ (xs : List Kept). WantKeeps (shown_session c.self.inside.machine c.self.inside.checkpoints c.self.inside.breakpoints c.self.inside.modes)
    (answer_of c.in-Err-import_space.error) (shown_session c.import_space.new.machine xs c.self.inside.breakpoints c.self.inside.modes)) (sym c.in-Err-import_space.ensures.kept)
    (event_keeps_all s.machine new s.checkpoints s.breakpoints s.modes (import_of c.in-Some.kept.now.space c.in-Some-least.q c.in-Ok.delta) c.in-Err-import_space.error c.in-Err-import_space.ensures.imports))

use Rattle.std.proofs.Common.{◌≡◌, ◌∙◌, ℕ, List, Vec, Global, ap, subst, sym}
use Rattle.std.specs.Prelude.{Result, Err, IfOk}
use Rattle.machine_core.specs.Machine.{spaces_of}
use Rattle.report_text.specs.declared.answer.Code.{Code}
use Rattle.report_text.specs.declared.answer.Code.TheVariants.{NoCheckpoint}
use Rattle.command_core.specs.State.{Checkpoint}
use Rattle.command_core.specs.Sessions.{HasNoProcess, InSession}
use Rattle.command_core.specs.Kept.{kept_named}
use Rattle.command_core.specs.Images.{ComeBack, Exports, exported_by}
use Rattle.command_core.proofs.Exporting.{come_back_of, exports_baseless, exports_both, exports_none}
use Rattle.command_core.proofs.Keeping.{found_has}
use Rattle.command_core.proofs.session.Session.export.Goals as goal

pub export_space-requires-clause-there : goal.export_space-requires-clause-there
export_space-requires-clause-there c =
    let s = c.self.inside in
    (found_has c.as_slice.result.now (HasNoProcess s.machine) s.checkpoints c.in-Some.saved.now c.self.invariant.0.free (sym c.in-Some.ensures)).0

pub export_space-requires-clause-base_there : goal.export_space-requires-clause-base_there
export_space-requires-clause-base_there c =
    let s = c.self.inside in
    (found_has c.as_slice-in-Some.result.now (HasNoProcess s.machine) s.checkpoints c.in-Some-get.from.now c.self.invariant.0.free (sym c.in-Some-get.ensures)).0

-- one of them isn't there

pub returns-in-None-clause-exports : goal.returns-in-None-clause-exports
returns-in-None-clause-exports c =
    let s = c.self.inside in
    subst (λ (cs : List Checkpoint). exported_by c.args.name.now c.args.base.now cs ≡ Err NoCheckpoint) (ap (λ (s : InSession). s.state.checkpoints) c.self.view_is)
    (exports_none (spaces_of s.machine) s.checkpoints c.args.name.now c.args.base.now
    (sym (c.in-None.ensures ∙ ap (λ n. kept_named n s.checkpoints) c.as_slice.ensures)))

pub returns-in-None-clause-stands : goal.returns-in-None-clause-stands
returns-in-None-clause-stands c state stands =
    subst (λ (cs : List Checkpoint). exported_by c.args.name.now c.args.base.now cs ≡ Err NoCheckpoint) stands.checkpoints (returns-in-None-clause-exports c)

pub returns-in-None-get-clause-exports : goal.returns-in-None-get-clause-exports
returns-in-None-get-clause-exports c =
    let s = c.self.inside in
    subst (λ (cs : List Checkpoint). exported_by c.args.name.now c.args.base.now cs ≡ Err NoCheckpoint) (ap (λ (s : InSession). s.state.checkpoints) c.self.view_is)
    (exports_baseless (spaces_of s.machine) s.checkpoints c.args.name.now c.args.base.now c.in-Some.saved.now (sym (c.in-Some.ensures ∙ ap (λ n. kept_named n s.checkpoints) c.as_slice.ensures))
    (sym (c.in-None-get.ensures ∙ ap (λ n. kept_named n s.checkpoints) c.as_slice-in-Some.ensures)))

pub returns-in-None-get-clause-stands : goal.returns-in-None-get-clause-stands
returns-in-None-get-clause-stands c state stands =
    subst (λ (cs : List Checkpoint). exported_by c.args.name.now c.args.base.now cs ≡ Err NoCheckpoint) stands.checkpoints (returns-in-None-get-clause-exports c)

-- both are

pub returns-in-Some-get-clause-exports : goal.returns-in-Some-get-clause-exports
returns-in-Some-get-clause-exports c =
    let s = c.self.inside in
    subst (λ (cs : List Checkpoint). Exports {V = Vec ℕ Global} (λ image. image.items) (exported_by c.args.name.now c.args.base.now cs) c.export_space.result) (ap (λ (s : InSession). s.state.checkpoints) c.self.view_is)
    (subst (λ (r : Result (List ℕ) Code). Exports {V = Vec ℕ Global} (λ image. image.items) r c.export_space.result)
    (sym (exports_both (spaces_of s.machine) s.checkpoints c.args.name.now c.args.base.now c.in-Some.saved.now c.in-Some-get.from.now (sym (c.in-Some.ensures ∙ ap (λ n. kept_named n s.checkpoints) c.as_slice.ensures))
    (sym (c.in-Some-get.ensures ∙ ap (λ n. kept_named n s.checkpoints) c.as_slice-in-Some.ensures)))) c.export_space.ensures.exports)

pub returns-in-Some-get-clause-stands : goal.returns-in-Some-get-clause-stands
returns-in-Some-get-clause-stands c state stands =
    subst (λ (cs : List Checkpoint). Exports {V = Vec ℕ Global} (λ image. image.items) (exported_by c.args.name.now c.args.base.now cs) c.export_space.result) stands.checkpoints
    (returns-in-Some-get-clause-exports c)

pub returns-in-Some-get-clause-back : goal.returns-in-Some-get-clause-back
returns-in-Some-get-clause-back c =
    let s = c.self.inside in
    subst (λ (cs : List Checkpoint). IfOk c.export_space.result (λ (image : Vec ℕ Global). ComeBack c.args.name.now c.args.base.now cs image.items)) (ap (λ (s : InSession). s.state.checkpoints) c.self.view_is)
    (come_back_of (spaces_of s.machine) s.checkpoints c.args.name.now c.args.base.now c.in-Some.saved.now c.in-Some-get.from.now (sym (c.in-Some.ensures ∙ ap (λ n. kept_named n s.checkpoints) c.as_slice.ensures))
    (sym (c.in-Some-get.ensures ∙ ap (λ n. kept_named n s.checkpoints) c.as_slice-in-Some.ensures)) (λ (image : Vec ℕ Global). image.items) c.export_space.result c.export_space.ensures.back)

use Rattle.std.proofs.Common.{List, ap, subst, sym, ◌∙◌, Some}
use Rattle.std.specs.FinMap.{len}
use Rattle.overlay_memory.specs.View.{TranslatedView, state_of}
use Rattle.space_maps.specs.Spaces.{space_in}
use Rattle.machine_core.specs.Machine.{spaces_of}
use Rattle.command_core.specs.State.{Checkpoint}
use Rattle.command_core.specs.Sessions.{InSession}
use Rattle.command_core.specs.Looks.{LooksAtCheckpoint}
use Rattle.command_core.proofs.Looking.{kept_shown, kept_within}
use Rattle.command_core.proofs.session.Session.checkpoint_at.Goals as goal

pub returns-in-Some-clause-looks : goal.returns-in-Some-clause-looks
returns-in-Some-clause-looks c =
    let s = c.self.inside in
    let x = c.in-Some.kept.now in
    subst (λ (cs : List Checkpoint). LooksAtCheckpoint cs c.args.index (Some c.view_of.result)) (ap (λ (s : InSession). s.state.checkpoints) c.self.view_is)
    (kept_shown (spaces_of s.machine) s.checkpoints c.args.index x c.view_of.result (sym c.in-Some.ensures.at) c.view_of.ensures.name c.view_of.ensures.space
    (c.view_of.ensures.pages ∙ c.pages.ensures.count ∙ ap (λ (m : TranslatedView). len (space_in (state_of m) c.in-Some.kept.now.space).pages) c.memory.ensures))

pub returns-in-Some-clause-stands : goal.returns-in-Some-clause-stands
returns-in-Some-clause-stands c state stands =
    subst (λ (cs : List Checkpoint). LooksAtCheckpoint cs c.args.index (Some c.view_of.result)) stands.checkpoints (returns-in-Some-clause-looks c)

pub returns-in-Some-clause-within : goal.returns-in-Some-clause-within
returns-in-Some-clause-within c =
    let s = c.self.inside in
    kept_within s.machine s.checkpoints s.numbers c.args.index c.in-Some.kept.now c.self.invariant.0 (sym c.in-Some.ensures.at)

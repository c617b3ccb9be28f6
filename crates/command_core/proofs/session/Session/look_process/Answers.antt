use Rattle.std.proofs.Common.{ap, subst, ◌∙◌, Ok}
use Rattle.overlay_memory.specs.View.{TranslatedView, state_of}
use Rattle.std.specs.FinMap.{len}
use Rattle.space_maps.specs.Spaces.{space_in}
use Rattle.machine_core.specs.Machine.{Processes}
use Rattle.command_core.specs.Sessions.{InSession}
use Rattle.command_core.proofs.Standing.{for_each}
use Rattle.command_core.specs.Looks.{LooksAt}
use Rattle.command_core.proofs.Looking.{looked_is, shown}
use Rattle.command_core.proofs.session.Session.look_process.Goals as goal

pub returns-clause-looks : goal.returns-clause-looks
returns-clause-looks c =
    let p = c.args.p in
    subst (λ (processes : Processes). LooksAt processes p (Ok (shown c.in-Some.process.now c.is_speculating.result c.pages.result)))
    (ap (λ (s : InSession). s.state.wholes.processes) c.self.view_is)
    (looked_is c.self.inside.machine p c.in-Some.process.now c.is_speculating.result c.pages.result c.in-Some.ensures.registers
    (c.is_speculating.ensures.mark ∙ ap (λ (m : TranslatedView). (space_in (state_of m) p).speculating) c.memory.ensures)
    (c.pages.ensures.count ∙ ap (λ (m : TranslatedView). len (space_in (state_of m) p).pages) c.memory-in-Some.ensures))

pub returns-clause-stands : goal.returns-clause-stands
returns-clause-stands c =
    for_each (λ (processes : Processes). LooksAt processes c.args.p (Ok (shown c.in-Some.process.now c.is_speculating.result c.pages.result))) c.args.self.now (returns-clause-looks c)

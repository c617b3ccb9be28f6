use Rattle.std.proofs.Common.{sym, ap, subst, ◌∙◌}
use Rattle.std.specs.Prelude.{Ok, Err}
use Rattle.overlay_pages.specs.Changes.{Fits}
use Rattle.overlay_memory.specs.View.{TranslatedView, state_of, translations_of}
use Rattle.overlay_memory.specs.Access.{Stores}
use Rattle.machine_core.specs.Machine.{spaces_of, whole_in, with_memory}
use Rattle.command_core.specs.Debugging.{poke_row}
use Rattle.command_core.specs.Giving.{MachineGives}
use Rattle.command_core.proofs.Stores.{not_poked, poked}
use Rattle.command_core.proofs.poking.poke.Goals as goal

pub returns-in-Ok-clause-done : goal.returns-in-Ok-clause-done
returns-in-Ok-clause-done c =
    poked c.args.p c.args.process c.args.machine.now c.write.new.self c.requires.there c.args.address c.args.bytes.now
    (subst (λ (m : TranslatedView). Stores m.pages c.write.new.self.pages c.args.p c.args.address c.args.bytes.now (Ok tt)) c.memory_mut.ensures.value c.in-Ok.ensures.stores)
    (c.in-Ok.ensures.translations ∙ ap translations_of c.memory_mut.ensures.value)
    (subst (λ (m : TranslatedView). Fits (state_of m)) c.memory.ensures c.units.ensures.fits)

pub returns-in-Err-clause-done : goal.returns-in-Err-clause-done
returns-in-Err-clause-done c =
    subst (λ a. MachineGives (poke_row c.args.p c.args.address c.args.bytes.now (whole_in (spaces_of c.args.machine.now) c.args.p c.args.process)) c.args.machine.now a
    (with_memory c.args.machine.now c.write.new.self)) (sym c.not_poked.ensures.answer)
    (not_poked c.args.p c.args.process c.args.machine.now c.write.new.self c.requires.there c.args.address c.args.bytes.now c.in-Err.error
    (subst (λ (m : TranslatedView). Stores m.pages c.write.new.self.pages c.args.p c.args.address c.args.bytes.now (Err c.in-Err.error)) c.memory_mut.ensures.value c.in-Err.ensures.stores)
    (c.in-Err.ensures.kept ∙ c.memory_mut.ensures.value))

use Rattle.std.proofs.Common.{ap, subst, ◌∙◌, None}
use Rattle.std.specs.FinMap.{insert}
use Rattle.sizes.specs.declared.TheConstants.{STACK_POINTER}
use Rattle.ovl_io.specs.declared.process_state.ProcessState.TheVariants.{Running}
use Rattle.rv_execute.specs.Registers.{first_registers}
use Rattle.overlay_memory.specs.View.{state_of}
use Rattle.machine_core.specs.declared.process.Process as declared
use Rattle.translation_cache.specs.Translations.{flushed}
use Rattle.machine_core.specs.Machine.{Machine, lists_of, spaces_of}
use Rattle.machine_core.specs.Kept.{machine_of}
use Rattle.machine_core.specs.Loading.{IsSpaceOf}
use Rattle.machine_core.proofs.Loaded.{loaded, made_process, taken_back}
use Rattle.machine_core.proofs.machine.Machine.make.Goals as goal

pub returns-in-Ok-clause-made : goal.returns-in-Ok-clause-made
returns-in-Ok-clause-made c =
    let file = c.args.file.now in
    let p = c.args.p in
    let old = c.args.self.now in
    let process : declared.Process = record { regs = c.new.result; state = Running; saved = None } in
    let is = made_process file c.new.result (c.new.ensures ∙ ap (λ pc. first_registers pc STACK_POINTER) (c.entry.ensures ∙ c.requires.of_file.entry)) in
    loaded file p old (machine_of c.self.inside.extension c.load_space.new.memory c.adopt.new.processes) (ap (λ (m : Machine). m.extension) c.self.view_is) (c.load_space.ensures.lists ∙ ap lists_of c.self.view_is)
    (subst (λ (m : Machine). IsSpaceOf file p (spaces_of m) (state_of c.load_space.new.memory)) c.self.view_is c.in_ok-load_space.ensures.made)
    (c.in-Ok.ensures.ok ∙ ap (λ (m : Machine). insert m.processes p process) c.self.view_is ∙ ap (insert old.processes p) is)

pub returns-in-Err-clause-kept : goal.returns-in-Err-clause-kept
returns-in-Err-clause-kept c = (
  taken_back c.args.file.now c.args.p (spaces_of c.args.self.now) (state_of c.load_space.new.memory) (state_of c.drop_space.new.self) c.requires.no_space
      (subst (λ (m : Machine). IsSpaceOf c.args.file.now c.args.p (spaces_of m) (state_of c.load_space.new.memory)) c.self.view_is c.in_ok-load_space.ensures.made) c.drop_space.ensures.state,
  c.drop_space.ensures.translations ∙ ap (flushed c.args.p) c.load_space.ensures.lists ∙ c.in_ok-load_space.ensures.unseen ∙ ap lists_of c.self.view_is,
  c.in-Err.ensures.err ∙ ap (λ (m : Machine). m.processes) c.self.view_is,
  ap (λ (m : Machine). m.extension) c.self.view_is,
)

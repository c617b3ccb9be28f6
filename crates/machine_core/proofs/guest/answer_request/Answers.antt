use Rattle.std.proofs.Common.{rules, ◌≡◌, sym, ◌∙◌}
use Rattle.overlay_pages.specs.State.{memory_of}
use Rattle.overlay_memory.specs.View.{state_of, translations_of}
use Rattle.machine_core.proofs.Requests.{no_write}
use Rattle.machine_core.proofs.guest.answer_request.Goals as goal

pub returns-in-93-clause-lists : goal.returns-in-93-clause-lists
returns-in-93-clause-lists c =
    no_write c.args.p c.args.process.now.regs (memory_of (state_of c.args.memory.now) c.args.p) (translations_of c.args.memory.now)
    c.get.result c.get.ensures.value (λ h. let both : 93 ≡ 64 = sym c.in-93.is ∙ h in cc)

pub returns-in-94-clause-lists : goal.returns-in-94-clause-lists
returns-in-94-clause-lists c =
    no_write c.args.p c.args.process.now.regs (memory_of (state_of c.args.memory.now) c.args.p) (translations_of c.args.memory.now)
    c.get.result c.get.ensures.value (λ h. let both : 94 ≡ 64 = sym c.in-94.is ∙ h in cc)

pub returns-in-172-clause-lists : goal.returns-in-172-clause-lists
returns-in-172-clause-lists c =
    no_write c.args.p c.args.process.now.regs (memory_of (state_of c.args.memory.now) c.args.p) (translations_of c.args.memory.now)
    c.get.result c.get.ensures.value (λ h. let both : 172 ≡ 64 = sym c.in-172.is ∙ h in cc)

pub returns-in_default-clause-lists : goal.returns-in_default-clause-lists
returns-in_default-clause-lists c =
    no_write c.args.p c.args.process.now.regs (memory_of (state_of c.args.memory.now) c.args.p) (translations_of c.args.memory.now)
    c.get.result c.get.ensures.value (λ h. search rules)

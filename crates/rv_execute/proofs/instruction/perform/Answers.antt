use Rattle.std.proofs.Common.{subst, sym, refl, ap, ◌∙◌}
use Rattle.rv_execute.specs.Calls.{Performs}
use Rattle.rv_execute.specs.Execution.{effect, Executes, full_in}
use Rattle.rv_execute.proofs.Effects.{link_calls, go_to_calls}
use Rattle.rv_execute.proofs.instruction.perform.Goals as goal

pub returns-in-Link-clause-done : goal.returns-in-Link-clause-done
returns-in-Link-clause-done g c =
    let memory = g.M.GuestMemory.memory c.args.mem.now in
    subst (λ a. Executes (effect a c.args.rd c.args.regs.now memory) c.args.regs.now memory c.link.new.regs memory c.link.result) (sym c.in-Link.is) (c.link.ensures.done memory)

pub returns-in-Link-clause-made : goal.returns-in-Link-clause-made
returns-in-Link-clause-made g c =
    let memory = g.M.GuestMemory.memory c.args.mem.now in
    let none = ap (λ a. (effect a c.args.rd c.args.regs.now memory).calls) c.in-Link.is ∙ link_calls c.in-Link.target c.args.rd c.args.regs.now memory in
    subst (λ calls. Performs g.M.GuestMemory.fetched g.M.GuestMemory.loaded g.M.GuestMemory.stored calls c.args.mem.now (full_in c.link.result) c.args.mem.now)
    (sym none) (c.link.ensures.not_full, refl)

pub returns-in-Goto-clause-done : goal.returns-in-Goto-clause-done
returns-in-Goto-clause-done g c =
    let memory = g.M.GuestMemory.memory c.args.mem.now in
    subst (λ a. Executes (effect a c.args.rd c.args.regs.now memory) c.args.regs.now memory c.go_to.new.regs memory c.go_to.result) (sym c.in-Goto.is) (c.go_to.ensures.done memory c.args.rd)

pub returns-in-Goto-clause-made : goal.returns-in-Goto-clause-made
returns-in-Goto-clause-made g c =
    let memory = g.M.GuestMemory.memory c.args.mem.now in
    let none = ap (λ a. (effect a c.args.rd c.args.regs.now memory).calls) c.in-Goto.is ∙ go_to_calls c.in-Goto.target c.args.rd c.args.regs.now memory in
    subst (λ calls. Performs g.M.GuestMemory.fetched g.M.GuestMemory.loaded g.M.GuestMemory.stored calls c.args.mem.now (full_in c.go_to.result) c.args.mem.now)
    (sym none) (c.go_to.ensures.not_full, refl)

pub returns-in-Store-clause-done : goal.returns-in-Store-clause-done
returns-in-Store-clause-done g c =
    let memory = g.M.GuestMemory.memory c.args.mem.now in
    let after = g.M.GuestMemory.memory c.store.new.mem in
    subst (λ a. Executes (effect a c.args.rd c.args.regs.now memory) c.args.regs.now memory c.store.new.regs after c.store.result) (sym c.in-Store.is) (c.store.ensures.done c.args.rd)

pub returns-in-Store-clause-made : goal.returns-in-Store-clause-made
returns-in-Store-clause-made g c =
    let memory = g.M.GuestMemory.memory c.args.mem.now in
    subst (λ a. Performs g.M.GuestMemory.fetched g.M.GuestMemory.loaded g.M.GuestMemory.stored (effect a c.args.rd c.args.regs.now memory).calls c.args.mem.now (full_in c.store.result) c.store.new.mem)
    (sym c.in-Store.is) (c.store.ensures.made c.args.rd)

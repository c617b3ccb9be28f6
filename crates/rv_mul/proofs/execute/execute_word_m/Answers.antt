use Rattle.std.proofs.Common.{subst}
use Rattle.rv_decode.specs.Meaning.{Means}
use Rattle.rv_decode.specs.Table.{is_multiplication}
use Rattle.rv_execute.specs.Calls.{Performs}
use Rattle.rv_execute.specs.Execution.{Executes, full_in}
use Rattle.rv_mul.proofs.Meanings.{word_m, word_base}
use Rattle.rv_mul.proofs.execute.execute_word_m.Goals as goal

pub returns-in-Some-clause-done : goal.returns-in-Some-clause-done
returns-in-Some-clause-done g c =
    let memory = g.M.GuestMemory.memory c.args.mem.now in
    subst (λ e. Executes e c.args.regs.now memory c.perform.new.regs (g.M.GuestMemory.memory c.perform.new.mem) c.perform.result)
    (word_m c.args.word c.args.regs.now memory c.in-Some.i (subst (Means is_multiplication c.args.word) c.in-Some.is c.decode_m.ensures.exact)
    c.get.result c.get-in-Some.result c.multiply-value.result c.get.ensures.value c.get-in-Some.ensures.value c.multiply-value.ensures) c.perform.ensures.done

pub returns-in-Some-clause-made : goal.returns-in-Some-clause-made
returns-in-Some-clause-made g c =
    let memory = g.M.GuestMemory.memory c.args.mem.now in
    subst (λ e. Performs g.M.GuestMemory.fetched g.M.GuestMemory.loaded g.M.GuestMemory.stored e.calls c.args.mem.now (full_in c.perform.result) c.perform.new.mem)
    (word_m c.args.word c.args.regs.now memory c.in-Some.i (subst (Means is_multiplication c.args.word) c.in-Some.is c.decode_m.ensures.exact)
    c.get.result c.get-in-Some.result c.multiply-value.result c.get.ensures.value c.get-in-Some.ensures.value c.multiply-value.ensures) c.perform.ensures.made

pub returns-in-None-clause-done : goal.returns-in-None-clause-done
returns-in-None-clause-done g c =
    let memory = g.M.GuestMemory.memory c.args.mem.now in
    subst (λ e. Executes e c.args.regs.now memory c.execute_word.new.regs (g.M.GuestMemory.memory c.execute_word.new.mem) c.execute_word.result)
    (word_base c.args.word c.args.regs.now memory (subst (Means is_multiplication c.args.word) c.in-None.is c.decode_m.ensures.exact)) c.execute_word.ensures.done

pub returns-in-None-clause-made : goal.returns-in-None-clause-made
returns-in-None-clause-made g c =
    let memory = g.M.GuestMemory.memory c.args.mem.now in
    subst (λ e. Performs g.M.GuestMemory.fetched g.M.GuestMemory.loaded g.M.GuestMemory.stored e.calls c.args.mem.now (full_in c.execute_word.result) c.execute_word.new.mem)
    (word_base c.args.word c.args.regs.now memory (subst (Means is_multiplication c.args.word) c.in-None.is c.decode_m.ensures.exact)) c.execute_word.ensures.made

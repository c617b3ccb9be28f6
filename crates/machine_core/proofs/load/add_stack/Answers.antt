use Rattle.std.proofs.Common.{false}
use Rattle.std.proofs.lemmas.Result.{on_ok_weaker}
use Rattle.overlay_memory.specs.View.{state_of}
use Rattle.machine_core.specs.Load.{stack_page, stack_pages}
use Rattle.machine_core.proofs.Adding.{open_either, open_itself}
use Rattle.machine_core.proofs.Images.{stack_added}
use Rattle.machine_core.proofs.load.add_stack.Goals as goal

pub returns-clause-added : goal.returns-clause-added
returns-clause-added c =
    on_ok_weaker c.add_zeros.result
    (stack_added c.args.p (state_of c.args.memory.now) (state_of c.add_zeros.new.memory)
    (open_itself c.args.p (state_of c.args.memory.now) c.requires.there c.requires.none_awaits) c.requires.absent c.union.result (c.union.ensures tt))
    c.add_zeros.ensures.added

pub returns-clause-open : goal.returns-clause-open
returns-clause-open c =
    let itself = open_itself c.args.p (state_of c.args.memory.now) c.requires.there c.requires.none_awaits in
    open_either c.add_zeros.result (state_of c.args.memory.now) (state_of c.add_zeros.new.memory) c.args.p (λ page. stack_page) (λ page. false) stack_pages itself
    (on_ok_weaker c.add_zeros.result
    (stack_added c.args.p (state_of c.args.memory.now) (state_of c.add_zeros.new.memory) itself c.requires.absent c.union.result (c.union.ensures tt)) c.add_zeros.ensures.added)
    c.add_zeros.ensures.kept

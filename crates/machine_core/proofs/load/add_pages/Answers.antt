use Rattle.overlay_memory.specs.View.{state_of}
use Rattle.machine_core.proofs.Adding.{open_chain}
use Rattle.machine_core.proofs.Images.{image_few, stack_absent}
use Rattle.std.proofs.lemmas.Result.{on_ok_weaker}
use Rattle.machine_core.proofs.load.add_pages.Goals as goal

pub add_stack-requires-clause-few : goal.add_stack-requires-clause-few
add_stack-requires-clause-few c =
    image_few c.args.file.now c.args.p (state_of c.args.memory.now) (state_of c.add_image.new.memory) c.requires.of_file.taken c.requires.bare c.in_ok-add_image.ensures.added

pub add_stack-requires-clause-absent : goal.add_stack-requires-clause-absent
add_stack-requires-clause-absent c =
    stack_absent c.args.file.now c.args.p (state_of c.args.memory.now) (state_of c.add_image.new.memory) c.requires.of_file.taken c.requires.bare c.in_ok-add_image.ensures.added

pub returns-clause-added : goal.returns-clause-added
returns-clause-added c =
    on_ok_weaker c.add_stack.result (λ stack. record { between = state_of c.add_image.new.memory; image = c.in_ok-add_image.ensures.added; stack = stack }) c.add_stack.ensures.added

pub returns-clause-open : goal.returns-clause-open
returns-clause-open c =
    open_chain c.args.p (state_of c.args.memory.now) (state_of c.add_image.new.memory) (state_of c.add_stack.new.memory) c.add_image.ensures.open c.add_stack.ensures.open

use Rattle.overlay_memory.specs.View.{state_of}
use Rattle.machine_core.proofs.Spaces.{begun_bare, begun_fits, begun_there, given_up, made}
use Rattle.machine_core.proofs.load.load_space.Goals as goal

pub add_pages-requires-clause-there : goal.add_pages-requires-clause-there
add_pages-requires-clause-there c = begun_there c.args.file.now c.args.p (state_of c.args.memory.now) (state_of c.add_space.new.self) c.requires.of_file.taken c.requires.absent c.in_ok-add_space.ensures.added

pub add_pages-requires-clause-bare : goal.add_pages-requires-clause-bare
add_pages-requires-clause-bare c = begun_bare c.args.file.now c.args.p (state_of c.args.memory.now) (state_of c.add_space.new.self) c.requires.of_file.taken c.requires.absent c.in_ok-add_space.ensures.added

pub add_pages-requires-clause-fits : goal.add_pages-requires-clause-fits
add_pages-requires-clause-fits c =
    begun_fits c.args.file.now c.args.p (state_of c.args.memory.now) (state_of c.add_space.new.self) c.requires.of_file.taken c.requires.absent c.in_ok-add_space.ensures.added
    c.requires.fits

pub returns-in-Ok-clause-made : goal.returns-in-Ok-clause-made
returns-in-Ok-clause-made c =
    made c.args.file.now c.args.p (state_of c.args.memory.now) (state_of c.add_space.new.self) c.requires.of_file.taken c.requires.absent c.in_ok-add_space.ensures.added
    (state_of c.add_pages.new.memory) c.in-Ok.ensures.added

pub returns-in-Err-clause-kept : goal.returns-in-Err-clause-kept
returns-in-Err-clause-kept c =
    given_up c.args.file.now c.args.p (state_of c.args.memory.now) (state_of c.add_space.new.self) c.requires.of_file.taken c.requires.absent c.in_ok-add_space.ensures.added
    (state_of c.add_pages.new.memory) (state_of c.drop_space.new.self) c.add_pages.ensures.open c.drop_space.ensures.state

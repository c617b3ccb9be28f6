use Rattle.machine_core.specs.Laws.{like_itself}
use Rattle.machine_core.specs.Machine.{wholes}
use Rattle.self_speculation.specs.Taken.{after_taken}
use Rattle.self_speculation.specs.TakenLaws.{none_after_taken}
use Rattle.self_speculation.specs.PermsLaws.{taken_leaves}
use Rattle.process_runs.specs.PlaceLaws.{free_turns, perms_turns}
use Rattle.process_runs.proofs.taking.take_event.Goals as goal

pub returns-clause-turn : goal.returns-clause-turn
returns-clause-turn c = c.event.ensures.answers (wholes c.args.machine.now) (like_itself (wholes c.args.machine.now))

pub returns-clause-after : goal.returns-clause-after
returns-clause-after c = c.event.ensures.stands (wholes c.args.machine.now) (like_itself (wholes c.args.machine.now))

pub returns-clause-free : goal.returns-clause-free
returns-clause-free c =
    let old = c.args.machine.now in
    let p = c.args.p in
    free_turns p old c.event.new.machine (after_taken c.args.calls (wholes old) p) c.event.ensures.others c.requires.runs (returns-clause-after c)
    (λ q other none. none_after_taken c.args.calls q p other (wholes old) none)

pub returns-clause-perms : goal.returns-clause-perms
returns-clause-perms c =
    let old = c.args.machine.now in
    let p = c.args.p in
    perms_turns p old c.event.new.machine (after_taken c.args.calls (wholes old) p) c.event.ensures.others c.requires.runs (taken_leaves c.args.calls p old) (returns-clause-after c)

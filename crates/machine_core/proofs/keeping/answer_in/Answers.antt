use Rattle.std.proofs.Common.{false, sym, ap, ◌∙◌}
use Rattle.rv_execute.specs.Step.{request}
use Rattle.overlay_pages.specs.State.{memory_of}
use Rattle.overlay_memory.specs.View.{state_of}
use Rattle.machine_core.specs.declared.process.Process as declared
use Rattle.machine_core.specs.Turns.{answered_by, asked_found, guest_answered, translations_asked}
use Rattle.machine_core.specs.Laws.{guests_same, like_answered, like_asked, runs_shown}
use Rattle.std.specs.Option.{option_map_or}
use Rattle.machine_core.specs.BareTurns.{bytes_asked}
use Rattle.machine_core.specs.Machine.{wholes}
use Rattle.machine_core.specs.Kept.{guest_in, guest_seen, machine_of}
use Rattle.machine_core.proofs.Listed.{runs_put}
use Rattle.machine_core.proofs.Machines.{changed, guest_is, none_runs, same_beside, state_is}
use Rattle.machine_core.proofs.keeping.answer_in.Goals as goal

pub unreachable-requires : goal.unreachable-requires
unreachable-requires c =
    let old = machine_of false c.args.memory.now c.args.processes.now in none_runs old c.args.p (sym c.in-None.ensures.value) (runs_shown old c.args.p ∙ c.requires.runs)

pub answer_request-turn-requires-clause-runs : goal.answer_request-turn-requires-clause-runs
answer_request-turn-requires-clause-runs c =
    let old = machine_of false c.args.memory.now c.args.processes.now in
    state_is old c.args.p c.in-Some.process.now (sym c.in-Some.ensures.value) (runs_shown old c.args.p ∙ c.requires.runs)

pub answer_request-turn-requires-clause-room : goal.answer_request-turn-requires-clause-room
answer_request-turn-requires-clause-room c = c.requires.room ∙ ap (λ o. option_map_or (λ (process : declared.Process). bytes_asked process.regs) o 0) (sym c.in-Some.ensures.value)

pub returns-clause-answers : goal.returns-clause-answers
returns-clause-answers c extension state stands =
    let old = machine_of extension c.args.memory.now c.args.processes.now in
    c.answer_request-turn.ensures.turn
    ∙ sym (ap (asked_found c.args.p) (guest_is old c.args.p c.in-Some.process.now (sym c.in-Some.ensures.value)))
    ∙ like_asked c.args.p (wholes old) state stands

pub returns-clause-changed : goal.returns-clause-changed
unfolding translations_asked
returns-clause-changed c extension =
    let process = c.in-Some.process.now in
    let spaces = state_of c.args.memory.now in
    let done = c.answer_request-turn.ensures in
    changed (guest_answered c.args.p) (like_answered c.args.p) c.args.p (machine_of extension c.args.memory.now c.args.processes.now) c.answer_request-turn.new.memory
    process c.answer_request-turn.new.process (sym c.in-Some.ensures.value)
    (guests_same _ _ (ap (guest_in extension c.args.p c.answer_request-turn.new.memory) done.after
    ∙ (λ i. guest_seen extension c.args.p (done.same i) (done.lists i) (answered_by process.saved (request c.args.p process.regs (memory_of spaces c.args.p))))))
    (ap (λ (x : declared.Process). x.saved) done.after) (same_beside c.args.p spaces (state_of c.answer_request-turn.new.memory) done.same)

pub returns-clause-runs : goal.returns-clause-runs
returns-clause-runs c = c.is_running.ensures ∙ sym (runs_put c.args.processes.now c.args.p c.answer_request-turn.new.process)

use Rattle.std.specs.Prelude.{◌≡◌, ℕ, zero, suc, ◌+◌, ◌-◌, ◌==◌, ◌&&◌, Bool, true, List, [], ◌∷◌, ◌++◌, flat_map, min, Option, Some, None, if◌then◌else◌}
use Rattle.std.specs.Option.{option_and_then, option_map_or, option_or}
use Rattle.std.specs.FinMap.{get}
use Rattle.std.specs.FinSet.{contains}
use Rattle.breakpoints.specs.Breakpoints.{Addresses, Breaks, addresses_of}
use Rattle.ovl_io.specs.declared.process_state.ProcessState.{ProcessState}
use Rattle.machine_core.specs.declared.process.Process as declared
use Rattle.ovl_io.specs.declared.turn.Turn.{Turn}
use Rattle.machine_core.specs.Process.{Process, runs}
use Rattle.rv_execute.specs.declared.outcome.Outcome.{Outcome}
use Rattle.machine_core.specs.Ample.{is_full_turn}
use Rattle.machine_core.specs.Machine.{AreLike, Processes, Wholes, is_running, running_among, runs_among}
use Rattle.machine_core.specs.Turns.{after_execution, came_to}
use Rattle.self_speculation.specs.Taken.{after_taken, taken_turn}
use Rattle.round_robin.specs.Turns.{next_number, after_turn_of, after_turns_of, left_for}
use Rattle.process_runs.specs.declared.turns.Order.{Order}
use Rattle.process_runs.specs.declared.turns.Order.TheVariants.{ByTurns, Alone}
use Rattle.report_text.specs.declared.answer.Stop.{Stop}
use Rattle.report_text.specs.declared.answer.Stop.TheVariants.{Limit, Idle, Ended, Break, Full}
use Rattle.report_text.specs.Answers.{has_turn_line, turn_text, stop_text}

-- The turns of `run` and `step`.

-- A run in progress: the order as it stands, whether processes may speculate by themselves, how many turns were asked for, how many were
-- taken, and whose turn was the last.
pub record Progress : Type 0 where
  pub order : Order
  pub calls : Bool
  pub turns : ℕ
  pub taken : ℕ
  pub last : Option ℕ

-- the number whose turn is next
abbrev pub next_among : Processes → Order → Option ℕ
next_among processes (ByTurns turns) = next_number turns (running_among processes)
next_among processes (Alone p) = if runs_among processes p then Some p else None

abbrev pub next_of : Wholes → Order → Option ℕ
next_of state order = next_among state.processes order

abbrev pub order_after : ℕ → Order → Order
order_after p (ByTurns turns) = ByTurns (after_turn_of p turns)
order_after p (Alone q) = Alone q

-- why turns end where no process has the next one
abbrev pub rest_of : Order → Stop
rest_of (ByTurns turns) = Idle
rest_of (Alone p) = Ended

-- The endings, in their order: the process of the last turn runs, with its pc at one of its breakpoints; nothing is left to run; as many
-- turns were taken as were asked for.
abbrev pub break_by : Addresses → ℕ → ProcessState → ℕ → Option Stop
break_by addresses p state pc = if runs state && contains addresses pc then Some (Break p pc) else None

abbrev pub break_among : Addresses → ℕ → declared.Process → Option Stop
break_among addresses p process = break_by addresses p process.state process.regs.pc

abbrev pub break_at : Breaks → ℕ → Process → Option Stop
break_at breaks p process = break_by (addresses_of breaks p) p process.state process.registers.pc

abbrev pub reached_by : Breaks → Processes → ℕ → Option Stop
reached_by breaks processes p = option_and_then (break_at breaks p) (get processes p)

abbrev pub break_of : Breaks → Wholes → ℕ → Option Stop
break_of breaks state p = reached_by breaks state.processes p

abbrev pub last_reached : Breaks → Processes → Progress → Option Stop
last_reached breaks processes run = option_and_then (reached_by breaks processes) run.last

abbrev pub last_break : Breaks → Wholes → Progress → Option Stop
last_break breaks state run = last_reached breaks state.processes run

abbrev pub ending_by : Option ℕ → Progress → Option Stop
ending_by None run = Some (rest_of run.order)
ending_by (Some p) run = if run.taken == run.turns then Some Limit else None

abbrev pub ending : Breaks → Wholes → Progress → Option Stop
ending breaks state run = option_or (last_break breaks state run) (ending_by (next_of state run.order) run)

-- the run after a turn of a process
abbrev pub run_after : ℕ → Progress → Progress
run_after p run = record { order = order_after p run.order; calls = run.calls; turns = run.turns; taken = run.taken + 1; last = Some p }

-- how many turns a process, whose turn is next, has until another one's may be, or until none is left
abbrev pub order_left : ℕ → Order → ℕ → ℕ
order_left p (ByTurns turns) most = min most (left_for p turns)
order_left p (Alone q) most = most

abbrev pub stretch : ℕ → Progress → ℕ
stretch p run = order_left p run.order (run.turns - run.taken)

-- the run after so many turns of it
abbrev pub order_took : ℕ → ℕ → Order → Order
order_took n p (ByTurns turns) = ByTurns (after_turns_of n p turns)
order_took n p (Alone q) = Alone q

abbrev pub last_took : ℕ → ℕ → Option ℕ → Option ℕ
last_took zero p last = last
last_took (suc n) p last = Some p

abbrev pub run_took : ℕ → ℕ → Progress → Progress
run_took n p run = record { order = order_took n p run.order; calls = run.calls; turns = run.turns; taken = run.taken + n; last = last_took n p run.last }

-- How a machine takes turns: whose is next, the breakpoint that the last one led to, what comes of one, and the machine after it.
pub record TurnRules (M : Type 0) : Type 0 where
  pub next : M → Order → Option ℕ
  pub broken : M → Progress → Option Stop
  pub turn : M → ℕ → Turn
  pub after : M → ℕ → M

-- What turns come to: the events in order, each the process and what came of its turn; why they ended, how many
-- were taken, and the machine after them.
pub record Ran (M : Type 0) : Type 0 where
  pub events : List (ℕ × Turn)
  pub stop : Stop
  pub taken : ℕ
  pub after : M

abbrev pub stopped : {M : Type 0} → Stop → M → Progress → Ran M
stopped stop state run = record { events = []; stop = stop; taken = run.taken; after = state }

-- one event, and then the others
abbrev pub first_event : {M : Type 0} → ℕ → Turn → Ran M → Ran M
first_event p turn others = record { events = (p, turn) ∷ others.events; stop = others.stop; taken = others.taken; after = others.after }

-- One that is answered Full ends the turns, in the state that it left: it isn't counted.
abbrev pub event_then : {M : Type 0} → ℕ → Turn → Ran M → M → Progress → Ran M
event_then p turn others left run = first_event p turn (if is_full_turn turn then stopped Full left run else others)

abbrev pub turns_by : {M : Type 0} → (ℕ → Turn) → (ℕ → M) → Option ℕ → (ℕ → Ran M) → M → Progress → Ran M
turns_by came after None others state run = stopped (rest_of run.order) state run
turns_by came after (Some p) others state run = event_then p (came p) (others p) (after p) run

-- none where the last turn reached a breakpoint
abbrev pub unless_broken : {M : Type 0} → Option Stop → Ran M → M → Progress → Ran M
unless_broken None others state run = others
unless_broken (Some stop) others state run = stopped stop state run

-- up to so many more turns
abbrev pub ran_by : {M : Type 0} → TurnRules M → ℕ → M → Progress → Ran M
ran_by rules zero state run =
    unless_broken (rules.broken state run) (stopped (option_map_or (λ p. Limit) (rules.next state run.order) (rest_of run.order)) state run) state run
ran_by rules (suc left) state run =
    unless_broken (rules.broken state run)
    (turns_by (rules.turn state) (rules.after state) (rules.next state run.order) (λ p. ran_by rules left (rules.after state p) (run_after p run)) state run) state run

-- those of the copying machine, of which a turn may be full
abbrev pub wholes_turns : Bool → Breaks → TurnRules Wholes
wholes_turns calls breaks = record { next = next_of; broken = last_break breaks; turn = taken_turn calls; after = after_taken calls }

abbrev pub ran : Breaks → ℕ → Wholes → Progress → Ran Wholes
ran breaks left state run = ran_by (wholes_turns run.calls breaks) left state run

-- all that are left of a run
abbrev pub ran_from : Breaks → Wholes → Progress → Ran Wholes
ran_from breaks state run = ran breaks (run.turns - run.taken) state run

-- the lines of turns, in their order, and the last one
abbrev pub ran_text : {M : Type 0} → Ran M → List ℕ
ran_text r = flat_map (λ event. turn_text event.0 event.1) r.events ++ stop_text r.taken r.stop

-- turns that are begun
abbrev pub begun_by : Order → Bool → ℕ → Progress
begun_by order calls turns = record { order = order; calls = calls; turns = turns; taken = 0; last = None }

abbrev pub by_turns : ℕ → Bool → ℕ → Progress
by_turns quantum calls turns = begun_by (ByTurns (record { quantum = quantum; last = None })) calls turns

abbrev pub begun_alone : ℕ → Bool → ℕ → Progress
begun_alone p calls turns = begun_by (Alone p) calls turns

-- A run, and why it ended, where that was found.
pub record InRun : Type 0 where
  pub run : Progress
  pub stop : Option Stop

-- an ending that was found is the one that holds
abbrev pub IsFound : Breaks → Wholes → InRun → Type 0
IsFound breaks state running = (stop : Stop) → running.stop ≡ Some stop → ending breaks state running.run ≡ Some stop

-- A turn of a run, where none of the endings holds: whose it is and what came of it, the copying machine after it, and
-- the run, with the ending that holds then.
abbrev pub run_found : Breaks → Wholes → Progress → InRun
run_found breaks state run = record { run = run; stop = ending breaks state run }

-- `turn`: where an ending was found before, or one holds, there is no turn, and that ending is found; else the next
-- process takes one.
abbrev pub found_before : Breaks → Wholes → InRun → Option Stop
found_before breaks state running = option_or running.stop (ending breaks state running.run)

-- the run after a turn of p: one that is answered Full isn't counted, and ends it
abbrev pub run_counted : Turn → ℕ → Progress → InRun
run_counted turn p run = if is_full_turn turn then record { run = run; stop = Some Full } else record { run = run_after p run; stop = None }

-- with the ending that holds in the state that the turn left
abbrev pub run_altered : Breaks → Turn → ℕ → Wholes → Progress → InRun
run_altered breaks turn p state run =
    record { run = (run_counted turn p run).run; stop = found_before breaks state (run_counted turn p run) }

abbrev pub TakesTurn : Breaks → Wholes → InRun → Option (ℕ × Turn) → Wholes → InRun → Type 0
TakesTurn breaks old running None new after =
    (new ≡ old) × ((stop : Stop) × (found_before breaks old running ≡ Some stop) × (after ≡ record { run = running.run; stop = Some stop }))
TakesTurn breaks old running (Some (p, turn)) new after =
    (found_before breaks old running ≡ None) × (next_of old running.run.order ≡ Some p) × (turn ≡ taken_turn running.run.calls old p)
    × AreLike new (after_taken running.run.calls old p) × (after ≡ run_altered breaks turn p new running.run)

-- The rest of a turn of a process whose execution came to this: in each state in which it did, what the turn comes to,
-- and the machine after it.
abbrev pub FinishesTurn : Bool → ℕ → Outcome → Wholes → Turn → Wholes → Type 0
FinishesTurn calls p outcome executed turn new =
    (old : Wholes) → is_running old p ≡ true → came_to old p ≡ outcome → AreLike executed (after_execution old p)
    → (turn ≡ taken_turn calls old p) × AreLike new (after_taken calls old p)

-- The end of a stretch of turns, of which the last execution was no step: the turn that it came to is counted, and has its line.
pub record EndsStretch (p : ℕ) (outcome : Outcome) (executed : Wholes) (old : InRun) (new : Wholes) (after : InRun) (spoke : Bool)
    (line : List ℕ) : Type 0 where
  pub turn : Turn
  pub finished : FinishesTurn old.run.calls p outcome executed turn new
  pub counted : after ≡ run_counted turn p old.run
  pub has : spoke ≡ has_turn_line turn
  pub text : line ≡ turn_text p turn

-- What is left of a run in progress: nothing, where an ending was found.
abbrev pub left_by : Option Stop → Breaks → Wholes → Progress → Ran Wholes
left_by None breaks state run = ran_from breaks state run
left_by (Some stop) breaks state run = stopped stop state run

abbrev pub left_of : Breaks → Wholes → InRun → Ran Wholes
left_of breaks state running = left_by running.stop breaks state running.run

-- how often a line may still come
abbrev pub lines_left : InRun → ℕ
lines_left running = option_map_or (λ stop. 0) running.stop (running.run.turns - running.run.taken + 1)

-- turns say this first, and then what others say; both leave the same
abbrev pub SaysThen : List ℕ → Ran Wholes → Ran Wholes → Type 0
SaysThen line all others = (ran_text all ≡ line ++ ran_text others) × AreLike all.after others.after

-- Turns up to one that has a line: its line comes first, and then what the others come to. Where none has one, no line comes
-- first, and the run has ended.
abbrev pub Speaks : Breaks → Wholes → InRun → List ℕ → Wholes → InRun → Type 0
Speaks breaks old running line new after = SaysThen line (left_of breaks old running) (left_of breaks new after)

-- a line of one turn
abbrev pub IsTurnLine : List ℕ → Type 0
IsTurnLine line = (p : ℕ) × (turn : Turn) × (has_turn_line turn ≡ true) × (line ≡ turn_text p turn)

abbrev pub EndsRun : Breaks → Wholes → InRun → Wholes → InRun → Type 0
EndsRun breaks old running new after =
    (stop : Stop) × (after.stop ≡ Some stop) × SaysThen [] (left_of breaks old running) (stopped stop new after.run)

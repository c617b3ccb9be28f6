use Rattle.std.specs.Prelude.{◌≡◌, ℕ, zero, suc, ◌+◌, ◌-◌, ◌*◌, ◌/◌, ◌==◌, min, nat_lt, ◌||◌, Bool, true, false, List, [], ◌++◌, length, flat_map, Option, Some, None, Result, Ok, Err, if◌then◌else◌}
use Rattle.std.specs.FinMap.{entries, get, len}
use Rattle.sizes.specs.declared.TheConstants.{MOST_FILE_BYTES}
use Rattle.ovl_io.specs.Memory.{Memory, bytes_at, first_denied}
use Rattle.rv_mul.specs.Tables.{table_of}
use Rattle.rv_execute.specs.Calls.{word_at}
use Rattle.rv_execute.specs.Registers.{Registers, register}
use Rattle.machine_core.specs.Process.{Process, is_speculating, runs}
use Rattle.script_text.specs.declared.command.Command.{Command}
use Rattle.script_text.specs.declared.command.Command.TheVariants.{Exec, Load, Asm, Run, Step}
use Rattle.script_text.specs.declared.command.Command.TheVariants as command
use Rattle.report_text.specs.declared.answer.Answer.{Answer}
use Rattle.report_text.specs.declared.answer.Answer.TheVariants.{Loaded}
use Rattle.report_text.specs.declared.answer.Code.{Code}
use Rattle.report_text.specs.declared.answer.Code.TheVariants.{NoProcess, Ended, Unmapped}
use Rattle.report_text.specs.declared.TheConstants.{ROW_BYTES}
use Rattle.report_text.specs.Answers.{answer_text}
use Rattle.report_text.specs.Lines.{checkpoint_line, disasm_line_by, dump_line, exported_text, list_line, process_line, register_line, regs_line, stats_line}
use Rattle.command_core.specs.declared.modes.Modes.{Modes}
use Rattle.command_core.specs.declared.TheConstants.{WORD_BYTES}
use Rattle.command_core.specs.declared.session.Counts.{Counts}
use Rattle.script_text.specs.Given.{asks}
use Rattle.command_core.specs.State.{Checkpoint, Registry, State, registry_of, with_wholes}
use Rattle.command_core.specs.Sessions.{InSession}
use Rattle.command_core.specs.Rows.{Changed, Row, change_by, may_want_memory, refuses}
use Rattle.command_core.specs.Changes.{LedgerTold, TellsCounts, TellsDedup, TellsDedupAll, asm_row, change_row, load_row}
use Rattle.command_core.specs.Images.{exported_by, import_row}
use Rattle.command_core.specs.Deduplication.{dedup_all_row, dedup_row}
use Rattle.command_core.specs.Looks.{counts_of}
use Rattle.process_runs.specs.Turns.{InRun, Progress, begun_alone, by_turns, left_of, ran_from, ran_text}

-- What a command asks of the shelf, by the file that it names: nothing; or the file is there, isn't there, or
-- has more bytes than a file may have.
pub data FileAsked : Type 0 where
  AsksNothing : FileAsked
  HasFile : List ℕ → FileAsked
  IsMissing : FileAsked
  IsTooLong : FileAsked

abbrev pub asked_by : Option (List ℕ) → FileAsked
asked_by None = IsMissing
asked_by (Some file) = if nat_lt MOST_FILE_BYTES (length file) then IsTooLong else HasFile file

abbrev pub asked_for : Option (List ℕ) → (List ℕ → Option (List ℕ)) → FileAsked
asked_for None files = AsksNothing
asked_for (Some name) files = asked_by (files name)

abbrev pub file_asked : (List ℕ → Option (List ℕ)) → Command → FileAsked
file_asked files command = asked_for (asks command) files

-- whether a command has what it asks for, and the file that it then has; none where it asks for none
abbrev pub has_all : FileAsked → Bool
has_all IsMissing = false
has_all IsTooLong = false
has_all AsksNothing = true
has_all (HasFile file) = true

abbrev pub file_in : FileAsked → List ℕ
file_in (HasFile file) = file
file_in AsksNothing = []
file_in IsMissing = []
file_in IsTooLong = []

-- What a command comes to: its text, the state of a machine after it, and whether it may want memory in place of both.
pub record Performed (S : Type 0) : Type 0 where
  pub text : List ℕ
  pub after : S
  pub wants_memory : Bool

-- By which rules a machine does commands: what is registered in it; what a row comes to, and whether that may want memory; turns; and
-- what only the ledger of the copying machine can tell, of which another machine knows no more than the line: it leaves what is registered.
pub record Rules (S : Type 0) : Type 0 where
  pub registry : S → Registry
  pub change : Row → S → Changed S
  pub wants : Row → S → Bool
  pub turns : Progress → S → Performed S
  pub by_ledger : (State → Performed State) → S → Performed S

-- the line of an answer, and the state
abbrev pub told : {S : Type 0} → Bool → Changed S → Performed S
told wants_memory changed = record { text = answer_text changed.answer; after = changed.after; wants_memory = wants_memory }

-- a text that is printed, where making it may want memory or not, and the state as it is
abbrev pub text_printed : {S : Type 0} → Bool → List ℕ → S → Performed S
text_printed wants_memory text state = record { text = text; after = state; wants_memory = wants_memory }

-- The rules of the copying machine: of a change and of a turn there may not be units enough.

-- turns, with their lines
abbrev pub takes_turns : Progress → State → Performed State
takes_turns run state = record {
  text = ran_text (ran_from state.breakpoints state.wholes run);
  after = with_wholes (ran_from state.breakpoints state.wholes run).after state;
  wants_memory = false;
}

-- those that are left of a run in progress
abbrev pub takes_left : InRun → State → Performed State
takes_left running state = record {
  text = ran_text (left_of state.breakpoints state.wholes running);
  after = with_wholes (left_of state.breakpoints state.wholes running).after state;
  wants_memory = false;
}

-- the line of the counts
abbrev pub counts_text : Counts → List ℕ
counts_text counts = stats_line counts.units counts.limit counts.lines counts.hits counts.misses

unfoldable pub stats_text : State → List ℕ
stats_text state = counts_text (counts_of state.wholes)

abbrev pub stats_done : State → Performed State
stats_done state = text_printed false (stats_text state) state

-- what is told by the ledger: the counts are printed, and a change is done by its row, and wants no memory
abbrev pub shares_done : (State → Row) → State → Performed State
shares_done row state = told false (change_by (row state) state)

abbrev pub ledger_done : LedgerTold → State → Performed State
ledger_done TellsCounts = stats_done
ledger_done (TellsDedup p address q other) = shares_done (dedup_row p address q other)
ledger_done (TellsDedupAll p q) = shares_done (dedup_all_row p q)

abbrev pub rules : Rules State
rules = record { registry = registry_of; change = change_by; wants = may_want_memory; turns = takes_turns; by_ledger = λ done. done }

-- a process that was just loaded is there, and runs
abbrev pub RunsLoaded : Answer → State → Type 0
RunsLoaded (Loaded p pages entry) state = (process : Process) × (get state.wholes.processes p ≡ Some process) × (runs process.state ≡ true)
RunsLoaded other state = Unit {0}

-- the lines of all processes, by number, and of all checkpoints, in the order of making
unfoldable pub process_text : ℕ × Process → List ℕ
process_text entry = process_line entry.0 entry.1.state (is_speculating entry.1) (len entry.1.memory)

unfoldable pub checkpoint_text : Checkpoint → List ℕ
checkpoint_text checkpoint = checkpoint_line checkpoint.name checkpoint.space (len checkpoint.whole.memory)

unfoldable pub list_head : Registry → List ℕ
list_head registry = list_line (length (entries registry.processes)) (length registry.checkpoints)

abbrev pub processes_text : Registry → List ℕ
processes_text registry = flat_map process_text (entries registry.processes)

abbrev pub checkpoints_text : Registry → List ℕ
checkpoints_text registry = flat_map checkpoint_text registry.checkpoints

abbrev pub list_text : Registry → List ℕ
list_text registry = list_head registry ++ (processes_text registry ++ checkpoints_text registry)

-- the lines of a process's registers: its state, the pc, and x1 to x31
unfoldable pub regs_head : ℕ → Process → List ℕ
regs_head p process = regs_line p process.state (is_speculating process)

abbrev pub register_value : Registers → ℕ → ℕ
register_value registers i = if i == 0 then registers.pc else register registers i

unfoldable pub registers_from : Registers → ℕ → ℕ → List ℕ
registers_from registers i zero = []
registers_from registers i (suc n) = register_line i (register_value registers i) ++ registers_from registers (i + 1) n

abbrev pub registers_text : Registers → List ℕ
registers_text registers = registers_from registers 0 32

abbrev pub regs_text : ℕ → Process → List ℕ
regs_text p process = regs_head p process ++ registers_text process.registers

-- the registers of a process, which has to be there
abbrev pub regs_of : {S : Type 0} → ℕ → Option Process → S → Performed S
regs_of p None state = told false (refuses NoProcess state)
regs_of p (Some process) state = text_printed false (regs_text p process) state

-- the lines of bytes of a memory from an address on, up to 16 a line; and those of words, as instructions, with extension M
-- or without
unfoldable pub dump_from : ℕ → Memory → ℕ → ℕ → List ℕ
dump_from zero memory address count = []
dump_from (suc rows) memory address count =
    dump_line address (bytes_at memory address (min ROW_BYTES count)) ++ dump_from rows memory (address + ROW_BYTES) (count - ROW_BYTES)

abbrev pub dump_text : Memory → ℕ → ℕ → List ℕ
dump_text memory address count = dump_from ((count + (ROW_BYTES - 1)) / ROW_BYTES) memory address count

abbrev pub disasm_row : Bool → Memory → ℕ → List ℕ
disasm_row extension memory address = disasm_line_by (table_of extension).has address (word_at memory address)

unfoldable pub disasm_text : Bool → Memory → ℕ → ℕ → List ℕ
disasm_text extension memory address zero = []
disasm_text extension memory address (suc words) =
    disasm_row extension memory address ++ disasm_text extension memory (address + WORD_BYTES) words

-- what is printed of n bytes of a process from an address on: it has to be there, and so does each byte, whatever the permissions
abbrev pub prints_read : {S : Type 0} → (Memory → List ℕ) → Memory → Option ℕ → S → Performed S
prints_read text memory None state = text_printed false (text memory) state
prints_read text memory (Some at) state = told false (refuses (Unmapped at) state)

abbrev pub prints_of : {S : Type 0} → ℕ → ℕ → (Memory → List ℕ) → Option Process → S → Performed S
prints_of address n text None state = told false (refuses NoProcess state)
prints_of address n text (Some process) state = prints_read text process.memory (first_denied process.memory 0 address n) state

-- the image of a checkpoint over another one: a line that tells how long it is, and its lines
abbrev pub prints_image : {S : Type 0} → List ℕ → List ℕ → Result (List ℕ) Code → S → Performed S
prints_image name base (Ok image) state = text_printed true (exported_text name base image) state
prints_image name base (Err code) state = told false (refuses code state)

-- What the commands come to by the rules of a machine.
module _ {S : Type 0} (by : Rules S) where
  -- a change, by its row
  abbrev pub row_told : Row → S → Performed S
  row_told row state = told (by.wants row state) (by.change row state)

  abbrev pub load_told : List ℕ → S → Performed S
  load_told file state = row_told (load_row file (by.registry state)) state

  abbrev pub asm_told : List ℕ → S → Performed S
  asm_told text state = row_told (asm_row text (by.registry state)) state

  abbrev pub import_told : List ℕ → List ℕ → List ℕ → S → Performed S
  import_told name base file state = row_told (import_row name base file (by.registry state)) state

  abbrev pub change_told : List ℕ → Command → S → Performed S
  change_told file command state = row_told (change_row file command (by.registry state)) state

  -- what follows the load of an `exec`: the turns of its process, where it made one
  abbrev pub exec_turns : Bool → ℕ → Answer → S → Performed S
  exec_turns calls turns (Loaded p pages entry) = by.turns (begun_alone p calls turns)
  exec_turns calls turns other = text_printed false []

  abbrev pub exec_done : Bool → List ℕ → ℕ → S → Performed S
  exec_done calls file turns state =
      let loaded = load_told file state in
      let ran = exec_turns calls turns (by.change (load_row file (by.registry state)) state).answer loaded.after in
      record { text = loaded.text ++ ran.text; after = ran.after; wants_memory = loaded.wants_memory || ran.wants_memory }

  -- the line of a load's answer, and the turns that follow it
  abbrev pub tells_exec : Bool → ℕ → Answer → S → Performed S
  tells_exec calls turns answer state = record {
    text = answer_text answer ++ (exec_turns calls turns answer state).text;
    after = (exec_turns calls turns answer state).after;
    wants_memory = true;
  }

  -- the turns of one process, which has to be there and to run
  abbrev pub steps : Bool → ℕ → ℕ → Option Process → S → Performed S
  steps calls p turns None state = told false (refuses NoProcess state)
  steps calls p turns (Some process) state = if runs process.state then by.turns (begun_alone p calls turns) state else told false (refuses Ended state)

  abbrev pub process_in : ℕ → S → Option Process
  process_in p state = get (by.registry state).processes p

  abbrev pub step_done : Bool → ℕ → ℕ → S → Performed S
  step_done calls p turns state = steps calls p turns (process_in p state) state

  -- the turns of all that run, by round robin
  abbrev pub run_done : ℕ → Bool → ℕ → S → Performed S
  run_done quantum calls turns state = by.turns (by_turns quantum calls turns) state

  -- what is printed
  abbrev pub list_done : S → Performed S
  list_done state = text_printed false (list_text (by.registry state)) state

  abbrev pub regs_done : ℕ → S → Performed S
  regs_done p state = regs_of p (process_in p state) state

  abbrev pub dump_done : ℕ → ℕ → ℕ → S → Performed S
  dump_done p address count state = prints_of address count (λ memory. dump_text memory address count) (process_in p state) state

  abbrev pub disasm_done : Bool → ℕ → ℕ → ℕ → S → Performed S
  disasm_done extension p address words state =
      prints_of address (WORD_BYTES * words) (λ memory. disasm_text extension memory address words) (process_in p state) state

  abbrev pub export_done : List ℕ → List ℕ → S → Performed S
  export_done name base state = prints_image name base (exported_by name base (by.registry state).checkpoints) state

  -- What each command comes to, with the file that it has, by what is fixed for the run: turns and printed lines, and the
  -- changes, each by its row.
  abbrev pub performed_by : Modes → List ℕ → Command → S → Performed S
  performed_by modes file (Exec name turns) = exec_done modes.calls file turns
  performed_by modes file (Run turns) = run_done modes.quantum modes.calls turns
  performed_by modes file (Step p turns) = step_done modes.calls p turns
  performed_by modes file command.List = list_done
  performed_by modes file command.Stats = by.by_ledger (ledger_done TellsCounts)
  performed_by modes file (command.Dedup p address q other) = by.by_ledger (ledger_done (TellsDedup p address q other))
  performed_by modes file (command.DedupAll p q) = by.by_ledger (ledger_done (TellsDedupAll p q))
  performed_by modes file (command.Regs p) = regs_done p
  performed_by modes file (command.Dump p address count) = dump_done p address count
  performed_by modes file (command.Disasm p address words) = disasm_done modes.extension p address words
  performed_by modes file (command.Export name base) = export_done name base
  performed_by modes file (Load name) = change_told file (Load name)
  performed_by modes file (Asm name) = change_told file (Asm name)
  performed_by modes file (command.Fork p) = change_told file (command.Fork p)
  performed_by modes file (command.Checkpoint p name) = change_told file (command.Checkpoint p name)
  performed_by modes file (command.Restore p name) = change_told file (command.Restore p name)
  performed_by modes file (command.Forget name) = change_told file (command.Forget name)
  performed_by modes file (command.Import name base from) = change_told file (command.Import name base from)
  performed_by modes file (command.Speculate p) = change_told file (command.Speculate p)
  performed_by modes file (command.Commit p) = change_told file (command.Commit p)
  performed_by modes file (command.Discard p) = change_told file (command.Discard p)
  performed_by modes file (command.Promote p address) = change_told file (command.Promote p address)
  performed_by modes file (command.PromoteAll p) = change_told file (command.PromoteAll p)
  performed_by modes file command.Compact = change_told file command.Compact
  performed_by modes file (command.Map p address n perms) = change_told file (command.Map p address n perms)
  performed_by modes file (command.Unmap p address n) = change_told file (command.Unmap p address n)
  performed_by modes file (command.Drop p) = change_told file (command.Drop p)
  performed_by modes file (command.Poke p address bytes) = change_told file (command.Poke p address bytes)
  performed_by modes file (command.Set p register value) = change_told file (command.Set p register value)
  performed_by modes file (command.Break p address) = change_told file (command.Break p address)
  performed_by modes file (command.Unbreak p address) = change_told file (command.Unbreak p address)

-- by those of the copying machine; and the same in a session
abbrev pub performed : Modes → List ℕ → Command → State → Performed State
performed modes file command = performed_by rules modes file command

abbrev pub performed_in : InSession → List ℕ → Command → Performed State
performed_in session file command = performed session.modes file command session.state

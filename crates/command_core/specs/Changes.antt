use Rattle.std.specs.Prelude.{◌≡◌, ℕ, Option, true, false, List, [], ◌∷◌, Some, None, Result, Ok, Err}
use Rattle.std.specs.Option.{option_map, option_map_or}
use Rattle.std.specs.FinMap.{get, remove}
use Rattle.elf_loader.specs.Accepted.{file_refusal}
use Rattle.elf_loader.specs.Fields.{entry_address}
use Rattle.rv_asm.specs.declared.error.AsmError.{AsmError}
use Rattle.rv_asm.specs.declared.error.AsmError.TheVariants as asm
use Rattle.rv_asm.specs.Assembly.{assembled, IsFileOf}
use Rattle.ledger.specs.Events as event
use Rattle.machine_core.specs.Process.{Process}
use Rattle.machine_core.specs.Load.{load_pages, loaded_process, page_count}
use Rattle.overlay_memory.specs.declared.error.SpaceError.{SpaceError}
use Rattle.overlay_memory.specs.declared.error.SpaceError.TheVariants as error
use Rattle.report_text.specs.declared.answer.Answer.{Answer}
use Rattle.report_text.specs.declared.answer.Answer.TheVariants.{Loaded, Refused, Full, Memory}
use Rattle.report_text.specs.declared.answer.Code.{Code}
use Rattle.report_text.specs.declared.answer.Code.TheVariants.{NoProcess, Elf, AsmLine, AsmTwice, AsmNoLabel, AsmOutOfReach, AsmEmpty, AsmTooMany}
use Rattle.report_text.specs.Answers.{HasAnswerLine}
use Rattle.script_text.specs.declared.command.Command.{Command}
use Rattle.script_text.specs.declared.command.Command.TheVariants as command
use Rattle.command_core.specs.declared.process_changes.ProcessChange.TheVariants.{Speculate, Commit, Discard, Promote, PromoteAll, Map, Unmap, Set}
use Rattle.command_core.specs.State.{Registry, State, next_number}
use Rattle.command_core.specs.Rows.{Row, TakesFirst, plain_row, refused_row, registered, still_row}
use Rattle.command_core.specs.Refusals.{by_numbers_used, number_in}
use Rattle.command_core.specs.Copies.{draws, fork_row}
use Rattle.command_core.specs.ProcessChanges.{process_row}
use Rattle.command_core.specs.Debugging.{break_row, poke_row, unbreak_row}
use Rattle.command_core.specs.Checkpoints.{checkpoint_row, forget_row, on_checkpoint, restore_row}
use Rattle.command_core.specs.Images.{import_row}
use Rattle.command_core.specs.Deduplication.{dedup_all_row, dedup_row}

-- The changes that commands make.

-- a change of a process: refused where there is none
abbrev pub on_process : ℕ → (Process → Registry → Row) → Registry → Row
on_process p row registry = option_map_or (λ process. row process registry) (get registry.processes p) (refused_row NoProcess registry)

-- `load`: a process of a file, under the next number
abbrev pub load_under : Option ℕ → List ℕ → Registry → Row
load_under next file registry =
    record (plain_row true None (option_map Elf (file_refusal file) ∷ by_numbers_used next ∷ []) (event.Load (number_in next) (load_pages file))
    (draws (number_in next) (loaded_process file) registry)) { memory = TakesFirst; answer = Loaded (number_in next) (page_count file) (entry_address file) }

abbrev pub load_row : List ℕ → Registry → Row
load_row file registry = load_under (next_number registry) file registry

-- the code of what an assembler's text is refused for; want of memory is none of its refusals
abbrev pub asm_code : AsmError → Option Code
asm_code (asm.BadLine k) = Some (AsmLine k)
asm_code (asm.Twice k) = Some (AsmTwice k)
asm_code (asm.NoLabel k) = Some (AsmNoLabel k)
asm_code (asm.OutOfReach k) = Some (AsmOutOfReach k)
asm_code asm.Empty = Some AsmEmpty
asm_code asm.TooMany = Some AsmTooMany
asm_code asm.Memory = None

abbrev pub asm_refused : AsmError → Registry → Row
asm_refused e registry = record (plain_row false None (asm_code e ∷ []) event.Other registry) { memory = TakesFirst }

-- `asm`: the refusal of a text; or its file is loaded
abbrev pub asm_by : Result (List ℕ) AsmError → Registry → Row
asm_by (Ok file) = load_row file
asm_by (Err e) = asm_refused e

abbrev pub asm_row : List ℕ → Registry → Row
asm_row text = asm_by (assembled text)

-- `drop`: the process goes, with its pages, their translations and its breakpoints
abbrev pub drop_row : ℕ → Process → Registry → Row
drop_row p process registry =
    plain_row false (Some p) [] (event.Drop p)
    (record registry { processes = remove registry.processes p; breakpoints = remove registry.breakpoints p })

-- The changes that go by what is registered, a row each, with the file that a command asks for. Compaction moves segments, which no state
-- shows. Commands that take turns or print, and those that are told by the ledger, have no row of their own here: as changes they do nothing.
abbrev pub change_row : List ℕ → Command → Registry → Row
change_row file (command.Load name) = load_row file
change_row file (command.Asm name) = asm_row file
change_row file (command.Fork p) = on_process p (fork_row p)
change_row file (command.Checkpoint p name) = on_process p (checkpoint_row p name)
change_row file (command.Restore p name) = on_process p (restore_row p name)
change_row file (command.Forget name) = on_checkpoint name (forget_row name)
change_row file (command.Import name base from) = import_row name base file
change_row file (command.Speculate p) = on_process p (process_row p Speculate)
change_row file (command.Commit p) = on_process p (process_row p Commit)
change_row file (command.Discard p) = on_process p (process_row p Discard)
change_row file (command.Promote p address) = on_process p (process_row p (Promote address))
change_row file (command.PromoteAll p) = on_process p (process_row p PromoteAll)
change_row file command.Compact = still_row
change_row file (command.Map p address n perms) = on_process p (process_row p (Map address n perms))
change_row file (command.Unmap p address n) = on_process p (process_row p (Unmap address n))
change_row file (command.Drop p) = on_process p (drop_row p)
change_row file (command.Poke p address bytes) = on_process p (poke_row p address bytes)
change_row file (command.Set p register value) = on_process p (process_row p (Set register value))
change_row file (command.Break p address) = on_process p (break_row p address)
change_row file (command.Unbreak p address) = on_process p (unbreak_row p address)
change_row file (command.Exec name turns) = still_row
change_row file (command.Export name base) = still_row
change_row file (command.Run turns) = still_row
change_row file (command.Step p turns) = still_row
change_row file command.List = still_row
change_row file command.Stats = still_row
change_row file (command.Dedup p address q other) = still_row
change_row file (command.DedupAll p q) = still_row
change_row file (command.Regs p) = still_row
change_row file (command.Dump p address count) = still_row
change_row file (command.Disasm p address words) = still_row

-- What only the ledger can tell: the counts, and the changes whose rows look at it.
pub data LedgerTold : Type 0 where
  TellsCounts : LedgerTold
  TellsDedup : (p address q other : ℕ) → LedgerTold
  TellsDedupAll : (p q : ℕ) → LedgerTold

abbrev pub told_by_ledger : Command → Option LedgerTold
told_by_ledger command.Stats = Some TellsCounts
told_by_ledger (command.Dedup p address q other) = Some (TellsDedup p address q other)
told_by_ledger (command.DedupAll p q) = Some (TellsDedupAll p q)
told_by_ledger (command.Load name) = None
told_by_ledger (command.Asm name) = None
told_by_ledger (command.Exec name turns) = None
told_by_ledger (command.Run turns) = None
told_by_ledger (command.Step p turns) = None
told_by_ledger (command.Fork p) = None
told_by_ledger (command.Checkpoint p name) = None
told_by_ledger (command.Restore p name) = None
told_by_ledger (command.Forget name) = None
told_by_ledger (command.Export name base) = None
told_by_ledger (command.Import name base from) = None
told_by_ledger (command.Speculate p) = None
told_by_ledger (command.Commit p) = None
told_by_ledger (command.Discard p) = None
told_by_ledger (command.Promote p address) = None
told_by_ledger (command.PromoteAll p) = None
told_by_ledger command.Compact = None
told_by_ledger (command.Map p address n perms) = None
told_by_ledger (command.Unmap p address n) = None
told_by_ledger (command.Drop p) = None
told_by_ledger (command.Poke p address bytes) = None
told_by_ledger (command.Set p register value) = None
told_by_ledger (command.Break p address) = None
told_by_ledger (command.Unbreak p address) = None
told_by_ledger command.List = None
told_by_ledger (command.Regs p) = None
told_by_ledger (command.Dump p address count) = None
told_by_ledger (command.Disasm p address words) = None

-- its row, where the counts change nothing
abbrev pub ledger_row : LedgerTold → State → Row
ledger_row TellsCounts = registered still_row
ledger_row (TellsDedup p address q other) = dedup_row p address q other
ledger_row (TellsDedupAll p q) = dedup_all_row p q

-- the row of each change, in a state
abbrev pub row_in : List ℕ → Command → State → Row
row_in file command = option_map_or (λ tells. ledger_row tells) (told_by_ledger command) (registered (change_row file command))

-- what is answered where a machine doesn't load a file, or doesn't copy a space
abbrev pub answer_of : SpaceError → Answer
answer_of (error.Full units limit) = Full units limit
answer_of error.Memory = Memory

-- what is answered where a text isn't assembled
abbrev pub asm_answer : AsmError → Answer
asm_answer (asm.BadLine k) = Refused (AsmLine k)
asm_answer (asm.Twice k) = Refused (AsmTwice k)
asm_answer (asm.NoLabel k) = Refused (AsmNoLabel k)
asm_answer (asm.OutOfReach k) = Refused (AsmOutOfReach k)
asm_answer asm.Empty = Refused AsmEmpty
asm_answer asm.TooMany = Refused AsmTooMany
asm_answer asm.Memory = Memory

-- what is known of the file of a text whose process was loaded: it is the text's, and the entry is that of its words
pub record IsLoadedText (text : List ℕ) (entry : ℕ) : Type 0 where
  pub file : List ℕ
  pub of_text : assembled text ≡ Ok file
  pub is_file : IsFileOf text file
  pub entry_is : entry ≡ 0x10078

-- the file of a text is never refused
abbrev pub IsNoFileCode : Code → Type 0
IsNoFileCode (Elf e) = ⊥
IsNoFileCode code = Unit {0}

abbrev pub TakesText : List ℕ → Answer → Type 0
TakesText text (Loaded p pages entry) = IsLoadedText text entry
TakesText text (Refused code) = IsNoFileCode code
TakesText text answer = Unit {0}

-- an answer that has a line, or want of memory
abbrev pub CanBeTold : Answer → Type 0
CanBeTold Memory = Unit {0}
CanBeTold answer = HasAnswerLine answer

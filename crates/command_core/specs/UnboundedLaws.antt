use Rattle.std.specs.Prelude.{◌≡◌, ℕ, zero, suc, ◌+◌, ◌-◌, ◌*◌, Bool, true, false, cond, List, [], ◌∷◌, ◌++◌, flat_map, Option, Some, None, Result, Ok, Err, refl}
use Rattle.std.proofs.Common.{sym, ap, subst, ◌∙◌, append_assoc}
use Rattle.std.specs.Option.{is_some, option_map_or}
use Rattle.std.specs.FinMap.{get}
use Rattle.ovl_io.specs.Memory.{Memory as Contents, first_denied}
use Rattle.rv_execute.specs.Registers.{Registers}
use Rattle.rv_mul.specs.Tables.{table_of}
use Rattle.machine_core.specs.Process.{Process, is_speculating, runs}
use Rattle.machine_core.specs.Machine.{unit_limit}
use Rattle.report_text.specs.declared.answer.Answer.{Answer}
use Rattle.report_text.specs.declared.answer.Answer.TheVariants.{Done, Loaded, Forked, Saved, Imported, Shared, Refused, Full, Memory}
use Rattle.report_text.specs.declared.answer.Code.{Code}
use Rattle.report_text.specs.declared.answer.Code.TheVariants.{Ended, NoProcess, Unmapped}
use Rattle.report_text.specs.Answers.{answer_text, stop_text}
use Rattle.report_text.specs.Lines.{exported_text}
use Rattle.report_text.specs.FullLines.{AreWholeLines, answer_lines, answer_shows, behind_lines, ends_checkpoint, ends_disasm_by, ends_dump, ends_list, ends_process, ends_register, ends_regs, ends_stats, exported_lines, has_full_line, lines_both, no_lines, stop_lines, turn_lines}
use Rattle.script_text.specs.declared.command.Command.{Command}
use Rattle.command_core.specs.declared.modes.Modes.{Modes}
use Rattle.command_core.specs.declared.TheConstants.{WORD_BYTES}
use Rattle.command_core.specs.State.{Registry, State, registry_of}
use Rattle.command_core.specs.Rows.{Changed, MemoryTaken, Row, TakesFirst, TakesLast, TakesNone, accepts, change_by, event_needs, falls_short, first_refusal, row_is_full as is_row_full, may_want_memory, refuses, wants_by}
use Rattle.command_core.specs.Changes.{LedgerTold, TellsCounts, TellsDedup, TellsDedupAll, change_row, load_row, told_by_ledger}
use Rattle.process_runs.specs.Turns.{Progress, Ran, begun_alone, by_turns, ran_from, ran_text}
use Rattle.process_runs.specs.UnboundedLaws.{same_ran, same_text}
use Rattle.command_core.specs.Commands.{Performed, change_told, checkpoint_text, checkpoints_text, disasm_text, dump_from, dump_text, exec_done, exec_turns, ledger_done, list_head, list_text, performed, performed_by, text_printed, prints_image, prints_of, prints_read, process_text, processes_text, registers_from, regs_head, regs_of, regs_text, row_told, rules, stats_text, steps, takes_turns, told}
use Rattle.command_core.specs.Images.{exported_by}
use Rattle.command_core.specs.Deduplication.{dedup_all_row, dedup_row}
use Rattle.command_core.specs.CommandCases.{GoesBy, ByExec, ByRun, ByStep, ByList, ByRegs, ByDump, ByDisasm, ByExport, ByLedger, ByChange, goes_by}
use Rattle.command_core.specs.Unbounded.{Unbounded, change_unbounded, does_row, next_told, takes_unbounded, unbounded, wants_unbounded}

-- As long as no line says `full`, the copying machine says and does what the unbounded one does.

-- What a command comes to.

-- the unbounded machine that a state stands for, which has these lines of counts to print
abbrev pub unbounded_of : List (List ℕ) → State → Unbounded
unbounded_of counts state = record { registry = registry_of state; extension = state.wholes.extension; told = counts }

pub record PerformedSame (counts : List (List ℕ)) (x : Performed State) (y : Performed Unbounded) : Type 0 where
  pub text : x.text ≡ y.text
  pub after : unbounded_of counts x.after ≡ y.after
  pub wants : x.wants_memory ≡ y.wants_memory

abbrev ShowsNoFull : Performed State → List ℕ → Type 0
ShowsNoFull x behind = has_full_line (x.text ++ behind) ≡ false

not_wanted : (memory : MemoryTaken) (full : Bool) → wants_by memory true full ≡ wants_by memory true false
not_wanted TakesNone full = refl
not_wanted TakesLast full = refl
not_wanted TakesFirst full = refl

-- A change, where it is known whether it is refused, and whether there aren't units enough.
abbrev given_by : Row → State → Option Code → Bool → Changed State
given_by row state refusal full = option_map_or (λ code. refuses code state) refusal (cond full (falls_short row state) (accepts row state))

abbrev unbounded_by : Row → Unbounded → Option Code → Changed Unbounded
unbounded_by row state refusal = option_map_or (λ code. refuses code state) refusal (does_row row state)

record ChangedSame (counts : List (List ℕ)) (c : Changed State) (d : Changed Unbounded) : Type 0 where
  answer_is : c.answer ≡ d.answer
  left : unbounded_of counts c.after ≡ d.after

module _ (counts : List (List ℕ)) (behind : List ℕ) where
  changed_by : (row : Row) (state : State) (refusal : Option Code) (full : Bool)
      → has_full_line (answer_text (given_by row state refusal full).answer ++ behind) ≡ false
      → ChangedSame counts (given_by row state refusal full) (unbounded_by row (unbounded_of counts state) refusal)
      × (wants_by row.memory (is_some refusal) full ≡ wants_by row.memory (is_some refusal) false)
  changed_by row state (Some code) full none = (record { answer_is = refl; left = refl }, not_wanted row.memory full)
  changed_by row state None false none = (record { answer_is = refl; left = refl }, refl)
  changed_by row state None true none =
      let shown = answer_shows (event_needs row.event state.wholes) (unit_limit state.wholes.frames) behind in
      let both : true ≡ false = sym shown ∙ none in
      cc

  changed_same : (row : Row) (state : State) → has_full_line (answer_text (change_by row state).answer ++ behind) ≡ false
      → ChangedSame counts (change_by row state) (change_unbounded row (unbounded_of counts state))
      × (may_want_memory row state ≡ wants_unbounded row (unbounded_of counts state))
  changed_same row state none = changed_by row state (first_refusal row.refusals) (is_row_full row state) none

  same_told : (row : Row) (state : State) → ShowsNoFull (row_told rules row state) behind
      → PerformedSame counts (row_told rules row state) (row_told unbounded row (unbounded_of counts state))
  same_told row state none =
      let same = changed_same row state none in
      record { text = ap answer_text same.0.answer_is; after = same.0.left; wants = same.1 }

  -- turns
  same_takes : (run : Progress) (state : State) → ShowsNoFull (takes_turns run state) behind
      → PerformedSame counts (takes_turns run state) (takes_unbounded run (unbounded_of counts state))
  same_takes run state none =
      let same = same_ran state.breakpoints behind (run.turns - run.taken) state.wholes run none in
      record {
        text = same_text _ _ _ same;
        after = λ i. record {
          registry = record {
            processes = same.after i;
            checkpoints = state.checkpoints;
            breakpoints = state.breakpoints;
          };
          extension = same.extension_is i;
          told = counts;
        };
        wants = refl;
      }

  -- what is printed
  same_printed : (wants : Bool) (text : List ℕ) (state : State) → PerformedSame counts (text_printed wants text state) (text_printed wants text (unbounded_of counts state))
  same_printed wants text state = record { text = refl; after = refl; wants = refl }

  same_refused : (code : Code) (state : State) → PerformedSame counts (told false (refuses code state)) (told false (refuses code (unbounded_of counts state)))
  same_refused code state = record { text = refl; after = refl; wants = refl }

  same_exec_turns : (calls : Bool) (turns : ℕ) (answer : Answer) (state : State) → ShowsNoFull (exec_turns rules calls turns answer state) behind
      → PerformedSame counts (exec_turns rules calls turns answer state) (exec_turns unbounded calls turns answer (unbounded_of counts state))
  same_exec_turns calls turns (Loaded p pages entry) state none = same_takes (begun_alone p calls turns) state none
  same_exec_turns calls turns Done state none = same_printed false [] state
  same_exec_turns calls turns (Forked p q) state none = same_printed false [] state
  same_exec_turns calls turns (Saved p name space) state none = same_printed false [] state
  same_exec_turns calls turns (Imported name space pages) state none = same_printed false [] state
  same_exec_turns calls turns (Shared pages) state none = same_printed false [] state
  same_exec_turns calls turns (Refused code) state none = same_printed false [] state
  same_exec_turns calls turns (Full units limit) state none = same_printed false [] state
  same_exec_turns calls turns Memory state none = same_printed false [] state

  same_running : (calls : Bool) (p turns : ℕ) (state : State) (runs : Bool) → ShowsNoFull (cond runs (takes_turns (begun_alone p calls turns) state) (told false (refuses Ended state))) behind
      → PerformedSame counts (cond runs (takes_turns (begun_alone p calls turns) state) (told false (refuses Ended state)))
      (cond runs (takes_unbounded (begun_alone p calls turns) (unbounded_of counts state)) (told false (refuses Ended (unbounded_of counts state))))
  same_running calls p turns state true none = same_takes (begun_alone p calls turns) state none
  same_running calls p turns state false none = same_refused Ended state

  same_steps : (calls : Bool) (p turns : ℕ) (o : Option Process) (state : State) → ShowsNoFull (steps rules calls p turns o state) behind
      → PerformedSame counts (steps rules calls p turns o state) (steps unbounded calls p turns o (unbounded_of counts state))
  same_steps calls p turns None state none = same_refused NoProcess state
  same_steps calls p turns (Some process) state none = same_running calls p turns state (runs process.state) none

  same_regs : (p : ℕ) (o : Option Process) (state : State) → PerformedSame counts (regs_of p o state) (regs_of p o (unbounded_of counts state))
  same_regs p None state = same_refused NoProcess state
  same_regs p (Some process) state = same_printed false (regs_text p process) state

  same_read : (text : Contents → List ℕ) (memory : Contents) (o : Option ℕ) (state : State)
      → PerformedSame counts (prints_read text memory o state) (prints_read text memory o (unbounded_of counts state))
  same_read text memory None state = same_printed false (text memory) state
  same_read text memory (Some at) state = same_refused (Unmapped at) state

  same_prints : (address n : ℕ) (text : Contents → List ℕ) (o : Option Process) (state : State)
      → PerformedSame counts (prints_of address n text o state) (prints_of address n text o (unbounded_of counts state))
  same_prints address n text None state = same_refused NoProcess state
  same_prints address n text (Some process) state = same_read text process.memory (first_denied process.memory 0 address n) state

  same_image : (name base : List ℕ) (r : Result (List ℕ) Code) (state : State)
      → PerformedSame counts (prints_image name base r state) (prints_image name base r (unbounded_of counts state))
  same_image name base (Ok image) state = same_printed true (exported_text name base image) state
  same_image name base (Err code) state = same_refused code state

-- A load, and the turns that follow it.
module _ (counts : List (List ℕ)) (behind : List ℕ) (calls : Bool) (file : List ℕ) (turns : ℕ) (state : State) where
  abbrev here : Unbounded
  here = unbounded_of counts state

  abbrev loaded : Changed State
  loaded = change_by (load_row file (registry_of state)) state

  abbrev loaded_here : Changed Unbounded
  loaded_here = change_unbounded (load_row file (registry_of state)) here

  abbrev rest : Performed State
  rest = exec_turns rules calls turns loaded.answer loaded.after

  same_exec : ShowsNoFull (exec_done rules calls file turns state) behind → PerformedSame counts (exec_done rules calls file turns state) (exec_done unbounded calls file turns here)
  same_exec none =
      let apart : has_full_line (answer_text loaded.answer ++ (rest.text ++ behind)) ≡ false =
      sym (ap has_full_line (append_assoc (answer_text loaded.answer) rest.text behind)) ∙ none in
      let first = changed_same counts (rest.text ++ behind) (load_row file (registry_of state)) state apart in
      let left = behind_lines (answer_text loaded.answer) (rest.text ++ behind) (answer_lines loaded.answer) apart in
      let next = same_exec_turns counts behind calls turns loaded.answer loaded.after left in
      let there : PerformedSame counts rest (exec_turns unbounded calls turns loaded_here.answer loaded_here.after) =
      subst (λ a. PerformedSame counts rest (exec_turns unbounded calls turns a loaded_here.after)) first.0.answer_is
      (subst (λ u. PerformedSame counts rest (exec_turns unbounded calls turns loaded.answer u)) first.0.left next) in
      record {
        text = ap (λ a. answer_text a ++ rest.text) first.0.answer_is ∙ ap (λ t. answer_text loaded_here.answer ++ t) there.text;
        after = there.after;
        wants = refl;
      }

-- What is told by the ledger leaves the unbounded machine as it is, and wants no memory.
row_leaves : (counts : List (List ℕ)) (row : Row) (state : State) → row.after ≡ registry_of state
    → unbounded_of counts (change_by row state).after ≡ unbounded_of counts state
row_leaves counts row state stays = by_cases (first_refusal row.refusals) (is_row_full row state)
  where
    by_cases : (refusal : Option Code) (full : Bool) → unbounded_of counts (given_by row state refusal full).after ≡ unbounded_of counts state
    by_cases (Some code) full = refl
    by_cases None true = refl
    by_cases None false = λ i. record { registry = stays i; extension = state.wholes.extension; told = counts }

ledger_leaves : (counts : List (List ℕ)) (tells : LedgerTold) (state : State) → unbounded_of counts (ledger_done tells state).after ≡ unbounded_of counts state
ledger_leaves counts TellsCounts state = refl
ledger_leaves counts (TellsDedup p address q other) state = row_leaves counts (dedup_row p address q other state) state refl
ledger_leaves counts (TellsDedupAll p q) state = row_leaves counts (dedup_all_row p q state) state refl

ledger_wants : (tells : LedgerTold) (state : State) → (ledger_done tells state).wants_memory ≡ false
ledger_wants TellsCounts state = refl
ledger_wants (TellsDedup p address q other) state = refl
ledger_wants (TellsDedupAll p q) state = refl

-- the line of a command that is told by the ledger, before others
abbrev pub with_told : Command → State → List (List ℕ) → List (List ℕ)
with_told command state counts = option_map_or (λ tells. (ledger_done tells state).text ∷ counts) (told_by_ledger command) counts

-- Where a command's text has no line of `full`, it comes to what it comes to in the unbounded machine.
module _ (counts : List (List ℕ)) (behind : List ℕ) (modes : Modes) (file : List ℕ) (state : State) where
  abbrev ComesSame : Command → Type 0
  ComesSame c = ShowsNoFull (performed modes file c state) behind
      → PerformedSame counts (performed modes file c state) (performed_by unbounded modes file c (unbounded_of (with_told c state counts) state))

  -- a change, of which it is known that it isn't told by the ledger
  same_changed : (c : Command) → ((at : State) → performed modes file c at ≡ change_told rules file c at)
      → ((at : Unbounded) → performed_by unbounded modes file c at ≡ change_told unbounded file c at) → told_by_ledger c ≡ None → ComesSame c
  same_changed c here there is none =
      let same = same_told counts behind (change_row file c (registry_of state)) state (subst (λ x. ShowsNoFull x behind) (here state) none) in
      let left = subst (λ x. PerformedSame counts x (change_told unbounded file c (unbounded_of counts state))) (sym (here state)) same in
      subst (λ (o : Option LedgerTold). PerformedSame counts (performed modes file c state)
      (performed_by unbounded modes file c (unbounded_of (option_map_or (λ tells. (ledger_done tells state).text ∷ counts) o counts) state))) (sym is)
      (subst (λ y. PerformedSame counts (performed modes file c state) y) (sym (there (unbounded_of counts state))) left)

  -- one that is: the unbounded machine is given its line
  same_given : (c : Command) (tells : LedgerTold) → ((at : State) → performed modes file c at ≡ ledger_done tells at)
      → ((at : Unbounded) → performed_by unbounded modes file c at ≡ next_told at.told at) → told_by_ledger c ≡ Some tells
      → PerformedSame counts (performed modes file c state) (performed_by unbounded modes file c (unbounded_of (with_told c state counts) state))
  same_given c tells here there is =
      let given = (ledger_done tells state).text ∷ counts in
      let same : PerformedSame counts (ledger_done tells state) (next_told given (unbounded_of given state)) =
      record { text = refl; after = ledger_leaves counts tells state; wants = ledger_wants tells state } in
      subst (λ (o : Option LedgerTold). PerformedSame counts (performed modes file c state)
      (performed_by unbounded modes file c (unbounded_of (option_map_or (λ tells. (ledger_done tells state).text ∷ counts) o counts) state))) (sym is)
      (subst (λ y. PerformedSame counts (performed modes file c state) y) (sym (there (unbounded_of given state)))
      (subst (λ x. PerformedSame counts x (next_told given (unbounded_of given state))) (sym (here state)) same))

  same_case : (c : Command) → GoesBy rules unbounded modes file c → ComesSame c
  same_case _ (ByExec name turns) none = same_exec counts behind modes.calls file turns state none
  same_case _ (ByRun turns) none = same_takes counts behind (by_turns modes.quantum modes.calls turns) state none
  same_case _ (ByStep p turns) none = same_steps counts behind modes.calls p turns (get state.wholes.processes p) state none
  same_case _ ByList none = same_printed counts behind false (list_text (registry_of state)) state
  same_case _ (ByRegs p) none = same_regs counts behind p (get state.wholes.processes p) state
  same_case _ (ByDump p address count) none =
      same_prints counts behind address count (λ memory. dump_text memory address count) (get state.wholes.processes p) state
  same_case _ (ByDisasm p address words) none =
      same_prints counts behind address (WORD_BYTES * words) (λ memory. disasm_text modes.extension memory address words) (get state.wholes.processes p) state
  same_case _ (ByExport name base) none = same_image counts behind name base (exported_by name base state.checkpoints) state
  same_case _ (ByLedger c tells here there is) none = same_given c tells here there is
  same_case _ (ByChange c here there is) none = same_changed c here there is none

pub same_performed : (counts : List (List ℕ)) (behind : List ℕ) (modes : Modes) (file : List ℕ) (c : Command) (state : State)
    → ShowsNoFull (performed modes file c state) behind
    → PerformedSame counts (performed modes file c state) (performed_by unbounded modes file c (unbounded_of (with_told c state counts) state))
same_performed counts behind modes file c state none = same_case counts behind modes file state c (goes_by rules unbounded modes file c) none

-- Each command's text is whole lines, or none.

lines_of : {A : Type 0} (text : A → List ℕ) → ((x : A) → AreWholeLines (text x)) → (xs : List A) → AreWholeLines (flat_map text xs)
lines_of text each [] = no_lines
lines_of text each (x ∷ xs) = lines_both (text x) (flat_map text xs) (each x) (lines_of text each xs)

ran_lines : {M : Type 0} (r : Ran M) → AreWholeLines (ran_text r)
ran_lines r = lines_both _ (stop_text r.taken r.stop) (lines_of _ (λ event. turn_lines event.0 event.1) r.events) (stop_lines r.taken r.stop)

register_lines : (registers : Registers) (i n : ℕ) → AreWholeLines (registers_from registers i n)
unfolding registers_from
register_lines registers i zero = no_lines
register_lines registers i (suc n) = lines_both _ (registers_from registers (i + 1) n) (ends_register i _ true) (register_lines registers (i + 1) n)

dump_lines : (rows : ℕ) (memory : Contents) (address count : ℕ) → AreWholeLines (dump_from rows memory address count)
unfolding dump_from
dump_lines zero memory address count = no_lines
dump_lines (suc rows) memory address count = lines_both _ _ (ends_dump address _ true) (dump_lines rows memory _ _)

disasm_lines : (extension : Bool) (memory : Contents) (address words : ℕ) → AreWholeLines (disasm_text extension memory address words)
unfolding disasm_text
disasm_lines extension memory address zero = no_lines
disasm_lines extension memory address (suc words) =
    lines_both _ _ (ends_disasm_by (table_of extension).has address _ true) (disasm_lines extension memory (address + WORD_BYTES) words)

list_lines : (registry : Registry) → AreWholeLines (list_text registry)
unfolding list_head process_text checkpoint_text
list_lines registry =
    lines_both (list_head registry) _ (ends_list _ _ true)
    (lines_both (processes_text registry) (checkpoints_text registry)
    (lines_of process_text (λ entry. ends_process entry.0 entry.1.state (is_speculating entry.1) _ true) _)
    (lines_of checkpoint_text (λ checkpoint. ends_checkpoint checkpoint.name checkpoint.space _ true) _))

regs_lines : (p : ℕ) (o : Option Process) (state : State) → AreWholeLines (regs_of p o state).text
unfolding regs_head
regs_lines p None state = answer_lines (Refused NoProcess)
regs_lines p (Some process) state =
    lines_both (regs_head p process) _ (ends_regs p process.state (is_speculating process) true) (register_lines process.registers 0 32)

read_lines : (text : Contents → List ℕ) → ((memory : Contents) → AreWholeLines (text memory)) → (memory : Contents) (o : Option ℕ) (state : State)
    → AreWholeLines (prints_read text memory o state).text
read_lines text each memory None state = each memory
read_lines text each memory (Some at) state = answer_lines (Refused (Unmapped at))

prints_lines : (address n : ℕ) (text : Contents → List ℕ) → ((memory : Contents) → AreWholeLines (text memory)) → (o : Option Process) (state : State)
    → AreWholeLines (prints_of address n text o state).text
prints_lines address n text each None state = answer_lines (Refused NoProcess)
prints_lines address n text each (Some process) state = read_lines text each process.memory (first_denied process.memory 0 address n) state

running_lines : (calls : Bool) (p turns : ℕ) (state : State) (runs : Bool) → AreWholeLines (cond runs (takes_turns (begun_alone p calls turns) state) (told false (refuses Ended state))).text
running_lines calls p turns state true = ran_lines (ran_from state.breakpoints state.wholes (begun_alone p calls turns))
running_lines calls p turns state false = answer_lines (Refused Ended)

steps_lines : (calls : Bool) (p turns : ℕ) (o : Option Process) (state : State) → AreWholeLines (steps rules calls p turns o state).text
steps_lines calls p turns None state = answer_lines (Refused NoProcess)
steps_lines calls p turns (Some process) state = running_lines calls p turns state (runs process.state)

exec_turns_lines : (calls : Bool) (turns : ℕ) (answer : Answer) (state : State) → AreWholeLines (exec_turns rules calls turns answer state).text
exec_turns_lines calls turns (Loaded p pages entry) state = ran_lines (ran_from state.breakpoints state.wholes (begun_alone p calls turns))
exec_turns_lines calls turns Done state = no_lines
exec_turns_lines calls turns (Forked p q) state = no_lines
exec_turns_lines calls turns (Saved p name space) state = no_lines
exec_turns_lines calls turns (Imported name space pages) state = no_lines
exec_turns_lines calls turns (Shared pages) state = no_lines
exec_turns_lines calls turns (Refused code) state = no_lines
exec_turns_lines calls turns (Full units limit) state = no_lines
exec_turns_lines calls turns Memory state = no_lines

image_lines : (name base : List ℕ) (r : Result (List ℕ) Code) (state : State) → AreWholeLines (prints_image name base r state).text
image_lines name base (Ok image) state = exported_lines name base image
image_lines name base (Err code) state = answer_lines (Refused code)

stats_lines : (state : State) → AreWholeLines (stats_text state)
unfolding stats_text
stats_lines state = ends_stats _ _ _ _ _ true

ledger_lines : (tells : LedgerTold) (state : State) → AreWholeLines (ledger_done tells state).text
ledger_lines TellsCounts state = stats_lines state
ledger_lines (TellsDedup p address q other) state = answer_lines (change_by (dedup_row p address q other state) state).answer
ledger_lines (TellsDedupAll p q) state = answer_lines (change_by (dedup_all_row p q state) state).answer

pub performed_lines : (modes : Modes) (file : List ℕ) (c : Command) (state : State) → AreWholeLines (performed modes file c state).text
performed_lines modes file command state = by_case command (goes_by rules rules modes file command)
  where
    by_case : (c : Command) → GoesBy rules rules modes file c → AreWholeLines (performed modes file c state).text
    by_case _ (ByExec name turns) =
        let loaded = change_by (load_row file (registry_of state)) state in
        lines_both (answer_text loaded.answer) _ (answer_lines loaded.answer) (exec_turns_lines modes.calls turns loaded.answer loaded.after)
    by_case _ (ByRun turns) = ran_lines (ran_from state.breakpoints state.wholes (by_turns modes.quantum modes.calls turns))
    by_case _ (ByStep p turns) = steps_lines modes.calls p turns (get state.wholes.processes p) state
    by_case _ ByList = list_lines (registry_of state)
    by_case _ (ByRegs p) = regs_lines p (get state.wholes.processes p) state
    by_case _ (ByDump p address count) =
        prints_lines address count (λ memory. dump_text memory address count) (λ memory. dump_lines _ memory address count) (get state.wholes.processes p) state
    by_case _ (ByDisasm p address words) =
        prints_lines address (WORD_BYTES * words) (λ memory. disasm_text modes.extension memory address words) (λ memory. disasm_lines modes.extension memory address words)
        (get state.wholes.processes p) state
    by_case _ (ByExport name base) = image_lines name base (exported_by name base state.checkpoints) state
    by_case _ (ByLedger c tells here there is) = subst (λ x. AreWholeLines x.text) (sym (here state)) (ledger_lines tells state)
    by_case _ (ByChange c here there is) =
        subst (λ x. AreWholeLines x.text) (sym (here state)) (answer_lines (change_by (change_row file c (registry_of state)) state).answer)

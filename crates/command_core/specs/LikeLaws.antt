use Rattle.std.specs.Prelude.{◌≡◌, ℕ, ◌-◌, ◌*◌, nat_lt, ◌&&◌, Bool, true, false, cond, List, ◌++◌, flat_map, length, Option, Some, None, Result, Ok, Err, refl}
use Rattle.std.proofs.Common.{sym, ap, subst, ◌∙◌}
use Rattle.std.specs.Option.{is_some, option_map_or}
use Rattle.std.specs.FinMap.{entries, get}
use Rattle.breakpoints.specs.Breakpoints.{Breaks}
use Rattle.ovl_io.specs.Memory.{Memory as Contents, first_denied}
use Rattle.ledger.specs.Alike.{AreAlike}
use Rattle.ledger.specs.AlikeUnits.{lines_alike, units_alike}
use Rattle.ledger.specs.RowLaws.{alike_after}
use Rattle.machine_core.specs.Process.{Process, runs}
use Rattle.machine_core.specs.Machine.{AreLike, Processes, Wholes, unit_limit}
use Rattle.machine_core.specs.Laws.{like_chain, like_itself}
use Rattle.report_text.specs.declared.answer.Answer.{Answer}
use Rattle.report_text.specs.declared.answer.Answer.TheVariants.{Done, Loaded, Forked, Saved, Imported, Shared, Refused, Full, Memory}
use Rattle.report_text.specs.declared.answer.Code.{Code}
use Rattle.report_text.specs.declared.answer.Code.TheVariants.{Ended}
use Rattle.report_text.specs.Lines.{list_line}
use Rattle.report_text.specs.Answers.{answer_text}
use Rattle.script_text.specs.declared.command.Command.{Command}
use Rattle.command_core.specs.declared.modes.Modes.{Modes}
use Rattle.command_core.specs.declared.TheConstants.{WORD_BYTES}
use Rattle.command_core.specs.State.{AreLikeStates, Checkpoint, Registry, State, registry_of, with_wholes}
use Rattle.command_core.specs.Sessions.{InSession}
use Rattle.command_core.specs.Rows.{Changed, Row, accepts, change_by, event_needs, falls_short, first_refusal, flushed_by, row_is_full, ledger_by, may_want_memory, refuses, registered, still_row, wants_by, within_units}
use Rattle.command_core.specs.Giving.{ComesTo, GivesChange}
use Rattle.command_core.specs.Changes.{LedgerTold, TellsCounts, TellsDedup, TellsDedupAll, change_row, ledger_row, load_row, row_in, told_by_ledger}
use Rattle.process_runs.specs.LikeLaws.{like_text, like_ran}
use Rattle.process_runs.specs.Turns.{Progress, begun_alone, by_turns, ran_from, ran_text}
use Rattle.command_core.specs.Looks.{counts_of}
use Rattle.command_core.specs.Commands.{Performed, change_told, checkpoint_text, counts_text, disasm_text, dump_text, exec_done, exec_turns, export_done, ledger_done, list_head, list_text, performed, prints_image, prints_of, prints_read, process_text, regs_done, regs_of, row_told, stats_text, step_done, steps, takes_turns, told, rules}
use Rattle.command_core.specs.CommandCases.{GoesBy, ByExec, ByRun, ByStep, ByList, ByRegs, ByDump, ByDisasm, ByExport, ByLedger, ByChange, goes_by}
use Rattle.command_core.specs.Deduplication.{dedup_all_row, dedup_row}
use Rattle.command_core.specs.DeduplicationLaws.{dedup_all_same, dedup_same}
use Rattle.command_core.specs.Images.{exported_by}
use Rattle.command_core.specs.Standing.{GivesAs}

-- States that differ in the numbers of origins alone come to the same texts, and stay so.

pub states_itself : (a : State) → AreLikeStates a a
states_itself a = record { wholes = like_itself a.wholes; checkpoints = refl; breakpoints = refl }

pub states_chain : (a b c : State) → AreLikeStates a b → AreLikeStates b c → AreLikeStates a c
states_chain a b c h k = record {
  wholes = like_chain a.wholes b.wholes c.wholes h.wholes k.wholes;
  checkpoints = h.checkpoints ∙ k.checkpoints;
  breakpoints = h.breakpoints ∙ k.breakpoints;
}

pub states_same : (a b : State) → a ≡ b → AreLikeStates a b
states_same a b same = subst (AreLikeStates a) same (states_itself a)

pub processes_same : (a b : State) → AreLikeStates a b → a.wholes.processes ≡ b.wholes.processes
processes_same a b like = like.wholes.processes

-- Changes.

pub registries_same : (a b : State) → AreLikeStates a b → registry_of a ≡ registry_of b
registries_same a b like = λ i. record { processes = like.wholes.processes i; checkpoints = like.checkpoints i; breakpoints = like.breakpoints i }

-- one comes to what another does
abbrev pub AreLikeChanges : Changed State → Changed State → Type 0
AreLikeChanges c d = ComesTo d c.answer c.after

-- one row, of states that are alike
module _ (row : Row) (a b : State) (like : AreLikeStates a b) where
  like_ledger : AreAlike (ledger_by row.event a.wholes.ledger) (ledger_by row.event b.wholes.ledger)
  unfolding ledger_by
  like_ledger = alike_after row.event a.wholes.ledger b.wholes.ledger like.wholes.ledger

  like_needs : event_needs row.event a.wholes ≡ event_needs row.event b.wholes
  like_needs = units_alike _ _ like_ledger

  like_full : row_is_full row a ≡ row_is_full row b
  like_full =
      ap (λ n. row.may_need_units && nat_lt (unit_limit a.wholes.frames) n) like_needs
      ∙ ap (λ n. row.may_need_units && nat_lt (unit_limit n) (event_needs row.event b.wholes)) like.wholes.frames

  like_wants : may_want_memory row a ≡ may_want_memory row b
  like_wants = ap (wants_by row.memory (is_some (first_refusal row.refusals))) like_full

  like_within : (x y : Bool) → x ≡ y → AreLikeChanges (cond x (falls_short row a) (accepts row a)) (cond y (falls_short row b) (accepts row b))
  like_within true true same = record {
    answer_is = ap (λ n. Full n (unit_limit a.wholes.frames)) like_needs ∙ ap (λ n. Full (event_needs row.event b.wholes) (unit_limit n)) like.wholes.frames;
    after_is = like;
  }
  like_within false false same =
      record {
        answer_is = refl;
        after_is = record {
          wholes = record {
            processes = refl;
            ledger = like_ledger;
            frames = like.wholes.frames;
            extension = like.wholes.extension;
            translations = ap (flushed_by row.flushes) like.wholes.translations;
          };
          checkpoints = refl;
          breakpoints = refl;
        };
      }
  like_within true false same = cc
  like_within false true same = cc

  like_row : AreLikeChanges (change_by row a) (change_by row b)
  like_row = by_refusal (first_refusal row.refusals)
    where
      by_refusal : (o : Option Code) → AreLikeChanges
          (option_map_or (λ code. refuses code a) o (within_units row a)) (option_map_or (λ code. refuses code b) o (within_units row b))
      by_refusal None = like_within (row_is_full row a) (row_is_full row b) like_full
      by_refusal (Some code) = record { answer_is = refl; after_is = like }

-- The row that each has: it is the same.
abbrev pub IsSameRow : (State → Row) → Type 0
IsSameRow row = (a b : State) → AreLikeStates a b → row a ≡ row b

pub registered_same : (row : Registry → Row) → IsSameRow (registered row)
registered_same row a b like = ap row (registries_same a b like)

ledger_same : (tells : LedgerTold) → IsSameRow (ledger_row tells)
ledger_same TellsCounts a b like = registered_same still_row a b like
ledger_same (TellsDedup p address q other) a b like = dedup_same a b like p address q other
ledger_same (TellsDedupAll p q) a b like = dedup_all_same a b like p q

pub row_same : (file : List ℕ) (c : Command) → IsSameRow (row_in file c)
row_same file c = by_told (told_by_ledger c)
  where
    by_told : (tells : Option LedgerTold) → IsSameRow (option_map_or (λ tells. ledger_row tells) tells (registered (change_row file c)))
    by_told None = registered_same (change_row file c)
    by_told (Some tells) = ledger_same tells

module _ (row : State → Row) (same : IsSameRow row) where
  pub like_change : (a b : State) → AreLikeStates a b → AreLikeChanges (change_by (row a) a) (change_by (row b) b)
  like_change a b like = subst (λ (r : Row). AreLikeChanges (change_by (row a) a) (change_by r b)) (same a b like) (like_row (row a) a b like)

  pub like_wanting : (a b : State) → AreLikeStates a b → may_want_memory (row a) a ≡ may_want_memory (row b) b
  like_wanting a b like = like_wants (row a) a b like ∙ ap (λ (r : Row). may_want_memory r b) (same a b like)

-- what a change gives is what it gives to each state
module _ (row : State → Row) (same : IsSameRow row) (old new : InSession) where
  gives_each : (answer : Answer) → ComesTo (change_by (row old.state) old.state) answer new.state → (state : State)
      → AreLikeStates old.state state → ComesTo (change_by (row state) state) answer new.state
  gives_each answer comes state stands =
      let like = like_change row same old.state state stands in
      record { answer_is = comes.answer_is ∙ like.answer_is; after_is = states_chain new.state _ _ comes.after_is like.after_is }

  pub gives_as : (answer : Answer) → GivesChange (row old.state) old.state answer new.state → GivesAs row old answer new
  gives_as Memory (wants, kept) = λ state stands.
      (sym (like_wanting row same old.state state stands) ∙ wants, subst (λ (s : State). AreLikeStates s state) (sym kept) stands)
  gives_as Done comes = gives_each Done comes
  gives_as (Loaded p pages entry) comes = gives_each (Loaded p pages entry) comes
  gives_as (Forked p q) comes = gives_each (Forked p q) comes
  gives_as (Saved p name space) comes = gives_each (Saved p name space) comes
  gives_as (Imported name space pages) comes = gives_each (Imported name space pages) comes
  gives_as (Shared pages) comes = gives_each (Shared pages) comes
  gives_as (Refused code) comes = gives_each (Refused code) comes
  gives_as (Full units limit) comes = gives_each (Full units limit) comes

-- Commands.

pub record AreLikePerformed (x y : Performed State) : Type 0 where
  pub text : x.text ≡ y.text
  pub after : AreLikeStates x.after y.after
  pub wants : x.wants_memory ≡ y.wants_memory

like_told : (row : State → Row) → IsSameRow row → (a b : State) → AreLikeStates a b → AreLikePerformed (row_told rules (row a) a) (row_told rules (row b) b)
like_told row same a b like =
    let change = like_change row same a b like in
    record { text = ap answer_text change.answer_is; after = change.after_is; wants = like_wanting row same a b like }

-- the turns that there are with some breakpoints
abbrev takes_by : Breaks → Progress → State → Performed State
takes_by breaks run state =
    record { text = ran_text (ran_from breaks state.wholes run); after = with_wholes (ran_from breaks state.wholes run).after state; wants_memory = false }

pub like_takes : (run : Progress) (a b : State) → AreLikeStates a b → AreLikePerformed (takes_turns run a) (takes_turns run b)
like_takes run a b like =
    let rans = like_ran a.breakpoints (run.turns - run.taken) a.wholes b.wholes run like.wholes in
    subst (λ (bs : Breaks). AreLikePerformed (takes_turns run a) (takes_by bs run b)) like.breakpoints
    (record {
      text = like_text _ _ rans;
      after = record { wholes = rans.after; checkpoints = like.checkpoints; breakpoints = like.breakpoints };
      wants = refl;
    })

pub like_exec_turns : (calls : Bool) (turns : ℕ) (answer : Answer) (a b : State) → AreLikeStates a b → AreLikePerformed (exec_turns rules calls turns answer a) (exec_turns rules calls turns answer b)
like_exec_turns calls turns (Loaded p pages entry) a b like = like_takes (begun_alone p calls turns) a b like
like_exec_turns calls turns Done a b like = record { text = refl; after = like; wants = refl }
like_exec_turns calls turns (Forked p q) a b like = record { text = refl; after = like; wants = refl }
like_exec_turns calls turns (Saved p name space) a b like = record { text = refl; after = like; wants = refl }
like_exec_turns calls turns (Imported name space pages) a b like = record { text = refl; after = like; wants = refl }
like_exec_turns calls turns (Shared pages) a b like = record { text = refl; after = like; wants = refl }
like_exec_turns calls turns (Refused code) a b like = record { text = refl; after = like; wants = refl }
like_exec_turns calls turns (Full units limit) a b like = record { text = refl; after = like; wants = refl }
like_exec_turns calls turns Memory a b like = record { text = refl; after = like; wants = refl }

like_exec : (calls : Bool) (file : List ℕ) (turns : ℕ) (a b : State) → AreLikeStates a b → AreLikePerformed (exec_done rules calls file turns a) (exec_done rules calls file turns b)
like_exec calls file turns a b like =
    let x = change_by (load_row file (registry_of a)) a in
    let y = change_by (load_row file (registry_of b)) b in
    let first = like_change (registered (load_row file)) (registered_same (load_row file)) a b like in
    let next = like_exec_turns calls turns x.answer x.after y.after first.after_is in
    record {
      text = ap (λ t. answer_text t ++ (exec_turns rules calls turns x.answer x.after).text) first.answer_is
          ∙ ap (λ t. answer_text y.answer ++ t) next.text ∙ ap (λ t. answer_text y.answer ++ (exec_turns rules calls turns t y.after).text) first.answer_is;
      after = subst (λ t. AreLikeStates (exec_turns rules calls turns x.answer x.after).after (exec_turns rules calls turns t y.after).after) first.answer_is next.after;
      wants = refl;
    }

like_step : (calls : Bool) (p turns : ℕ) (a b : State) → AreLikeStates a b → AreLikePerformed (step_done rules calls p turns a) (step_done rules calls p turns b)
like_step calls p turns a b like =
    subst (λ (o : Option Process). AreLikePerformed (step_done rules calls p turns a) (steps rules calls p turns o b)) (ap (λ (ps : Processes). get ps p) like.wholes.processes) (by_found (get a.wholes.processes p))
  where
    by_running : (r : Bool) → AreLikePerformed (cond r (takes_turns (begun_alone p calls turns) a) (told false (record { answer = Refused Ended; after = a })))
        (cond r (takes_turns (begun_alone p calls turns) b) (told false (record { answer = Refused Ended; after = b })))
    by_running true = like_takes (begun_alone p calls turns) a b like
    by_running false = record { text = refl; after = like; wants = refl }

    by_found : (o : Option Process) → AreLikePerformed (steps rules calls p turns o a) (steps rules calls p turns o b)
    by_found None = record { text = refl; after = like; wants = refl }
    by_found (Some process) = by_running (runs process.state)

pub list_same : (a b : State) → AreLikeStates a b → list_text (registry_of a) ≡ list_text (registry_of b)
unfolding list_head
list_same a b like =
    ap (λ (ps : Processes). list_line (length (entries ps)) (length a.checkpoints) ++ (flat_map process_text (entries ps) ++ flat_map checkpoint_text a.checkpoints)) like.wholes.processes
    ∙ ap (λ (cs : List Checkpoint). list_line (length (entries b.wholes.processes)) (length cs) ++ (flat_map process_text (entries b.wholes.processes) ++ flat_map checkpoint_text cs)) like.checkpoints

-- the registers of a process
like_regs : (p : ℕ) (a b : State) → AreLikeStates a b → AreLikePerformed (regs_done rules p a) (regs_done rules p b)
like_regs p a b like =
    subst (λ (o : Option Process). AreLikePerformed (regs_done rules p a) (regs_of p o b)) (ap (λ (ps : Processes). get ps p) like.wholes.processes) (by_found (get a.wholes.processes p))
  where
    by_found : (o : Option Process) → AreLikePerformed (regs_of p o a) (regs_of p o b)
    by_found None = record { text = refl; after = like; wants = refl }
    by_found (Some process) = record { text = refl; after = like; wants = refl }

-- bytes of a process
like_prints : (p address n : ℕ) (text : Contents → List ℕ) (a b : State) → AreLikeStates a b
    → AreLikePerformed (prints_of address n text (get a.wholes.processes p) a) (prints_of address n text (get b.wholes.processes p) b)
like_prints p address n text a b like =
    subst (λ (o : Option Process). AreLikePerformed (prints_of address n text (get a.wholes.processes p) a) (prints_of address n text o b))
    (ap (λ (ps : Processes). get ps p) like.wholes.processes) (by_found (get a.wholes.processes p))
  where
    by_denied : (memory : Contents) (o : Option ℕ) → AreLikePerformed (prints_read text memory o a) (prints_read text memory o b)
    by_denied memory None = record { text = refl; after = like; wants = refl }
    by_denied memory (Some at) = record { text = refl; after = like; wants = refl }

    by_found : (o : Option Process) → AreLikePerformed (prints_of address n text o a) (prints_of address n text o b)
    by_found None = record { text = refl; after = like; wants = refl }
    by_found (Some process) = by_denied process.memory (first_denied process.memory 0 address n)

-- the image of a checkpoint
like_export : (name base : List ℕ) (a b : State) → AreLikeStates a b → AreLikePerformed (export_done rules name base a) (export_done rules name base b)
like_export name base a b like =
    subst (λ (xs : List Checkpoint). AreLikePerformed (export_done rules name base a) (prints_image name base (exported_by name base xs) b)) like.checkpoints
    (by_result (exported_by name base a.checkpoints))
  where
    by_result : (r : Result (List ℕ) Code) → AreLikePerformed (prints_image name base r a) (prints_image name base r b)
    by_result (Ok image) = record { text = refl; after = like; wants = refl }
    by_result (Err code) = record { text = refl; after = like; wants = refl }

-- the counts
pub counts_same : (a b : Wholes) → AreLike a b → counts_of a ≡ counts_of b
counts_same a b like = λ i. record {
  units = units_alike a.ledger b.ledger like.ledger i;
  limit = unit_limit (like.frames i);
  lines = lines_alike a.ledger b.ledger like.ledger i;
  hits = (like.translations i).hits;
  misses = (like.translations i).misses;
}

stats_same : (a b : State) → AreLikeStates a b → stats_text a ≡ stats_text b
unfolding stats_text
stats_same a b like = ap counts_text (counts_same a.wholes b.wholes like.wholes)

like_changed : (file : List ℕ) (c : Command) (a b : State) → AreLikeStates a b → AreLikePerformed (change_told rules file c a) (change_told rules file c b)
like_changed file c a b like = like_told (registered (change_row file c)) (registered_same (change_row file c)) a b like

-- what is told by the ledger
like_ledger_done : (tells : LedgerTold) (a b : State) → AreLikeStates a b → AreLikePerformed (ledger_done tells a) (ledger_done tells b)
like_ledger_done TellsCounts a b like = record { text = stats_same a b like; after = like; wants = refl }
like_ledger_done (TellsDedup p address q other) a b like =
    like_told (dedup_row p address q other) (ledger_same (TellsDedup p address q other)) a b like
like_ledger_done (TellsDedupAll p q) a b like = like_told (dedup_all_row p q) (ledger_same (TellsDedupAll p q)) a b like

pub like_performed : (modes : Modes) (file : List ℕ) (c : Command) (a b : State) → AreLikeStates a b → AreLikePerformed (performed modes file c a) (performed modes file c b)
like_performed modes file command a b like = by_case command (goes_by rules rules modes file command)
  where
    by_case : (c : Command) → GoesBy rules rules modes file c → AreLikePerformed (performed modes file c a) (performed modes file c b)
    by_case _ (ByExec name turns) = like_exec modes.calls file turns a b like
    by_case _ (ByRun turns) = like_takes (by_turns modes.quantum modes.calls turns) a b like
    by_case _ (ByStep p turns) = like_step modes.calls p turns a b like
    by_case _ ByList = record { text = list_same a b like; after = like; wants = refl }
    by_case _ (ByRegs p) = like_regs p a b like
    by_case _ (ByDump p address count) = like_prints p address count (λ memory. dump_text memory address count) a b like
    by_case _ (ByDisasm p address words) = like_prints p address (WORD_BYTES * words) (λ memory. disasm_text modes.extension memory address words) a b like
    by_case _ (ByExport name base) = like_export name base a b like
    by_case _ (ByLedger c tells here there is) =
        subst (λ x. AreLikePerformed x (performed modes file c b)) (sym (here a))
        (subst (λ y. AreLikePerformed (ledger_done tells a) y) (sym (here b)) (like_ledger_done tells a b like))
    by_case _ (ByChange c here there is) =
        subst (λ x. AreLikePerformed x (performed modes file c b)) (sym (here a))
        (subst (λ y. AreLikePerformed (change_told rules file c a) y) (sym (here b)) (like_changed file c a b like))

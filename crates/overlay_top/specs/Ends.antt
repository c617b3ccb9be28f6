use Rattle.std.specs.Prelude.{◌≡◌, ℕ, ◌+◌, ◌<◌, ◌≤◌, List, [], length, take, slice_get, Option, Some, None, ◌⊎◌}
use Rattle.sizes.specs.declared.TheConstants.{MOST_SCRIPT_BYTES}
use Rattle.ovl_io.specs.Outside.{AsksFor}
use Rattle.ovl_io.specs.declared.shelf.ShelfError.TheVariants as shelf
use Rattle.ovl_io.specs.declared.source.Source.{Ghosts as SourceOf}
use Rattle.ovl_io.specs.declared.shelf.Shelf.{Ghosts as ShelfOf}
use Rattle.ovl_io.specs.declared.sink.Sink.{Ghosts as SinkOf}
use Rattle.overlay_top.specs.declared.running.Halt.{Halt}
use Rattle.overlay_top.specs.declared.running.Halt.TheVariants as halt
use Rattle.script_text.specs.declared.command.Command.{Command}
use Rattle.script_text.specs.declared.command.ScriptError.{ScriptError}
use Rattle.script_text.specs.declared.command.ScriptError.TheVariants as script
use Rattle.overlay_top.specs.declared.status.Status.{Status}
use Rattle.overlay_top.specs.declared.status.Status.TheVariants.{Done, NoMemory, BadWords, ReadFailed, WriteFailed, BadLine, TooLong}
use Rattle.report_text.specs.Lines.{bad_line}
use Rattle.overlay_top.specs.Outcome.{Asking, OfNothing, OfOutside, RunOutcome, SaysOutside, SaysCommands, SaysTooMuch, said, named, report_of, first_report, passage_after, MayLackMemory}
use Rattle.overlay_top.specs.Reading.{Took, TookAtMost}
use Rattle.overlay_top.specs.Running.{Reported, ReportedCut}
use Rattle.overlay_top.specs.Outside.{SourceRose, SourceSound, ShelfRose, ShelfSound, SinkRose, SinkSound, RefusedFor, WasRefused}
use Rattle.overlay_top.specs.Status.{code_of}

-- The outside of a call at one moment: the source of the script, the shelf of the files, the sink of the report.
pub record World (S H K : Type 0) : Type 0 where
  pub script : S
  pub files : H
  pub report : K

abbrev pub world_of : {S H K : Type 0} → S → H → K → World S H K
world_of script files report = record { script = script; files = files; report = report }

-- what is taken of a script that is read: all of it, or, of one that is too long, one byte more than it may have
abbrev pub IsTaken : List ℕ → List ℕ → Type 0
IsTaken before after =
    ((length before ≤ MOST_SCRIPT_BYTES) × (after ≡ [])) ⊎ ((MOST_SCRIPT_BYTES < length before) × Took (MOST_SCRIPT_BYTES + 1) before after)

-- How a call may end: as the outcome says, or cut short. Each way says which faults rose, what was taken of the
-- script, which files were asked for, and what was reported; that is said of the sink's bytes where it tells them.
pub data Ends {S H K : Type 0} (s : SourceOf S) (h : ShelfOf H) (k : SinkOf K) (outcome : RunOutcome) (names : List (Option (List ℕ)))
    (old new : World S H K) : Status → Type 0 where
  -- the words weren't the command's, and nothing was done
  Untouched : outcome.status ≡ BadWords → report_of outcome ≡ [] → new ≡ old → Ends s h k outcome names old new BadWords
  -- the whole report, and the outcome's status: the files of the commands done were asked for, and of the one that ended the call
  Whole : SourceSound s old.script new.script → ShelfSound h old.files new.files → SinkSound k old.report new.report
      → IsTaken (s.left old.script) (s.left new.script) → AsksFor h.fetched (named (take (length outcome.passages + 1) names)) old.files new.files
      → Reported k old.report (report_of outcome) new.report → Ends s h k outcome names old new outcome.status
  -- the source failed, no file was asked for, and nothing was reported
  SourceFailed : SourceRose s old.script new.script → new.files ≡ old.files → new.report ≡ old.report
      → TookAtMost MOST_SCRIPT_BYTES (s.left old.script) (s.left new.script) → Ends s h k outcome names old new ReadFailed
  -- the shelf failed to fetch the file of command j + 1, and the first j commands were reported
  ShelfFailed : (j : ℕ) (name : List ℕ) → j ≤ length outcome.passages → slice_get names j ≡ Some (Some name)
      → SourceSound s old.script new.script → ShelfRose h old.files new.files → SinkSound k old.report new.report
      → s.left new.script ≡ [] → AsksFor h.fetched (named (take (j + 1) names)) old.files new.files
      → RefusedFor h new.files name shelf.Failed
      → Reported k old.report (first_report j outcome) new.report → Ends s h k outcome names old new ReadFailed
  -- the sink failed in the text behind the first j commands, of which a front was taken that isn't the whole
  SinkFailed : (j : ℕ) → j ≤ length outcome.passages
      → SourceSound s old.script new.script → ShelfSound h old.files new.files → SinkRose k old.report new.report
      → s.left new.script ≡ [] → AsksFor h.fetched (named (take (j + 1) names)) old.files new.files
      → ReportedCut k old.report (first_report j outcome) (passage_after j outcome).text new.report → Ends s h k outcome names old new WriteFailed
  -- there was no memory, before a command was begun or within one that may want it, and the first j commands were reported
  OutOfMemory : (j begun : ℕ) → j ≤ length outcome.passages → MayLackMemory outcome j begun
      → SourceSound s old.script new.script → ShelfSound h old.files new.files → SinkSound k old.report new.report
      → AsksFor h.fetched (named (take begun names)) old.files new.files
      → Reported k old.report (first_report j outcome) new.report → Ends s h k outcome names old new NoMemory

-- How a call may end that asks nothing of the outside: with the whole report and the outcome's status; or the sink failed; or there was no
-- memory. What was reported is said as above.
pub data EndsMade {K : Type 0} (k : SinkOf K) (outcome : RunOutcome) (old new : K) : Status → Type 0 where
  MadeWhole : SinkSound k old new → Reported k old (report_of outcome) new → EndsMade k outcome old new outcome.status
  MadeSinkFailed : (j : ℕ) → j ≤ length outcome.passages → SinkRose k old new
      → ReportedCut k old (first_report j outcome) (passage_after j outcome).text new → EndsMade k outcome old new WriteFailed
  MadeOutOfMemory : (j begun : ℕ) → j ≤ length outcome.passages → MayLackMemory outcome j begun → SinkSound k old new
      → Reported k old (first_report j outcome) new → EndsMade k outcome old new NoMemory

-- How a call may end, by what it asks of the outside. Of nothing, source and shelf are as they were, their faults too, and no file was
-- asked for.
abbrev pub EndsAs : {S H K : Type 0} → SourceOf S → ShelfOf H → SinkOf K → RunOutcome → Asking → World S H K → World S H K → Status → Type 0
EndsAs s h k outcome (OfOutside names) old new status = Ends s h k outcome names old new status
EndsAs s h k outcome OfNothing old new status =
    ((new.script ≡ old.script) × (new.files ≡ old.files)) × EndsMade k outcome old.report new.report status

-- the same, of the number that the call answers
abbrev pub EndsWith : {S H K : Type 0} → SourceOf S → ShelfOf H → SinkOf K → RunOutcome → Asking → World S H K → World S H K → ℕ → Type 0
EndsWith s h k outcome asking old new number = (status : Status) × (number ≡ code_of status) × EndsAs s h k outcome asking old new status

-- what source and shelf have to tell for that to be known: nothing, where nothing is asked of them
abbrev pub IsTold : Option ℕ → Type 0 → Type 0 → Type 0
IsTold None source shelf = source × shelf
IsTold (Some seed) source shelf = Unit {0}

-- How a call ends for which the outcome's status is 0, and in which no fault rose.
abbrev pub IsCompleteWith : {K : Type 0} → SinkOf K → RunOutcome → K → K → ℕ → Type 0
IsCompleteWith k outcome old new number =
    (number ≡ code_of NoMemory) ⊎ ((number ≡ code_of Done) × Reported k old (report_of outcome) new)

abbrev pub NoFault : {S H K : Type 0} → SourceOf S → ShelfOf H → SinkOf K → World S H K → World S H K → Type 0
NoFault s h k old new =
    (SourceRose s old.script new.script → ⊥) × (ShelfRose h old.files new.files → ⊥) × (SinkRose k old.report new.report → ⊥)

-- the cause of a read that failed, and of no other: the source failed; or the last fetch failed; or its file isn't there
abbrev pub ReadCaused : {S H K : Type 0} → SourceOf S → ShelfOf H → World S H K → World S H K → Type 0
ReadCaused s h old new =
    (SourceRose s old.script new.script × (new.files ≡ old.files))
    ⊎ (SourceSound s old.script new.script × ShelfRose h old.files new.files × WasRefused h new.files shelf.Failed)
    ⊎ (SourceSound s old.script new.script × ShelfSound h old.files new.files × WasRefused h new.files shelf.Missing)

-- What a call takes of the script, by its status, also where the shelf tells nothing.
abbrev pub TakesAt : {S H K : Type 0} → SourceOf S → ShelfOf H → World S H K → World S H K → Status → Type 0
TakesAt s h old new Done = s.left new.script ≡ []
TakesAt s h old new WriteFailed = s.left new.script ≡ []
TakesAt s h old new BadLine = s.left new.script ≡ []
TakesAt s h old new TooLong = IsTaken (s.left old.script) (s.left new.script)
TakesAt s h old new ReadFailed =
    (SourceSound s old.script new.script × (s.left new.script ≡ []))
    ⊎ (SourceRose s old.script new.script × (new.files ≡ old.files) × TookAtMost MOST_SCRIPT_BYTES (s.left old.script) (s.left new.script))
TakesAt s h old new NoMemory = Unit {0}
TakesAt s h old new BadWords = s.left new.script ≡ s.left old.script

abbrev pub TakesAs : {S H K : Type 0} → SourceOf S → ShelfOf H → Asking → World S H K → World S H K → Status → Type 0
TakesAs s h (OfOutside names) old new status = TakesAt s h old new status
TakesAs s h OfNothing old new status = (new.script ≡ old.script) × (new.files ≡ old.files)

abbrev pub TakesWith : {S H K : Type 0} → SourceOf S → ShelfOf H → Asking → World S H K → World S H K → ℕ → Type 0
TakesWith s h asking old new number = (status : Status) × (number ≡ code_of status) × TakesAs s h asking old new status

-- What the script says where the status is one of its own, also where the shelf tells nothing: the first line
-- outside is the one that is printed; and it is too long, or all of it are commands (and a file was too long).
abbrev pub SaysAt : {K : Type 0} → SinkOf K → List ℕ → K → K → Status → Type 0
SaysAt k script old new BadLine = (line : ℕ) × (said script ≡ SaysOutside line) × Reported k old (bad_line line) new
SaysAt k script old new TooLong = (said script ≡ SaysTooMuch) ⊎ ((commands : List Command) × (said script ≡ SaysCommands commands))
SaysAt k script old new status = Unit {0}

abbrev pub SaysWith : {K : Type 0} → SinkOf K → List ℕ → K → K → ℕ → Type 0
SaysWith k script old new number = (status : Status) × (number ≡ code_of status) × SaysAt k script old new status

-- the status of a command that isn't done
abbrev pub status_of : Halt → Status
status_of halt.Missing = ReadFailed
status_of halt.FetchFailed = ReadFailed
status_of halt.TooLong = TooLong
status_of halt.Memory = NoMemory
status_of halt.SendFailed = WriteFailed

-- how a script without commands is reported
abbrev pub Refuses : {K : Type 0} → SinkOf K → ScriptError → K → K → Status → Type 0
Refuses k (script.Line line) old new status =
    ((status ≡ BadLine) × SinkSound k old new × Reported k old (bad_line line) new)
    ⊎ ((status ≡ WriteFailed) × SinkRose k old new × ReportedCut k old [] (bad_line line) new)
Refuses k script.Memory old new status = (status ≡ NoMemory) × (new ≡ old)

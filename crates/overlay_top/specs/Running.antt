use Rattle.std.specs.Prelude.{◌≡◌, ℕ, ◌+◌, ◌≤◌, true, List, ◌++◌, length, take, slice_get, Option, Some, None, IsSome, Result, Ok, Err, OnOk}
use Rattle.ovl_io.specs.Outside.{AsksFor}
use Rattle.ovl_io.specs.declared.shelf.ShelfError.TheVariants as shelf
use Rattle.ovl_io.specs.declared.shelf.Shelf.{Ghosts as ShelfOf}
use Rattle.ovl_io.specs.declared.sink.Sink.{Ghosts as SinkOf}
use Rattle.overlay_top.specs.declared.running.Halt.{Halt}
use Rattle.overlay_top.specs.declared.running.Halt.TheVariants.{Missing, FetchFailed, TooLong, Memory, SendFailed}
use Rattle.overlay_top.specs.declared.status.Status.TheVariants as status
use Rattle.overlay_top.specs.Sending.{IsSent, IsCut, SendsText}
use Rattle.report_text.specs.declared.answer.Answer.{Answer}
use Rattle.report_text.specs.declared.answer.Answer.TheVariants as told
use Rattle.report_text.specs.Answers.{answer_text}
use Rattle.command_core.specs.State.{AreLikeStates, State}
use Rattle.command_core.specs.Sessions.{InSession}
use Rattle.command_core.specs.Commands.{Performed, FileAsked, AsksNothing, HasFile, IsMissing, IsTooLong, file_in, has_all}
use Rattle.overlay_top.specs.Outcome.{Asking, OfNothing, OfOutside, RunOutcome, named, report_of, first_report, passage_after, MayLackMemory}
use Rattle.overlay_top.specs.Outside.{RefusedFor, SinkRose, SinkSound}

-- How the parts of a call end, by what their part of the outcome is.

-- a fetch, by what was asked of the shelf
abbrev pub GivesFile : {File : Type 0} → (File → List ℕ) → FileAsked → Result File Halt → Type 0
GivesFile view asked (Ok file) = asked ≡ HasFile (view file)
GivesFile view asked (Err Missing) = asked ≡ IsMissing
GivesFile view asked (Err TooLong) = asked ≡ IsTooLong
GivesFile view asked (Err FetchFailed) = Unit {0}
GivesFile view asked (Err Memory) = Unit {0}
GivesFile view asked (Err SendFailed) = ⊥

-- the same, of a command, which may ask for nothing
abbrev pub GivesAll : {File : Type 0} → (File → List ℕ) → FileAsked → Result File Halt → Type 0
GivesAll view asked (Ok file) = (has_all asked ≡ true) × (file_in asked ≡ view file)
GivesAll view asked (Err Missing) = asked ≡ IsMissing
GivesAll view asked (Err TooLong) = asked ≡ IsTooLong
GivesAll view asked (Err FetchFailed) = Unit {0}
GivesAll view asked (Err Memory) = Unit {0}
GivesAll view asked (Err SendFailed) = ⊥

-- what is known of what a command asked for, by how the command ended
abbrev pub WasGiven : FileAsked → Result (Unit {0}) Halt → Type 0
WasGiven asked (Ok done) = has_all asked ≡ true
WasGiven asked (Err Missing) = asked ≡ IsMissing
WasGiven asked (Err TooLong) = asked ≡ IsTooLong
WasGiven asked (Err FetchFailed) = Unit {0}
WasGiven asked (Err Memory) = Unit {0}
WasGiven asked (Err SendFailed) = has_all asked ≡ true

-- what a sink holds after a text was to be sent to it: all of it, a front of it, or nothing more
abbrev pub Sends : List ℕ → List ℕ → List ℕ → Result (Unit {0}) Halt → Type 0
Sends old text new (Ok done) = IsSent old text new
Sends old text new (Err SendFailed) = IsCut old text new
Sends old text new other = new ≡ old

-- there was no memory for a command that asks for no file: it may want that
abbrev pub LacksMemory : FileAsked → Performed State → Result (Unit {0}) Halt → Type 0
LacksMemory asked performed (Err Memory) = asked ≡ AsksNothing → performed.wants_memory ≡ true
LacksMemory asked performed other = Unit {0}

-- a fetch that failed was one of the name that a command asked for
abbrev pub FailedAt : {H : Type 0} → ShelfOf H → H → Option (List ℕ) → Type 0
FailedAt h new None = ⊥
FailedAt h new (Some name) = RefusedFor h new name shelf.Failed

abbrev pub HaltedAt : {H : Type 0} → ShelfOf H → H → Option (List ℕ) → Halt → Type 0
HaltedAt h new asked FetchFailed = FailedAt h new asked
HaltedAt h new asked other = Unit {0}

abbrev pub FetchesFor : {T H : Type 0} → ShelfOf H → H → Option (List ℕ) → Result T Halt → Type 0
FetchesFor h new asked (Err FetchFailed) = FailedAt h new asked
FetchesFor h new asked (Err Memory) = IsSome asked
FetchesFor h new asked (Err SendFailed) = ⊥
FetchesFor h new asked other = Unit {0}

abbrev pub FailedFor : {H : Type 0} → ShelfOf H → H → Option (List ℕ) → Result (Unit {0}) Halt → Type 0
FailedFor h new asked (Ok done) = Unit {0}
FailedFor h new asked (Err halt) = HaltedAt h new asked halt

-- the same, where the sink tells its bytes
abbrev pub SendsOn : {K : Type 0} → SinkOf K → K → List ℕ → K → Result (Unit {0}) Halt → Type 0
SendsOn k old text new result = k.tells → Sends (k.taken old) text (k.taken new) result

-- where something was done, the session stands for the state that it comes to: it has that state, but for the numbers of the
-- ledger's origins
abbrev pub LeavesOn : {T E : Type 0} → Performed State → InSession → Result T E → Type 0
LeavesOn done session result = OnOk result (AreLikeStates session.state done.after)

-- What turns come to was sent, and done.
pub record TakesOn {K T E : Type 0} (k : SinkOf K) (sink_old sink_new : K) (done : Performed State) (old new : InSession) (result : Result T E) : Type 0 where
  pub sends : SendsText k sink_old done.text sink_new result
  pub after : LeavesOn done new result
  pub modes : new.modes ≡ old.modes

-- what came of a change was told: its line; or nothing for want of memory
abbrev pub TellsAnswer : {K : Type 0} → SinkOf K → Answer → K → K → Result (Unit {0}) Halt → Type 0
TellsAnswer k answer old new (Ok unit) = (answer ≡ told.Memory → ⊥) × SinkSound k old new × (k.tells → IsSent (k.taken old) (answer_text answer) (k.taken new))
TellsAnswer k answer old new (Err SendFailed) = (answer ≡ told.Memory → ⊥) × SinkRose k old new × (k.tells → IsCut (k.taken old) (answer_text answer) (k.taken new))
TellsAnswer k answer old new (Err Memory) = (answer ≡ told.Memory) × (new ≡ old)
TellsAnswer k answer old new other = ⊥

-- What a command with a file comes to was sent, and done; or there was no memory, where it may want that, and nothing was sent; or the sink
-- failed.
abbrev pub EndsCommand : {K : Type 0} → SinkOf K → K → K → Performed State → State → Result (Unit {0}) Halt → Type 0
EndsCommand k old new done after (Ok unit) =
    SinkSound k old new × (k.tells → IsSent (k.taken old) done.text (k.taken new)) × AreLikeStates after done.after
EndsCommand k old new done after (Err SendFailed) = SinkRose k old new × (k.tells → IsCut (k.taken old) done.text (k.taken new))
EndsCommand k old new done after (Err Memory) = SinkSound k old new × (k.tells → k.taken new ≡ k.taken old) × (done.wants_memory ≡ true)
EndsCommand k old new done after other = ⊥

pub record DoesCommand {K : Type 0} (k : SinkOf K) (sink_old sink_new : K) (done : Performed State) (old new : InSession) (result : Result (Unit {0}) Halt) : Type 0 where
  pub ends : EndsCommand k sink_old sink_new done new.state result
  pub modes : new.modes ≡ old.modes

-- What the sink holds, where it tells its bytes.
abbrev pub Reported : {K : Type 0} → SinkOf K → K → List ℕ → K → Type 0
Reported k old report new = k.tells → IsSent (k.taken old) report (k.taken new)

abbrev pub ReportedCut : {K : Type 0} → SinkOf K → K → List ℕ → List ℕ → K → Type 0
ReportedCut k old before text new = k.tells → IsCut (k.taken old ++ before) text (k.taken new)

-- How the commands of a script end, for their outcome: the files that were asked for, and the report.
abbrev pub RunEnds : {H K : Type 0} → ShelfOf H → SinkOf K → RunOutcome → List (Option (List ℕ)) → H → H → K → K → Result (Unit {0}) Halt → Type 0
RunEnds h k outcome names shelf_old shelf_new old new (Ok done) =
    (outcome.status ≡ status.Done) × AsksFor h.fetched (named (take (length outcome.passages + 1) names)) shelf_old shelf_new
    × Reported k old (report_of outcome) new
RunEnds h k outcome names shelf_old shelf_new old new (Err Missing) =
    (outcome.status ≡ status.ReadFailed) × AsksFor h.fetched (named (take (length outcome.passages + 1) names)) shelf_old shelf_new
    × Reported k old (report_of outcome) new
RunEnds h k outcome names shelf_old shelf_new old new (Err TooLong) =
    (outcome.status ≡ status.TooLong) × AsksFor h.fetched (named (take (length outcome.passages + 1) names)) shelf_old shelf_new
    × Reported k old (report_of outcome) new
RunEnds h k outcome names shelf_old shelf_new old new (Err FetchFailed) =
    (j : ℕ) × (name : List ℕ) × (j ≤ length outcome.passages) × (slice_get names j ≡ Some (Some name))
    × AsksFor h.fetched (named (take (j + 1) names)) shelf_old shelf_new × RefusedFor h shelf_new name shelf.Failed
    × Reported k old (first_report j outcome) new
RunEnds h k outcome names shelf_old shelf_new old new (Err Memory) =
    (j : ℕ) × (begun : ℕ) × (j ≤ length outcome.passages) × MayLackMemory outcome j begun × AsksFor h.fetched (named (take begun names)) shelf_old shelf_new
    × Reported k old (first_report j outcome) new
RunEnds h k outcome names shelf_old shelf_new old new (Err SendFailed) =
    (j : ℕ) × (j ≤ length outcome.passages) × AsksFor h.fetched (named (take (j + 1) names)) shelf_old shelf_new
    × ReportedCut k old (first_report j outcome) (passage_after j outcome).text new

-- the names of some commands of the script were asked for, from the first on, in order, and no others
abbrev pub AsksInOrder : {H : Type 0} → ShelfOf H → List (Option (List ℕ)) → H → H → Type 0
AsksInOrder h names old new = (begun : ℕ) × AsksFor h.fetched (named (take begun names)) old new

-- the same, of what a call asks
abbrev pub AsksAs : {H : Type 0} → ShelfOf H → Asking → H → H → Type 0
AsksAs h (OfOutside names) old new = AsksInOrder h names old new
AsksAs h OfNothing old new = new ≡ old

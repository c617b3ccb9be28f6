use Rattle.std.specs.Prelude.{◌≡◌, Bool, List, false, true}
use Rattle.breakpoints.specs.Breakpoints.{Breaks}
use Rattle.machine_core.specs.Machine.{Machine}
use Rattle.machine_core.specs.Load.{IsAsBefore}
use Rattle.report_text.specs.declared.answer.Answer.{Answer}
use Rattle.report_text.specs.declared.answer.Answer.TheVariants.{Done, Loaded, Forked, Saved, Imported, Shared, Refused, Full, Memory}
use Rattle.command_core.specs.State.{AreLikeStates, Checkpoint, Registry, State, registry_of}
use Rattle.command_core.specs.Sessions.{InSession, KeepsSession, session_state}
use Rattle.command_core.specs.Rows.{Changed, Row, change_by, may_want_memory}

-- What an object answers of a change.

-- an object did what a change comes to
pub record ComesTo (wanted : Changed State) (answer : Answer) (new : State) : Type 0 where
  pub answer_is : answer ≡ wanted.answer
  pub after_is : AreLikeStates new wanted.after

-- What an object may answer of a change: what that comes to; or want of memory, where the change may want it, and everything is as
-- before.
abbrev pub GivesChange : Row → State → Answer → State → Type 0
GivesChange row old Memory new = (may_want_memory row old ≡ true) × (new ≡ old)
GivesChange row old answer new = ComesTo (change_by row old) answer new

-- all of a session is as before, but for how its free units are cut into blocks
pub record IsSessionAsBefore (old new : InSession) : Type 0 where
  pub state : new.state ≡ old.state
  pub modes : new.modes ≡ old.modes
  pub bases : new.bases ≡ old.bases

-- After want of memory all of a session is as before, and so are the bases of its spaces. A machine then has the same spaces,
-- translations and processes.
abbrev pub WantKeeps : InSession → Answer → InSession → Type 0
WantKeeps old Memory new = IsSessionAsBefore old new
WantKeeps old answer new = Unit {0}

abbrev pub WantKeepsMachine : Machine → Answer → Machine → Type 0
WantKeepsMachine old Memory new = IsAsBefore old new
WantKeepsMachine old answer new = Unit {0}

-- what a machine answers of it, whatever checkpoints and breakpoints there are; and it stays that of a session
pub record MachineGives (row : Registry → Row) (old : Machine) (answer : Answer) (new : Machine) : Type 0 where
  pub gives : (kept : List Checkpoint) (breaks : Breaks)
      → GivesChange (row (registry_of (session_state old kept breaks))) (session_state old kept breaks) answer (session_state new kept breaks)
  pub keeps : KeepsSession old new
  pub want : WantKeepsMachine old answer new

-- whether an answer says that the units don't suffice
abbrev pub is_full_answer : Answer → Bool
is_full_answer Done = false
is_full_answer (Loaded p pages entry) = false
is_full_answer (Forked p q) = false
is_full_answer (Saved p name space) = false
is_full_answer (Imported name space pages) = false
is_full_answer (Shared pages) = false
is_full_answer (Refused code) = false
is_full_answer (Full units limit) = true
is_full_answer Memory = false

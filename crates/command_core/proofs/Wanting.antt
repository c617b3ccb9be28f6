use Rattle.std.proofs.Common.{◌≡◌, ℕ, List, ap, refl, subst, sym, Err}
use Rattle.breakpoints.specs.Breakpoints.{Breaks}
use Rattle.overlay_memory.specs.declared.error.SpaceError.{SpaceError}
use Rattle.overlay_memory.specs.declared.error.SpaceError.TheVariants as error
use Rattle.machine_core.specs.Machine.{Machine}
use Rattle.machine_core.specs.Load.{IsAsBefore, Loads}
use Rattle.machine_core.specs.LoadLaws.{same_wholes}
use Rattle.report_text.specs.declared.answer.Answer.{Answer}
use Rattle.report_text.specs.declared.answer.Answer.TheVariants.{Done, Loaded, Forked, Saved, Imported, Shared, Refused, Full, Memory}
use Rattle.command_core.specs.declared.modes.Modes.{Modes}
use Rattle.command_core.specs.declared.checkpoints.Kept.{Kept}
use Rattle.command_core.specs.Sessions.{InSession, bases_of}
use Rattle.command_core.specs.Kept.{checkpoints_in, shown_session}
use Rattle.command_core.specs.Giving.{IsSessionAsBefore, WantKeeps, WantKeepsMachine}
use Rattle.command_core.specs.Changes.{answer_of}
use Rattle.ledger.specs.Events.{Event, Copy}
use Rattle.command_core.specs.Copies.{CopyFails, EventFails}

-- After want of memory all of a session is as before.

-- the session as it is seen, and the answer as it is told
pub told_keeps : (session old new : InSession) (told answer : Answer) → old ≡ session → told ≡ answer → WantKeeps old answer new → WantKeeps session told new
told_keeps session old new told answer is same kept = subst (λ (s : InSession). WantKeeps s told new) is (subst (λ a. WantKeeps old a new) (sym same) kept)

module _ (old new : Machine) (xs : List Kept) (breaks : Breaks) (modes : Modes) where
  abbrev before : InSession
  before = shown_session old xs breaks modes

  abbrev after : InSession
  after = shown_session new xs breaks modes

  same_session : IsAsBefore old new → IsSessionAsBefore before after
  same_session same =
      let all = same_wholes old new same in
      record {
        state = λ i. record { wholes = all i; checkpoints = checkpoints_in (same.0 i) xs; breakpoints = breaks };
        modes = refl;
        bases = ap bases_of same.0;
      }

  -- what a machine answers
  pub machine_keeps : (answer : Answer) → WantKeepsMachine old answer new → WantKeeps before answer after
  machine_keeps Done kept = tt
  machine_keeps (Loaded p pages entry) kept = tt
  machine_keeps (Forked p q) kept = tt
  machine_keeps (Saved p name q) kept = tt
  machine_keeps (Imported name q pages) kept = tt
  machine_keeps (Shared pages) kept = tt
  machine_keeps (Refused code) kept = tt
  machine_keeps (Full needed limit) kept = tt
  machine_keeps Memory kept = same_session kept

  -- a space that isn't made, and a load
  pub event_keeps_all : (event : Event) (e : SpaceError) → EventFails event old new e → WantKeeps before (answer_of e) after
  event_keeps_all event (error.Full needed limit) fails = tt
  event_keeps_all event error.Memory (enough, same) = same_session same

  pub copy_keeps_all : (from to : ℕ) (e : SpaceError) → CopyFails from to old new e → WantKeeps before (answer_of e) after
  copy_keeps_all from to e fails = event_keeps_all (Copy from to) e fails

  pub load_keeps_all : (p : ℕ) (file : List ℕ) (e : SpaceError) → Loads p file old new (Err e) → WantKeeps before (answer_of e) after
  load_keeps_all p file (error.Full needed limit) fails = tt
  load_keeps_all p file error.Memory (fits, same) = same_session same

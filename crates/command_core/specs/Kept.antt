use Rattle.std.specs.Prelude.{◌≡◌, ℕ, nat_eq, List, [], ◌∷◌, ◌++◌, map, Option, Some, None, Result, Ok, Err, if◌then◌else◌}
use Rattle.std.specs.List.{AllByRecursion}
use lib.Pointwise.{pointwise}
use Rattle.breakpoints.specs.Breakpoints.{Breaks}
use Rattle.overlay_pages.specs.State.{State, memory_of}
use Rattle.machine_core.specs.declared.process.Process.{Process}
use Rattle.machine_core.specs.Machine.{Machine, spaces_of}
use Rattle.report_text.specs.Answers.{IsCheckpointName}
use Rattle.command_core.specs.declared.modes.Modes.{Modes}
use Rattle.command_core.specs.declared.checkpoints.Kept.{Kept}
use Rattle.command_core.specs.State.{Checkpoint, State as Shown}
use Rattle.command_core.specs.Sessions.{InSession, bases_of, free_blocks_of, session_state}

-- What a session keeps of checkpoints, and what it shows of them.

-- the first of a name, and those without it
abbrev pub kept_named : List ℕ → List Kept → Option Kept
kept_named name [] = None
kept_named name (x ∷ xs) = if pointwise nat_eq name x.name then Some x else kept_named name xs

abbrev pub kept_but : List ℕ → List Kept → List Kept
kept_but name [] = []
kept_but name (x ∷ xs) = if pointwise nat_eq name x.name then xs else x ∷ kept_but name xs

-- Each is found under its name, which has 1 to 32 bytes.
abbrev pub IsNamed : {Key : Type 0} → (Key → List ℕ) → Key × Kept → Type 0
IsNamed bytes entry = (bytes entry.0 ≡ entry.1.name) × IsCheckpointName entry.1.name

abbrev pub AreNamed : {Key : Type 0} → (Key → List ℕ) → List (Key × Kept) → Type 0
AreNamed bytes entries = AllByRecursion (IsNamed bytes) entries

-- the process that is kept, all but its memory
abbrev pub kept_process : Kept → Process
kept_process x = record { regs = x.regs; state = x.state; saved = None }

-- a checkpoint, with the memory of its space
abbrev pub checkpoint_in : State → Kept → Checkpoint
checkpoint_in spaces x = record {
  name = x.name;
  space = x.space;
  whole = record { registers = x.regs; state = x.state; memory = memory_of spaces x.space };
}

abbrev pub checkpoints_in : State → List Kept → List Checkpoint
checkpoints_in spaces xs = map (checkpoint_in spaces) xs

-- the state that a session shows, and the session
abbrev pub shown_state : Machine → List Kept → Breaks → Shown
shown_state machine xs breakpoints = session_state machine (checkpoints_in (spaces_of machine) xs) breakpoints

abbrev pub shown_session : Machine → List Kept → Breaks → Modes → InSession
shown_session machine xs breakpoints modes =
    record {
      state = shown_state machine xs breakpoints;
      modes = modes;
      bases = bases_of (spaces_of machine);
      free_blocks = free_blocks_of machine.memory.pages.store.blocks;
    }

-- the spaces of checkpoints
abbrev pub spaces_kept : List Kept → List ℕ
spaces_kept xs = map (λ (x : Kept). x.space) xs

-- How a checkpoint is entered: the last of all, and its name is told; else those that there were stay.
abbrev pub EntersName : {E : Type 0} → List ℕ → ℕ → Process → List Kept → List Kept → Result (List ℕ) E → Type 0
EntersName name space process old new (Ok told) =
    (told ≡ name) × (new ≡ old ++ record { name = name; space = space; regs = process.regs; state = process.state } ∷ [])
EntersName name space process old new (Err error) = new ≡ old

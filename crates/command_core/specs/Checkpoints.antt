use Rattle.std.specs.Prelude.{◌≡◌, ℕ, nat_eq, not, Bool, true, false, List, [], ◌∷◌, ◌++◌, Option, Some, None, if◌then◌else◌, Result, Ok, Err}
use Rattle.std.specs.Option.{is_some, option_map_or}
use Rattle.std.specs.FinMap.{empty}
use Rattle.space_maps.specs.Spaces.{space_in}
use lib.Pointwise.{pointwise}
use Rattle.ledger.specs.Events.{Event, Copy, Other}
use Rattle.ledger.specs.Events as event
use Rattle.overlay_pages.specs.State.{memory_of}
use Rattle.overlay_memory.specs.declared.error.SpaceError.{SpaceError}
use Rattle.overlay_memory.specs.declared.error.SpaceError.TheVariants.{Full, Memory}
use Rattle.machine_core.specs.Process.{Process, Whole, is_speculating}
use Rattle.machine_core.specs.Machine.{IsDropped, Machine, StaysBut, Wholes, has_space, spaces_of, wholes}
use Rattle.report_text.specs.declared.answer.Answer.TheVariants.{Saved}
use Rattle.report_text.specs.declared.answer.Code.{Code}
use Rattle.report_text.specs.declared.answer.Code.TheVariants.{NameTaken, NoCheckpoint}
use Rattle.command_core.specs.State.{Checkpoint, Registry, next_number, process_of, whole_of}
use Rattle.command_core.specs.Rows.{Row, TakesLast, ledger_by, plain_row, refused_if, refused_row}
use Rattle.command_core.specs.Refusals.{by_numbers_used, by_speculating, number_in}
use Rattle.command_core.specs.Copies.{CopyEnds}
use Rattle.command_core.specs.ProcessChanges.{leaves}

-- Checkpoints, by name: made, restored and given up.

-- the checkpoint of a name, and the others in their order
abbrev pub checkpoint_named : List ℕ → List Checkpoint → Option Checkpoint
checkpoint_named name [] = None
checkpoint_named name (x ∷ xs) = if pointwise nat_eq name x.name then Some x else checkpoint_named name xs

abbrev pub checkpoints_but : List ℕ → List Checkpoint → List Checkpoint
checkpoints_but name [] = []
checkpoints_but name (x ∷ xs) = if pointwise nat_eq name x.name then xs else x ∷ checkpoints_but name xs

-- one more, the last of all, with this number; and with the whole of a process
abbrev pub keeps_whole : ℕ → List ℕ → Whole → Registry → Registry
keeps_whole n name whole registry = record registry {
  checkpoints = registry.checkpoints ++ record { name = name; space = n; whole = whole } ∷ [];
}

abbrev pub saves : ℕ → List ℕ → Process → Registry → Registry
saves n name process registry = keeps_whole n name (whole_of process) registry

abbrev pub checkpoint_refusals : Bool → Bool → Option ℕ → List (Option Code)
checkpoint_refusals speculating found next = by_speculating speculating ∷ refused_if found NameTaken ∷ by_numbers_used next ∷ []

-- `checkpoint`: the whole is kept, the last of all, with a copy of the process's pages in the ledger
abbrev pub checkpoint_under : Option ℕ → ℕ → List ℕ → Process → Registry → Row
checkpoint_under next p name process registry =
    record (plain_row true None (checkpoint_refusals (is_speculating process) (is_some (checkpoint_named name registry.checkpoints)) next)
    (Copy p (number_in next)) (saves (number_in next) name process registry)) { memory = TakesLast; answer = Saved p name (number_in next) }

abbrev pub checkpoint_row : ℕ → List ℕ → Process → Registry → Row
checkpoint_row p name process registry = checkpoint_under (next_number registry) p name process registry

-- the process is what was kept in a checkpoint that was found
abbrev pub restored : ℕ → Option Checkpoint → Registry → Registry
restored p found registry = option_map_or (λ x. leaves p (process_of x.whole) registry) found registry

abbrev pub restores : ℕ → Bool → Option Checkpoint → Registry → Row
restores p speculating found registry =
    record (plain_row true (Some p) (by_speculating speculating ∷ refused_if (not (is_some found)) NoCheckpoint ∷ []) (option_map_or (λ x. Copy x.space p) found Other) (restored p found registry)) { memory = TakesLast }

-- `restore`: the process is what was kept, with a copy of the checkpoint's pages in the ledger in the place of its own
abbrev pub restore_row : ℕ → List ℕ → Process → Registry → Row
restore_row p name process registry = restores p (is_speculating process) (checkpoint_named name registry.checkpoints) registry

-- a change of a checkpoint: refused where none has the name
abbrev pub on_checkpoint : List ℕ → (Checkpoint → Registry → Row) → Registry → Row
on_checkpoint name row registry = option_map_or (λ x. row x registry) (checkpoint_named name registry.checkpoints) (refused_row NoCheckpoint registry)

-- `forget`: the checkpoint goes, and its pages, of which nothing was translated; the others keep their order
abbrev pub forget_row : List ℕ → Checkpoint → Registry → Row
forget_row name x registry =
    plain_row false (Some x.space) [] (event.Drop x.space) (record registry { checkpoints = checkpoints_but name registry.checkpoints })

-- What a checkpoint makes of a machine.

-- the copying machine with a copy of the pages of a space
abbrev pub with_pages_copied : ℕ → ℕ → Wholes → Wholes
with_pages_copied from to state = record state { ledger = ledger_by (Copy from to) state.ledger }

-- a machine with a space that has the memory of another one, and nothing else changed
pub record IsSaved (from to : ℕ) (old new : Machine) : Type 0 where
  pub memory : memory_of (spaces_of new) to ≡ memory_of (spaces_of old) from
  pub after : wholes new ≡ with_pages_copied from to (wholes old)
  pub there : has_space new to ≡ true
  pub none_awaits : (space_in (spaces_of new) to).awaiting ≡ empty
  pub unmarked : (space_in (spaces_of new) to).speculating ≡ false
  pub processes : new.processes ≡ old.processes
  pub others : StaysBut to old new

-- how a checkpoint's space comes out
abbrev pub SavesSpace : {T : Type 0} → ℕ → ℕ → Machine → Machine → Result T SpaceError → Type 0
SavesSpace from to old new result = CopyEnds from to old new (IsSaved from to old new) result

-- how a space that was just made is entered under a name: after want of memory the space is gone
abbrev pub Enters : {T : Type 0} → ℕ → Machine → Machine → Result T SpaceError → Type 0
Enters q old new (Ok done) = new ≡ old
Enters q old new (Err (Full needed limit)) = ⊥
Enters q old new (Err Memory) = IsDropped q old new

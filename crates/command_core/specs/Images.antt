use Rattle.std.specs.Prelude.{◌≡◌, ℕ, ◌≤◌, nat_lt, Bool, true, false, List, [], ◌∷◌, length, if◌then◌else◌, Option, Some, None, Result, Ok, Err}
use Rattle.std.specs.Option.{is_some, option_map_or}
use Rattle.std.specs.FinMap.{empty}
use Rattle.sizes.specs.declared.TheConstants.{MOST_FILE_BYTES}
use Rattle.ledger.specs.Alike.{AreAlike}
use Rattle.ledger.specs.Events.{Event}
use Rattle.space_maps.specs.Spaces.{space_in}
use Rattle.overlay_pages.specs.State.{memory_of}
use Rattle.overlay_memory.specs.declared.error.SpaceError.{SpaceError}
use Rattle.image_lines.specs.Lines.{printed}
use Rattle.image_lines.specs.Said.{said_by}
use Rattle.delta_image.specs.declared.delta.Delta.{Delta}
use Rattle.delta_image.specs.Applied.{applied, gathered}
use Rattle.delta_image.specs.Fine.{Ascend, IsPlain}
use Rattle.delta_image.specs.Image.{image_of}
use Rattle.delta_image.specs.Said.{delta_of}
use Rattle.delta_spaces.specs.Built.{import_of}
use Rattle.sizes.specs.declared.TheConstants.{MOST_SPACE_PAGES}
use Rattle.machine_core.specs.Process.{Whole}
use Rattle.machine_core.specs.declared.process.Process as declared
use Rattle.machine_core.specs.Machine.{Machine, StaysBut, has_space, spaces_of, wholes}
use Rattle.report_text.specs.declared.answer.Answer.{Answer}
use Rattle.report_text.specs.declared.answer.Answer.TheVariants.{Imported, Memory, Refused}
use Rattle.report_text.specs.declared.answer.Code.{Code}
use Rattle.report_text.specs.declared.answer.Code.TheVariants.{BadImage, ImageLine, NameTaken, NoCheckpoint, TooLarge}
use Rattle.command_core.specs.declared.imaging.ExportError.{ExportError}
use Rattle.command_core.specs.declared.imaging.ExportError.TheVariants as unmade
use Rattle.command_core.specs.declared.imaging.TheConstants.{MOST_EXPORTED}
use Rattle.command_core.specs.State.{Checkpoint, Registry, next_number}
use Rattle.command_core.specs.Rows.{Row, TakesFirst, event_needs, is_event_full, ledger_by, plain_row, refused_row}
use Rattle.command_core.specs.Refusals.{by_numbers_used, number_in}
use Rattle.command_core.specs.Copies.{EventEnds}
use Rattle.command_core.specs.Checkpoints.{checkpoint_named, keeps_whole}

-- Checkpoints as images: how one is told by its difference from another one, and how one is made of that.

-- the delta of a whole over another one, and what it makes of that
abbrev pub delta_between : Whole → Whole → Delta
delta_between whole base = gathered whole.state whole.registers whole.memory base.memory

abbrev pub applied_whole : Delta → Whole → Whole
applied_whole delta base = record { registers = delta.regs; state = delta.state; memory = applied delta base.memory }

unfoldable pub image_between : Whole → Whole → List ℕ
image_between whole base = image_of (delta_between whole base)

-- `export`: the image of a checkpoint over another one; refused where one of them isn't there, and where the image is too large
abbrev pub short_enough : List ℕ → Result (List ℕ) Code
short_enough image = if nat_lt MOST_EXPORTED (length image) then Err (TooLarge (length image)) else Ok image

abbrev pub exported_of : Option Checkpoint → Option Checkpoint → Result (List ℕ) Code
exported_of None base = Err NoCheckpoint
exported_of (Some x) None = Err NoCheckpoint
exported_of (Some x) (Some y) = short_enough (image_between x.whole y.whole)

abbrev pub exported_by : List ℕ → List ℕ → List Checkpoint → Result (List ℕ) Code
exported_by name base checkpoints = exported_of (checkpoint_named name checkpoints) (checkpoint_named base checkpoints)

-- how a call answers it: the image, a refusal, or want of memory where it isn't refused
abbrev pub IsOkResult : Result (List ℕ) Code → Type 0
IsOkResult (Ok image) = Unit {0}
IsOkResult (Err code) = ⊥

abbrev pub Exports : {V : Type 0} → (V → List ℕ) → Result (List ℕ) Code → Result V ExportError → Type 0
Exports view wanted (Ok image) = wanted ≡ Ok (view image)
Exports view wanted (Err (unmade.Refused code)) = wanted ≡ Err code
Exports view wanted (Err unmade.Memory) = IsOkResult wanted

-- What a file says: the delta of an image; or why it isn't taken, its first line that isn't well formed before all else.
abbrev pub delta_or_code : Option Delta → Result Delta Code
delta_or_code None = Err BadImage
delta_or_code (Some delta) = Ok delta

abbrev pub delta_by : Result (List ℕ) ℕ → Result Delta Code
delta_by (Ok bytes) = delta_or_code (delta_of bytes)
delta_by (Err k) = Err (ImageLine k)

abbrev pub delta_said : List ℕ → Result Delta Code
delta_said file = delta_by (said_by file)

-- `import`: a checkpoint of this name, the last of all, with the whole that a file's delta makes of a base
abbrev pub import_under : Option ℕ → List ℕ → Delta → Checkpoint → Registry → Row
import_under next name delta base registry =
    record (plain_row true None (by_numbers_used next ∷ []) (import_of base.space (number_in next) delta)
    (keeps_whole (number_in next) name (applied_whole delta base.whole) registry))
    { memory = TakesFirst; answer = Imported name (number_in next) (length delta.pages) }

abbrev pub import_by : Result Delta Code → List ℕ → Checkpoint → Registry → Row
import_by (Ok delta) name base registry = import_under (next_number registry) name delta base registry
import_by (Err code) name base registry = record (refused_row code registry) { memory = TakesFirst }

abbrev pub import_over : Option Checkpoint → List ℕ → List ℕ → Registry → Row
import_over found name file registry = option_map_or (λ base. import_by (delta_said file) name base registry) found (refused_row NoCheckpoint registry)

abbrev pub import_where : Bool → List ℕ → List ℕ → List ℕ → Registry → Row
import_where taken name base file registry =
    if taken then refused_row NameTaken registry else import_over (checkpoint_named base registry.checkpoints) name file registry

abbrev pub import_row : List ℕ → List ℕ → List ℕ → Registry → Row
import_row name base file registry = import_where (is_some (checkpoint_named name registry.checkpoints)) name base file registry

-- how a file is read: the delta that it says, which an image may have; why it isn't taken; or there was no memory
pub record IsSaid (file : List ℕ) (delta : Delta) : Type 0 where
  pub said : delta_said file ≡ Ok delta
  pub few : length delta.pages ≤ MOST_SPACE_PAGES
  pub pages : Ascend IsPlain 0 delta.pages

abbrev pub ReadsDelta : List ℕ → Result Delta Answer → Type 0
ReadsDelta file (Ok delta) = IsSaid file delta
ReadsDelta file (Err (Refused code)) = delta_said file ≡ Err code
ReadsDelta file (Err Memory) = Unit {0}
ReadsDelta file (Err answer) = ⊥

-- What is exported is imported as what it is of: the lines of the image are a file, which says the delta, and that makes the whole of the base.
pub record ComesBack (whole base : Whole) (image : List ℕ) : Type 0 where
  pub small : length (printed image) ≤ MOST_FILE_BYTES
  pub said : delta_said (printed image) ≡ Ok (delta_between whole base)
  pub back : applied_whole (delta_between whole base) base ≡ whole

abbrev pub ComeBack : List ℕ → List ℕ → List Checkpoint → List ℕ → Type 0
ComeBack name base checkpoints image =
    (x y : Checkpoint) → checkpoint_named name checkpoints ≡ Some x → checkpoint_named base checkpoints ≡ Some y → ComesBack x.whole y.whole image

abbrev pub AreExported : {V : Type 0} → Whole → Whole → (V → List ℕ) → Result V ExportError → Type 0
AreExported whole base view (Ok image) = ComesBack whole base (view image)
AreExported whole base view (Err error) = Unit {0}

-- the process that a delta is of, all but its memory
abbrev pub process_said : Delta → declared.Process
process_said delta = record { regs = delta.regs; state = delta.state; saved = None }

-- What an import makes of a machine: a space with the memory that a delta makes of another one's, and nothing else changed.
pub record IsImported (from to : ℕ) (delta : Delta) (old new : Machine) : Type 0 where
  pub memory : memory_of (spaces_of new) to ≡ applied delta (memory_of (spaces_of old) from)
  pub ledger : AreAlike (wholes new).ledger (ledger_by (import_of from to delta) (wholes old).ledger)
  pub there : has_space new to ≡ true
  pub none_awaits : (space_in (spaces_of new) to).awaiting ≡ empty
  pub unmarked : (space_in (spaces_of new) to).speculating ≡ false
  pub processes : new.processes ≡ old.processes
  pub frames : (wholes new).frames ≡ (wholes old).frames
  pub extension : (wholes new).extension ≡ (wholes old).extension
  pub translations : (wholes new).translations ≡ (wholes old).translations
  pub shown : (wholes new).processes ≡ (wholes old).processes
  pub others : StaysBut to old new

-- how it comes out
abbrev pub ImportsSpace : {T : Type 0} → ℕ → ℕ → Delta → Machine → Machine → Result T SpaceError → Type 0
ImportsSpace from to delta old new result = EventEnds (import_of from to delta) old new (IsImported from to delta old new) result

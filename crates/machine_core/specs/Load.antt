use Rattle.std.specs.Prelude.{◌≡◌, ℕ, ◌+◌, nat_lt, Bool, true, false, List, [], ◌∷◌, ◌++◌, length, map, replicate, if◌then◌else◌, Result, Ok, Err, None}
use Rattle.std.specs.List.{range_with_len}
use Rattle.std.specs.FinMap.{from_entries, insert}
use Rattle.sizes.specs.declared.TheConstants.{STACK_PAGE, STACK_PAGES, STACK_POINTER}
use Rattle.ovl_io.specs.Memory.{Memory, Page}
use Rattle.ovl_io.specs.declared.process_state.ProcessState.TheVariants.{Running}
use Rattle.elf_loader.specs.Fields.{entry_address}
use Rattle.elf_loader.specs.Image.{page_length, image_pages, image_page, is_stored}
use Rattle.ledger.specs.Ledger.{Ledger}
use Rattle.ledger.specs.Events.{Load, ledger_after}
use Rattle.ledger.specs.Units.{units}
use Rattle.overlay_memory.specs.declared.error.SpaceError.{SpaceError}
use Rattle.overlay_memory.specs.declared.error.SpaceError.TheVariants.{Full, Memory as NoMemory}
use Rattle.rv_execute.specs.Registers.{first_registers}
use Rattle.overlay_memory.specs.View.{NoneAwaits}
use Rattle.machine_core.specs.Process.{Process}
use Rattle.machine_core.specs.Machine.{AreLike, Machine, StandsFor, StaysBut, Wholes, has_space, unit_limit, lists_of, shown_process, spaces_of, wholes}

-- What a load makes of a file that is taken.

-- the last pages of all, which are the stack
unfoldable pub stack_pages : List ℕ
stack_pages = range_with_len STACK_PAGE STACK_PAGES

-- a zero page; one of the stack may be read and written
abbrev pub zero_content : ℕ → Page
zero_content perms = record { perms = perms; bytes = replicate page_length 0 }

abbrev pub stack_page : Page
stack_page = zero_content 6

-- the pages of the image, and the stack
abbrev pub image_memory : List ℕ → Memory
image_memory file = from_entries (map (λ page. (page, image_page file page)) (image_pages file) ++ map (λ page. (page, stack_page)) stack_pages)

-- all of them, ascending, each with whether it is stored
unfoldable pub load_pages : List ℕ → List (ℕ × Bool)
load_pages file = map (λ page. (page, is_stored file page)) (image_pages file) ++ map (λ page. (page, false)) stack_pages

-- how many pages that is, and how many are stored
abbrev pub page_count : List ℕ → ℕ
page_count file = length (image_pages file) + STACK_PAGES

abbrev pub stored_count : List Bool → ℕ
stored_count [] = 0
stored_count (mark ∷ marks) = (if mark then 1 else 0) + stored_count marks

unfoldable pub stored_pages : List ℕ → ℕ
stored_pages file = stored_count (map (is_stored file) (image_pages file))

-- the process, at its entry
abbrev pub loaded_process : List ℕ → Process
loaded_process file =
    record { registers = first_registers (entry_address file) STACK_POINTER; state = Running; memory = image_memory file; kept = None }

-- the ledger with its pages, and how many units that needs
unfoldable pub loaded_ledger : ℕ → List ℕ → Ledger → Ledger
loaded_ledger p file ledger = ledger_after (Load p (load_pages file)) ledger

abbrev pub load_needs : ℕ → List ℕ → Wholes → ℕ
load_needs p file state = units (loaded_ledger p file state.ledger)

-- whether there aren't as many
abbrev pub is_load_full : ℕ → List ℕ → Wholes → Bool
is_load_full p file state = nat_lt (unit_limit state.frames) (load_needs p file state)

-- the copying machine with that process under a number
abbrev pub with_loaded : ℕ → List ℕ → Wholes → Wholes
with_loaded p file state = record state { processes = insert state.processes p (loaded_process file); ledger = loaded_ledger p file state.ledger }

-- a machine with that process, its space, and nothing else changed
pub record IsLoaded (p : ℕ) (file : List ℕ) (old new : Machine) : Type 0 where
  pub like : AreLike (wholes new) (with_loaded p file (wholes old))
  pub processes : new.processes ≡ insert old.processes p (shown_process (loaded_process file))
  pub there : has_space new p ≡ true
  pub none_awaits : NoneAwaits (spaces_of new) p
  pub others : StaysBut p old new

-- the same spaces, translations and processes, and the same extension
abbrev pub IsAsBefore : Machine → Machine → Type 0
IsAsBefore old new =
    (spaces_of new ≡ spaces_of old) × (lists_of new ≡ lists_of old) × (new.processes ≡ old.processes) × (new.extension ≡ old.extension)

-- How a load comes out: full exactly where the units of the ledger after it exceed the limit, and then nothing changes. Want of
-- memory comes only where they don't.
abbrev pub Loads : ℕ → List ℕ → Machine → Machine → Result ℕ SpaceError → Type 0
Loads p file old new (Ok n) = (n ≡ page_count file) × (is_load_full p file (wholes old) ≡ false) × IsLoaded p file old new
Loads p file old new (Err (Full needed limit)) =
    (needed ≡ load_needs p file (wholes old)) × (limit ≡ unit_limit (wholes old).frames) × (is_load_full p file (wholes old) ≡ true) × (new ≡ old)
Loads p file old new (Err NoMemory) = (is_load_full p file (wholes old) ≡ false) × IsAsBefore old new

-- the same of each state that the machine stood for
abbrev pub LoadsAs : ℕ → List ℕ → Machine → Machine → Result ℕ SpaceError → Type 0
LoadsAs p file old new (Ok n) =
    (state : Wholes) → StandsFor old state → (is_load_full p file state ≡ false) × StandsFor new (with_loaded p file state)
LoadsAs p file old new (Err (Full needed limit)) =
    (state : Wholes) → StandsFor old state
    → (needed ≡ load_needs p file state) × (limit ≡ unit_limit state.frames) × (is_load_full p file state ≡ true) × StandsFor new state
LoadsAs p file old new (Err NoMemory) =
    (state : Wholes) → StandsFor old state → (is_load_full p file state ≡ false) × StandsFor new state

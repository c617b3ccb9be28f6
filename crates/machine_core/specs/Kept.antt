use Rattle.std.specs.Prelude.{◌≡◌, ◌<◌, ℕ, Bool, true, false}
use Rattle.std.specs.Option.{option_map_or, is_some}
use Rattle.std.specs.Ordering.{nat_cmp}
use Rattle.std.specs.FinMap.{FinMap, get}
use Rattle.ascending_numbers.specs.Numbers.{Numbers, is_in}
use Rattle.overlay_pages.specs.State.{State, books}
use Rattle.overlay_memory.specs.View.{TranslatedView, state_of, translations_of}
use Rattle.translation_cache.specs.Bare.{BareTranslations}
use Rattle.space_maps.specs.Spaces.{holds_space, space_in}
use Rattle.machine_core.specs.Process.{runs}
use Rattle.machine_core.specs.Machine.{KeepsPlaces, LeadsTo, Machine, StaysBut, Wholes, whole_in}
use Rattle.machine_core.specs.Turns.{Guest}
use Rattle.machine_core.specs.BareTurns.{bytes_asked}
use Rattle.machine_core.specs.declared.view.View.{View}
use Rattle.machine_core.specs.declared.process.Process as declared

-- What a machine keeps: the memories of spaces, processes by number, and the numbers of those that run.

-- processes by number
abbrev pub KeptProcesses : Type 0
KeptProcesses = FinMap nat_cmp declared.Process

-- the machine that they are with a memory, with extension M or without
abbrev pub machine_of : Bool → TranslatedView → KeptProcesses → Machine
machine_of extension memory processes = record { memory = memory; processes = processes; extension = extension }

-- whether there is a process of that number, and it runs
abbrev pub runs_at : KeptProcesses → ℕ → Bool
runs_at processes p = option_map_or (λ (process : declared.Process). runs process.state) (get processes p) false

-- how many bytes what that process asks for may write
abbrev pub room_at : KeptProcesses → ℕ → ℕ
room_at processes p = option_map_or (λ (process : declared.Process). bytes_asked process.regs) (get processes p) 0

-- a process that is kept, in its place
abbrev pub guest_seen : Bool → ℕ → State → BareTranslations → declared.Process → Guest
guest_seen extension p spaces translations process =
    record { process = whole_in spaces p process; ledger = books spaces; frames = spaces.frames; extension = extension; translations = translations }

abbrev pub guest_in : Bool → ℕ → TranslatedView → declared.Process → Guest
guest_in extension p memory process = guest_seen extension p (state_of memory) (translations_of memory) process

-- the same in the space that is lent
abbrev pub guest_lent : Bool → View → declared.Process → Guest
guest_lent extension view process = guest_in extension view.space view.memory.now process

-- each other space is as it was, and the same ones are there
pub record IsBeside (p : ℕ) (old new : State) : Type 0 where
  pub spaces : (q : ℕ) → (q ≡ p → ⊥) → space_in new q ≡ space_in old q
  pub there : (q : ℕ) → holds_space new q ≡ holds_space old q
  pub awaiting : (space_in new p).awaiting ≡ (space_in old p).awaiting
  pub mark : (space_in new p).speculating ≡ (space_in old p).speculating

-- A process was changed with its space: each state that the machine stood for leads to one that it stands for, each other space and
-- process is as it was, and the same ones are there.
pub record IsChanged (p : ℕ) (old new : Machine) (after : Wholes → Wholes) : Type 0 where
  pub stands : LeadsTo after old new
  pub others : StaysBut p old new
  pub places : KeepsPlaces old new

-- The list of running numbers: those of the processes that run, and with room for each process that there is.
pub record IsRunningList (processes : KeptProcesses) (running : Numbers) : Type 0 where
  pub listed : (q : ℕ) → is_in running.items q ≡ runs_at processes q
  pub room : (q : ℕ) → is_some (get processes q) ≡ true → q < running.room

-- the same, but that it may be wrong of one number
pub record IsListBut (p : ℕ) (processes : KeptProcesses) (running : Numbers) : Type 0 where
  pub listed : (q : ℕ) → (q ≡ p → ⊥) → is_in running.items q ≡ runs_at processes q
  pub room : (q : ℕ) → is_some (get processes q) ≡ true → q < running.room

use Rattle.std.specs.Prelude.{◌≡◌, ℕ, ◌*◌, nat_le, Bool, true, false, List, map, if◌then◌else◌, Option, Some, None}
use Rattle.std.specs.List.{filter}
use Rattle.std.specs.Option.{is_some, option_map, option_map_or, unwrap_or}
use Rattle.std.specs.Ordering.{nat_cmp}
use Rattle.std.specs.FinMap.{FinMap, get, insert, remove, entries}
use Rattle.number_maps.specs.Views.{viewed}
use Rattle.sizes.specs.declared.TheConstants.{FRAME_UNITS}
use Rattle.ledger.specs.Ledger.{Ledger}
use Rattle.ledger.specs.Alike.{AreAlike}
use Rattle.overlay_pages.specs.State.{State, base_of, books, memory_of}
use Rattle.overlay_memory.specs.View.{NoneAwaits, TranslatedView, state_of, translations_of}
use Rattle.translation_cache.specs.Bare.{BareTranslations}
use Rattle.translation_cache.specs.Translations.{flushed}
use Rattle.ovl_io.specs.Memory.{Memory}
use Rattle.ovl_io.specs.declared.process_state.ProcessState.{ProcessState}
use Rattle.ovl_io.specs.declared.process_state.ProcessState.TheVariants.{Running}
use Rattle.rv_execute.specs.Registers.{Registers, first_registers}
use Rattle.space_maps.specs.Spaces.{cut_space, holds_space, space_in}
use Rattle.machine_core.specs.Process.{Process, Whole, runs}
use Rattle.machine_core.specs.declared.process.Process as declared
use Rattle.machine_core.specs.declared.process.SavedRegs.{SavedRegs}

-- Whole processes by number: each with a memory of its own.
abbrev pub Processes : Type 0
Processes = FinMap nat_cmp Process

-- The copying machine: whole processes by number, with the ledger of the pages of all spaces, how many frames there are, whether it has
-- extension M, and the pages that were translated last, with their counts.
pub record Wholes : Type 0 where
  pub processes : Processes
  pub ledger : Ledger
  pub frames : ℕ
  pub extension : Bool
  pub translations : BareTranslations

-- how many units there may be
abbrev pub unit_limit : ℕ → ℕ
unit_limit frames = FRAME_UNITS * frames

-- The machine has the memories of spaces by number, and processes by number, each with its registers and its state. A process
-- has the space of its own number. What its words mean goes by whether it has extension M.
pub record Machine : Type 0 where
  pub memory : TranslatedView
  pub processes : FinMap nat_cmp declared.Process
  pub extension : Bool

-- what its memories are, page by page
abbrev pub spaces_of : Machine → State
spaces_of machine = state_of machine.memory

-- and which pages were translated last
abbrev pub lists_of : Machine → BareTranslations
lists_of machine = translations_of machine.memory

-- whether a space is there
abbrev pub has_space : Machine → ℕ → Bool
has_space machine p = holds_space (spaces_of machine) p

-- what is saved of a whole: all but its memory
abbrev pub saved_of : Whole → SavedRegs
saved_of whole = record { regs = whole.registers; state = whole.state }

-- what is shown of a process: all but its memory, and what is saved of the whole that is kept
abbrev pub shown_process : Process → declared.Process
shown_process process = record { regs = process.registers; state = process.state; saved = option_map saved_of process.kept }

-- what stands for what is saved where a space is marked and nothing is, which no session comes to
unfoldable pub none_saved : SavedRegs
none_saved = record { regs = first_registers 0 0; state = Running }

-- a whole, of what is saved and a memory
abbrev pub kept_whole : Memory → SavedRegs → Whole
kept_whole memory saved = record { registers = saved.regs; state = saved.state; memory = memory }

-- what is kept of a process: where its space is marked as speculating, what is saved with the base of that space
abbrev pub kept_in : State → ℕ → Option SavedRegs → Option Whole
kept_in spaces p saved =
    if (space_in spaces p).speculating then Some (kept_whole (base_of spaces p) (unwrap_or saved none_saved)) else None

-- a process with the space of its number; with no page, where that isn't there
abbrev pub whole_in : State → ℕ → declared.Process → Process
whole_in spaces p process =
    record { registers = process.regs; state = process.state; memory = memory_of spaces p; kept = kept_in spaces p process.saved }

-- the whole processes, and all of the copying machine that a machine shows
unfoldable pub processes_of : Machine → Processes
processes_of machine = viewed (λ p process. whole_in (spaces_of machine) p process) machine.processes

abbrev pub wholes : Machine → Wholes
wholes machine =
    record {
      processes = processes_of machine;
      ledger = books (spaces_of machine);
      frames = (spaces_of machine).frames;
      extension = machine.extension;
      translations = lists_of machine;
    }

-- states of the copying machine that differ in the numbers of origins alone
pub record AreLike (a b : Wholes) : Type 0 where
  pub processes : a.processes ≡ b.processes
  pub ledger : AreAlike a.ledger b.ledger
  pub frames : a.frames ≡ b.frames
  pub extension : a.extension ≡ b.extension
  pub translations : a.translations ≡ b.translations

-- The machine stands for a state of the copying machine: the processes are that state's, memories included, the frames are
-- as many, extension M is there or not, the translations are the same, and the ledgers are alike.
abbrev pub StandsFor : Machine → Wholes → Type 0
StandsFor machine state = AreLike (wholes machine) state

-- what is answered is the answer of each state that the machine stands for
abbrev pub AnswersAs : {Answer : Type 0} → (Wholes → Answer) → Machine → Answer → Type 0
AnswersAs answer machine result = (state : Wholes) → StandsFor machine state → result ≡ answer state

-- of each state that the machine stood for, it stands for the one that it leads to
abbrev pub LeadsTo : (Wholes → Wholes) → Machine → Machine → Type 0
LeadsTo after old new = (state : Wholes) → StandsFor old state → StandsFor new (after state)

-- each other space and process is as it was
pub record StaysBut (p : ℕ) (old new : Machine) : Type 0 where
  pub spaces : (q : ℕ) → (q ≡ p → ⊥) → space_in (spaces_of new) q ≡ space_in (spaces_of old) q
  pub there : (q : ℕ) → (q ≡ p → ⊥) → has_space new q ≡ has_space old q
  pub processes : (q : ℕ) → (q ≡ p → ⊥) → get new.processes q ≡ get old.processes q

-- whether the space of a number is marked as speculating, and whether registers and state are kept of its process
abbrev pub is_marked : Machine → ℕ → Bool
is_marked machine p = (space_in (spaces_of machine) p).speculating

abbrev pub has_saved : Machine → ℕ → Bool
has_saved machine p = option_map_or (λ (process : declared.Process). is_some process.saved) (get machine.processes p) false

-- the same spaces and the same processes are there, the same pages await being shared, and the same ones are speculating
pub record KeepsPlaces (old new : Machine) : Type 0 where
  pub spaces : (q : ℕ) → has_space new q ≡ has_space old q
  pub awaiting : (q : ℕ) → (space_in (spaces_of new) q).awaiting ≡ (space_in (spaces_of old) q).awaiting
  pub processes : (q : ℕ) → is_some (get new.processes q) ≡ is_some (get old.processes q)
  pub marks : (q : ℕ) → is_marked new q ≡ is_marked old q
  pub saves : (q : ℕ) → has_saved new q ≡ has_saved old q

-- a process in its place, over the space that it has
abbrev pub with_process_at : Machine → ℕ → declared.Process → Machine
with_process_at machine p process = record machine { processes = insert machine.processes p process }

-- a process taken away, whose space stays
abbrev pub without_process_at : Machine → ℕ → Machine
without_process_at machine p = record machine { processes = remove machine.processes p }

-- with extension M or without it; all else stays
abbrev pub with_extension : Bool → Wholes → Wholes
with_extension extension state = record state { extension = extension }

abbrev pub with_extension_at : Machine → Bool → Machine
with_extension_at machine extension = record machine { extension = extension }

-- with another memory
abbrev pub with_memory : Machine → TranslatedView → Machine
with_memory machine memory = record machine { memory = memory }

-- the space of a number is given up; nothing else changes
pub record IsDropped (p : ℕ) (old new : Machine) : Type 0 where
  pub spaces : spaces_of new ≡ cut_space (spaces_of old) p
  pub lists : lists_of new ≡ flushed p (lists_of old)
  pub processes : new.processes ≡ old.processes
  pub extension : new.extension ≡ old.extension

-- the numbers of the processes that run, ascending
abbrev pub running_among : Processes → List ℕ
running_among processes = map (λ e. e.0) (filter (λ e. runs e.1.state) (entries processes))

abbrev pub running_numbers : Wholes → List ℕ
running_numbers state = running_among state.processes

-- the numbers of the processes that are not below one, ascending
abbrev pub keys_from : ℕ → Wholes → List ℕ
keys_from from state = map (λ e. e.0) (filter (λ e. nat_le from e.0) (entries state.processes))

-- whether there is a process of that number, and it runs
abbrev pub runs_among : Processes → ℕ → Bool
runs_among processes p = option_map_or (λ process. runs process.state) (get processes p) false

abbrev pub is_running : Wholes → ℕ → Bool
is_running state p = runs_among state.processes p

abbrev pub shown_at : Wholes → ℕ → Option declared.Process
shown_at state p = option_map shown_process (get state.processes p)

-- the registers and the state of a process; of that of a number; and of what is shown of one
abbrev pub registers_of : Process → Registers × ProcessState
registers_of process = (process.registers, process.state)

abbrev pub registers_at : Wholes → ℕ → Option (Registers × ProcessState)
registers_at state p = option_map registers_of (get state.processes p)

abbrev pub registers_shown : Option declared.Process → Option (Registers × ProcessState)
registers_shown found = option_map (λ (process : declared.Process). (process.regs, process.state)) found

-- the space of each process that runs is there, and no page of it awaits being shared
pub record HaveSpaces (machine : Machine) : Type 0 where
  pub there : (p : ℕ) → is_running (wholes machine) p ≡ true → has_space machine p ≡ true
  pub none_awaits : (p : ℕ) → is_running (wholes machine) p ≡ true → NoneAwaits (spaces_of machine) p

-- the copying machine without a process
abbrev pub without_process : ℕ → Wholes → Wholes
without_process p state = record state { processes = remove state.processes p }

-- without the pages of a space in the ledger, and without translations of them
abbrev pub without_memory : ℕ → Wholes → Wholes
without_memory p state = record state { ledger = remove state.ledger p; translations = flushed p state.translations }

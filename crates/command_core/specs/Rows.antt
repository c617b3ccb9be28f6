use Rattle.std.specs.Prelude.{ℕ, nat_lt, ◌&&◌, not, Bool, true, false, if◌then◌else◌, List, [], ◌∷◌, Option, Some, None}
use Rattle.std.specs.Option.{is_some, option_map_or}
use Rattle.ledger.specs.Ledger.{Ledger}
use Rattle.ledger.specs.Events.{Event, Other, ledger_after}
use Rattle.ledger.specs.Units.{units}
use Rattle.translation_cache.specs.Bare.{BareTranslations}
use Rattle.translation_cache.specs.Translations.{flushed}
use Rattle.machine_core.specs.Machine.{Wholes, unit_limit}
use Rattle.report_text.specs.declared.answer.Answer.{Answer}
use Rattle.report_text.specs.declared.answer.Answer.TheVariants.{Done, Refused, Full}
use Rattle.report_text.specs.declared.answer.Code.{Code}
pub use Rattle.elf_loader.specs.Accepted.{first_refusal, refused_if}
use Rattle.command_core.specs.State.{Registry, State, registry_of, with_registry}

-- Changes of the copying machine, as rows, and the one rule of what a row comes to.

-- When a change may want memory: never; where nothing else refuses it; or at any time, since the file that it reads takes memory
-- before its refusals are found.
pub data MemoryTaken : Type 0 where
  TakesNone : MemoryTaken
  TakesLast : MemoryTaken
  TakesFirst : MemoryTaken

-- A change: its refusals in their order, when it may want memory, what happens to the ledger and whether that may need units, the process
-- whose translations it removes, what it answers, and what it leaves.
pub record Row : Type 0 where
  pub refusals : List (Option Code)
  pub memory : MemoryTaken
  pub event : Event
  pub may_need_units : Bool
  pub flushes : Option ℕ
  pub answer : Answer
  pub after : Registry

-- one that takes no memory and answers that it is done
abbrev pub plain_row : Bool → Option ℕ → List (Option Code) → Event → Registry → Row
plain_row may_need_units flushes refusals event after = record {
  refusals = refusals;
  memory = TakesNone;
  event = event;
  may_need_units = may_need_units;
  flushes = flushes;
  answer = Done;
  after = after;
}

-- nothing is done, and nothing refused; and nothing but a refusal
abbrev pub still_row : Registry → Row
still_row = plain_row false None [] Other

abbrev pub refused_row : Code → Registry → Row
refused_row code = plain_row false None (Some code ∷ []) Other

-- a row that goes by what is registered alone, in a state
abbrev pub registered : (Registry → Row) → State → Row
registered row state = row (registry_of state)

-- the ledger after an event, how many units that needs, and whether there aren't as many
unfoldable pub ledger_by : Event → Ledger → Ledger
ledger_by event ledger = ledger_after event ledger

-- the translations without those of a process
abbrev pub flushed_by : Option ℕ → BareTranslations → BareTranslations
flushed_by None translations = translations
flushed_by (Some p) translations = flushed p translations

abbrev pub event_needs : Event → Wholes → ℕ
event_needs event wholes = units (ledger_by event wholes.ledger)

abbrev pub is_event_full : Event → Wholes → Bool
is_event_full event wholes = nat_lt (unit_limit wholes.frames) (event_needs event wholes)

abbrev pub row_is_full : Row → State → Bool
row_is_full row state = row.may_need_units && is_event_full row.event state.wholes

-- What a change comes to: its answer, and the state of a machine after it.
pub record Changed (S : Type 0) : Type 0 where
  pub answer : Answer
  pub after : S

-- a refusal changes nothing, and neither does a change for which there aren't units enough: both numbers are told
abbrev pub refuses : {S : Type 0} → Code → S → Changed S
refuses code state = record { answer = Refused code; after = state }

abbrev pub falls_short : Row → State → Changed State
falls_short row state = record { answer = Full (event_needs row.event state.wholes) (unit_limit state.wholes.frames); after = state }

abbrev pub accepts : Row → State → Changed State
accepts row state = record {
  answer = row.answer;
  after = with_registry row.after (ledger_by row.event state.wholes.ledger) (flushed_by row.flushes state.wholes.translations) state;
}

-- The rule: the first refusal; or that there aren't units enough; or the row's answer, and the state after it.
abbrev pub within_units : Row → State → Changed State
within_units row state = if row_is_full row state then falls_short row state else accepts row state

abbrev pub change_by : Row → State → Changed State
change_by row state = option_map_or (λ code. refuses code state) (first_refusal row.refusals) (within_units row state)

-- whether a change may want memory
abbrev pub wants_by : MemoryTaken → Bool → Bool → Bool
wants_by TakesNone refused full = false
wants_by TakesLast refused full = not refused && not full
wants_by TakesFirst refused full = true

abbrev pub may_want_memory : Row → State → Bool
may_want_memory row state = wants_by row.memory (is_some (first_refusal row.refusals)) (row_is_full row state)

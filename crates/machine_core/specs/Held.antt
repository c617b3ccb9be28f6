use Rattle.std.specs.Prelude.{◌≡◌, ℕ, ◌+◌, ◌*◌, ◌/◌, ◌%◌, ◌^◌, ◌<◌, ◌≤◌, ◌⊎◌, nat_lt, length, Bool, true, false, List, [], ◌∷◌, Option, Some, None}
use Rattle.std.specs.FinSet.{contains}
use Rattle.sizes.specs.declared.TheConstants.{LINE_BYTES, PAGE_BYTES, PAGE_LINES}
use Rattle.breakpoints.specs.Breakpoints.{Addresses}
use Rattle.overlay_bits.specs.Lines.{has_line}
use Rattle.decoded_lines.specs.declared.TheConstants.{LINE_WORDS}
use Rattle.ovl_io.specs.Memory.{denied_at}
use Rattle.ovl_io.specs.declared.process_state.ProcessState.TheVariants.{Running}
use Rattle.rv_decode.specs.Encodable.{IsEncodableBy}
use Rattle.rv_decode.specs.Meaning.{meaning_by}
use Rattle.rv_decode.specs.declared.instruction.Instr.{Instr}
use Rattle.rv_execute.specs.Calls.{Call, Fetch, fetch_at, word_at}
use Rattle.rv_execute.specs.declared.action.Action.{Action}
use Rattle.rv_execute.specs.declared.action.Action.TheVariants as action
use Rattle.rv_execute.specs.declared.outcome.Outcome.{Outcome}
use Rattle.rv_execute.specs.declared.outcome.Outcome.TheVariants.{Stepped, Asked, Fault, Full}
use Rattle.rv_mul.specs.Tables.{table_of}
use Rattle.overlay_memory.specs.View.{TranslatedView, state_of}
use Rattle.overlay_pages.specs.State.{memory_of}
use Rattle.translation_cache.specs.CountedLaws.{IsFront}
use Rattle.machine_core.specs.Access.{IsReadyView, PerformsLent, lists_lent, spaces_lent}
use Rattle.machine_core.specs.Ahead.{guest_ahead}
use Rattle.machine_core.specs.Executions.{Comes, ComesFrom, EndsWith, executions}
use Rattle.machine_core.specs.InHand.{IsLineHeld, KeepsHand}
use Rattle.machine_core.specs.Kept.{IsBeside, guest_in, guest_lent}
use Rattle.machine_core.specs.declared.process.Process.{Process}
use Rattle.machine_core.specs.declared.hand.Hand.{Hand}
use Rattle.machine_core.specs.declared.view.View.{View}

-- The lines that instructions are taken from, decoded.

-- Lines of a page stand among those that are decoded.
abbrev pub IsInHand : List (List ℕ) → TranslatedView → ℕ → Hand → Type 0
IsInHand lines memory space hand =
    (line : ℕ) → line < PAGE_LINES → has_line hand.known line ≡ true
    → (hand.start % PAGE_BYTES ≡ 0) × IsLineHeld lines memory space (hand.start + LINE_BYTES * line)

-- The line of an address is one of them. Where the page has lines, what its start is says that the address is aligned.
pub record HasLine (hand : Hand) (address : ℕ) : Type 0 where
  pub start : hand.start ≡ PAGE_BYTES * (address / PAGE_BYTES) + address % 4
  pub known : has_line hand.known (address / LINE_BYTES % PAGE_LINES) ≡ true

pub record IsReached (lines : List (List ℕ)) (memory : TranslatedView) (space : ℕ) (hand : Hand) (address : ℕ) : Type 0 where
  pub hand_is : IsInHand lines memory space hand
  pub has : HasLine hand address

-- the lines of a page, none where it was another page
abbrev pub IsTurned : ℕ → Hand → Hand → Type 0
IsTurned start old new = (new.start ≡ start) × ((new ≡ old) ⊎ (new ≡ record { start = start; known = []; owed = old.owed }))

-- so many words from an address on lie in one line, and those behind the first are at no stop
abbrev pub AreInLine : ℕ → ℕ → Type 0
AreInLine address count = (address % 4 ≡ 0) × (address / 4 % LINE_WORDS + count ≤ LINE_WORDS)

abbrev pub GoesPast : Addresses → ℕ → ℕ → Type 0
GoesPast stops address count = (k : ℕ) → 0 < k → k < count → contains stops (address + 4 * k) ≡ false

-- A word may be fetched from a page at the front of its list, and stands decoded, with extension M or without.
pub record IsWordAt (extension : Bool) (view : View) (address : ℕ) (word : Instr) : Type 0 where
  pub low : address < 2 ^ 64
  pub aligned : address % 4 ≡ 0
  pub may : denied_at (memory_of (spaces_lent view) view.space) (fetch_at address) ≡ None
  pub front : IsFront view.space (address / PAGE_BYTES) (lists_lent view)
  pub means : Some word ≡ meaning_by (table_of extension).has (word_at (memory_of (spaces_lent view) view.space) address)
  pub encodable : IsEncodableBy (table_of extension).has word

-- What calls made of it where the fetch may be still to be counted.
pub data Makes (k n pc : ℕ) (calls : List Call) (old : View) (full : Option (ℕ × ℕ)) (new : View) : Type 0 where
  AllAsked : n ≡ k → PerformsLent calls old full new → Makes k n pc calls old full new
  FetchOwed : (rest : List Call) → n ≡ k + 1 → calls ≡ Fetch pc ∷ rest → pc % 4 ≡ 0 → IsFront old.space (pc / PAGE_BYTES) (lists_lent old)
      → PerformsLent rest old full new → Makes k n pc calls old full new

-- Whether the next word follows an action that is a step, where so many lines are in hand then.
abbrev pub goes_on : Action → List ℕ → Bool
goes_on (action.Load address size extension) known = nat_lt 0 (length known)
goes_on (action.Store address size value) known = nat_lt 0 (length known)
goes_on (action.Write value) known = true
goes_on (action.Link target) known = false
goes_on (action.Goto target) known = false
goes_on action.Next known = true
goes_on action.Ask known = false
goes_on action.Stop known = false

-- it follows only a step
abbrev pub goes_behind : Outcome → Action → List ℕ → Bool
goes_behind Stepped action known = goes_on action known
goes_behind Asked action known = false
goes_behind (Fault kind address) action known = false
goes_behind (Full units limit) action known = false

-- the next word of a line in hand follows
pub record IsOn (old new : View) (pc next : ℕ) (outcome : Outcome) : Type 0 where
  pub stepped : outcome ≡ Stepped
  pub next_is : next ≡ (pc + 4) % 2 ^ 64
  pub keeps : KeepsHand old new

-- so many more fetches are owed
abbrev pub owing : Hand → ℕ → Hand
owing hand n = record { start = hand.start; known = hand.known; owed = hand.owed + n }

-- What is true behind some steps.
pub record HoldsOn (lines : List (List ℕ)) (view : View) (owed n : ℕ) : Type 0 where
  pub ready : IsReadyView view
  pub hand_is : IsInHand lines view.memory.now view.space view.hand
  pub owes : view.hand.owed ≤ owed + n
  pub some : 0 < n

-- What a run of at most so many instructions leaves, of which so many were steps, and the last came to this: in the space that was lent, with fetches
-- that are still to be counted. The last step may have left the pc at a stop.
pub record HasRun (extension : Bool) (stops : Addresses) (most : ℕ) (lines : List (List ℕ)) (before after : Process) (old new : View) (n : ℕ) (o : Outcome) : Type 0 where
  pub loan : new.memory.ghost_name ≡ old.memory.ghost_name
  pub space : new.space ≡ old.space
  pub came : Comes stops old.space most (guest_ahead old.hand.owed (guest_lent extension old before)) n o (guest_ahead new.hand.owed (guest_lent extension new after))
  pub running : o ≡ Stepped → after.state ≡ Running
  pub goes : o ≡ Stepped → HoldsOn lines new old.hand.owed n
  pub saved : after.saved ≡ before.saved
  pub beside : IsBeside old.space (spaces_lent old) (spaces_lent new)

-- What is so where a line was to come in hand, and where it did: what comes of executions then comes of those before.
pub record HasReached (extension : Bool) (lines : List (List ℕ)) (process : Process) (old new : View) (reached : Bool) : Type 0 where
  pub ready : IsReadyView new
  pub loan : new.memory.ghost_name ≡ old.memory.ghost_name
  pub space : new.space ≡ old.space
  pub spaces : spaces_lent new ≡ spaces_lent old
  pub owed : new.hand.owed ≤ old.hand.owed
  pub taken : reached ≡ true → IsReached lines new.memory.now new.space new.hand process.regs.pc
  pub from : ComesFrom new.space (guest_ahead new.hand.owed (guest_lent extension new process)) old.space (guest_ahead old.hand.owed (guest_lent extension old process))

-- What at most so many executions of a process leave, of which so many were steps, and the last came to this: in the memory of all spaces.
pub record HasExecuted (extension : Bool) (stops : Addresses) (p most : ℕ) (before after : Process) (old new : TranslatedView) (n : ℕ) (o : Outcome) : Type 0 where
  pub ends : EndsWith (executions stops p most (guest_in extension p old before)) n o (guest_in extension p new after)
  pub saved : after.saved ≡ before.saved
  pub beside : IsBeside p (state_of old) (state_of new)

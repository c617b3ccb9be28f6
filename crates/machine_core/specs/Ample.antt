use Rattle.std.specs.Prelude.{◌≡◌, ℕ, ◌==◌, ◌||◌, nat_lt, Bool, true, false, cond, List, [], ◌∷◌, map, Option, Some, None, refl}
use Rattle.std.proofs.Common.{ap, ◌∙◌, arith}
use Rattle.std.proofs.lemmas.Bool.Decides.{nat_tests}
use Rattle.std.specs.Option.{option_map, option_map_or}
use Rattle.std.specs.FinMap.{get}
use Rattle.ledger.specs.Ledger.{Ledger}
use Rattle.ledger.specs.Units.{units}
use Rattle.ledger.specs.AmpleLaws.{AreAmple, ample_suffices}
use Rattle.ovl_io.specs.declared.turn.Turn.{Turn}
use Rattle.ovl_io.specs.declared.turn.Turn.TheVariants.{Stepped, Wrote, Exited, Faulted, Full}
use Rattle.machine_core.specs.Process.{Process}
use Rattle.machine_core.specs.Machine.{AnswersAs, Machine, StandsFor, Wholes, unit_limit}
use Rattle.machine_core.specs.Turns.{Guest, asked_found, exceeds, execution_of, guest_at, guest_of, is_full, ledger_executed, step_of, store_of, turn_asked, turn_in, turn_of, units_needed}
use Rattle.ovl_io.specs.Memory.{Access, Memory, denied_at}
use Rattle.rv_execute.specs.Registers.{Registers, register}
use Rattle.rv_execute.specs.Calls.{access_of, load_at}
use Rattle.rv_execute.specs.Execution.{Upshot, Steps, Asks, Faults}
use Rattle.rv_execute.specs.Step.{Request, buffered, request, altered, write_count}

-- Where the frames are ample for the ledger that an event leads to, the event isn't full.

-- more units than so many frames have are never needed where the frames are ample
pub within_ample : (frames : ℕ) (ledger : Ledger) → AreAmple frames ledger → nat_lt (unit_limit frames) (units ledger) ≡ false
within_ample frames ledger ample = grind (arith, nat_tests, ample_suffices frames ledger ample)

-- the ledger that the next instruction of a process leads to, if there are units enough for that
abbrev pub ledger_altered : ℕ → Wholes → Ledger
ledger_altered p state = option_map_or (ledger_executed p) (guest_at state p) state.ledger

abbrev pub IsAmpleAt : ℕ → Wholes → Type 0
IsAmpleAt p state = AreAmple state.frames (ledger_altered p state)

abbrev pub is_full_turn : Turn → Bool
is_full_turn Stepped = false
is_full_turn (Wrote written) = false
is_full_turn (Exited code) = false
is_full_turn (Faulted kind address) = false
is_full_turn (Full units limit) = true

-- a turn of a machine isn't full where the frames are ample for what it leads to, in any of the states that the machine stands for
abbrev pub IsAmplyTaken : ℕ → Machine → Turn → Type 0
IsAmplyTaken p machine turn = (state : Wholes) → StandsFor machine state → IsAmpleAt p state → is_full_turn turn ≡ false

-- What a process asks for is never full.
cond_fits : (b : Bool) (x y : Request) → is_full_turn x.turn ≡ false → is_full_turn y.turn ≡ false → is_full_turn (cond b x y).turn ≡ false
cond_fits true x y h k = h
cond_fits false x y h k = k

buffered_fits : (o : Option ℕ) (n : ℕ) (regs : Registers) (memory : Memory) (accesses : List Access) → is_full_turn (buffered o n regs memory accesses).turn ≡ false
buffered_fits None n regs memory accesses = cond_fits (n == 0) _ _ refl refl
buffered_fits (Some at) n regs memory accesses = refl

request_fits : (p : ℕ) (regs : Registers) (memory : Memory) → is_full_turn (request p regs memory).turn ≡ false
request_fits p regs memory =
    let buffer = load_at (register regs 11) (write_count regs) in
    cond_fits (register regs 17 == 64) _ _
    (cond_fits ((register regs 10 == 1) || (register regs 10 == 2)) _ _ (buffered_fits (denied_at memory buffer) (write_count regs) regs memory (buffer ∷ [])) refl)
    (cond_fits ((register regs 17 == 93) || (register regs 17 == 94)) _ _ refl (cond_fits (register regs 17 == 172) _ _ refl refl))

pub asked_fits : (state : Wholes) (p : ℕ) → is_full_turn (turn_asked state p) ≡ false
asked_fits state p = by_found (guest_at state p)
  where
    by_found : (o : Option Guest) → is_full_turn (asked_found p o) ≡ false
    by_found None = refl
    by_found (Some guest) = request_fits p guest.process.registers guest.process.memory

-- Neither is a step by itself: it knows of no units.
altered_fits : (p : ℕ) (upshot : Upshot) (regs : Registers) (memory : Memory) (accesses : List Access) → is_full_turn (altered p upshot regs memory accesses).turn ≡ false
altered_fits p Steps regs memory accesses = refl
altered_fits p Asks regs memory accesses = request_fits p regs memory
altered_fits p (Faults kind address) regs memory accesses = refl

pub step_fits : (extension : Bool) (p : ℕ) (process : Process) → is_full_turn (step_of extension p process).turn ≡ false
step_fits extension p process =
    let e = execution_of extension process in
    altered_fits p e.upshot e.registers e.memory (map access_of e.calls)

exceeds_ample : (store : Option (ℕ × ℕ)) (needed limit : ℕ) → nat_lt limit needed ≡ false → exceeds store needed limit ≡ false
exceeds_ample None needed limit fits = refl
exceeds_ample (Some store) needed limit fits = fits

guest_fits : (p : ℕ) (guest : Guest) → AreAmple guest.frames (ledger_executed p guest) → is_full p guest ≡ false
unfolding is_full
guest_fits p guest ample =
    exceeds_ample (store_of guest.extension guest.process) (units_needed p guest) (unit_limit guest.frames) (within_ample guest.frames (ledger_executed p guest) ample)

guest_turn_fits : (p : ℕ) (guest : Guest) (full : Bool) → full ≡ false
    → is_full_turn (cond full (Full (units_needed p guest) (unit_limit guest.frames)) (step_of guest.extension p guest.process).turn) ≡ false
guest_turn_fits p guest true is = cc
guest_turn_fits p guest false is = step_fits guest.extension p guest.process

ample_turn : (p : ℕ) (state : Wholes) → IsAmpleAt p state → is_full_turn (turn_of state p) ≡ false
ample_turn p state = by_process (get state.processes p)
  where
    by_process : (o : Option Process) → AreAmple state.frames (option_map_or (ledger_executed p) (option_map (guest_of state) o) state.ledger)
        → is_full_turn (option_map_or (turn_in p) (option_map (guest_of state) o) Stepped) ≡ false
    by_process None ample = refl
    by_process (Some process) ample =
        guest_turn_fits p (guest_of state process) (is_full p (guest_of state process)) (guest_fits p (guest_of state process) ample)

pub amply_taken : (p : ℕ) (machine : Machine) (turn : Turn) → AnswersAs (λ state. turn_of state p) machine turn → IsAmplyTaken p machine turn
amply_taken p machine turn is state stands ample = ap is_full_turn (is state stands) ∙ ample_turn p state ample

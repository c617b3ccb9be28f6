use Rattle.std.proofs.Common.{◌≡◌, ℕ, zero, suc, ◌+◌, ◌/◌, ◌%◌, ◌==◌, Bool, true, false, cond, sym, ap, subst, ◌∙◌, refl, Option, Some, None, List, [], ◌∷◌}
use Rattle.std.specs.Prelude.{map}
use Rattle.std.specs.Option.{option_map, option_map_or, unwrap_or}
use Rattle.std.specs.FinMap.{empty, get, insert}
use Rattle.number_maps.specs.Keys.{by_key, get_other, get_same}
use Rattle.number_maps.specs.Views.{get_viewed, viewed}
use Rattle.sizes.specs.declared.TheConstants.{PAGE_BYTES}
use Rattle.ovl_io.specs.Memory.{Access, Memory, Page, denied_at, with_byte, with_bytes, with_page_byte}
use Rattle.breakpoints.specs.Breakpoints.{Addresses}
use Rattle.byteorder.specs.Endian.{little_bytes}
use Rattle.rv_decode.specs.declared.instruction.Instr.{Instr}
use Rattle.rv_decode.specs.Meaning.{meaning_by}
use Rattle.rv_execute.specs.declared.action.Action.{Action}
use Rattle.rv_execute.specs.declared.action.Action.TheVariants as action
use Rattle.rv_execute.specs.declared.action.Extension.{Extension}
use Rattle.rv_execute.specs.declared.action.Size.{Size}
use Rattle.ovl_io.specs.declared.process_state.FaultKind.TheVariants as kind
use Rattle.rv_execute.specs.declared.outcome.Outcome.{Outcome}
use Rattle.rv_execute.specs.declared.outcome.Outcome.TheVariants as outcome
use Rattle.rv_execute.specs.Calls.{Call, Fetch, Load, Store, access_of, fetch_at, load_at, store_at, word_at}
use Rattle.rv_execute.specs.Execution.{Asks, Faults, InstructionTable, Steps, Upshot, action_by, after, completed, count_of, decoded_by, effect, execution_by, fault, fetch_effect_by, load_effect, store_effect}
use Rattle.rv_execute.specs.Registers.{Registers, next_pc, with_pc, with_register}
use Rattle.rv_execute.specs.Step.{altered}
use Rattle.rv_mul.specs.Tables.{table_of}
use Rattle.overlay_pages.specs.State.{PageState, SpaceState, State, base_of, base_page, memory_of, seen_page}
use Rattle.space_maps.specs.Spaces.{space_in}
use Rattle.machine_core.specs.declared.process.Process as declared
use Rattle.machine_core.specs.Executions.{Executions, after_executions, all_executed, executions, first_execution, is_at_stop, more_executions, stopped_execution}
use Rattle.machine_core.specs.Laws.{processes_at}
use Rattle.machine_core.specs.Machine.{AreLike, Machine, Processes, Wholes, is_running, kept_whole, none_saved, processes_of, spaces_of, whole_in, wholes}
use Rattle.machine_core.specs.Process.{Process, Whole, runs}
use Rattle.machine_core.specs.Turns.{Guest, after_asked, after_turn, executed, guest_after, guest_answered, guest_at, guest_executed, guest_of, guest_refused, guest_stepped, is_full, outcome_of, with_guest}

-- Laws: turns leave which pages a process has, and their permissions.

-- memories with the same pages, of the same permissions
abbrev pub HaveSamePerms : Memory → Memory → Type 0
HaveSamePerms m n = (q : ℕ) → option_map (λ (page : Page). page.perms) (get n q) ≡ option_map (λ (page : Page). page.perms) (get m q)

-- bytes that are stored
byte_same : (m : Memory) (address value : ℕ) → HaveSamePerms m (with_byte m address value)
byte_same m address value = by_page (get m (address / PAGE_BYTES)) refl
  where
    by_page : (o : Option Page) → get m (address / PAGE_BYTES) ≡ o
        → HaveSamePerms m (option_map_or (λ page. insert m (address / PAGE_BYTES) (with_page_byte (address % PAGE_BYTES) value page)) o m)
    by_page None none q = refl
    by_page (Some page) there q = by_key q (address / PAGE_BYTES)
        (λ same. ap (option_map (λ (page : Page). page.perms)) (get_same m (address / PAGE_BYTES) q (with_page_byte (address % PAGE_BYTES) value page) same)
        ∙ sym (ap (option_map (λ (page : Page). page.perms)) (ap (get m) same ∙ there)))
        (λ other. ap (option_map (λ (page : Page). page.perms)) (get_other m (address / PAGE_BYTES) q (with_page_byte (address % PAGE_BYTES) value page) other))

pub bytes_same : (m : Memory) (address : ℕ) (bytes : List ℕ) → HaveSamePerms m (with_bytes m address bytes)
bytes_same m address [] q = refl
bytes_same m address (b ∷ bytes) q = bytes_same (with_byte m address b) (address + 1) bytes q ∙ byte_same m address b q

-- the base of a space has the pages of its memory
pub base_same : (spaces : State) (p : ℕ) → HaveSamePerms (memory_of spaces p) (base_of spaces p)
unfolding memory_of base_of
base_same spaces p q =
    ap (option_map (λ (page : Page). page.perms)) (get_viewed (λ _ (x : PageState). base_page x) (space_in spaces p).pages q)
    ∙ by_page (get (space_in spaces p).pages q)
    ∙ sym (ap (option_map (λ (page : Page). page.perms)) (get_viewed (λ _ (x : PageState). seen_page x) (space_in spaces p).pages q))
  where
    by_page : (o : Option PageState) → option_map (λ (page : Page). page.perms) (option_map base_page o) ≡ option_map (λ (page : Page). page.perms) (option_map seen_page o)
    by_page None = refl
    by_page (Some x) = refl

-- Turns.

module _ (regs : Registers) (memory : Memory) where
  loaded_same : (o : Option ℕ) (address : ℕ) (size : Size) (extension : Extension) (rd : ℕ) (calls : List Call)
      → HaveSamePerms memory (load_effect o address size extension rd regs memory calls).memory
  loaded_same None address size extension rd calls q = refl
  loaded_same (Some at) address size extension rd calls q = refl

  stored_same : (o : Option ℕ) (address : ℕ) (bytes : List ℕ) (calls : List Call) → HaveSamePerms memory (store_effect o address bytes regs memory calls).memory
  stored_same None address bytes calls = bytes_same memory address bytes
  stored_same (Some at) address bytes calls = λ q. refl

  jumped_same : (b : Bool) (x y : Registers) (target : ℕ)
      → HaveSamePerms memory (cond b (completed (with_pc x target) memory []) (fault y memory kind.Align target [])).memory
  jumped_same true x y target q = refl
  jumped_same false x y target q = refl

  effect_same : (a : Action) (rd : ℕ) → HaveSamePerms memory (effect a rd regs memory).memory
  effect_same (action.Write value) rd q = refl
  effect_same (action.Link target) rd q = jumped_same (target % 4 == 0) (with_register regs rd (next_pc regs)) regs target q
  effect_same (action.Goto target) rd q = jumped_same (target % 4 == 0) regs regs target q
  effect_same (action.Load address size extension) rd q =
      loaded_same (denied_at memory (load_at address (count_of size))) address size extension rd (Load address (count_of size) ∷ []) q
  effect_same (action.Store address size value) rd q =
      let bytes = little_bytes (count_of size) value in
      stored_same (denied_at memory (store_at address (count_of size))) address bytes (Store address bytes ∷ []) q
  effect_same action.Next rd q = refl
  effect_same action.Ask rd q = refl
  effect_same action.Stop rd q = refl

  decoded_same : (table : InstructionTable) (o : Option Instr) → HaveSamePerms memory (decoded_by table o regs memory).memory
  decoded_same table None q = refl
  decoded_same table (Some i) q = effect_same (action_by table i regs) i.rd q

  fetched_same : (table : InstructionTable) (o : Option ℕ) → HaveSamePerms memory (fetch_effect_by table o regs memory).memory
  fetched_same table (Some address) q = refl
  fetched_same table None q = decoded_same table (meaning_by table.has (word_at memory regs.pc)) q

  execution_same : (table : InstructionTable) → HaveSamePerms memory (execution_by table regs memory).memory
  execution_same table = by_pc (regs.pc % 4 == 0)
    where
      by_pc : (b : Bool) → HaveSamePerms memory (cond b (after (Fetch regs.pc) (fetch_effect_by table (denied_at memory (fetch_at regs.pc)) regs memory))
          (fault regs memory kind.Align regs.pc [])).memory
      by_pc true = fetched_same table (denied_at memory (fetch_at regs.pc))
      by_pc false = λ q. refl

-- what a request asks for leaves the memory as it is
altered_memory : (number : ℕ) (u : Upshot) (regs : Registers) (memory : Memory) (accesses : List Access) → (altered number u regs memory accesses).memory ≡ memory
altered_memory number Steps regs memory accesses = refl
altered_memory number Asks regs memory accesses = refl
altered_memory number (Faults kind address) regs memory accesses = refl

module _ (p : ℕ) where
  executed_same : (guest : Guest) → HaveSamePerms guest.process.memory (executed p guest).process.memory
  executed_same guest = by_full (is_full p guest)
    where
      by_full : (b : Bool) → HaveSamePerms guest.process.memory (cond b (guest_refused p guest) (guest_executed p guest)).process.memory
      by_full true = λ q. refl
      by_full false = execution_same guest.process.registers guest.process.memory (table_of guest.extension)

  pub after_same : (guest : Guest) → HaveSamePerms guest.process.memory (guest_after p guest).process.memory
  after_same guest = by_full (is_full p guest)
    where
      table : InstructionTable
      table = table_of guest.extension

      by_full : (b : Bool) → HaveSamePerms guest.process.memory (cond b (guest_refused p guest) (guest_stepped p guest)).process.memory
      by_full true = λ q. refl
      by_full false =
          let e = execution_by (table_of guest.extension) guest.process.registers guest.process.memory in
          subst (HaveSamePerms guest.process.memory) (sym (altered_memory p e.upshot e.registers e.memory (map access_of e.calls)))
          (execution_same guest.process.registers guest.process.memory (table_of guest.extension))

  all_same : (stops : Addresses) (most : ℕ) (guest : Guest) → HaveSamePerms guest.process.memory (all_executed stops p most guest).process.memory
  all_same stops zero guest = λ q. refl
  all_same stops (suc most) guest =
      by_outcome (outcome_of p guest) (executed p guest) (executions stops p most (executed p guest)) (executed_same guest)
      (λ q. all_same stops most (executed p guest) q ∙ executed_same guest q)
    where
      by_stop : (b : Bool) (next : Guest) (others : Executions) → HaveSamePerms guest.process.memory next.process.memory
          → HaveSamePerms guest.process.memory others.after.process.memory
          → HaveSamePerms guest.process.memory (cond b (stopped_execution next) (more_executions others)).after.process.memory
      by_stop true next others same further = same
      by_stop false next others same further = further

      by_outcome : (o : Outcome) (next : Guest) (others : Executions) → HaveSamePerms guest.process.memory next.process.memory
          → HaveSamePerms guest.process.memory others.after.process.memory
          → HaveSamePerms guest.process.memory (first_execution stops o guest next others).after.process.memory
      by_outcome outcome.Stepped next others same further = by_stop (is_at_stop stops next) next others same further
      by_outcome outcome.Asked next others same further = same
      by_outcome (outcome.Fault kind address) next others same further = same
      by_outcome (outcome.Full units limit) next others same further = same

-- A process after turns has pages of the same permissions.
pub record HasLeft (p : ℕ) (before after : Wholes) (process : Process) : Type 0 where
  pub left : Process
  pub there : get after.processes p ≡ Some left
  pub same : HaveSamePerms process.memory left.memory

abbrev pub LeavesPerms : ℕ → Wholes → Wholes → Type 0
LeavesPerms p before after = (process : Process) → get before.processes p ≡ Some process → HasLeft p before after process

module _ (p : ℕ) (state : Wholes) (does : Guest → Guest)
    (same : (process : Process) → get state.processes p ≡ Some process → HaveSamePerms process.memory (does (guest_of state process)).process.memory) where
  pub leaves_perms : LeavesPerms p state (option_map_or (λ guest. with_guest state p (does guest)) (guest_at state p) state)
  leaves_perms process there =
      subst (λ (o : Option Guest). HasLeft p state (option_map_or (λ guest. with_guest state p (does guest)) o state) process)
      (sym (ap (option_map (guest_of state)) there))
      (record {
        left = (does (guest_of state process)).process;
        there = get_same state.processes p p (does (guest_of state process)).process refl;
        same = same process there;
      })

pub turn_leaves : (p : ℕ) (state : Wholes) → LeavesPerms p state (after_turn state p)
turn_leaves p state = leaves_perms p state (guest_after p) (λ process there. after_same p (guest_of state process))

pub asked_leaves : (p : ℕ) (state : Wholes) → LeavesPerms p state (after_asked state p)
asked_leaves p state = leaves_perms p state (guest_answered p) (λ process there q. refl)

pub executions_leave : (p : ℕ) (stops : Addresses) (most : ℕ) (state : Wholes) → LeavesPerms p state (after_executions stops most state p)
executions_leave p stops most state = leaves_perms p state (all_executed stops p most) (λ process there. all_same p stops most (guest_of state process))

-- What a machine has of it.
pub memory_same : (x y : State) (p : ℕ) → space_in x p ≡ space_in y p → memory_of x p ≡ memory_of y p
unfolding memory_of
memory_same x y p same = ap (λ (s : SpaceState). viewed (λ _ (x : PageState). seen_page x) s.pages) same

-- a process that is there has the memory of its space
pub memory_shown : (machine : Machine) (p : ℕ) (process : Process) → get (processes_of machine) p ≡ Some process → process.memory ≡ memory_of (spaces_of machine) p
memory_shown machine p process there = by_found (get machine.processes p) (sym (processes_at machine p) ∙ there)
  where
    by_found : (o : Option declared.Process) → option_map (whole_in (spaces_of machine) p) o ≡ Some process → process.memory ≡ memory_of (spaces_of machine) p
    by_found None shown = cc
    by_found (Some x) shown = sym (ap (λ (o : Option Process). option_map_or (λ (y : Process). y.memory) o empty) shown)

-- what is kept of a process, where a whole is, has the pages of its memory
abbrev pub KeepsBase : Process → Type 0
KeepsBase process = (whole : Whole) → process.kept ≡ Some whole → HaveSamePerms process.memory whole.memory

pub kept_base : (spaces : State) (p : ℕ) (process : declared.Process) → KeepsBase (whole_in spaces p process)
kept_base spaces p process whole is = by_mark (space_in spaces p).speculating is
  where
    by_mark : (mark : Bool) → ◌≡◌ {A = Option Whole} (cond mark (Some (kept_whole (base_of spaces p) (unwrap_or process.saved none_saved))) None) (Some whole)
        → HaveSamePerms (memory_of spaces p) whole.memory
    by_mark true same =
        subst (HaveSamePerms (memory_of spaces p)) (ap (λ (o : Option Whole). option_map_or (λ (w : Whole). w.memory) o empty) same) (base_same spaces p)
    by_mark false same = cc

pub base_shown : (machine : Machine) (p : ℕ) (process : Process) → get (processes_of machine) p ≡ Some process → KeepsBase process
base_shown machine p process there = by_found (get machine.processes p) (sym (processes_at machine p) ∙ there)
  where
    by_found : (o : Option declared.Process) → option_map (whole_in (spaces_of machine) p) o ≡ Some process → KeepsBase process
    by_found None shown = cc
    by_found (Some x) shown =
        subst KeepsBase (ap (λ (o : Option Process). unwrap_or o process) shown) (kept_base (spaces_of machine) p x)

-- After turns of a running process its space has the same pages, with the same permissions.
pub perms_after : (old new : Machine) (p : ℕ) (left : Wholes) → is_running (wholes old) p ≡ true → LeavesPerms p (wholes old) left → AreLike (wholes new) left
    → HaveSamePerms (memory_of (spaces_of old) p) (memory_of (spaces_of new) p)
perms_after old new p left running leaves like = by_found (get (processes_of old) p) refl
  where
    by_found : (o : Option Process) → get (processes_of old) p ≡ o → HaveSamePerms (memory_of (spaces_of old) p) (memory_of (spaces_of new) p)
    by_found None none =
        let stopped : false ≡ true = sym (ap (λ (o : Option Process). option_map_or (λ (x : Process). runs x.state) o false) none) ∙ running in cc
    by_found (Some x) there =
        let after = leaves x there in
        let found : get (processes_of new) p ≡ Some after.left = ap (λ (ps : Processes). get ps p) like.processes ∙ after.there in
        subst (HaveSamePerms (memory_of (spaces_of old) p)) (memory_shown new p after.left found)
        (subst (λ (m : Memory). HaveSamePerms m after.left.memory) (memory_shown old p x there) after.same)

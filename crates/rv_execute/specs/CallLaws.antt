use Rattle.std.specs.Prelude.{◌≡◌, ℕ, ◌%◌, ◌==◌, Bool, true, false, cond, List, [], ◌∷◌, Option, Some, None, refl}
use Rattle.std.proofs.Common.{ap}
use Rattle.ovl_io.specs.Memory.{Memory, denied_at}
use Rattle.ovl_io.specs.declared.process_state.FaultKind.TheVariants as kind
use Rattle.rv_decode.specs.declared.instruction.Instr.{Instr}
use Rattle.rv_decode.specs.Meaning.{meaning_by}
use Rattle.rv_execute.specs.declared.action.Action.{Action}
use Rattle.rv_execute.specs.declared.action.Action.TheVariants as action
use Rattle.rv_execute.specs.declared.action.Extension.{Extension}
use Rattle.rv_execute.specs.declared.action.Size.{Size}
use Rattle.rv_execute.specs.Registers.{Registers, next_pc, with_pc, with_register}
use Rattle.rv_execute.specs.Calls.{Call, Fetch, access_of, fetch_at, load_at, store_at, word_at}
use Rattle.rv_execute.specs.Execution.{Asks, Execution, InstructionTable, action_by, after, completed, count_of, decoded_by, effect, execution, execution_by, fault, fetch_effect_by, load_effect, rv64i, store_effect, word_effect}

-- Laws: the calls that an execution makes. Only the last may fail, and a request has made the fetch alone.

-- the calls of an effect: none, or one
pub data AtMostOne : List Call → Type 0 where
  NoCall : AtMostOne []
  OneCall : (c : Call) → AtMostOne (c ∷ [])

-- the calls of an execution: none; the fetch, which may fail; or it doesn't, and another one is behind it
pub data AreTried (memory : Memory) : List Call → Type 0 where
  NoneTried : AreTried memory []
  OneTried : (c : Call) → AreTried memory (c ∷ [])
  TwoTried : (c d : Call) → denied_at memory (access_of c) ≡ None → AreTried memory (c ∷ d ∷ [])

one_either : (b : Bool) (x y : Execution) → AtMostOne x.calls → AtMostOne y.calls → AtMostOne (cond b x y).calls
one_either true x y h k = h
one_either false x y h k = k

one_load : (o : Option ℕ) (address : ℕ) (size : Size) (extension : Extension) (rd : ℕ) (regs : Registers) (memory : Memory) (c : Call)
    → AtMostOne (load_effect o address size extension rd regs memory (c ∷ [])).calls
one_load None address size extension rd regs memory c = OneCall c
one_load (Some at) address size extension rd regs memory c = OneCall c

one_store : (o : Option ℕ) (address : ℕ) (bytes : List ℕ) (regs : Registers) (memory : Memory) (c : Call)
    → AtMostOne (store_effect o address bytes regs memory (c ∷ [])).calls
one_store None address bytes regs memory c = OneCall c
one_store (Some at) address bytes regs memory c = OneCall c

one_effect : (a : Action) (rd : ℕ) (regs : Registers) (memory : Memory) → AtMostOne (effect a rd regs memory).calls
one_effect (action.Write value) rd regs memory = NoCall
one_effect (action.Link target) rd regs memory =
    one_either (target % 4 == 0) (completed (with_pc (with_register regs rd (next_pc regs)) target) memory []) (fault regs memory kind.Align target []) NoCall NoCall
one_effect (action.Goto target) rd regs memory =
    one_either (target % 4 == 0) (completed (with_pc regs target) memory []) (fault regs memory kind.Align target []) NoCall NoCall
one_effect (action.Load address size extension) rd regs memory = one_load (denied_at memory (load_at address (count_of size))) address size extension rd regs memory _
one_effect (action.Store address size value) rd regs memory = one_store (denied_at memory (store_at address (count_of size))) address _ regs memory _
one_effect action.Next rd regs memory = NoCall
one_effect action.Ask rd regs memory = NoCall
one_effect action.Stop rd regs memory = NoCall

one_decoded : (table : InstructionTable) (o : Option Instr) (regs : Registers) (memory : Memory) → AtMostOne (decoded_by table o regs memory).calls
one_decoded table None regs memory = NoCall
one_decoded table (Some i) regs memory = one_effect (action_by table i regs) i.rd regs memory

behind_fetch : (memory : Memory) (c : Call) (calls : List Call) → denied_at memory (access_of c) ≡ None → AtMostOne calls → AreTried memory (c ∷ calls)
behind_fetch memory c calls may NoCall = OneTried c
behind_fetch memory c calls may (OneCall d) = TwoTried c d may

tried_fetch : (table : InstructionTable) (o : Option ℕ) (regs : Registers) (memory : Memory) → denied_at memory (fetch_at regs.pc) ≡ o → AreTried memory (Fetch regs.pc ∷ (fetch_effect_by table o regs memory).calls)
tried_fetch table (Some at) regs memory is = OneTried (Fetch regs.pc)
tried_fetch table None regs memory is =
    behind_fetch memory (Fetch regs.pc) (word_effect table (word_at memory regs.pc) regs memory).calls is (one_decoded table (meaning_by table.has (word_at memory regs.pc)) regs memory)

pub are_tried_by : (table : InstructionTable) (regs : Registers) (memory : Memory) → AreTried memory (execution_by table regs memory).calls
are_tried_by table regs memory = by_test (regs.pc % 4 == 0)
  where
    by_test : (b : Bool)
        → AreTried memory (cond b (after (Fetch regs.pc) (fetch_effect_by table (denied_at memory (fetch_at regs.pc)) regs memory)) (fault regs memory kind.Align regs.pc [])).calls
    by_test true = tried_fetch table (denied_at memory (fetch_at regs.pc)) regs memory refl
    by_test false = NoneTried

-- An execution that is a request has fetched its word, and left the memory as it was.
pub record IsRequested (memory : Memory) (e : Execution) : Type 0 where
  pub at : ℕ
  pub calls : e.calls ≡ Fetch at ∷ []
  pub may : denied_at memory (fetch_at at) ≡ None
  pub kept : e.memory ≡ memory

record AsksAlone (memory : Memory) (e : Execution) : Type 0 where
  calls : e.calls ≡ []
  kept : e.memory ≡ memory

asks_either : (memory : Memory) (b : Bool) (x y : Execution) → (x.upshot ≡ Asks → AsksAlone memory x) → (y.upshot ≡ Asks → AsksAlone memory y)
    → (cond b x y).upshot ≡ Asks → AsksAlone memory (cond b x y)
asks_either memory true x y h k = h
asks_either memory false x y h k = k

asks_load : (o : Option ℕ) (address : ℕ) (size : Size) (extension : Extension) (rd : ℕ) (regs : Registers) (memory : Memory) (calls : List Call)
    → (load_effect o address size extension rd regs memory calls).upshot ≡ Asks → AsksAlone memory (load_effect o address size extension rd regs memory calls)
asks_load None address size extension rd regs memory calls is = cc
asks_load (Some at) address size extension rd regs memory calls is = cc

asks_store : (o : Option ℕ) (address : ℕ) (bytes : List ℕ) (regs : Registers) (memory : Memory) (calls : List Call)
    → (store_effect o address bytes regs memory calls).upshot ≡ Asks → AsksAlone memory (store_effect o address bytes regs memory calls)
asks_store None address bytes regs memory calls is = cc
asks_store (Some at) address bytes regs memory calls is = cc

asks_effect : (a : Action) (rd : ℕ) (regs : Registers) (memory : Memory) → (effect a rd regs memory).upshot ≡ Asks → AsksAlone memory (effect a rd regs memory)
asks_effect (action.Write value) rd regs memory is = cc
asks_effect (action.Link target) rd regs memory is =
    asks_either memory (target % 4 == 0) (completed (with_pc (with_register regs rd (next_pc regs)) target) memory []) (fault regs memory kind.Align target [])
    (λ h. cc) (λ h. cc) is
asks_effect (action.Goto target) rd regs memory is =
    asks_either memory (target % 4 == 0) (completed (with_pc regs target) memory []) (fault regs memory kind.Align target []) (λ h. cc) (λ h. cc) is
asks_effect (action.Load address size extension) rd regs memory is = asks_load (denied_at memory (load_at address (count_of size))) address size extension rd regs memory _ is
asks_effect (action.Store address size value) rd regs memory is = asks_store (denied_at memory (store_at address (count_of size))) address _ regs memory _ is
asks_effect action.Next rd regs memory is = cc
asks_effect action.Ask rd regs memory is = record { calls = refl; kept = refl }
asks_effect action.Stop rd regs memory is = cc

asks_decoded : (table : InstructionTable) (o : Option Instr) (regs : Registers) (memory : Memory) → (decoded_by table o regs memory).upshot ≡ Asks → AsksAlone memory (decoded_by table o regs memory)
asks_decoded table None regs memory is = cc
asks_decoded table (Some i) regs memory is = asks_effect (action_by table i regs) i.rd regs memory is

asks_fetch : (table : InstructionTable) (o : Option ℕ) (regs : Registers) (memory : Memory) → denied_at memory (fetch_at regs.pc) ≡ o → (fetch_effect_by table o regs memory).upshot ≡ Asks
    → IsRequested memory (after (Fetch regs.pc) (fetch_effect_by table o regs memory))
asks_fetch table (Some at) regs memory may is = cc
asks_fetch table None regs memory may is =
    let alone = asks_decoded table (meaning_by table.has (word_at memory regs.pc)) regs memory is in
    record { at = regs.pc; calls = ap (λ calls. Fetch regs.pc ∷ calls) alone.calls; may = may; kept = alone.kept }

pub is_requested_by : (table : InstructionTable) (regs : Registers) (memory : Memory) → (execution_by table regs memory).upshot ≡ Asks → IsRequested memory (execution_by table regs memory)
is_requested_by table regs memory = by_test (regs.pc % 4 == 0)
  where
    by_test : (b : Bool)
        → (cond b (after (Fetch regs.pc) (fetch_effect_by table (denied_at memory (fetch_at regs.pc)) regs memory)) (fault regs memory kind.Align regs.pc [])).upshot ≡ Asks
        → IsRequested memory (cond b (after (Fetch regs.pc) (fetch_effect_by table (denied_at memory (fetch_at regs.pc)) regs memory)) (fault regs memory kind.Align regs.pc []))
    by_test true is = asks_fetch table (denied_at memory (fetch_at regs.pc)) regs memory refl is
    by_test false is = cc

-- by the table of RV64I
pub are_tried : (regs : Registers) (memory : Memory) → AreTried memory (execution regs memory).calls
are_tried = are_tried_by rv64i

pub is_requested : (regs : Registers) (memory : Memory) → (execution regs memory).upshot ≡ Asks → IsRequested memory (execution regs memory)
is_requested = is_requested_by rv64i

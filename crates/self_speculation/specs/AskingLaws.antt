use Rattle.std.proofs.Common.{◌≡◌, ℕ, ◌%◌, ◌==◌, Bool, true, false, cond, List, [], ◌∷◌, sym, ap, ◌∙◌, refl, Option, Some, None}
use Rattle.std.specs.Option.{option_map}
use Rattle.std.specs.FinMap.{get}
use Rattle.ovl_io.specs.Memory.{Memory, denied_at}
use Rattle.ovl_io.specs.declared.process_state.FaultKind.TheVariants as kind
use Rattle.ovl_io.specs.declared.process_state.ProcessState.TheVariants as state
use Rattle.rv_decode.specs.Meaning.{meaning_by}
use Rattle.rv_decode.specs.declared.instruction.Instr.{Instr}
use Rattle.rv_execute.specs.declared.action.Action.{Action}
use Rattle.rv_execute.specs.declared.action.Action.TheVariants as action
use Rattle.byteorder.specs.Endian.{little_bytes}
use Rattle.rv_execute.specs.declared.action.Extension.{Extension}
use Rattle.rv_execute.specs.declared.action.Size.{Size}
use Rattle.rv_execute.specs.declared.outcome.Outcome.TheVariants.{Asked, Full}
use Rattle.rv_execute.specs.Calls.{Call, Fetch, Load, Store, fetch_at, load_at, store_at, word_at}
use Rattle.rv_execute.specs.Execution.{Asks, Execution, Faults, InstructionTable, Steps, Upshot, action_by, after, completed, count_of, decoded_by, effect, execution_by, fault, fetch_effect_by, load_effect, outcome_by, store_effect}
use Rattle.rv_execute.specs.Registers.{Registers, next, next_pc, with_pc, with_register}
use Rattle.rv_mul.specs.Tables.{table_of}
use Rattle.machine_core.specs.Process.{Process, is_speculating}
use Rattle.machine_core.specs.Machine.{Wholes, unit_limit}
use Rattle.machine_core.specs.Turns.{Guest, came_to, exceeds, executed, execution_of, guest_executed, guest_of, guest_refused, is_full, ledger_executed, ledger_stored, outcome_found, outcome_of, process_executed, state_executed, store_made, store_of, translations_executed, units_needed}

-- An execution that is a request: its word was fetched, and nothing changed but that the pc is behind it.
pub record IsAtRequest (registers : Registers) (memory : Memory) (e : Execution) : Type 0 where
  pub behind : e.registers ≡ next registers
  pub kept : e.memory ≡ memory
  pub calls : e.calls ≡ Fetch registers.pc ∷ []
  pub may : denied_at memory (fetch_at registers.pc) ≡ None

record IsRequestAlone (registers : Registers) (memory : Memory) (e : Execution) : Type 0 where
  behind : e.registers ≡ next registers
  kept : e.memory ≡ memory
  calls : e.calls ≡ []

module _ (regs : Registers) (memory : Memory) where
  either : (b : Bool) (x y : Execution) → (x.upshot ≡ Asks → ⊥) → (y.upshot ≡ Asks → ⊥) → (cond b x y).upshot ≡ Asks → ⊥
  either true x y h k = h
  either false x y h k = k

  load_never : (o : Option ℕ) (address rd : ℕ) (size : Size) (extension : Extension) (calls : List Call) → (load_effect o address size extension rd regs memory calls).upshot ≡ Asks → ⊥
  load_never None address rd size extension calls h = cc
  load_never (Some at) address rd size extension calls h = cc

  store_never : (o : Option ℕ) (address : ℕ) (bytes : List ℕ) (calls : List Call) → (store_effect o address bytes regs memory calls).upshot ≡ Asks → ⊥
  store_never None address bytes calls h = cc
  store_never (Some at) address bytes calls h = cc

  effect_asks : (a : Action) (rd : ℕ) → (effect a rd regs memory).upshot ≡ Asks → IsRequestAlone regs memory (effect a rd regs memory)
  effect_asks (action.Write value) rd is = cc
  effect_asks (action.Link target) rd is =
      absurd (either (target % 4 == 0) (completed (with_pc (with_register regs rd (next_pc regs)) target) memory []) (fault regs memory kind.Align target []) (λ h. cc) (λ h. cc) is)
  effect_asks (action.Goto target) rd is =
      absurd (either (target % 4 == 0) (completed (with_pc regs target) memory []) (fault regs memory kind.Align target []) (λ h. cc) (λ h. cc) is)
  effect_asks (action.Load address size extension) rd is =
      absurd (load_never (denied_at memory (load_at address (count_of size))) address rd size extension (Load address (count_of size) ∷ []) is)
  effect_asks (action.Store address size value) rd is =
      let bytes = little_bytes (count_of size) value in
      absurd (store_never (denied_at memory (store_at address (count_of size))) address bytes (Store address bytes ∷ []) is)
  effect_asks action.Next rd is = cc
  effect_asks action.Ask rd is = record { behind = refl; kept = refl; calls = refl }
  effect_asks action.Stop rd is = cc

  module _ (table : InstructionTable) where
    decoded_asks : (o : Option Instr) → (decoded_by table o regs memory).upshot ≡ Asks → IsRequestAlone regs memory (decoded_by table o regs memory)
    decoded_asks None is = cc
    decoded_asks (Some i) is = effect_asks (action_by table i regs) i.rd is

    fetch_asks : (o : Option ℕ) → denied_at memory (fetch_at regs.pc) ≡ o → (fetch_effect_by table o regs memory).upshot ≡ Asks
        → IsAtRequest regs memory (after (Fetch regs.pc) (fetch_effect_by table o regs memory))
    fetch_asks (Some at) may is = cc
    fetch_asks None may is =
        let alone = decoded_asks (meaning_by table.has (word_at memory regs.pc)) is in
        record { behind = alone.behind; kept = alone.kept; calls = ap (λ (calls : List Call). Fetch regs.pc ∷ calls) alone.calls; may = may }

    pub asks_at : (execution_by table regs memory).upshot ≡ Asks → IsAtRequest regs memory (execution_by table regs memory)
    asks_at = by_test (regs.pc % 4 == 0)
      where
        by_test : (b : Bool)
            → (cond b (after (Fetch regs.pc) (fetch_effect_by table (denied_at memory (fetch_at regs.pc)) regs memory)) (fault regs memory kind.Align regs.pc [])).upshot ≡ Asks
            → IsAtRequest regs memory (cond b (after (Fetch regs.pc) (fetch_effect_by table (denied_at memory (fetch_at regs.pc)) regs memory)) (fault regs memory kind.Align regs.pc []))
        by_test true is = fetch_asks (denied_at memory (fetch_at regs.pc)) refl is
        by_test false is = cc

-- A process whose execution came to a request.
module _ (s : Wholes) (p : ℕ) (process : Process) (there : get s.processes p ≡ Some process) (came : came_to s p ≡ Asked) where
  abbrev guest : Guest
  guest = guest_of s process

  abbrev e : Execution
  e = execution_of s.extension process

  outcome_is : outcome_of p guest ≡ Asked
  outcome_is = sym (ap (λ (o : Option Process). outcome_found p (option_map (guest_of s) o)) there) ∙ came

  pub enough : is_full p guest ≡ false
  enough = by_full (is_full p guest) refl
    where
      by_full : (b : Bool) → is_full p guest ≡ b → b ≡ false
      by_full false is = refl
      by_full true is =
          let both = sym (ap (λ f. cond f (Full (units_needed p guest) (unit_limit s.frames)) (outcome_by e.upshot)) is) ∙ outcome_is in cc

  pub asks : e.upshot ≡ Asks
  asks = by_upshot e.upshot (sym (ap (λ f. cond f (Full (units_needed p guest) (unit_limit s.frames)) (outcome_by e.upshot)) enough) ∙ outcome_is)
    where
      by_upshot : (u : Upshot) → outcome_by u ≡ Asked → u ≡ Asks
      by_upshot Steps is = cc
      by_upshot Asks is = refl
      by_upshot (Faults kind address) is = cc

  pub at_request : IsAtRequest process.registers process.memory e
  at_request = asks_at process.registers process.memory (table_of s.extension) asks

  -- the process behind the request
  abbrev behind : Process
  behind = record { registers = next process.registers; state = state.Running; memory = process.memory; kept = process.kept }

  process_is : process_executed s.extension process ≡ behind
  process_is = λ i. record { registers = at_request.behind i; state = state_executed (asks i); memory = at_request.kept i; kept = process.kept }

  ledger_is : ledger_executed p guest ≡ s.ledger
  unfolding ledger_executed store_of
  ledger_is = ap (λ calls. ledger_stored p (is_speculating process) (store_made process.memory calls) s.ledger) at_request.calls

  pub executed_is : executed p guest ≡ record guest { process = behind; translations = translations_executed p guest }
  executed_is =
      ap (λ b. cond b (guest_refused p guest) (guest_executed p guest)) enough
      ∙ (λ i. record guest { process = process_is i; ledger = ledger_is i; translations = translations_executed p guest })

-- An execution that asks is a request: it makes no store for which there may not be units enough.
module _ (s : Wholes) (p : ℕ) (process : Process) where
  pub asked_by : (execution_of s.extension process).upshot ≡ Asks → outcome_of p (guest_of s process) ≡ Asked
  unfolding is_full store_of
  asked_by asks_it =
      let guest = guest_of s process in
      let e = execution_of s.extension process in
      let at = asks_at process.registers process.memory (table_of s.extension) asks_it in
      ap (λ calls. cond (exceeds (store_made process.memory calls) (units_needed p guest) (unit_limit s.frames)) (Full (units_needed p guest) (unit_limit s.frames)) (outcome_by e.upshot)) at.calls
      ∙ ap outcome_by asks_it

use Rattle.std.proofs.Common.{◌≡◌, ℕ, ◌+◌, ◌%◌, ◌==◌, Bool, true, cond, List, [], ◌∷◌, length, nat_lt, inl, inr, Option, Some, None, sym, ap, subst, ◌∙◌, refl}
use Rattle.byteorder.specs.Endian.{little_bytes}
use Rattle.ovl_io.specs.Memory.{Memory, denied_at}
use Rattle.ovl_io.specs.declared.process_state.FaultKind.TheVariants as kind
use Rattle.rv_decode.specs.Meaning.{meaning_by}
use Rattle.rv_decode.specs.declared.instruction.Instr.{Instr}
use Rattle.rv_execute.specs.Calls.{Call, Fetch, Load, Store, fetch_at, load_at, store_at, word_at}
use Rattle.rv_execute.specs.Execution.{Execution, Executes, InstructionTable, Steps, action_by, after, count_of, decoded_by, effect, execution_by, fault, fetch_effect_by, full_in, load_effect, store_effect}
use Rattle.rv_execute.specs.Registers.{Registers, next_pc}
use Rattle.rv_execute.specs.declared.action.Action.{Action}
use Rattle.rv_execute.specs.declared.action.Action.TheVariants as action
use Rattle.rv_execute.specs.declared.action.Extension.{Extension}
use Rattle.rv_execute.specs.declared.action.Size.{Size}
use Rattle.rv_execute.specs.declared.outcome.Outcome.{Outcome}
use Rattle.rv_execute.specs.declared.outcome.Outcome.TheVariants as outcome
use Rattle.rv_mul.specs.Tables.{table_of}
use Rattle.overlay_pages.specs.State.{memory_of}
use Rattle.machine_core.specs.Access.{PerformsLent, spaces_lent}
use Rattle.machine_core.specs.Held.{IsOn, IsWordAt, Makes, goes_behind, goes_on}
use Rattle.machine_core.specs.InHand.{KeepsHand, StaysInHand}
use Rattle.machine_core.specs.declared.hand.Hand.{Hand}
use Rattle.machine_core.specs.declared.view.View.{View}
use Rattle.machine_core.proofs.Accessing.{performed}
use Rattle.machine_core.proofs.Staying.{keeps_same}

-- An instruction whose word was fetched: the execution is what its action does, behind the fetch.

pub fetched : (table : InstructionTable) (regs : Registers) (memory : Memory) → regs.pc % 4 ≡ 0
    → execution_by table regs memory ≡ after (Fetch regs.pc) (fetch_effect_by table (denied_at memory (fetch_at regs.pc)) regs memory)
fetched table regs memory aligned =
    ap (λ n. cond (n == 0) (after (Fetch regs.pc) (fetch_effect_by table (denied_at memory (fetch_at regs.pc)) regs memory)) (fault regs memory kind.Align regs.pc [])) aligned

meant : (table : InstructionTable) (regs : Registers) (memory : Memory) (o : Option Instr) → regs.pc % 4 ≡ 0 → denied_at memory (fetch_at regs.pc) ≡ None
    → o ≡ meaning_by table.has (word_at memory regs.pc) → execution_by table regs memory ≡ after (Fetch regs.pc) (decoded_by table o regs memory)
meant table regs memory o aligned may means =
    fetched table regs memory aligned ∙ ap (λ o. after (Fetch regs.pc) (fetch_effect_by table o regs memory)) may
    ∙ ap (λ o. after (Fetch regs.pc) (decoded_by table o regs memory)) (sym means)

-- where loads and stores are steps, pc goes 4 on
load_next : (o : Option ℕ) (address : ℕ) (size : Size) (extension : Extension) (rd : ℕ) (regs : Registers) (memory : Memory) (calls : List Call)
    → (load_effect o address size extension rd regs memory calls).upshot ≡ Steps
    → (load_effect o address size extension rd regs memory calls).registers.pc ≡ next_pc regs
load_next None address size extension rd regs memory calls is = refl
load_next (Some at) address size extension rd regs memory calls is = cc

store_next : (o : Option ℕ) (address : ℕ) (bytes : List ℕ) (regs : Registers) (memory : Memory) (calls : List Call)
    → (store_effect o address bytes regs memory calls).upshot ≡ Steps
    → (store_effect o address bytes regs memory calls).registers.pc ≡ next_pc regs
store_next None address bytes regs memory calls is = refl
store_next (Some at) address bytes regs memory calls is = cc

-- an action that was done, behind which lines are in hand
pub keeps_some : (old new : View) → StaysInHand old new → nat_lt 0 (length new.hand.known) ≡ true → KeepsHand old new
keeps_some old new (inl keeps) some = keeps
keeps_some old new (inr none) some = absurd (let lacks = ap (λ (h : Hand). nat_lt 0 (length h.known)) none in let both = sym lacks ∙ some in cc)

module _ (old new : View) (full : Option (ℕ × ℕ)) (regs : Registers) (rd next : ℕ) where
  abbrev lent : Memory
  lent = memory_of (spaces_lent old) old.space

  abbrev Follows : Action → Type 0
  Follows a = (effect a rd regs lent).upshot ≡ Steps → next ≡ (effect a rd regs lent).registers.pc → PerformsLent (effect a rd regs lent).calls old full new
      → goes_on a new.hand.known ≡ true → (next ≡ next_pc regs) × KeepsHand old new

  stays : (a : Action) → PerformsLent (effect a rd regs lent).calls old full new → StaysInHand old new
  stays a made = (performed (effect a rd regs lent).calls old new full made).same.hand

  follows : (a : Action) → Follows a
  follows (action.Write value) steps goes made on = (goes, keeps_same old new made.1)
  follows (action.Link target) steps goes made on = cc
  follows (action.Goto target) steps goes made on = cc
  follows (action.Load address size extension) steps goes made on = (
    goes ∙ load_next (denied_at lent (load_at address (count_of size))) address size extension rd regs lent (Load address (count_of size) ∷ []) steps,
    keeps_some old new (stays (action.Load address size extension) made) on,
  )
  follows (action.Store address size value) steps goes made on = (
    goes ∙ store_next (denied_at lent (store_at address (count_of size))) address (little_bytes (count_of size) value) regs lent
        (Store address (little_bytes (count_of size) value) ∷ []) steps,
    keeps_some old new (stays (action.Store address size value) made) on,
  )
  follows action.Next steps goes made on = (goes, keeps_same old new made.1)
  follows action.Ask steps goes made on = cc
  follows action.Stop steps goes made on = cc

-- the next word follows a step alone
on_step : (o : Outcome) (a : Action) (known : List ℕ) → goes_behind o a known ≡ true → (o ≡ outcome.Stepped) × (goes_on a known ≡ true)
on_step outcome.Stepped a known is = (refl, is)
on_step outcome.Asked a known is = cc
on_step (outcome.Fault kind address) a known is = cc
on_step (outcome.Full units limit) a known is = cc

-- Its word stands decoded, and the fetch is still to be counted: its action was done.
module _ (extension : Bool) (regs : Registers) (view : View) (i : Instr) (word : IsWordAt extension view regs.pc i) (a : Action) (a_is : a ≡ action_by (table_of extension) i regs) (new : View)
    (left : Registers) (result : Outcome) (done : Executes (effect a i.rd regs (memory_of (spaces_lent view) view.space)) regs (memory_of (spaces_lent view) view.space) left (memory_of (spaces_lent new) new.space) result)
    (made : PerformsLent (effect a i.rd regs (memory_of (spaces_lent view) view.space)).calls view (full_in result) new) where
  abbrev table : InstructionTable
  table = table_of extension

  abbrev memory : Memory
  memory = memory_of (spaces_lent view) view.space

  known : execution_by table regs memory ≡ after (Fetch regs.pc) (effect a i.rd regs memory)
  known =
      meant table regs memory (Some i) word.aligned word.may word.means
      ∙ ap (λ a. after (Fetch regs.pc) (effect a i.rd regs memory)) (sym a_is)

  pub done_known : Executes (execution_by table regs memory) regs memory left (memory_of (spaces_lent new) new.space) result
  done_known = subst (λ (e : Execution). Executes e regs memory left (memory_of (spaces_lent new) new.space) result) (sym known) done

  pub made_known : (n : ℕ) → Makes n (n + 1) regs.pc (execution_by table regs memory).calls view (full_in result) new
  made_known n = Makes.FetchOwed (effect a i.rd regs memory).calls refl (ap (λ (e : Execution). e.calls) known) word.aligned word.front made

  pub on_known : goes_behind result a new.hand.known ≡ true → IsOn view new regs.pc left.pc result
  on_known goes =
      let is = on_step result a new.hand.known goes in
      let steps = subst (Executes (effect a i.rd regs memory) regs memory left (memory_of (spaces_lent new) new.space)) is.0 done in
      let all = follows view new (full_in result) regs i.rd left.pc a steps.0 (ap (λ (r : Registers). r.pc) steps.1) made is.1 in
      record { stepped = is.0; next_is = all.0; keeps = all.1 }

use Rattle.std.specs.Prelude.{◌≡◌, ℕ, Bool, ◌%◌, ◌^◌, ◌==◌, List, [], ◌∷◌, Option, Some, None, Result, Ok, Err, if◌then◌else◌}
use Rattle.std.specs.Int.{w8, w16, w32, w64, cast_signed, cast_unsigned}
use Rattle.byteorder.specs.Endian.{little_number, little_bytes}
use Rattle.ovl_io.specs.Memory.{Memory, bytes_at, denied_at, with_bytes}
use Rattle.ovl_io.specs.declared.process_state.FaultKind.{FaultKind}
use Rattle.ovl_io.specs.declared.process_state.FaultKind.TheVariants as kind
use Rattle.rv_decode.specs.declared.instruction.Instr.{Instr}
use Rattle.rv_decode.specs.declared.names.Name.{Name}
use Rattle.rv_decode.specs.Meaning.{meaning_by}
use Rattle.rv_decode.specs.Table.{is_base}
use Rattle.rv_execute.specs.declared.action.Action.{Action}
use Rattle.rv_execute.specs.declared.action.Action.TheVariants as action
use Rattle.rv_execute.specs.declared.action.Size.{Size}
use Rattle.rv_execute.specs.declared.action.Size.TheVariants.{Byte, Half, Word, Double}
use Rattle.rv_execute.specs.declared.action.Extension.{Extension}
use Rattle.rv_execute.specs.declared.action.Extension.TheVariants.{Zero, Sign}
use Rattle.rv_execute.specs.declared.memory.Denied.{Denied}
use Rattle.rv_execute.specs.declared.outcome.Outcome.{Outcome}
use Rattle.rv_execute.specs.declared.outcome.Outcome.TheVariants.{Stepped, Asked, Fault, Full}
use Rattle.rv_execute.specs.Registers.{Registers, register, with_register, with_pc, next_pc, next}
use Rattle.rv_execute.specs.Rows.{action_of}
use Rattle.rv_execute.specs.Calls.{Call, Fetch, Load, Store, fetch_at, load_at, store_at, word_at}

-- What one instruction does to registers and a whole memory. A request to the machine (ECALL) is left to whoever asked.

-- What comes of an instruction: it is done, it is a request to the machine, or it can't be done. That a store was refused for
-- want of units is no part of it: that comes from the memory alone.
pub data Upshot : Type 0 where
  Steps : Upshot
  Asks : Upshot
  Faults : FaultKind → ℕ → Upshot

-- the registers and the memory afterwards, what comes of it, and the calls of the memory, in order
pub record Execution : Type 0 where
  pub registers : Registers
  pub memory : Memory
  pub upshot : Upshot
  pub calls : List Call

-- an instruction that is done
abbrev pub completed : Registers → Memory → List Call → Execution
completed regs memory calls = record { registers = regs; memory = memory; upshot = Steps; calls = calls }

-- one that can't be done leaves everything as it was
abbrev pub fault : Registers → Memory → FaultKind → ℕ → List Call → Execution
fault regs memory kind address calls = record { registers = regs; memory = memory; upshot = Faults kind address; calls = calls }

-- how many bytes
abbrev pub count_of : Size → ℕ
count_of Byte = 1
count_of Half = 2
count_of Word = 4
count_of Double = 8

-- the low bits of a number, so many bytes of them, with their sign extended
abbrev pub signed : Size → ℕ → ℕ
signed Byte n = cast_unsigned w64 (cast_signed w8 (n % 2 ^ 8))
signed Half n = cast_unsigned w64 (cast_signed w16 (n % 2 ^ 16))
signed Word n = cast_unsigned w64 (cast_signed w32 (n % 2 ^ 32))
signed Double n = n

-- the 64-bit number of a load_effect one
abbrev pub extended : Extension → Size → ℕ → ℕ
extended Zero size n = n
extended Sign size n = signed size n

-- what a load answers, with the number that it gives
abbrev pub ReadsNumber : Memory → ℕ → Size → Extension → Result ℕ Denied → Type 0
ReadsNumber memory address size extension (Ok n) =
    (denied_at memory (load_at address (count_of size)) ≡ None)
    × (n ≡ extended extension size (little_number (count_of size) (bytes_at memory address (count_of size))))
ReadsNumber memory address size extension (Err denied) = denied_at memory (load_at address (count_of size)) ≡ Some denied.address

-- a load whose access fails there, or doesn't
abbrev pub load_effect : Option ℕ → ℕ → Size → Extension → ℕ → Registers → Memory → List Call → Execution
load_effect (Some at) address size extension rd regs memory calls = fault regs memory kind.Load at calls
load_effect None address size extension rd regs memory calls =
    completed (next (with_register regs rd (extended extension size (little_number (count_of size) (bytes_at memory address (count_of size)))))) memory calls

-- a store of some bytes, likewise
abbrev pub store_effect : Option ℕ → ℕ → List ℕ → Registers → Memory → List Call → Execution
store_effect (Some at) address bytes regs memory calls = fault regs memory kind.Store at calls
store_effect None address bytes regs memory calls = completed (next regs) (with_bytes memory address bytes) calls

-- what an action does, where rd is the register that gets its result. A jump faults where its target isn't a multiple of 4,
-- and then writes no register.
abbrev pub effect : Action → ℕ → Registers → Memory → Execution
effect (action.Write value) rd regs memory = completed (next (with_register regs rd value)) memory []
effect (action.Link target) rd regs memory =
    if target % 4 == 0
    then completed (with_pc (with_register regs rd (next_pc regs)) target) memory []
    else fault regs memory kind.Align target []
effect (action.Goto target) rd regs memory =
    if target % 4 == 0 then completed (with_pc regs target) memory [] else fault regs memory kind.Align target []
effect (action.Load address size extension) rd regs memory =
    load_effect (denied_at memory (load_at address (count_of size))) address size extension rd regs memory (Load address (count_of size) ∷ [])
effect (action.Store address size value) rd regs memory =
    let bytes = little_bytes (count_of size) value in
    store_effect (denied_at memory (store_at address (count_of size))) address bytes regs memory (Store address bytes ∷ [])
effect action.Next rd regs memory = completed (next regs) memory []
effect action.Ask rd regs memory = record { registers = next regs; memory = memory; upshot = Asks; calls = [] }
effect action.Stop rd regs memory = fault regs memory kind.Break regs.pc []

-- A table of instructions: which names have a row in it, and what each row does with the value of rs1, that of rs2, the immediate as
-- a number of 64 bits and pc.
pub record InstructionTable : Type 0 where
  pub has : Name → Bool
  pub action : Name → ℕ → ℕ → ℕ → ℕ → Action

-- that of RV64I
abbrev pub rv64i : InstructionTable
rv64i = record { has = is_base; action = action_of }

-- the action of an instruction on these registers
abbrev pub action_by : InstructionTable → Instr → Registers → Action
action_by table i regs = table.action i.name (register regs i.rs1) (register regs i.rs2) (cast_unsigned w64 i.imm) regs.pc

-- what follows where the word means this
abbrev pub decoded_by : InstructionTable → Option Instr → Registers → Memory → Execution
decoded_by table None regs memory = fault regs memory kind.Illegal regs.pc []
decoded_by table (Some i) regs memory = effect (action_by table i regs) i.rd regs memory

-- what follows where the fetch fails there, or doesn't
abbrev pub fetch_effect_by : InstructionTable → Option ℕ → Registers → Memory → Execution
fetch_effect_by table (Some address) regs memory = fault regs memory kind.Fetch address []
fetch_effect_by table None regs memory = decoded_by table (meaning_by table.has (word_at memory regs.pc)) regs memory

-- with a call before the others
abbrev pub after : Call → Execution → Execution
after call e = record { registers = e.registers; memory = e.memory; upshot = e.upshot; calls = call ∷ e.calls }

-- In order: a pc that isn't a multiple of 4, the fetch, a word that means nothing by the table, and then the row's effect.
abbrev pub execution_by : InstructionTable → Registers → Memory → Execution
execution_by table regs memory =
    if regs.pc % 4 == 0
    then after (Fetch regs.pc) (fetch_effect_by table (denied_at memory (fetch_at regs.pc)) regs memory)
    else fault regs memory kind.Align regs.pc []

-- what follows where the fetch gave this word
abbrev pub word_effect : InstructionTable → ℕ → Registers → Memory → Execution
word_effect table word regs memory = decoded_by table (meaning_by table.has word) regs memory

-- all these of RV64I
abbrev pub action_on : Instr → Registers → Action
action_on i regs = action_by rv64i i regs

abbrev pub decoded : Option Instr → Registers → Memory → Execution
decoded o regs memory = decoded_by rv64i o regs memory

abbrev pub fetch_effect : Option ℕ → Registers → Memory → Execution
fetch_effect o regs memory = fetch_effect_by rv64i o regs memory

abbrev pub execution : Registers → Memory → Execution
execution regs memory = execution_by rv64i regs memory

-- what an outcome names where it is for want of units
abbrev pub full_in : Outcome → Option (ℕ × ℕ)
full_in Stepped = None
full_in Asked = None
full_in (Fault kind address) = None
full_in (Full units limit) = Some (units, limit)

-- the outcome of an instruction of which no store was refused for want of units
abbrev pub outcome_by : Upshot → Outcome
outcome_by Steps = Stepped
outcome_by Asks = Asked
outcome_by (Faults kind address) = Fault kind address

-- What comes of executing an instruction: what it does, unless a store of it was refused for want of units; then nothing
-- has changed.
abbrev pub Executes : Execution → Registers → Memory → Registers → Memory → Outcome → Type 0
Executes e old old_memory new new_memory (Full units limit) = (e.upshot ≡ Steps) × (new ≡ old) × (new_memory ≡ old_memory)
Executes e old old_memory new new_memory Stepped = (e.upshot ≡ Steps) × (new ≡ e.registers) × (new_memory ≡ e.memory)
Executes e old old_memory new new_memory Asked = (e.upshot ≡ Asks) × (new ≡ e.registers) × (new_memory ≡ e.memory)
Executes e old old_memory new new_memory (Fault kind address) = (e.upshot ≡ Faults kind address) × (new ≡ e.registers) × (new_memory ≡ e.memory)

-- the same of what an execution of registers and a memory gives
abbrev pub Executed : (Registers → Memory → Execution) → Registers → Memory → Registers → Memory → Outcome → Type 0
Executed does old old_memory new new_memory outcome = Executes (does old old_memory) old old_memory new new_memory outcome

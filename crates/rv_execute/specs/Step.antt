use Rattle.std.specs.Prelude.{ℕ, ◌-◌, ◌%◌, ◌^◌, ◌==◌, ◌||◌, min, List, [], ◌∷◌, ◌++◌, map, Option, Some, None, if◌then◌else◌}
use Rattle.sizes.specs.declared.TheConstants.{MOST_WRITTEN}
use Rattle.ovl_io.specs.Memory.{Memory, Access, bytes_at, denied_at}
use Rattle.ovl_io.specs.declared.turn.Turn.{Turn}
use Rattle.ovl_io.specs.declared.turn.Turn.TheVariants.{Stepped, Wrote, Exited, Faulted}
use Rattle.rv_execute.specs.Registers.{Registers, register, with_register}
use Rattle.rv_execute.specs.Calls.{access_of, load_at}
use Rattle.rv_execute.specs.Execution.{Execution, Upshot, Steps, Asks, Faults, InstructionTable, execution_by, rv64i}

-- The step: a function of the process's number, its registers and its whole memory. It gives those that stand
-- afterwards, what came of the instruction, and the accesses that it tried, in order.
pub record Step : Type 0 where
  pub registers : Registers
  pub memory : Memory
  pub turn : Turn
  pub accesses : List Access

-- What a request answers: the registers and the turn, and the accesses that it tries itself, in order. It leaves the memory as
-- it is.
pub record Request : Type 0 where
  pub registers : Registers
  pub turn : Turn
  pub accesses : List Access

-- What ECALL asks for stands in a7, which is x17; a0, a1 and a2 are x10, x11 and x12, and a0 gets the answer.
abbrev pub answered : ℕ → Registers → List Access → Request
answered value regs accesses = record { registers = with_register regs 10 value; turn = Stepped; accesses = accesses }

-- how many bytes a write prints at most
abbrev pub write_count : Registers → ℕ
write_count regs = min (register regs 12) MOST_WRITTEN

-- a write of n bytes to descriptor 1 or 2
abbrev pub printed : ℕ → Registers → Memory → List Access → Request
printed n regs memory accesses =
    if n == 0 then answered 0 regs accesses
    else record (answered n regs accesses) { turn = Wrote (register regs 10, bytes_at memory (register regs 11) n) }

-- the same where its buffer fails there, or doesn't. A bad address is the 64-bit number -14.
abbrev pub buffered : Option ℕ → ℕ → Registers → Memory → List Access → Request
buffered (Some at) n regs memory accesses = answered (2 ^ 64 - 14) regs accesses
buffered None n regs memory accesses = printed n regs memory accesses

-- 64: write. Another descriptor is refused, by -9, before the buffer is looked at.
abbrev pub write : Registers → Memory → Request
write regs memory =
    let buffer = load_at (register regs 11) (write_count regs) in
    if (register regs 10 == 1) || (register regs 10 == 2)
    then buffered (denied_at memory buffer) (write_count regs) regs memory (buffer ∷ [])
    else answered (2 ^ 64 - 9) regs []

-- 93, 94: exit with the low 8 bits of a0
abbrev pub exit : Registers → Request
exit regs = record { registers = regs; turn = Exited (register regs 10 % 256); accesses = [] }

-- 172: the process's number; anything else is no request, which -38 says
abbrev pub request : ℕ → Registers → Memory → Request
request number regs memory =
    if register regs 17 == 64 then write regs memory
    else (if (register regs 17 == 93) || (register regs 17 == 94) then exit regs
    else (if register regs 17 == 172 then answered number regs []
    else answered (2 ^ 64 - 38) regs []))

-- what comes of an execution
abbrev pub altered : ℕ → Upshot → Registers → Memory → List Access → Step
altered number Steps regs memory accesses = record { registers = regs; memory = memory; turn = Stepped; accesses = accesses }
altered number Asks regs memory accesses =
    let asked = request number regs memory in
    record { registers = asked.registers; memory = memory; turn = asked.turn; accesses = accesses ++ asked.accesses }
altered number (Faults kind address) regs memory accesses =
    record { registers = regs; memory = memory; turn = Faulted kind address; accesses = accesses }

abbrev pub step_by : InstructionTable → ℕ → Registers → Memory → Step
step_by table number regs memory =
    let e = execution_by table regs memory in altered number e.upshot e.registers e.memory (map access_of e.calls)

-- by the table of RV64I
abbrev pub step : ℕ → Registers → Memory → Step
step number regs memory = step_by rv64i number regs memory

use Rattle.std.specs.Prelude.{Bool, true, false, Option}
use Rattle.std.specs.Option.{is_some}
use Rattle.ovl_io.specs.Memory.{Memory}
use Rattle.ovl_io.specs.declared.process_state.ProcessState.{ProcessState}
use Rattle.ovl_io.specs.declared.process_state.ProcessState.TheVariants.{Running, Exited, Faulted}
use Rattle.rv_execute.specs.Registers.{Registers}

-- A whole: registers and pc, state and memory.
pub record Whole : Type 0 where
  pub registers : Registers
  pub state : ProcessState
  pub memory : Memory

-- A process: a whole, and either nothing kept or the whole that is kept, as of its speculation's start.
pub record Process : Type 0 where
  pub registers : Registers
  pub state : ProcessState
  pub memory : Memory
  pub kept : Option Whole

-- it is speculating where a whole is kept
abbrev pub is_speculating : Process → Bool
is_speculating process = is_some process.kept

-- whether a process that has this state still runs
abbrev pub runs : ProcessState → Bool
runs Running = true
runs (Exited code) = false
runs (Faulted kind address) = false

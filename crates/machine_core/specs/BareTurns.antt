use Rattle.std.specs.Prelude.{ℕ, ◌==◌, List, if◌then◌else◌}
use Rattle.std.specs.Option.{option_map_or}
use Rattle.std.specs.FinMap.{get}
use Rattle.ovl_io.specs.declared.turn.Turn.{Turn}
use Rattle.ovl_io.specs.declared.turn.Turn.TheVariants as turn
use Rattle.rv_execute.specs.Registers.{Registers, register}
use Rattle.rv_execute.specs.Step.{write_count}
use Rattle.machine_core.specs.Machine.{Wholes}
use Rattle.machine_core.specs.declared.bare_turn.BareTurn.{BareTurn}
use Rattle.machine_core.specs.declared.bare_turn.BareTurn.TheVariants as bare

-- Turns without the bytes that were written.

-- what came of a turn, with the bytes that it wrote, where it did
abbrev pub turn_with : BareTurn → List ℕ → Turn
turn_with bare.Stepped bytes = turn.Stepped
turn_with (bare.Wrote port) bytes = turn.Wrote (port, bytes)
turn_with (bare.Exited code) bytes = turn.Exited code
turn_with (bare.Faulted kind address) bytes = turn.Faulted kind address
turn_with (bare.Full units limit) bytes = turn.Full units limit

-- how many bytes a request may write: a write as many as it asks for, up to the most, and any other none
abbrev pub bytes_asked : Registers → ℕ
bytes_asked regs = if register regs 17 == 64 then write_count regs else 0

-- the same of what a process asks for
abbrev pub room_asked : Wholes → ℕ → ℕ
room_asked state p = option_map_or (λ process. bytes_asked process.registers) (get state.processes p) 0

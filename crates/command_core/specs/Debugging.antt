use Rattle.std.specs.Prelude.{ℕ, ◌/◌, true, false, if◌then◌else◌, List, [], ◌∷◌, length, None}
use Rattle.std.specs.Option.{option_map}
use Rattle.sizes.specs.declared.TheConstants.{PAGE_BYTES}
use Rattle.ovl_io.specs.Memory.{Memory, first_denied, with_bytes}
use Rattle.ovl_io.specs.Permissions.{writable}
use Rattle.ledger.specs.Events as event
use Rattle.ledger.specs.Touched.{touched}
use Rattle.breakpoints.specs.Breakpoints.{Breaks, has_break, with_break, without_break}
use Rattle.machine_core.specs.Process.{Process, is_speculating}
use Rattle.overlay_memory.specs.declared.error.MemoryError.{MemoryError}
use Rattle.overlay_memory.specs.declared.error.MemoryError.TheVariants as memory
use Rattle.report_text.specs.declared.answer.Answer.{Answer}
use Rattle.report_text.specs.declared.answer.Answer.TheVariants.{Refused, Full}
use Rattle.report_text.specs.declared.answer.Code.{Code}
use Rattle.report_text.specs.declared.answer.Code.TheVariants.{Forbidden, Unmapped}
use Rattle.command_core.specs.State.{Registry}
use Rattle.command_core.specs.Rows.{Row, TakesLast, TakesNone, plain_row}
use Rattle.command_core.specs.Refusals.{has_page}
use Rattle.command_core.specs.ProcessChanges.{leaves, with_pages}

-- What the debugger changes: bytes of memory, and breakpoints.

-- the first of n bytes from an address on that may not be written: its page isn't there, or is and may not be written
abbrev pub poke_refused : Memory → ℕ → Code
poke_refused memory at = if has_page memory (at / PAGE_BYTES) then Forbidden at else Unmapped at

-- `poke`: a store of bytes, whatever state the process is in
abbrev pub poke_row : ℕ → ℕ → List ℕ → Process → Registry → Row
poke_row p address bytes process registry =
    plain_row true None (option_map (poke_refused process.memory) (first_denied process.memory writable address (length bytes)) ∷ [])
    (event.Store (is_speculating process) p (touched address (length bytes)))
    (leaves p (with_pages (with_bytes process.memory address bytes) process) registry)

-- what is answered where bytes aren't stored
abbrev pub poke_answer : MemoryError → Answer
poke_answer (memory.Unmapped at) = Refused (Unmapped at)
poke_answer (memory.Forbidden at) = Refused (Forbidden at)
poke_answer (memory.Full needed limit) = Full needed limit

-- with other breakpoints
abbrev pub with_breaks : Breaks → Registry → Registry
with_breaks breakpoints registry = record registry { breakpoints = breakpoints }

-- `break`: the process has one more, unless it is there, which takes no memory
abbrev pub break_row : ℕ → ℕ → Process → Registry → Row
break_row p address process registry =
    record (plain_row false None [] event.Other (with_breaks (with_break registry.breakpoints p address) registry))
    { memory = if has_break registry.breakpoints p address then TakesNone else TakesLast }

-- `unbreak`: it hasn't it any more
abbrev pub unbreak_row : ℕ → ℕ → Process → Registry → Row
unbreak_row p address process registry =
    plain_row false None [] event.Other (with_breaks (without_break registry.breakpoints p address) registry)

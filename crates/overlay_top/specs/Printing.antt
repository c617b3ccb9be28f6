use Rattle.std.specs.Prelude.{◌≡◌, ℕ, ◌+◌, ◌*◌, ◌<◌, ◌≤◌, Bool, List, ◌++◌, Option, Some, None, Ok}
use Rattle.std.specs.FinMap.{empty, get}
use Rattle.sizes.specs.declared.TheConstants.{ADDRESS_END}
use Rattle.ovl_io.specs.Memory.{Memory}
use Rattle.machine_core.specs.Process.{Process}
use Rattle.report_text.specs.Lines.{regs_line}
use Rattle.report_text.specs.declared.answer.Answer.{Answer}
use Rattle.report_text.specs.declared.answer.Answer.TheVariants.{Refused, Memory as NoMemory}
use Rattle.command_core.specs.declared.session.ProcessView.{ProcessView}
use Rattle.command_core.specs.declared.imaging.ExportError.{ExportError}
use Rattle.command_core.specs.declared.imaging.ExportError.TheVariants as unmade
use Rattle.command_core.specs.declared.TheConstants.{WORD_BYTES}
use Rattle.command_core.specs.Commands.{disasm_text, dump_text, registers_text}
use Rattle.command_core.specs.Looks.{look_of}
use Rattle.command_core.specs.State.{State}

-- What is printed of what was looked up.

-- the lines of a process's state and registers
abbrev pub view_text : ℕ → ProcessView → List ℕ
view_text p view = regs_line p view.state view.speculating ++ registers_text view.regs

-- the memory of a process; none of a page where there is no process
abbrev pub shown_memory : Option Process → Memory
shown_memory None = empty
shown_memory (Some process) = process.memory

abbrev pub memory_in : ℕ → State → Memory
memory_in p state = shown_memory (get state.wholes.processes p)

-- n bytes of a process from an address on were looked at: it is there, so is each of them, and they end where user addresses end
pub record Sees (found : Option Process) (address n : ℕ) : Type 0 where
  pub there : look_of address n found ≡ Ok tt
  pub low : 0 < n → address + n ≤ ADDRESS_END

abbrev pub SeesBytes : ℕ → ℕ → ℕ → State → Type 0
SeesBytes p address n state = Sees (get state.wholes.processes p) address n

abbrev pub SeesWords : ℕ → ℕ → ℕ → State → Type 0
SeesWords p address words state = SeesBytes p address (WORD_BYTES * words) state

-- the lines of bytes of a process, and of words, with extension M or without
abbrev pub bytes_dumped : ℕ → ℕ → ℕ → State → List ℕ
bytes_dumped p address count state = dump_text (memory_in p state) address count

abbrev pub words_text : Bool → ℕ → ℕ → ℕ → State → List ℕ
words_text extension p address words state = disasm_text extension (memory_in p state) address words

-- what is told where a checkpoint isn't exported
abbrev pub answer_unexported : ExportError → Answer
answer_unexported (unmade.Refused code) = Refused code
answer_unexported unmade.Memory = NoMemory

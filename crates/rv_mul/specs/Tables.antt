-- The table of extension M, and that of RV64I and extension M.
use Rattle.std.specs.Prelude.{ℕ, Bool, true, List, Option, if◌then◌else◌}
use Rattle.ovl_io.specs.Memory.{Memory}
use Rattle.rv_decode.specs.declared.instruction.Instr.{Instr}
use Rattle.rv_decode.specs.declared.names.Name.{Name}
use Rattle.rv_decode.specs.declared.rows.CaseRow.{CaseRow}
use Rattle.rv_decode.specs.Meaning.{meaning_by}
use Rattle.rv_decode.specs.Table.{is_multiplication, table_rows}
use Rattle.rv_execute.specs.Execution.{Execution, InstructionTable, execution_by, rv64i}
use Rattle.rv_execute.specs.Registers.{Registers}
use Rattle.rv_execute.specs.Rows.{action_of}
use Rattle.rv_execute.specs.declared.action.Action.{Action}
use Rattle.rv_execute.specs.declared.action.Action.TheVariants.{Write}
use Rattle.rv_mul.specs.Multiplication.{multiplied}

-- the 13 rows
unfoldable pub rv64m_rows : List CaseRow
rv64m_rows = table_rows is_multiplication

-- what a word means by them
abbrev pub meaning_m : ℕ → Option Instr
meaning_m word = meaning_by is_multiplication word

-- each name has a row in the table of both
abbrev pub is_any : Name → Bool
is_any name = true

abbrev pub action_m : Name → ℕ → ℕ → ℕ → ℕ → Action
action_m name a b i pc = if is_multiplication name then Write (multiplied name a b) else action_of name a b i pc

abbrev pub rv64im : InstructionTable
rv64im = record { has = is_any; action = action_m }

-- the table of a machine: with extension M, or without
abbrev pub table_of : Bool → InstructionTable
table_of extension = if extension then rv64im else rv64i

-- what one instruction of all 65 rows does
abbrev pub execution_m : Registers → Memory → Execution
execution_m regs memory = execution_by rv64im regs memory

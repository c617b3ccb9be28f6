use Rattle.std.specs.Prelude.{ℕ, Bool, ◌%◌, ◌^◌, ◌==◌, ◌||◌, ℤ, pos, int_div, List, [], ◌++◌, codes, if◌then◌else◌}
use Rattle.std.specs.Option.{option_map_or}
use Rattle.rv_decode.specs.declared.instruction.Instr.{Instr}
use Rattle.rv_decode.specs.declared.names.Format.{Format}
use Rattle.rv_decode.specs.declared.names.Format.TheVariants as format
use Rattle.rv_decode.specs.declared.names.Name.{Name}
use Rattle.rv_decode.specs.declared.rows.CaseRow.{CaseRow}
use Rattle.rv_decode.specs.Meaning.{meaning_by}
use Rattle.rv_decode.specs.Table.{row_of, text_of}
use Rattle.report_text.specs.Digits.{in_decimal, signed_text}

-- The text of a word as an instruction: the name of its row, and its operands by the row's format.

-- a register, by its number
abbrev pub register_text : ℕ → List ℕ
register_text n = codes "x" ++ in_decimal n

-- two registers and an immediate
abbrev pub two_registers_text : ℕ → ℕ → ℤ → List ℕ
two_registers_text a b n = codes " " ++ register_text a ++ codes ", " ++ register_text b ++ codes ", " ++ signed_text n

-- a register, and the register of an address behind what is added to it
abbrev pub offset_text : ℕ → ℤ → ℕ → List ℕ
offset_text a n b = codes " " ++ register_text a ++ codes ", " ++ signed_text n ++ codes "(" ++ register_text b ++ codes ")"

-- a register and an immediate
abbrev pub one_register_text : ℕ → ℤ → List ℕ
one_register_text a n = codes " " ++ register_text a ++ codes ", " ++ signed_text n

-- The rows of the format I by their opcode, as the table "RISC-V base opcode map" of the RISC-V Unprivileged ISA manual
-- names it: loads (LOAD) and the jump to a register (JALR) add the immediate to the address, of the fence (MISC-MEM)
-- there is the name alone, and the others are arithmetic.
abbrev pub opcode : CaseRow → ℕ
opcode row = row.value % 2 ^ 7

abbrev pub i_operands : CaseRow → Instr → List ℕ
i_operands row i =
    if opcode row == 0x03 || opcode row == 0x67 then offset_text i.rd i.imm i.rs1
    else if opcode row == 0x0F then []
    else two_registers_text i.rd i.rs1 i.imm

-- the operands of an instruction by its row's format; the immediate of the format U is a multiple of 2^12
abbrev pub operands_by : Format → CaseRow → Instr → List ℕ
operands_by format.R row i =
    codes " " ++ register_text i.rd ++ codes ", " ++ register_text i.rs1 ++ codes ", " ++ register_text i.rs2
operands_by format.I row i = i_operands row i
operands_by format.S row i = offset_text i.rs2 i.imm i.rs1
operands_by format.B row i = two_registers_text i.rs1 i.rs2 i.imm
operands_by format.U row i = one_register_text i.rd (int_div i.imm (pos (2 ^ 12)))
operands_by format.J row i = one_register_text i.rd i.imm
operands_by format.H6 row i = two_registers_text i.rd i.rs1 i.imm
operands_by format.H5 row i = two_registers_text i.rd i.rs1 i.imm
operands_by format.N row i = []

-- what a word means by the table of these names
unfoldable pub instruction_text : (Name → Bool) → ℕ → List ℕ
instruction_text has word = option_map_or
    (λ i. text_of i.name ++ operands_by (row_of i.name).format (row_of i.name) i) (meaning_by has word) (codes "illegal")

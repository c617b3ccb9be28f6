use Rattle.std.specs.Prelude.{ℕ, ◌==◌, Bool, not, nat_lt, bit_and, bit_or, bit_xor, if◌then◌else◌}
use Rattle.rv_decode.specs.declared.names.Name.{Name}
use Rattle.rv_decode.specs.declared.names.Name.TheVariants.{Lui, Auipc, Jal, Jalr, Beq, Bne, Blt, Bge, Bltu, Bgeu, Lb, Lh, Lw, Ld, Lbu, Lhu, Lwu, Sb, Sh, Sw, Sd, Addi, Slti, Sltiu, Xori, Ori, Andi, Slli, Srli, Srai, Add, Sub, Sll, Slt, Sltu, Xor, Srl, Sra, Or, And, Addiw, Slliw, Srliw, Sraiw, Addw, Subw, Sllw, Srlw, Sraw, Fence, Ecall, Ebreak}
use Rattle.rv_execute.specs.declared.action.Action.{Action}
use Rattle.rv_execute.specs.declared.action.Action.TheVariants.{Write, Link, Goto, Load, Store, Next, Ask, Stop}
use Rattle.rv_execute.specs.declared.action.Size.TheVariants.{Byte, Half, Word, Double}
use Rattle.rv_execute.specs.declared.action.Extension.TheVariants.{Zero, Sign}
use Rattle.rv_execute.specs.Arithmetic.{plus, minus, is_less_signed, flag, low_word, extended_word, amount, word_amount, shifted_left, shifted_right, shifted_right_signed, even}

-- What each row of the instruction table does (RISC-V Unprivileged ISA, chapters "RV32I Base Integer Instruction Set" and
-- "RV64I Base Integer Instruction Set"): a is the value of rs1, b that of rs2, i the immediate as a number of 64 bits, and pc
-- the address of the instruction.

-- a branch goes to its target where its condition holds
abbrev pub branch : Bool → ℕ → Action
branch holds target = if holds then Goto target else Next

abbrev pub action_of : Name → ℕ → ℕ → ℕ → ℕ → Action
action_of Lui a b i pc = Write i
action_of Auipc a b i pc = Write (plus pc i)
action_of Jal a b i pc = Link (plus pc i)
action_of Jalr a b i pc = Link (even (plus a i))
action_of Beq a b i pc = branch (a == b) (plus pc i)
action_of Bne a b i pc = branch (not (a == b)) (plus pc i)
action_of Blt a b i pc = branch (is_less_signed a b) (plus pc i)
action_of Bge a b i pc = branch (not (is_less_signed a b)) (plus pc i)
action_of Bltu a b i pc = branch (nat_lt a b) (plus pc i)
action_of Bgeu a b i pc = branch (not (nat_lt a b)) (plus pc i)
action_of Lb a b i pc = Load (plus a i) Byte Sign
action_of Lh a b i pc = Load (plus a i) Half Sign
action_of Lw a b i pc = Load (plus a i) Word Sign
action_of Ld a b i pc = Load (plus a i) Double Zero
action_of Lbu a b i pc = Load (plus a i) Byte Zero
action_of Lhu a b i pc = Load (plus a i) Half Zero
action_of Lwu a b i pc = Load (plus a i) Word Zero
action_of Sb a b i pc = Store (plus a i) Byte b
action_of Sh a b i pc = Store (plus a i) Half b
action_of Sw a b i pc = Store (plus a i) Word b
action_of Sd a b i pc = Store (plus a i) Double b
action_of Addi a b i pc = Write (plus a i)
action_of Slti a b i pc = Write (flag (is_less_signed a i))
action_of Sltiu a b i pc = Write (flag (nat_lt a i))
action_of Xori a b i pc = Write (bit_xor a i)
action_of Ori a b i pc = Write (bit_or a i)
action_of Andi a b i pc = Write (bit_and a i)
action_of Slli a b i pc = Write (shifted_left a (amount i))
action_of Srli a b i pc = Write (shifted_right a (amount i))
action_of Srai a b i pc = Write (shifted_right_signed a (amount i))
action_of Add a b i pc = Write (plus a b)
action_of Sub a b i pc = Write (minus a b)
action_of Sll a b i pc = Write (shifted_left a (amount b))
action_of Slt a b i pc = Write (flag (is_less_signed a b))
action_of Sltu a b i pc = Write (flag (nat_lt a b))
action_of Xor a b i pc = Write (bit_xor a b)
action_of Srl a b i pc = Write (shifted_right a (amount b))
action_of Sra a b i pc = Write (shifted_right_signed a (amount b))
action_of Or a b i pc = Write (bit_or a b)
action_of And a b i pc = Write (bit_and a b)
action_of Addiw a b i pc = Write (extended_word (plus a i))
action_of Slliw a b i pc = Write (extended_word (shifted_left a (word_amount i)))
action_of Srliw a b i pc = Write (extended_word (shifted_right (low_word a) (word_amount i)))
action_of Sraiw a b i pc = Write (shifted_right_signed (extended_word a) (word_amount i))
action_of Addw a b i pc = Write (extended_word (plus a b))
action_of Subw a b i pc = Write (extended_word (minus a b))
action_of Sllw a b i pc = Write (extended_word (shifted_left a (word_amount b)))
action_of Srlw a b i pc = Write (extended_word (shifted_right (low_word a) (word_amount b)))
action_of Sraw a b i pc = Write (shifted_right_signed (extended_word a) (word_amount b))
action_of Fence a b i pc = Next
action_of Ecall a b i pc = Ask
action_of Ebreak a b i pc = Stop
-- a name of extension M has no row in this table
action_of _ a b i pc = Next

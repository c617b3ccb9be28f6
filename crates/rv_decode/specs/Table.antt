-- The instruction table of RV64I and that of its extension M, as in the RISC-V Unprivileged ISA manual, chapter "RV32/64G
-- Instruction Set Listings": RV32I and RV32M, each with what RV64I and RV64M add to it. A word is an instruction where its
-- bits under the mask are the value.
use Prim.Native.String.{String}
use Rattle.std.specs.Prelude.{ℕ, Bool, true, false, not, List, [], ◌∷◌, map, codes}
use Rattle.std.specs.List.{filter}
use Rattle.rv_decode.specs.declared.names.Format.{Format}
use Rattle.rv_decode.specs.declared.names.Format.TheVariants.{R, I, S, B, U, J, H6, H5, N}
use Rattle.rv_decode.specs.declared.names.Name.{Name}
use Rattle.rv_decode.specs.declared.names.Name.TheVariants.{Lui, Auipc, Jal, Jalr, Beq, Bne, Blt, Bge, Bltu, Bgeu, Lb, Lh, Lw, Ld, Lbu, Lhu, Lwu, Sb, Sh, Sw, Sd, Addi, Slti, Sltiu, Xori, Ori, Andi, Slli, Srli, Srai, Add, Sub, Sll, Slt, Sltu, Xor, Srl, Sra, Or, And, Addiw, Slliw, Srliw, Sraiw, Addw, Subw, Sllw, Srlw, Sraw, Fence, Ecall, Ebreak, Mul, Mulh, Mulhsu, Mulhu, Div, Divu, Rem, Remu, Mulw, Divw, Divuw, Remw, Remuw}
use Rattle.rv_decode.specs.declared.rows.CaseRow.{CaseRow}

-- what the words of a name are, and how the name is printed
pub record Spelling : Type 0 where
  pub mask : ℕ
  pub value : ℕ
  pub format : Format
  pub text : List ℕ

abbrev pub spelling : ℕ → ℕ → Format → String → Spelling
spelling mask value format text = record { mask = mask; value = value; format = format; text = codes text }

-- each name's mask, value, format and text: the 52 of RV64I, and then the 13 of extension M
abbrev pub spelling_of : Name → Spelling
spelling_of Lui = spelling 0x0000007F 0x00000037 U "lui"
spelling_of Auipc = spelling 0x0000007F 0x00000017 U "auipc"
spelling_of Jal = spelling 0x0000007F 0x0000006F J "jal"
spelling_of Jalr = spelling 0x0000707F 0x00000067 I "jalr"
spelling_of Beq = spelling 0x0000707F 0x00000063 B "beq"
spelling_of Bne = spelling 0x0000707F 0x00001063 B "bne"
spelling_of Blt = spelling 0x0000707F 0x00004063 B "blt"
spelling_of Bge = spelling 0x0000707F 0x00005063 B "bge"
spelling_of Bltu = spelling 0x0000707F 0x00006063 B "bltu"
spelling_of Bgeu = spelling 0x0000707F 0x00007063 B "bgeu"
spelling_of Lb = spelling 0x0000707F 0x00000003 I "lb"
spelling_of Lh = spelling 0x0000707F 0x00001003 I "lh"
spelling_of Lw = spelling 0x0000707F 0x00002003 I "lw"
spelling_of Ld = spelling 0x0000707F 0x00003003 I "ld"
spelling_of Lbu = spelling 0x0000707F 0x00004003 I "lbu"
spelling_of Lhu = spelling 0x0000707F 0x00005003 I "lhu"
spelling_of Lwu = spelling 0x0000707F 0x00006003 I "lwu"
spelling_of Sb = spelling 0x0000707F 0x00000023 S "sb"
spelling_of Sh = spelling 0x0000707F 0x00001023 S "sh"
spelling_of Sw = spelling 0x0000707F 0x00002023 S "sw"
spelling_of Sd = spelling 0x0000707F 0x00003023 S "sd"
spelling_of Addi = spelling 0x0000707F 0x00000013 I "addi"
spelling_of Slti = spelling 0x0000707F 0x00002013 I "slti"
spelling_of Sltiu = spelling 0x0000707F 0x00003013 I "sltiu"
spelling_of Xori = spelling 0x0000707F 0x00004013 I "xori"
spelling_of Ori = spelling 0x0000707F 0x00006013 I "ori"
spelling_of Andi = spelling 0x0000707F 0x00007013 I "andi"
spelling_of Slli = spelling 0xFC00707F 0x00001013 H6 "slli"
spelling_of Srli = spelling 0xFC00707F 0x00005013 H6 "srli"
spelling_of Srai = spelling 0xFC00707F 0x40005013 H6 "srai"
spelling_of Add = spelling 0xFE00707F 0x00000033 R "add"
spelling_of Sub = spelling 0xFE00707F 0x40000033 R "sub"
spelling_of Sll = spelling 0xFE00707F 0x00001033 R "sll"
spelling_of Slt = spelling 0xFE00707F 0x00002033 R "slt"
spelling_of Sltu = spelling 0xFE00707F 0x00003033 R "sltu"
spelling_of Xor = spelling 0xFE00707F 0x00004033 R "xor"
spelling_of Srl = spelling 0xFE00707F 0x00005033 R "srl"
spelling_of Sra = spelling 0xFE00707F 0x40005033 R "sra"
spelling_of Or = spelling 0xFE00707F 0x00006033 R "or"
spelling_of And = spelling 0xFE00707F 0x00007033 R "and"
spelling_of Addiw = spelling 0x0000707F 0x0000001B I "addiw"
spelling_of Slliw = spelling 0xFE00707F 0x0000101B H5 "slliw"
spelling_of Srliw = spelling 0xFE00707F 0x0000501B H5 "srliw"
spelling_of Sraiw = spelling 0xFE00707F 0x4000501B H5 "sraiw"
spelling_of Addw = spelling 0xFE00707F 0x0000003B R "addw"
spelling_of Subw = spelling 0xFE00707F 0x4000003B R "subw"
spelling_of Sllw = spelling 0xFE00707F 0x0000103B R "sllw"
spelling_of Srlw = spelling 0xFE00707F 0x0000503B R "srlw"
spelling_of Sraw = spelling 0xFE00707F 0x4000503B R "sraw"
spelling_of Fence = spelling 0x0000707F 0x0000000F I "fence"
spelling_of Ecall = spelling 0xFFFFFFFF 0x00000073 N "ecall"
spelling_of Ebreak = spelling 0xFFFFFFFF 0x00100073 N "ebreak"
spelling_of Mul = spelling 0xFE00707F 0x02000033 R "mul"
spelling_of Mulh = spelling 0xFE00707F 0x02001033 R "mulh"
spelling_of Mulhsu = spelling 0xFE00707F 0x02002033 R "mulhsu"
spelling_of Mulhu = spelling 0xFE00707F 0x02003033 R "mulhu"
spelling_of Div = spelling 0xFE00707F 0x02004033 R "div"
spelling_of Divu = spelling 0xFE00707F 0x02005033 R "divu"
spelling_of Rem = spelling 0xFE00707F 0x02006033 R "rem"
spelling_of Remu = spelling 0xFE00707F 0x02007033 R "remu"
spelling_of Mulw = spelling 0xFE00707F 0x0200003B R "mulw"
spelling_of Divw = spelling 0xFE00707F 0x0200403B R "divw"
spelling_of Divuw = spelling 0xFE00707F 0x0200503B R "divuw"
spelling_of Remw = spelling 0xFE00707F 0x0200603B R "remw"
spelling_of Remuw = spelling 0xFE00707F 0x0200703B R "remuw"

-- the row of a name
abbrev pub row_of : Name → CaseRow
row_of name = record { mask = (spelling_of name).mask; value = (spelling_of name).value; format = (spelling_of name).format; name = name }

-- the name, in lower case
abbrev pub text_of : Name → List ℕ
text_of name = (spelling_of name).text

-- the names, in that order
abbrev pub all_names : List Name
all_names =
    Lui ∷ Auipc ∷ Jal ∷ Jalr ∷ Beq ∷ Bne ∷ Blt ∷ Bge ∷ Bltu ∷ Bgeu ∷ Lb ∷ Lh ∷ Lw ∷ Ld ∷ Lbu ∷
    Lhu ∷ Lwu ∷ Sb ∷ Sh ∷ Sw ∷ Sd ∷ Addi ∷ Slti ∷ Sltiu ∷ Xori ∷ Ori ∷ Andi ∷ Slli ∷ Srli ∷ Srai ∷
    Add ∷ Sub ∷ Sll ∷ Slt ∷ Sltu ∷ Xor ∷ Srl ∷ Sra ∷ Or ∷ And ∷ Addiw ∷ Slliw ∷ Srliw ∷ Sraiw ∷
    Addw ∷ Subw ∷ Sllw ∷ Srlw ∷ Sraw ∷ Fence ∷ Ecall ∷ Ebreak ∷ Mul ∷ Mulh ∷ Mulhsu ∷ Mulhu ∷
    Div ∷ Divu ∷ Rem ∷ Remu ∷ Mulw ∷ Divw ∷ Divuw ∷ Remw ∷ Remuw ∷ []

-- A table is told by the names that have a row in it. These are extension M's, and the others RV64I's.
abbrev pub is_multiplication : Name → Bool
is_multiplication Mul = true
is_multiplication Mulh = true
is_multiplication Mulhsu = true
is_multiplication Mulhu = true
is_multiplication Div = true
is_multiplication Divu = true
is_multiplication Rem = true
is_multiplication Remu = true
is_multiplication Mulw = true
is_multiplication Divw = true
is_multiplication Divuw = true
is_multiplication Remw = true
is_multiplication Remuw = true
is_multiplication _ = false

abbrev pub is_base : Name → Bool
is_base name = not (is_multiplication name)

-- the rows of a table
abbrev pub table_rows : (Name → Bool) → List CaseRow
table_rows among = map row_of (filter among all_names)

-- the whole table of RV64I
unfoldable pub rv64i_rows : List CaseRow
rv64i_rows = table_rows is_base

-- Words that an assembler wrote, read by the definition alone.
use Rattle.std.proofs.Common.{◌≡◌, Some, None, pos, negsuc, refl}
use Rattle.rv_decode.specs.declared.names.Name.TheVariants.{Lui, Jal, Beq, Sd, Addi, Srai}
use Rattle.rv_decode.specs.Meaning.{meaning, meaning_by}

-- lui x31, 0x80000
lui : meaning 0x80000FB7 ≡ Some (record { name = Lui; rd = 31; rs1 = 0; rs2 = 0; imm = negsuc 2147483647 })
unfolding meaning_by
lui = refl

-- jal x1, -1048576
jal : meaning 0x800000EF ≡ Some (record { name = Jal; rd = 1; rs1 = 0; rs2 = 0; imm = negsuc 1048575 })
unfolding meaning_by
jal = refl

-- beq x3, x4, 4094
beq : meaning 0x7E418FE3 ≡ Some (record { name = Beq; rd = 0; rs1 = 3; rs2 = 4; imm = pos 4094 })
unfolding meaning_by
beq = refl

-- sd x31, -32(x30)
sd : meaning 0xFFFF3023 ≡ Some (record { name = Sd; rd = 0; rs1 = 30; rs2 = 31; imm = negsuc 31 })
unfolding meaning_by
sd = refl

-- addi x1, x2, -2048
addi : meaning 0x80010093 ≡ Some (record { name = Addi; rd = 1; rs1 = 2; rs2 = 0; imm = negsuc 2047 })
unfolding meaning_by
addi = refl

-- srai x5, x6, 63
srai : meaning 0x43F35293 ≡ Some (record { name = Srai; rd = 5; rs1 = 6; rs2 = 0; imm = pos 63 })
unfolding meaning_by
srai = refl

-- mul x10, x10, x11, which is a row of extension M
mul : meaning 0x02B50533 ≡ None
unfolding meaning_by
mul = refl

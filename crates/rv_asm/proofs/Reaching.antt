use Rattle.std.proofs.Common.{◌≡◌, Some, None, subst}
use Rattle.std.specs.Prelude.{ℤ, Option, IfSome}
use Rattle.rv_decode.specs.declared.instruction.Instr.{Instr}
use Rattle.rv_decode.specs.declared.names.Format.{Format}
use Rattle.rv_decode.specs.declared.names.Format.TheVariants as format
use Rattle.rv_decode.specs.Table.{row_of}
use Rattle.rv_decode.specs.Encodable.{HasRegisters, HasImmediate, IsEncodable}
use Rattle.asm_lines.specs.Said.{IsReaching}
use Rattle.rv_asm.specs.Outcomes.{with_imm}

-- With an immediate that has its place, an instruction has a word.

registers_kept : (f : Format) (i : Instr) (imm : ℤ) → HasRegisters f i → HasRegisters f (with_imm i imm)
registers_kept format.R i imm h = h
registers_kept format.I i imm h = h
registers_kept format.S i imm h = h
registers_kept format.B i imm h = h
registers_kept format.U i imm h = h
registers_kept format.J i imm h = h
registers_kept format.H6 i imm h = h
registers_kept format.H5 i imm h = h
registers_kept format.N i imm h = h

pub placed_sound : (i : Instr) (f : Format) (o : Option ℤ) → IsReaching i → f ≡ (row_of i.name).format → IfSome o (HasImmediate f)
    → IfSome o (λ imm. IsEncodable (with_imm i imm))
placed_sound i f None reaching same place = tt
placed_sound i f (Some imm) reaching same place = record {
  listed = reaching.listed;
  registers = registers_kept (row_of i.name).format i imm reaching.registers;
  immediate = subst (λ (g : Format). HasImmediate g imm) same place;
}

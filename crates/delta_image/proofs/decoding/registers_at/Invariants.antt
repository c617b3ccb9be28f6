use Rattle.delta_image.proofs.Registers.{HaveRegisters}
use Rattle.delta_image.proofs.decoding.registers_at.Given as goal

abbrev pub invariant-registers : goal.invariant-registers
invariant-registers l = HaveRegisters l.bytes l.regs l.i l.rest

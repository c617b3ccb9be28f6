use Rattle.std.specs.Prelude.{ℕ, ◌+◌, ◌%◌, ◌^◌, ◌==◌, List, replicate, slice_index, slice_set, if◌then◌else◌}

-- The registers x0 to x31, of 64 bits, and the pc (RISC-V Unprivileged ISA, "Programmers' Model for Base Integer ISA").
pub record Registers : Type 0 where
  pub pc : ℕ
  pub x : List ℕ

-- the value of a register
abbrev pub register : Registers → ℕ → ℕ
register regs i = slice_index regs.x i

-- after a result was written; one for x0, which stays zero, is dropped
abbrev pub with_register : Registers → ℕ → ℕ → Registers
with_register regs i value = record { pc = regs.pc; x = if i == 0 then regs.x else slice_set regs.x i value }

abbrev pub with_pc : Registers → ℕ → Registers
with_pc regs pc = record { pc = pc; x = regs.x }

-- the address behind the instruction, modulo 2^64
abbrev pub next_pc : Registers → ℕ
next_pc regs = (regs.pc + 4) % 2 ^ 64

-- after an instruction that doesn't jump
abbrev pub next : Registers → Registers
next regs = with_pc regs (next_pc regs)

-- at the start: x2, the stack pointer, is given, and every other register is zero
unfoldable pub first_registers : ℕ → ℕ → Registers
first_registers pc sp = record { pc = pc; x = slice_set (replicate 32 0) 2 sp }

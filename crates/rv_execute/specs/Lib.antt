-- In reading order: the registers, arithmetic of 64 bits, what each row does, the calls of a memory, what one instruction
-- does to registers and memory, and then the whole step with what ECALL asks for.
pub mod Registers
pub mod Arithmetic
pub mod Rows
pub mod Calls
pub mod Execution
pub mod Step
pub use Rattle.ovl_io.specs.Memory
pub use Rattle.ovl_io.specs.Permissions
pub use Rattle.rv_decode.specs.Meaning
pub mod CallLaws

use Rattle.std.specs.Prelude.{◌≡◌, refl}
use Rattle.command_core.specs.declared.TheConstants.{WORD_BYTES}
use Rattle.command_core.specs.declared.imaging.TheConstants.{MOST_EXPORTED}

-- Bytes of an instruction as a number: RISC-V Unprivileged ISA, 1.5, Base Instruction-Length Encoding.

pub word_bytes_is : WORD_BYTES ≡ 4
word_bytes_is = refl

-- Bytes of an image that is exported, at most.

pub most_exported_is : MOST_EXPORTED ≡ 4194304
most_exported_is = refl

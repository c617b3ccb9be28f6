use Rattle.std.specs.Prelude.{ℕ}
use Rattle.overlay_top.specs.declared.status.Status.{Status}
use Rattle.overlay_top.specs.declared.status.Status.TheVariants.{Done, NoMemory, BadWords, ReadFailed, WriteFailed, BadLine, TooLong}

-- the number of a status, as the program ends with it
abbrev pub code_of : Status → ℕ
code_of Done = 0
code_of NoMemory = 1
code_of BadWords = 2
code_of ReadFailed = 3
code_of WriteFailed = 4
code_of BadLine = 5
code_of TooLong = 6

use Rattle.std.specs.Prelude.{ℕ, ◌==◌, Option, Some, None, if◌then◌else◌}
use Rattle.rv_decode.specs.declared.names.Name.TheVariants.{Ecall}
use Rattle.rv_decode.specs.Table.{row_of}
use Rattle.rv_decode.specs.Fits.{fits}
use Rattle.rv_execute.specs.Registers.{Registers, next, register, with_register}
use Rattle.process_calls.specs.declared.calls.ProcessCall.{ProcessCall}
use Rattle.process_calls.specs.declared.calls.ProcessCall.TheVariants.{Speculate, Commit, Discard}

-- What a process asks of its own speculation.

-- the request of a number in a7
abbrev pub numbered : ℕ → Option ProcessCall
numbered number =
    if number == 1025 then Some Speculate
    else (if number == 1026 then Some Commit
    else (if number == 1027 then Some Discard
    else None))

-- at a word: none but that of ECALL asks
abbrev pub call_at : Registers → ℕ → Option ProcessCall
call_at regs word = if fits (row_of Ecall) word then numbered (register regs 17) else None

-- the registers behind a request, with its answer in a0
abbrev pub gone_on : Registers → ℕ → Registers
gone_on regs a0 = with_register (next regs) 10 a0

-- those that are kept where a speculation begins
abbrev pub kept : Registers → Registers
kept regs = gone_on regs 1

use Rattle.std.specs.Prelude.{ℕ, Bool, ◌==◌}
use Rattle.std.specs.Int.RustNames.{bit_and}

-- Permissions are a number with a bit for each: 4 to read, 2 to write, 1 to execute (as p_flags has
-- them, ELF-64, "Segment Flag Bits").
abbrev pub readable : ℕ
readable = 4

abbrev pub writable : ℕ
writable = 2

abbrev pub executable : ℕ
executable = 1

-- whether all bits of a need are among the permissions
abbrev pub permits : ℕ → ℕ → Bool
permits perms need = bit_and perms need == need

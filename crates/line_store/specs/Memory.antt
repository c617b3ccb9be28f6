-- What the piece of memory behind a region owns and lends.
use Rattle.std.specs.Prelude.{ℕ, ◌+◌, ◌-◌, ◌*◌, List}
use base.Fraction.{full_share}
use base.Fml.{Lft, Fml, ffalse, fsep, fwand, froom}
use mir.Syntax.{Ty, w128, ty_int, ty_array}
use denote.RattleType.{RattleType}
use denote.Array.{Array}
use denote.Builtin.{u8}
use denote.Memory.{lone, part_at}
use denote.RawPtr.{Ptr, block_ptr, null_ptr, room_for}
use denote.Struct.Lending.{lent_at}

-- a line, as it lies in memory
abbrev pub Line : RattleType
Line = Array u8 64

-- n lines' room
abbrev pub room_of : ℕ → Ty
room_of n = ty_array (lone Line.mir) n

-- the lines made, and behind them room for the rest
abbrev pub lines_own : Ptr → ℕ → List (List ℕ) → ℕ → Fml
lines_own (block_ptr b o) made items room = fsep (part_at (Array Line made) full_share items b o) (froom (room_of (room - made)) b (o + made * 64))
lines_own null_ptr made items room = ffalse

-- what a `&` to it reaches: the lines made
abbrev pub lines_lent : Ptr → ℕ → List (List ℕ) → Lft → Fml
lines_lent at made items = lent_at (Array Line made) at items

-- the same number of bytes, as units that are aligned to 16
abbrev pub line_units : ℕ → Ty
line_units n = ty_array (ty_int w128) (4 * n)

-- the right to give n lines' room back as those units, from the allocator's token
abbrev pub lease_owns : (Ty → Ptr → Fml) → Ptr → ℕ → Fml
lease_owns token at n = fsep (token (line_units n) at) (fwand (room_for (room_of n) at) (room_for (line_units n) at))

-- What the walks of the raw memory share. Assumes `Logic`.
use Rattle.std.proofs.Common.{refl}
use denote.Builtin.{u8}
use denote.Param.Laws.{Laws, of_field, array_laws}
use denote.Param.Shared.{copy_shared}
use denote.Struct.Field.{u8-field}
use denote.Struct.Laws.{u8-laws, u8-copy}
use Rattle.std.proofs.VecSteps.El.{El, no_al}
use Rattle.line_store.specs.Memory.{Line}

pub byte_laws : Laws u8
byte_laws = of_field u8-field u8-laws refl (copy_shared u8-field u8-copy)

pub line_laws : Laws Line
line_laws = array_laws u8 byte_laws 64

-- a line as an element, at which std's lemmas on elements side by side are cited
abbrev pub line : El
line = record { row = Line; laws = line_laws; al = no_al }

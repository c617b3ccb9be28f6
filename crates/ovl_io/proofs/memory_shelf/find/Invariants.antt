use Rattle.std.proofs.Common.{◌≡◌, drop}
use Rattle.ovl_io.specs.Forms.{file_named}
use Rattle.ovl_io.proofs.memory_shelf.find.Given as goal

-- the file is to be found among the pairs that are left
abbrev pub invariant-loop-known : goal.invariant-loop-known
invariant-loop-known l = file_named (drop l.known-index l.files) l.name ≡ file_named l.files l.name

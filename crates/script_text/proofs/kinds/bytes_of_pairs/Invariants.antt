use Rattle.std.proofs.Common.{◌≡◌, ◌*◌, ◌++◌, drop}
use Rattle.script_text.specs.Kinds.{bytes_of_pairs}
use Rattle.script_text.proofs.kinds.bytes_of_pairs.Given as goal

-- the bytes so far, and those of the digits that are left
abbrev pub invariant-pairs : goal.invariant-pairs
invariant-pairs l = l.bytes.items ++ bytes_of_pairs (drop (2 * l.i) l.digits) ≡ bytes_of_pairs l.digits

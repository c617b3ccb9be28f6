use Rattle.std.proofs.Common.{◌≡◌, take}
use Rattle.delta_image.specs.Line.{numbers_of}
use Rattle.ledger.specs.Changes.{with_lines}
use Rattle.delta_spaces.proofs.units.joined_lines.Given as goal

abbrev pub invariant-joining : goal.invariant-joining
invariant-joining l = l.joined ≡ with_lines l.fn.own (numbers_of (take l.line-index l.lines))

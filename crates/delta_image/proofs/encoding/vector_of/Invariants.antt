use Rattle.std.proofs.Common.{◌≡◌, take}
use Rattle.overlay_bits.specs.Kept.{word_of}
use Rattle.delta_image.specs.Line.{numbers_of}
use Rattle.delta_image.proofs.encoding.vector_of.Given as goal

abbrev pub invariant-lines : goal.invariant-lines
invariant-lines l = l.vector ≡ word_of (numbers_of (take l.line-index l.lines))

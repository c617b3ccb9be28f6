use Rattle.std.proofs.Common.{take}
use Rattle.delta_image.proofs.Lines.{IsLinesLength}
use Rattle.delta_image.proofs.encoding.lines_length.Given as goal

abbrev pub invariant-lines : goal.invariant-lines
invariant-lines l = IsLinesLength l.length l.bytes-index (take l.bytes-index l.lines)

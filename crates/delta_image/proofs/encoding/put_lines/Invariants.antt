use Rattle.std.proofs.Common.{◌≡◌, ◌++◌, take}
use Rattle.delta_image.specs.Image.{lines_part}
use Rattle.delta_image.proofs.encoding.put_lines.Given as goal

abbrev pub invariant-lines : goal.invariant-lines
invariant-lines l = l.out.items ≡ l.fn.out.items ++ lines_part (take l.bytes-index l.lines)

use Rattle.std.proofs.Common.{◌≡◌, ◌*◌}
use Rattle.decoded_lines.proofs.Sameness.{AreSameBelow}
use Rattle.decoded_lines.proofs.lines.is_same.Given as goal

-- where nothing is apart, the words so far are the same
abbrev pub invariant-comparing : goal.invariant-comparing
invariant-comparing l = l.apart ≡ 0 → AreSameBelow (8 * l.word) l.a l.b

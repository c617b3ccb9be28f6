use Rattle.std.proofs.Common.{◌≡◌, false, sym, ◌∙◌, arith}
use Rattle.std.proofs.lemmas.Bool.Decides.{nat_tests}
use Rattle.unit_map.specs.Pieces.{taken_at}
use Rattle.unit_map.proofs.Reading.{piece_here}
use Rattle.unit_map.proofs.Tables.{piece_there}
use Rattle.unit_map.proofs.map.UnitMap.is_taken.Goals as goal

pub returns-then-block-gt-FRAME_ORDER-clause-other : goal.returns-then-block-gt-FRAME_ORDER-clause-other
returns-then-block-gt-FRAME_ORDER-clause-other c e h =
    omega (arith, (piece_there c.self.inside.cells (taken_at c.args.block.unit c.args.block.order) c.self.invariant.table (rw c.self.view_is h)).0, c.if-block-gt-FRAME_ORDER.true)

pub returns-clause-is : goal.returns-clause-is
returns-clause-is c e =
    let same : c.get-byte.result ≡ c.taken.result = grind (arith, nat_tests) in
    rw (← c.self.view_is) (piece_here c.self.inside.cells c.args.block.unit c.args.block.order false (omega (arith, c.if-block-gt-FRAME_ORDER.false)) (sym c.get-byte.ensures ∙ same ∙ c.taken.ensures))

pub returns-clause-other : goal.returns-clause-other
returns-clause-other c e h =
    let there = piece_there c.self.inside.cells (taken_at c.args.block.unit c.args.block.order) c.self.invariant.table (rw c.self.view_is h) in
    let same : c.get-byte.result ≡ c.taken.result = c.get-byte.ensures ∙ there.1 ∙ sym c.taken.ensures in
    grind (arith, nat_tests)

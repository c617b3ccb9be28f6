use Rattle.std.proofs.Common.{arith}
use Rattle.overlay_mapping_table.proofs.Seen.{free, read_high, read_low, read_moved}
use Rattle.overlay_mapping_table.proofs.gaps.read.Goals as goal
use Rattle.std.proofs.Common.{sym}

pub returns-then-i-gap : goal.returns-then-i-gap
returns-then-i-gap g c = read_low c.args.items.now c.args.rest c.args.gap c.args.i c.at.result c.at.ensures c.requires.inside c.if-i-gap.true

pub returns-then-i-gap-2 : goal.returns-then-i-gap-2
returns-then-i-gap-2 g c =
    read_moved c.args.items.now c.args.rest c.args.gap c.args.i c.at-then-i-gap-2.result c.at-then-i-gap-2.ensures c.requires.inside
    (omega (arith, c.if-i-gap-2.true, c.requires.gap.inside)) (omega (arith, c.if-i-gap.false)) c.if-i-gap-2.true

pub returns-then-i-gap-3 : goal.returns-then-i-gap-3
returns-then-i-gap-3 g c =
    sym (free c.args.items.now c.args.rest c.args.gap c.args.i c.args.rest c.requires.inside c.requires.gap.order (omega (arith, c.if-i-gap-2.false))
    c.if-i-gap-3.true)

pub returns : goal.returns
returns g c =
    read_high c.args.items.now c.args.rest c.args.gap c.args.i c.at-2.result c.at-2.ensures c.requires.inside c.requires.gap.order
    (omega (arith, c.if-i-gap-3.false))

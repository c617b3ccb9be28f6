use Rattle.std.proofs.Common.{sym, arith}
use Rattle.overlay_mapping_table.proofs.Seen.{closed, seen_whole}
use Rattle.overlay_mapping_table.proofs.gaps.close.Goals as goal

pub returns-then-gap-gt0 : goal.returns-then-gap-gt0
returns-then-gap-gt0 g c =
    closed c.args.items.now c.shift.new.items c.fill.new.items c.args.rest c.args.gap c.requires c.shift.ensures c.fill.ensures

pub returns-else-gap-gt0 : goal.returns-else-gap-gt0
returns-else-gap-gt0 g c = sym (seen_whole c.args.items.now c.args.rest c.args.gap (omega (arith, c.if-gap-gt0.false)) c.requires.order)

use Rattle.std.proofs.Common.{length, refl, arith}
use Rattle.overlay_mapping_table.proofs.Searching.{begun, leapt, some}
use Rattle.overlay_mapping_table.proofs.probes.beyond.Goals as goal

pub between-requires-clause-passed : goal.between-requires-clause-passed
between-requires-clause-passed c =
    leapt (length c.args.slots.now) c.args.slots.now c.args.from c.args.from c.min-first.result c.requires.sound.order
    (begun (length c.args.slots.now) c.args.slots.now c.args.from)
    (omega (arith, c.min-first.ensures, c.max.ensures, c.len.ensures, some c.args.slots.now c.requires.sound)) (c.if-is_before.ensures.0 refl)

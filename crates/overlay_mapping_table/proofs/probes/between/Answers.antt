use Rattle.std.proofs.Common.{◌+◌, length, refl, subst, sym}
use Rattle.overlay_mapping_table.proofs.Searching.{IsBetween, halved_down, halved_up, stopped}
use Rattle.overlay_mapping_table.proofs.probes.between.Goals as goal
use Rattle.overlay_mapping_table.proofs.probes.between.Goals.{then-is_before, else-is_before}

pub halving-preserved : goal.halving-preserved
halving-preserved c =
    elim c.if-is_before.branch [
      | then-is_before w ↦
          subst (λ low. IsBetween (length c.args.slots.now) c.args.slots.now c.args.from low c.if-is_before.high) (sym w.low-is)
          (subst (λ high. IsBetween (length c.args.slots.now) c.args.slots.now c.args.from (c.middle-middle.result + 1) high) (sym w.high-is)
          (halved_up (length c.args.slots.now) c.args.slots.now c.args.from c.halving.low c.middle-middle.result c.halving.high c.halving.invariant
          c.middle-middle.ensures.low c.middle-middle.ensures.high c.requires.sound.order (w.if-is_before.ensures.0 refl)))
      | else-is_before w ↦
          subst (λ low. IsBetween (length c.args.slots.now) c.args.slots.now c.args.from low c.if-is_before.high) (sym w.low-is)
          (subst (λ high. IsBetween (length c.args.slots.now) c.args.slots.now c.args.from c.halving.low high) (sym w.high-is)
          (halved_down (length c.args.slots.now) c.args.slots.now c.args.from c.halving.low c.middle-middle.result c.halving.high c.halving.invariant
          c.middle-middle.ensures.low c.middle-middle.ensures.high (λ is. let before = w.if-is_before.ensures.1 is in cc (before))))
    ]

pub returns : goal.returns
returns c = stopped c.args.slots.now c.requires.sound c.args.from c.halving.low c.halving.high c.halving.invariant c.halving-test.false

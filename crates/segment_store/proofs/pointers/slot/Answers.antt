use Rattle.std.proofs.Common.{sym, ◌∙◌, arith, ap₂, ◌+◌, ◌*◌, ◌/◌, ◌%◌, ◌^◌}
use Rattle.segment_store.proofs.Numbers.{slot_read}
use Rattle.segment_store.proofs.pointers.slot.Goals as goal

pub returns : goal.returns
returns c =
    let bit = 5 * c.args.line in
    ap₂ (λ a b. (a + 256 * b) / 2 ^ (bit % 8) % 32) c.from.ensures c.from-2.ensures
    ∙ sym (slot_read c.args.pointers.now bit c.fits-pointers (omega (arith, c.requires, c.told-pointers)))

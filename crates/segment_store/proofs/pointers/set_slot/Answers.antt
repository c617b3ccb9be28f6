use Rattle.std.proofs.Common.{sym, ◌∙◌, arith, ap, ap₂, ◌+◌, ◌*◌, ◌/◌, ◌%◌, ◌^◌}
use Rattle.segment_store.proofs.Numbers.{slot_written}
use Rattle.segment_store.proofs.pointers.set_slot.Goals as goal

pub returns-clause-written : goal.returns-clause-written
returns-clause-written c =
    let bit = 5 * c.args.line in
    let pair = ap₂ (λ a b. a + 256 * b) c.from.ensures c.from-2.ensures in
    slot_written c.args.pointers.now bit c.args.slot c.put_field-changed.result c.fits-pointers c.told-pointers (omega (arith, c.requires.line)) c.requires.slot
    (ap (λ n. c.put_field-changed.result + n / 2 ^ (bit % 8) % 32 * 2 ^ (bit % 8)) (sym pair) ∙ c.put_field-changed.ensures ∙ ap (λ n. n + c.args.slot * 2 ^ (bit % 8)) pair)

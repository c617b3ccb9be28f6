use Rattle.std.proofs.Common.{w32, ap, ◌∙◌, arith}
use Rattle.std.specs.Int.{trailing_zeros}
use Rattle.segment_store.proofs.Pointing.{lowest_is, has_taken, still_free}
use Rattle.segment_store.proofs.pointers.insert.Goals as goal

pub returns-clause-lowest : goal.returns-clause-lowest
returns-clause-lowest c =
    lowest_is c.args.pointers.now _ c.requires.some (omega (arith, c.free.type_inv, c.free.ensures)) (ap (trailing_zeros w32) c.free.ensures)

pub take-requires-clause-free : goal.take-requires-clause-free
take-requires-clause-free c =
    let slot = trailing_zeros w32 c.free.result in
    let lowest = lowest_is c.args.pointers.now slot c.requires.some (omega (arith, c.free.type_inv, c.free.ensures)) (ap (trailing_zeros w32) c.free.ensures) in
    still_free c.args.line slot slot c.args.pointers.now c.set_slot.new.pointers c.requires.line c.set_slot.ensures.written ∙ lowest.free

pub returns-clause-taken : goal.returns-clause-taken
returns-clause-taken c =
    let slot = trailing_zeros w32 c.free.result in
    let lowest = lowest_is c.args.pointers.now slot c.requires.some (omega (arith, c.free.type_inv, c.free.ensures)) (ap (trailing_zeros w32) c.free.ensures) in
    has_taken c.args.line slot c.args.pointers.now c.set_slot.new.pointers c.take.new.pointers c.requires.line lowest.below c.set_slot.ensures.bytes c.take.ensures.bytes c.set_slot.ensures.written c.take.ensures.written

use Rattle.std.proofs.Common.{◌≡◌, ◌+◌, ◌/◌, ◌%◌, ◌*◌, ◌^◌, ◌-◌, get_or, set, arith, subst, ap₂, sym, ◌∙◌}
use Rattle.segment_store.specs.Pointers.{bytes_number, HasWritten}
use Rattle.segment_store.proofs.Numbers.{bit_read, bit_in, bit_cleared}
use Rattle.segment_store.proofs.pointers.take.Goals as goal

pub overflow_sub-byte : goal.overflow_sub-byte
overflow_sub-byte c =
    let slot = c.args.slot in
    let byte : (320 + slot) / 8 ≡ 40 + slot / 8 = omega arith in
    let shift : (320 + slot) % 8 ≡ slot % 8 = omega arith in
    let read = bit_read c.args.pointers.now (320 + slot) c.fits-pointers (omega (arith, c.requires.slot, c.told-pointers)) in
    let there = bit_in (slot % 8) (get_or c.args.pointers.now (40 + slot / 8) 0) (omega arith)
    (ap₂ (λ a b. get_or c.args.pointers.now a 0 / 2 ^ b % 2) (sym byte) (sym shift) ∙ sym read ∙ c.requires.free) in
    omega (arith, there.0, there.1, c.from.ensures)

pub returns-clause-written : goal.returns-clause-written
returns-clause-written c =
    let slot = c.args.slot in
    let bytes = c.args.pointers.now in
    let byte : (320 + slot) / 8 ≡ 40 + slot / 8 = omega arith in
    let shift : (320 + slot) % 8 ≡ slot % 8 = omega arith in
    let cleared = bit_cleared bytes (320 + slot) c.fits-pointers (omega (arith, c.requires.slot, c.told-pointers)) c.requires.free in
    subst (λ n. HasWritten (320 + slot) 1 0 (bytes_number bytes) (bytes_number (set bytes (40 + slot / 8) (n - 1 * 2 ^ (slot % 8) % 65536)))) (sym c.from.ensures)
    (subst (λ n. HasWritten (320 + slot) 1 0 (bytes_number bytes) (bytes_number n)) (ap₂ (λ a b. set bytes a (get_or bytes a 0 - 1 * 2 ^ b % 65536)) byte shift) cleared)

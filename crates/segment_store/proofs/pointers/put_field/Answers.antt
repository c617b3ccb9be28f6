use Rattle.std.proofs.Common.{arith, ap, ◌*◌, ◌%◌, ◌^◌}
use Rattle.segment_store.proofs.Numbers.{pair_fits}
use Rattle.segment_store.proofs.pointers.put_field.Goals as goal

pub overflow_add-result : goal.overflow_add-result
overflow_add-result c =
    let h = pair_fits c.args.shift c.args.pair c.args.value c.requires.shift c.ranges.pair.fits c.requires.value in
    record { fits = omega (arith, h.0, h.1, h.2, h.3, ap (λ n. n * 2 ^ c.args.shift % 65536) c.from.ensures) }

pub returns : goal.returns
returns c =
    let h = pair_fits c.args.shift c.args.pair c.args.value c.requires.shift c.ranges.pair.fits c.requires.value in
    omega (arith, h.0, h.1, h.2, h.3, ap (λ n. n * 2 ^ c.args.shift % 65536) c.from.ensures)

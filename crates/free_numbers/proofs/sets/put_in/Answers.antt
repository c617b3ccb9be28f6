use Rattle.std.proofs.Common.{◌/◌, ◌%◌, ◌∙◌, ap, cond, nat_eq, sym, true}
use Rattle.overlay_bits.specs.Lines.{has_line}
use Rattle.free_numbers.proofs.Members.{put_by, puts_with, set_read}
use Rattle.free_numbers.proofs.sets.put_in.Goals as goal

pub returns-clause-put : goal.returns-clause-put
returns-clause-put c =
    let read = set_read c.args.sets.now.items (c.args.number / 64) c.index.result.now c.requires c.index.ensures in
    put_by c.args.sets.now.items c.args.number c.with.result true c.requires
    (λ i. ap (λ s. has_line s i) c.with.ensures.lines ∙ puts_with c.index.result.now (c.args.number % 64) i
    ∙ ap (λ s. cond (nat_eq (c.args.number % 64) i) true (has_line s i)) (sym read))

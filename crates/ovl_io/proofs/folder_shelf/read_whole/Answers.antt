use Rattle.std.proofs.Common.{◌≤◌, subst, length, arith}
use Rattle.std.specs.Prelude.{IfSome, ◌≡◌}
use Rattle.sizes.specs.declared.TheConstants.{MOST_FILE_BYTES}
use Rattle.ovl_io.proofs.Whole.{within}
use Rattle.ovl_io.proofs.folder_shelf.read_whole.Goals as goal

pub returns-in-Ok-clause-whole : goal.returns-in-Ok-clause-whole
returns-in-Ok-clause-whole g c =
    let items = c.read_to_end.new.buf.items in
    let small : length items ≤ MOST_FILE_BYTES = omega (arith, c.if-len-le-MOST_FILE_BYTES.true, c.len.ensures) in
    subst (λ reader. IfSome (g.R.Read.remaining reader) (λ bytes. (items ≡ bytes) × (length bytes ≤ MOST_FILE_BYTES))) c.take.ensures.inner
    (within (g.R.Read.remaining c.take.result.inner) c.take.result.limit c.new-bytes.result.items items (c.in-Ok.ensures.bytes) c.new-bytes.ensures.items
    c.take.ensures.limit small)

use Rattle.std.proofs.Common.{arith}
use Rattle.std.proofs.lemmas.Bool.Decides.{nat_tests}
use Rattle.overlay_memory.proofs.Stored.{stored_none}
use Rattle.overlay_memory.proofs.storing.write_pages.Goals as goal

pub returns-then-is_empty-clause-stores : goal.returns-then-is_empty-clause-stores
returns-then-is_empty-clause-stores c =
    let h = c.if-is_empty.ensures in stored_none c.args.pages.now c.args.space c.args.address c.args.bytes.now (grind (arith, nat_tests))

use Rattle.space_ledger.proofs.Numbers.{new_books}
use Rattle.space_ledger.proofs.spaces.SpaceLedger.new.Goals as goal

pub invariant_of-result : goal.invariant_of-result
invariant_of-result c =
    new_books c.in-Ok.tables c.in-Ok-new.pool c.args.frames c.args.zero c.in-Ok.ensures.spaces c.in-Ok.ensures.frames c.in-Ok.ensures.zero c.in-Ok-new.ensures.none c.in-Ok-new.ensures.count
    c.requires.some c.requires.few c.requires.zero_frame

use Rattle.std.proofs.Common.{sym, ap, ◌∙◌}
use Rattle.free_numbers.specs.Numbers.{has_member}
use Rattle.free_numbers.proofs.Members.{none_has, set_read}
use Rattle.free_numbers.proofs.sets.least_in.Goals as goal

pub unreachable-requires : goal.unreachable-requires
unreachable-requires c =
    none_has c.index-sets-at.result
    (ap has_member (sym (set_read c.args.sets.now c.args.at c.index-sets-at.result c.requires.there c.index-sets-at.is)) ∙ c.requires.some)
    (λ i low. c.in-None.ensures i low)

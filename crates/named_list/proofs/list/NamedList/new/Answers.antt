use Rattle.named_list.specs.Listed.{name_in}
use Rattle.named_list.proofs.Kept.{listed_none}
use Rattle.named_list.proofs.list.NamedList.new.Goals as goal

pub invariant_of-result : goal.invariant_of-result
invariant_of-result g c = listed_none name_in (λ key. key.items) c.new.result.entries c.new-2.result.items c.new.ensures.empty c.new-2.ensures.items

use Rattle.std.proofs.Common.{[], ◌∷◌, ◌++◌, ap, ◌∙◌}
use Rattle.named_list.specs.Listed.{name_in, value_in}
use Rattle.named_list.proofs.Kept.{listed_more}
use Rattle.named_list.proofs.list.NamedList.enter.Goals as goal

pub invariant_of-self-2 : goal.invariant_of-self-2
invariant_of-self-2 g c =
    listed_more name_in value_in c.self.inside.rows.items c.args.self.now c.self.view_is (λ key. key.items) c.self.inside.numbers c.insert.new.self
    c.push_back_reserved.new.self.items c.self.inside.next c.in_ok-entry.entry c.args.name.now c.in_ok-key.key.items c.self.invariant
    c.requires.absent c.in_ok-entry.ensures.name c.in_ok-key.ensures.items c.in-Ok.ensures.updates
    (c.push_back_reserved.ensures.items ∙ ap (λ rows. rows ++ (c.self.inside.next, c.in_ok-entry.entry) ∷ []) c.in_ok-reserve.ensures.items)

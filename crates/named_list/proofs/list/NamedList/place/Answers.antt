use Rattle.named_list.specs.Listed.{name_in, value_in}
use Rattle.named_list.proofs.Kept.{found, no_gap, none_found}
use Rattle.named_list.proofs.list.NamedList.place.Goals as goal

pub unreachable-requires : goal.unreachable-requires
unreachable-requires g c =
    no_gap name_in value_in c.self.inside.rows.items c.args.self.now c.self.view_is (λ key. key.items) c.self.inside.numbers.entries c.self.inside.next
    c.self.invariant c.args.name.now c.in-Some.number.now c.in-Err.field-0 c.in-Some.ensures.value c.in-Err.ensures.gap

pub returns-in-Ok : goal.returns-in-Ok
returns-in-Ok g c =
    found name_in value_in c.self.inside.rows.items c.args.self.now c.self.view_is (λ key. key.items) c.self.inside.numbers.entries c.self.inside.next
    c.self.invariant c.args.name.now c.in-Some.number.now c.in-Ok.place c.in-Some.ensures.value c.in-Ok.ensures.there

pub returns-in-None : goal.returns-in-None
returns-in-None g c =
    none_found name_in value_in c.self.inside.rows.items c.args.self.now c.self.view_is (λ key. key.items) c.self.inside.numbers.entries
    c.self.inside.next c.self.invariant c.args.name.now c.in-None.ensures.value

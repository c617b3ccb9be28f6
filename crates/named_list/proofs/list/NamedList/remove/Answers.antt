use Rattle.std.proofs.Common.{rules, ◌≡◌, length, Some, sym, ap, ◌∙◌, arith}
use Rattle.std.specs.Prelude.{nat_eq}
use Rattle.std.specs.VecDeque.{deque_len}
use lib.Pointwise.{pointwise}
use Rattle.named_list.specs.Listed.{name_in, value_in}
use Rattle.named_list.proofs.Places.{all_stay}
use Rattle.named_list.proofs.Kept.{listed_rest, place_rest, place_value, place_within}
use Rattle.named_list.proofs.list.NamedList.remove.Goals as goal

pub unreachable-requires : goal.unreachable-requires
unreachable-requires g c =
    let rows = c.self.inside.rows in
    let lens : deque_len rows ≡ length rows.items = search rules in
    let within = place_within name_in value_in rows.items c.args.self.now c.self.view_is c.args.name.now c.in-Some.place c.in-Some.ensures in
    let none = c.in-None-remove.ensures.variant.1 (omega (arith, within, lens)) in cc

pub invariant_of-self : goal.invariant_of-self
invariant_of-self g c =
    listed_rest name_in value_in c.self.inside.rows.items c.args.self.now c.self.view_is c.args.name.now c.in-Some.place c.in-Some.ensures
    (λ key. key.items) c.self.inside.numbers c.swap_remove.new.self c.remove.new.self.items c.self.inside.next c.self.invariant
    c.swap_remove.ensures.updates c.in-Some-remove.ensures.items

pub returns-in-Some-remove-clause-removed : goal.returns-in-Some-remove-clause-removed
returns-in-Some-remove-clause-removed g c =
    ap (λ entry. Some entry.value) c.into_inner.ensures
    ∙ place_value name_in value_in c.self.inside.rows.items c.args.self.now c.self.view_is c.args.name.now c.in-Some.place c.in-Some.ensures
    (c.in-Some-remove.field-0-0, c.in-Some-remove.entry) c.in-Some-remove.ensures.value

pub returns-in-Some-remove-clause-others : goal.returns-in-Some-remove-clause-others
returns-in-Some-remove-clause-others g c =
    place_rest name_in value_in c.self.inside.rows.items c.args.self.now c.self.view_is c.args.name.now c.in-Some.place c.in-Some.ensures
    c.remove.new.self.items c.in-Some-remove.ensures.items

pub returns-in-None-clause-others : goal.returns-in-None-clause-others
returns-in-None-clause-others g c = sym (all_stay (pointwise nat_eq c.args.name.now) c.args.self.now c.in-None.ensures)

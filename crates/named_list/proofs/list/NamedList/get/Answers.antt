use Rattle.std.proofs.Common.{rules, ◌≡◌, length, Some, ap, ◌∙◌, arith}
use Rattle.std.specs.VecDeque.{deque_len}
use Rattle.named_list.specs.Listed.{name_in, value_in}
use Rattle.named_list.proofs.Kept.{place_value, place_within}
use Rattle.named_list.proofs.list.NamedList.get.Goals as goal

pub unreachable-requires : goal.unreachable-requires
unreachable-requires g c =
    let rows = c.self.inside.rows in
    let lens : deque_len rows ≡ length rows.items = search rules in
    let within = place_within name_in value_in rows.items c.args.self.now c.self.view_is c.args.name.now c.in-Some.place c.in-Some.ensures in
    let none = c.in-None-get.ensures.variant.1 (omega (arith, within, lens)) in cc

pub returns-in-Some-get : goal.returns-in-Some-get
returns-in-Some-get g c =
    ap (λ entry. Some entry.value) c.deref.ensures
    ∙ place_value name_in value_in c.self.inside.rows.items c.args.self.now c.self.view_is c.args.name.now c.in-Some.place c.in-Some.ensures
    c.in-Some-get.field-0.now c.in-Some-get.ensures.lookup

use Rattle.std.proofs.Common.{sym, ap, ◌∙◌, refl, arith, length-set}
use Rattle.std.specs.Option.{is_some}
use Rattle.by_number.specs.Slots.{slot_with, value_of}
use Rattle.by_number.proofs.Kept.{get_values, has_slot, slot_is, values_written}
use Rattle.by_number.proofs.values.ByNumber.value_mut.Goals as goal

pub index_mut-requires : goal.index_mut-requires
index_mut-requires g c =
    let items = c.self.inside.slots.items in
    let has = has_slot items c.args.number (ap is_some (sym (get_values items c.args.number)) ∙ (rw (← c.self.view_is) at c.requires)) in
    omega (arith, has, c.self.inside.slots.ok.0)

pub value_mut-requires : goal.value_mut-requires
value_mut-requires g c =
    let items = c.self.inside.slots.items in
    let has = ap is_some (sym (get_values items c.args.number)) ∙ (rw (← c.self.view_is) at c.requires) in
    ap (λ slot. is_some (value_of slot)) (sym (slot_is items c.args.number c.index_mut.result.now (has_slot items c.args.number has) c.index_mut.ensures.value)) ∙ has

pub invariant_of-self-lent : goal.invariant_of-self-lent
invariant_of-self-lent g c w =
    let items = c.self.inside.slots.items in
    omega (arith, c.self.invariant, length-set items c.args.number (slot_with c.index_mut.result.now w))

pub returns : goal.returns
returns g c =
    let items = c.self.inside.slots.items in
    let n = c.args.number in
    let slot = c.index_mut.result.now in
    let has = ap is_some (sym (get_values items n)) ∙ (rw (← c.self.view_is) at c.requires) in
    let within = has_slot items n has in
    let is = slot_is items n slot within c.index_mut.ensures.value in (
      (refl, λ w. rw (← c.self.view_is) (values_written items n slot w within (ap (λ s. is_some (value_of s)) (sym is) ∙ has))),
      record { writes_back = tt; value = rw (← c.self.view_is) (get_values items n ∙ ap value_of is ∙ c.value_mut.ensures.value) },
    )

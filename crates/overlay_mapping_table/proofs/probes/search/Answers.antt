use Rattle.std.proofs.Common.{◌+◌, ◌%◌, length, ap, ◌∙◌, arith}
use Rattle.overlay_mapping_table.specs.Homes.{home_number}
use Rattle.overlay_mapping_table.proofs.Searching.{found, gap_at_home, gap_found, past_begun}
use Rattle.overlay_mapping_table.proofs.probes.search.Goals as goal

pub probing-init : goal.probing-init
probing-init c =
    past_begun c.args.slots.now c.args.p (c.len-n.result + c.home-slot.result) c.requires
    (ap (λ n. n + c.home-slot.result) c.len-n.ensures ∙ ap (λ h. length c.args.slots.now + h) c.home-slot.ensures.same
    ∙ ap (λ n. length c.args.slots.now + home_number c.args.p % n) c.len-n.ensures)
    c.beyond-place.result c.beyond-place.ensures

pub returns-then-number_at-name-clause-there : goal.returns-then-number_at-name-clause-there
returns-then-number_at-name-clause-there c =
    found c.args.slots.now c.args.p c.home-slot.result c.number_at.result (omega (arith, c.home-slot.ensures.below, c.len-n.ensures)) c.number_at.ensures
    (omega (arith, c.if-number_at-name.true, c.address-name.ensures.address)) c.address-name.ensures.is

pub returns-then-number_at-name-2-clause-there : goal.returns-then-number_at-name-2-clause-there
returns-then-number_at-name-2-clause-there c =
    found c.args.slots.now c.args.p c.wrap-at.result c.number_at-in-probing.result (omega (arith, c.wrap-at.ensures.below, c.len-n.ensures)) c.number_at-in-probing.ensures
    (omega (arith, c.if-number_at-name-2.true, c.address-name.ensures.address)) c.address-name.ensures.is

pub returns-then-not-is_before-clause-gap : goal.returns-then-not-is_before-clause-gap
returns-then-not-is_before-clause-gap c =
    gap_found c.args.slots.now c.args.p (c.len-n.result + c.home-slot.result) c.requires
    (ap (λ n. n + c.home-slot.result) c.len-n.ensures ∙ ap (λ h. length c.args.slots.now + h) c.home-slot.ensures.same
    ∙ ap (λ n. length c.args.slots.now + home_number c.args.p % n) c.len-n.ensures)
    c.probing.place c.wrap-at.result c.number_at-in-probing.result c.probing.invariant
    (c.wrap-at.ensures.same ∙ ap (λ n. c.probing.place % n) c.len-n.ensures) c.number_at-in-probing.ensures
    (λ same. c.if-number_at-name-2.false (omega (arith, same, c.address-name.ensures.address)))
    (λ is. let yes_it_is = c.if-not-is_before.ensures.1 is in cc (yes_it_is))

pub returns-in-None-clause-gap : goal.returns-in-None-clause-gap
returns-in-None-clause-gap c =
    gap_at_home c.args.slots.now c.args.p (c.len-n.result + c.home-slot.result) c.requires
    (ap (λ n. n + c.home-slot.result) c.len-n.ensures ∙ ap (λ h. length c.args.slots.now + h) c.home-slot.ensures.same
    ∙ ap (λ n. length c.args.slots.now + home_number c.args.p % n) c.len-n.ensures)
    c.home-slot.result c.number_at.result c.name_at.result (c.home-slot.ensures.same ∙ ap (λ n. home_number c.args.p % n) c.len-n.ensures)
    c.number_at.ensures (λ same. c.if-number_at-name.false (omega (arith, same, c.address-name.ensures.address))) c.name_at.ensures
    c.in-None.is

use Rattle.std.proofs.Common.{◌≡◌, ◌+◌, ◌^◌, option_to_list, sym, ap, subst, arith}
use Rattle.unit_map.specs.Settled.{all_settled}
use Rattle.segment_store.specs.Kept.{IsStore}
use Rattle.segment_store.specs.Changes.{moved_lines}
use Rattle.segment_store.specs.Runs.{ascend_length, ascend_lines, lines_more, made_keeps, made_outside}
use Rattle.segment_store.proofs.Settling.{IsSettling, settling_more}
use Rattle.segment_store.proofs.store.SegmentStore.settle.Goals as goal

pub list-requires : goal.list-requires
list-requires g c = omega (arith, ascend_length 0 c.settling.order c.settling.moves.items c.settling.invariant.0.ascend, c.settling-test.true)

pub settling-preserved : goal.settling-preserved
settling-preserved g c =
    let step = c.settle_order-made in
    let is = step.ensures in
    let more = settling_more c.args.self.now c.settling.self step.new.self c.settling.moves.items step.result c.settling.order c.settling.invariant.0 is.but is.made is.order in (
      subst (λ ms. IsSettling c.args.self.now step.new.self ms (c.settling.order + 1)) (sym c.list.ensures) more,
      omega (arith, is.steps, c.settling.invariant.1, lines_more c.settling.moves.items (option_to_list step.result), ap moved_lines c.list.ensures),
    )

pub returns-clause-settled : goal.returns-clause-settled
returns-clause-settled g c = all_settled _ c.settling.order (omega (arith, c.settling-test.false)) c.settling.invariant.0.but

pub returns-clause-few : goal.returns-clause-few
returns-clause-few g c =
    let all : c.settling.order ≡ 4 = omega (arith, c.settling-test.false, c.settling.auto.order-end) in
    omega (arith, ascend_lines 0 c.settling.order c.settling.moves.items c.settling.invariant.0.ascend, ap (λ k. 2 ^ k) all)

pub returns-clause-outside : goal.returns-clause-outside
returns-clause-outside g c = made_outside c.args.self.now c.settling.self c.settling.moves.items c.settling.invariant.0.made

pub returns-clause-kept : goal.returns-clause-kept
returns-clause-kept g c = made_keeps c.args.self.now c.settling.self c.settling.moves.items (subst IsStore c.self.view_is c.self.invariant) c.settling.invariant.0.made

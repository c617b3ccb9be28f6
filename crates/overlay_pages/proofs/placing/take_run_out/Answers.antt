use Rattle.overlay_pages.proofs.Common.{◌+◌, sym, subst}
use Rattle.overlay_pages.proofs.Stores.{Store}
use Rattle.overlay_pages.proofs.Leaving.{gives_frame}
use Rattle.overlay_pages.proofs.RunLeaving.{HasLeft, all_left, frame_below, frame_taken, none_left, one_given, one_kept}
use Rattle.overlay_pages.proofs.placing.take_run_out.Goals as goal
use Rattle.overlay_pages.proofs.placing.take_run_out.Goals.{then-is_unused, else-is_unused}

pub giving-init : goal.giving-init
giving-init c = none_left c.args.store.now c.args.ledger.now c.args.space c.args.run.now
    c.requires.joined c.requires.there c.requires.bare

pub is_unused-requires : goal.is_unused-requires
is_unused-requires c =
    frame_below c.args.store.now c.args.ledger.now c.args.space c.args.run.now
    c.requires.joined c.requires.there c.requires.bare c.giving.store c.giving.i c.giving-test.true
    c.giving.invariant c.entry_at-entry.result c.entry_at-entry.ensures c.remove_run.new.self c.remove_run.ensures.gone

pub give_frame-requires : goal.give_frame-requires
give_frame-requires c =
    frame_taken c.args.store.now c.args.ledger.now c.args.space c.args.run.now
    c.requires.joined c.requires.there c.requires.bare c.giving.store c.giving.i c.giving-test.true
    c.giving.invariant c.entry_at-entry.result c.entry_at-entry.ensures

pub returns-then-remove_run-eq0-clause-joined : goal.returns-then-remove_run-eq0-clause-joined
returns-then-remove_run-eq0-clause-joined c =
    (all_left c.args.store.now c.args.ledger.now c.args.space c.args.run.now c.requires.joined c.requires.there c.requires.bare c.remove_run.new.self
    c.remove_run.ensures.given (c.remove_run.ensures.none c.if-remove_run-eq0.true) c.remove_run.ensures.gone).0

pub returns-then-remove_run-eq0-clause-state : goal.returns-then-remove_run-eq0-clause-state
returns-then-remove_run-eq0-clause-state c =
    (all_left c.args.store.now c.args.ledger.now c.args.space c.args.run.now c.requires.joined c.requires.there c.requires.bare c.remove_run.new.self
    c.remove_run.ensures.given (c.remove_run.ensures.none c.if-remove_run-eq0.true) c.remove_run.ensures.gone).1

pub giving-preserved : goal.giving-preserved
giving-preserved c = elim c.if-is_unused.branch [
  | then-is_unused w ↦
      let g = w.give_frame.ensures in
      subst (λ (st : Store). HasLeft c.args.store.now st c.args.ledger.now c.args.space c.args.run.now (c.giving.i + 1)) (sym w.store-is)
      (one_given c.args.store.now c.args.ledger.now c.args.space c.args.run.now
      c.requires.joined c.requires.there c.requires.bare c.remove_run.new.self c.remove_run.ensures.given
      c.giving.i c.giving-test.true c.giving.store c.giving.invariant c.entry_at-entry.result c.entry_at-entry.ensures c.is_unused.result c.is_unused.ensures
      w.give_frame.new.self w.if-is_unused.true
      (gives_frame c.giving.store w.give_frame.new.self c.entry_at-entry.result.frame g.same g.segments g.frames g.settled g.free g.units g.store))
  | else-is_unused w ↦
      subst (λ (st : Store). HasLeft c.args.store.now st c.args.ledger.now c.args.space c.args.run.now (c.giving.i + 1)) (sym w.store-is)
      (one_kept c.args.store.now c.args.ledger.now c.args.space c.args.run.now
      c.requires.joined c.requires.there c.requires.bare c.remove_run.new.self c.remove_run.ensures.given
      c.giving.i c.giving-test.true c.giving.store c.giving.invariant c.entry_at-entry.result c.entry_at-entry.ensures c.is_unused.result c.is_unused.ensures
      w.if-is_unused.false)
]

use Rattle.space_ledger.proofs.Common.{sym, arith}
use Rattle.space_ledger.proofs.RunCounts.{going, frame_there, none_counted, one_counted, units_small, zero_counted, zero_units}
use Rattle.space_ledger.proofs.frames.release_run.Goals as goal

pub returns-then-run-zero-clause-released : goal.returns-then-run-zero-clause-released
returns-then-run-zero-clause-released c = sym (zero_counted (going c.args.zero) c.args.pool.now c.args.run.now c.if-not-run.true c.if-run-zero.true c.args.run.now.n)

pub returns-then-run-zero-clause-units : goal.returns-then-run-zero-clause-units
returns-then-run-zero-clause-units c = sym (zero_units (going c.args.zero) c.args.pool.now c.args.run.now c.if-not-run.true c.if-run-zero.true c.args.run.now.n)

pub releasing-init : goal.releasing-init
releasing-init c = none_counted (going c.args.zero) c.args.pool.now c.args.run.now

pub release-units-requires-clause-there : goal.release-units-requires-clause-there
release-units-requires-clause-there c =
    frame_there (going c.args.zero) c.args.pool.now c.releasing.pool c.releasing.units c.args.run.now c.releasing.i c.entry_at-entry.result c.releasing.invariant
    c.entry_at-entry.ensures (c.requires.there c.releasing.i c.releasing-test.true)

pub overflow_add-units : goal.overflow_add-units
overflow_add-units c =
    let short = c.requires.short in
    let before = c.releasing-test.true in
    let small = units_small (going c.args.zero) c.args.pool.now c.releasing.pool c.releasing.units c.args.run.now c.releasing.i c.entry_at-entry.result c.releasing.invariant c.entry_at-entry.ensures
    c.release-units.new.pool c.release-units.result c.entry_at-entry.result.frame c.release-units.ensures.units (omega (arith, short, before)) in
    omega (arith, small)

pub releasing-preserved : goal.releasing-preserved
releasing-preserved c =
    one_counted (going c.args.zero) c.args.pool.now c.releasing.pool c.releasing.units c.args.run.now c.releasing.i c.entry_at-entry.result c.releasing.invariant c.entry_at-entry.ensures
    c.release-units.new.pool c.release-units.result c.release-units.ensures.released c.release-units.ensures.units

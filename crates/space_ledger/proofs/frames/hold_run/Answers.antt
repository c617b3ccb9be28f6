use Rattle.space_ledger.proofs.Common.{sym, arith}
use Rattle.space_ledger.proofs.RunCounts.{coming, frame_there, none_counted, one_counted, units_small, zero_counted, zero_units}
use Rattle.space_ledger.proofs.frames.hold_run.Goals as goal

pub returns-then-run-zero-clause-held : goal.returns-then-run-zero-clause-held
returns-then-run-zero-clause-held c = sym (zero_counted (coming c.args.zero) c.args.pool.now c.args.run.now c.if-not-run.true c.if-run-zero.true c.args.run.now.n)

pub returns-then-run-zero-clause-units : goal.returns-then-run-zero-clause-units
returns-then-run-zero-clause-units c = sym (zero_units (coming c.args.zero) c.args.pool.now c.args.run.now c.if-not-run.true c.if-run-zero.true c.args.run.now.n)

pub holding-init : goal.holding-init
holding-init c = none_counted (coming c.args.zero) c.args.pool.now c.args.run.now

pub hold-units-requires-clause-there : goal.hold-units-requires-clause-there
hold-units-requires-clause-there c =
    frame_there (coming c.args.zero) c.args.pool.now c.holding.pool c.holding.units c.args.run.now c.holding.i c.entry_at-entry.result c.holding.invariant
    c.entry_at-entry.ensures (c.requires.there c.holding.i c.holding-test.true)

pub overflow_add-units : goal.overflow_add-units
overflow_add-units c =
    let short = c.requires.short in
    let before = c.holding-test.true in
    let small = units_small (coming c.args.zero) c.args.pool.now c.holding.pool c.holding.units c.args.run.now c.holding.i c.entry_at-entry.result c.holding.invariant c.entry_at-entry.ensures
    c.hold-units.new.pool c.hold-units.result c.entry_at-entry.result.frame c.hold-units.ensures.units (omega (arith, short, before)) in
    omega (arith, small)

pub holding-preserved : goal.holding-preserved
holding-preserved c =
    one_counted (coming c.args.zero) c.args.pool.now c.holding.pool c.holding.units c.args.run.now c.holding.i c.entry_at-entry.result c.holding.invariant c.entry_at-entry.ensures
    c.hold-units.new.pool c.hold-units.result c.hold-units.ensures.held c.hold-units.ensures.units

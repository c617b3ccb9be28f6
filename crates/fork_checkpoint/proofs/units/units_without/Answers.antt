use Rattle.std.proofs.Common.{◌+◌, sym, subst, arith}
use Rattle.overlay_memory.specs.View.{state_of}
use Rattle.fork_checkpoint.proofs.Leaving.{IsLeaving, leaving_all, leaving_enough, leaving_more, leaving_none, leaving_zeros}
use Rattle.fork_checkpoint.proofs.units.units_without.Goals as goal

pub leaving-init : goal.leaving-init
leaving-init c = leaving_none (state_of c.args.mem.now) c.args.space c.units-units.result c.requires.there c.units-units.ensures.sum c.units-units.ensures.fits

pub without_page-units-requires-clause-there : goal.without_page-units-requires-clause-there
without_page-units-requires-clause-there c = c.in-Some.ensures.1

pub without_page-units-requires-clause-enough : goal.without_page-units-requires-clause-enough
without_page-units-requires-clause-enough c =
    leaving_enough (state_of c.args.mem.now) c.args.space c.leaving.units c.leaving.from c.in-Some.page c.see_apart.ensures c.leaving.invariant c.in-Some.ensures

pub returns-clause-sum : goal.returns-clause-sum
returns-clause-sum c = leaving_all (state_of c.args.mem.now) c.args.space c.leaving.units c.leaving.from c.leaving.invariant c.in_default.ensures

pub returns-clause-few : goal.returns-clause-few
returns-clause-few c = c.leaving.invariant.few

pub leaving-preserved-then-zeros-eq0 : goal.leaving-preserved-then-zeros-eq0
leaving-preserved-then-zeros-eq0 c =
    leaving_more (state_of c.args.mem.now) c.args.space c.leaving.units c.leaving.from c.in-Some.page c.see_apart.ensures c.leaving.invariant c.in-Some.ensures
    c.without_page-units.result c.without_page-units.ensures.sum c.without_page-units.ensures.low

pub leaving-preserved : goal.leaving-preserved
leaving-preserved c =
    subst (λ k. IsLeaving (state_of c.args.mem.now) c.args.space c.leaving.units (c.in-Some.page + k)) (sym c.from.ensures)
    (leaving_zeros (state_of c.args.mem.now) c.args.space c.leaving.units c.leaving.from c.in-Some.page c.see_apart.ensures c.leaving.invariant c.in-Some.ensures
    c.zeros_from-zeros.result c.zeros_from-zeros.ensures.zeros (c.zeros_from-zeros.ensures.low (omega (arith, c.if-zeros-eq0.false))))

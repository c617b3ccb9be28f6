use Rattle.std.proofs.Common.{◌+◌, ◌-◌, sym, subst}
use Rattle.overlay_pages.specs.View.{state_of}
use Rattle.overlay_memory.proofs.Unmapping.{IsUnmapping, next_there, still_settled, still_there, unmapping_more, unmapping_none}
use Rattle.overlay_memory.proofs.removing.unmap_pages.Goals as goal

pub unmapping-init : goal.unmapping-init
unmapping-init c = unmapping_none (state_of c.args.pages.now) c.args.space c.args.page c.args.n c.requires.there

pub remove_run-gone-requires-clause-space : goal.remove_run-gone-requires-clause-space
remove_run-gone-requires-clause-space c =
    still_there (state_of c.args.pages.now) c.args.space c.args.page c.args.n c.requires.there (state_of c.unmapping.pages) c.unmapping.at c.unmapping.left c.unmapping.invariant c.unmapping-test.true

pub remove_run-gone-requires-clause-none_awaits : goal.remove_run-gone-requires-clause-none_awaits
remove_run-gone-requires-clause-none_awaits c =
    still_settled (state_of c.args.pages.now) c.args.space c.args.page c.args.n c.requires.there (state_of c.unmapping.pages) c.unmapping.at c.unmapping.left c.unmapping.invariant c.unmapping-test.true c.requires.none_awaits

pub remove_run-gone-requires-clause-there : goal.remove_run-gone-requires-clause-there
remove_run-gone-requires-clause-there c =
    next_there (state_of c.args.pages.now) c.args.space c.args.page c.args.n c.requires.there (state_of c.unmapping.pages) c.unmapping.at c.unmapping.left c.unmapping.invariant c.unmapping-test.true

pub unmapping-preserved : goal.unmapping-preserved
unmapping-preserved c =
    subst (λ k. IsUnmapping (state_of c.args.pages.now) (state_of c.remove_run-gone.new.self) c.args.space c.args.page c.args.n (c.unmapping.at + k) (c.unmapping.left - c.remove_run-gone.result)) (sym c.from-at.ensures)
    (unmapping_more (state_of c.args.pages.now) c.args.space c.args.page c.args.n c.requires.there (state_of c.unmapping.pages) c.unmapping.at c.unmapping.left c.unmapping.invariant c.unmapping-test.true
    (state_of c.remove_run-gone.new.self) c.remove_run-gone.result c.remove_run-gone.ensures.gone c.remove_run-gone.ensures.few)

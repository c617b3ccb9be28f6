use Rattle.overlay_pages.specs.View.{state_of}
use Rattle.overlay_memory.proofs.Emptied.{emptied, emptying_more, fewer}
use Rattle.overlay_memory.proofs.removing.remove_pages.Goals as goal

pub removing-smaller : goal.removing-smaller
removing-smaller c =
    fewer (state_of c.removing.pages) (state_of c.remove_run.new.self) c.args.space c.in-Some.page c.remove_run.result c.remove_run.ensures.gone c.remove_run.ensures.some c.in-Some.ensures.1

pub removing-preserved : goal.removing-preserved
removing-preserved c =
    emptying_more (state_of c.args.pages.now) (state_of c.removing.pages)
    (state_of c.remove_run.new.self) c.args.space c.in-Some.page c.remove_run.result c.removing.invariant c.remove_run.ensures.gone

pub returns : goal.returns
returns c = emptied (state_of c.args.pages.now) (state_of c.removing.pages) c.args.space c.removing.invariant c.in_default.ensures

use Rattle.std.proofs.Common.{sym, subst, ◌∙◌}
use Rattle.ledger.specs.LargeLaws.{NoneLarge}
use Rattle.overlay_pages.specs.State.{books}
use Rattle.overlay_pages.specs.View as seen
use Rattle.overlay_memory.specs.SmallLaws.{none_large}
use Rattle.overlay_memory.specs.View.{state_of}
use Rattle.overlay_memory.proofs.memory.OverlayMemory.is_speculating.Goals as goal

pub returns-clause-small : goal.returns-clause-small
returns-clause-small c = λ off.
    subst (λ m. NoneLarge (books (state_of m)) c.args.space) c.self.view_is
    (none_large (seen.state_of c.self.inside.pages) c.args.space c.self.invariant.0.small (sym c.is_speculating.ensures.mark ∙ off))

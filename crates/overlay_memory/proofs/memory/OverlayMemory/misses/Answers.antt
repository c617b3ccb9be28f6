use Rattle.std.proofs.Common.{ap, subst, ◌∙◌}
use Rattle.overlay_memory.specs.View.{AreTrue, state_of, translations_of}
use Rattle.translation_cache.specs.Bare.{bare, formed_bare}
use Rattle.translation_cache.specs.Formed.{IsFormed}
use Rattle.overlay_memory.proofs.memory.OverlayMemory.misses.Goals as goal

pub returns-clause-misses : goal.returns-clause-misses
unfolding bare
returns-clause-misses c = c.misses.ensures.misses ∙ ap (λ m. (translations_of m).misses) c.self.view_is

pub returns-clause-formed : goal.returns-clause-formed
returns-clause-formed c = subst (λ m. IsFormed (translations_of m)) c.self.view_is (formed_bare c.self.inside.cache c.misses.ensures.formed)

pub returns-clause-held : goal.returns-clause-held
returns-clause-held c = subst (λ m. AreTrue (state_of m) m.cache) c.self.view_is c.self.invariant.0.entries

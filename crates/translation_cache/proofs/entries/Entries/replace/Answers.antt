use Rattle.std.proofs.Common.{ap, sym, subst, ◌∙◌, refl}
use Rattle.translation_cache.specs.Cuts.{IsPlace}
use Rattle.translation_cache.specs.Translations.{changed, entry_of}
use Rattle.translation_cache.proofs.Lists.{changed_at, changed_none}
use Rattle.translation_cache.proofs.entries.Entries.replace.Goals as goal

pub returns-in-Some : goal.returns-in-Some
returns-in-Some c =
    let at = c.entry.inside in
    changed_at (λ _. c.args.held) c.args.space c.args.page c.self.inside.list.items c.as_mut_slice.result.now c.in-Some.at
    (entry_of at.space at.page at.held) (entry_of at.space at.page c.args.held) _
    (subst (λ es. IsPlace c.args.space c.args.page es c.in-Some.at) (sym c.self.view_is) c.in-Some.ensures.place)
    c.as_mut_slice.ensures.value c.entry.view_is refl
    ∙ ap (changed (λ _. c.args.held) c.args.space c.args.page) c.self.view_is

pub returns-in-None : goal.returns-in-None
returns-in-None c = sym (changed_none (λ _. c.args.held) c.args.space c.args.page c.args.self.now c.in-None.ensures.place)

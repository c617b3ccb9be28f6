use Rattle.std.proofs.Common.{◌+◌, ◌∷◌, ◌++◌, length, take, drop, get_or, Some, ap, ◌∙◌}
use Rattle.translation_cache.proofs.Lists.{held_at, raised_other, refill_all}
use Rattle.translation_cache.proofs.entries.Entries.look.Goals as goal

pub returns-else-at-eq0-clause-found : goal.returns-else-at-eq0-clause-found
returns-else-at-eq0-clause-found c =
    ap (λ x. Some x.held) c.entry.view_is
    ∙ held_at c.args.space c.args.page c.args.self.now c.in-Some.at c.index-list-at.result c.in-Some.ensures.place
    (c.index-list-at.is ∙ ap (λ es. get_or es c.in-Some.at c.index-list-at.result) (c.as_mut_slice-list.ensures.value ∙ c.self.view_is))

pub returns-else-at-eq0-clause-raised : goal.returns-else-at-eq0-clause-raised
returns-else-at-eq0-clause-raised c =
    let read = c.as_mut_slice-list.ensures.value ∙ c.self.view_is in
    refill_all c.self.inside.list.items c.shift_in.new.list (c.shift_in.auto.list ∙ ap length c.as_mut_slice-list.ensures.value)
    ∙ c.shift_in.ensures
    ∙ ap (λ es. c.index-list-at.result ∷ (take c.in-Some.at es ++ drop (c.in-Some.at + 1) es)) read
    ∙ raised_other c.args.space c.args.page c.args.self.now c.in-Some.at c.index-list-at.result c.in-Some.ensures.place
    (c.index-list-at.is ∙ ap (λ es. get_or es c.in-Some.at c.index-list-at.result) read)

use Rattle.std.proofs.Common.{ap, sym, subst, ◌∙◌}
use Rattle.translation_cache.specs.Cuts.{IsPlace}
use Rattle.translation_cache.proofs.Lists.{is_yes, none_more, not_page, not_space, place_is}
use Rattle.translation_cache.proofs.entries.Entries.place.Goals as goal
use Rattle.translation_cache.proofs.entries.Entries.place.Goals.{else-entry-space-via-then-entry-space+else-entry-page, else-entry-space-via-else-entry-space}

pub returns-then-entry-page-clause-place : goal.returns-then-entry-page-clause-place
returns-then-entry-page-clause-place c =
    subst (λ es. IsPlace c.args.space c.args.page es c.looking.at) (c.as_slice-entry-items.ensures.value ∙ c.self.view_is)
    (place_is c.args.space c.args.page c.as_slice-entry-items.result.now c.looking.at c.entry-item.result c.looking-test.true c.looking.invariant c.entry-item.is
    (is_yes c.args.space c.args.page c.entry-item.result (sym (ap (λ x. x.space) c.entry.view_is) ∙ c.if-entry-space.true)
    (sym (ap (λ x. x.page) c.entry.view_is) ∙ c.if-entry-page.true)))

pub looking-preserved : goal.looking-preserved
looking-preserved c =
    none_more c.args.space c.args.page c.as_slice-entry-items.result.now c.looking.at c.entry-item.result c.looking-test.true c.looking.invariant c.entry-item.is
    (elim c.else-entry-space.branch [
      | else-entry-space-via-then-entry-space+else-entry-page w ↦
          not_page c.args.space c.args.page c.entry-item.result (λ same. w.if-entry-page.false (ap (λ x. x.page) c.entry.view_is ∙ same))
      | else-entry-space-via-else-entry-space w ↦
          not_space c.args.space c.args.page c.entry-item.result (λ same. w.if-entry-space.false (ap (λ x. x.space) c.entry.view_is ∙ same))
    ])

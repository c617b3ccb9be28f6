use Rattle.space_ledger.proofs.Common.{ap, sym, ◌∙◌}
use Rattle.space_ledger.proofs.Pages.{remove_absent}
use Rattle.space_ledger.proofs.Views.{none_by, put_over}
use Rattle.space_ledger.proofs.tables.put.Goals as goal

pub returns-else-had-clause-entries : goal.returns-else-had-clause-entries
returns-else-had-clause-entries c =
    sym (remove_absent c.args.overlays.now.entries c.args.name (none_by _ (sym c.requires.had ∙ c.if-had.false))) ∙ ap (put_over c.args.overlays.now.entries c.args.name) (sym c.in-None.is)

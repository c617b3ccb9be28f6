use Rattle.delta_spaces.proofs.Fitted.{fitted_there}
use Rattle.std.proofs.Common.{sym}
use Rattle.delta_spaces.proofs.fitting.fit_page.Goals as goal

pub returns-then-ne : goal.returns-then-ne
returns-then-ne c =
    fitted_there c.args.table.now.pages c.set.new.self.pages c.args.page.now.page c.args.page.now.perms c.in-Some.entry (sym c.in-Some.ensures) c.set.ensures.entry

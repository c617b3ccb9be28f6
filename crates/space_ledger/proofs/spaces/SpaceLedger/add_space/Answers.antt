use Rattle.space_ledger.proofs.Common.{ap, ◌∙◌}
use Rattle.space_ledger.proofs.Views.{bare_space, holds_space, put_space, LedgerView}
use Rattle.space_ledger.proofs.Booked.{booked_space}
use Rattle.space_ledger.proofs.Numbers.{on_either}
use Rattle.space_ledger.proofs.spaces.SpaceLedger.add_space.Goals as goal

pub invariant_of-self : goal.invariant_of-self
invariant_of-self c =
    on_either c.add.result c.self.inside.tables c.add.new.self (put_space c.self.inside.tables c.args.space bare_space) c.self.inside.pool c.self.inside.units c.self.inside.lines c.self.invariant
    (booked_space c.self.invariant c.args.space (ap (λ (v : LedgerView). holds_space v c.args.space) c.self.view_is ∙ c.requires.absent))
    c.add.ensures.added c.add.ensures.kept

use Rattle.space_ledger.proofs.Common.{sym, ap, subst, ◌∙◌}
use Rattle.space_ledger.proofs.Views.{holds_space, LedgerView, with_zero_pages, ArePagesFree}
use Rattle.space_ledger.proofs.Numbers.{mapped_view, on_either}
use Rattle.space_ledger.proofs.spaces.SpaceLedger.map_zero.Goals as goal

pub invariant_of-self : goal.invariant_of-self
invariant_of-self c =
    on_either c.map.result c.self.inside.tables c.map.new.self
    (with_zero_pages c.self.inside.tables c.args.space c.args.page c.args.n (record { perms = c.args.perms; frame = c.zero-zero.result })) c.self.inside.pool c.self.inside.units c.self.inside.lines c.self.invariant
    (mapped_view c.self.inside.tables c.self.inside.pool c.self.inside.units c.self.inside.lines c.args.space c.args.page c.args.n (record { perms = c.args.perms; frame = c.zero-zero.result }) c.self.invariant
    (ap (λ (v : LedgerView). holds_space v c.args.space) c.self.view_is ∙ c.requires.there)
    (subst (λ (v : LedgerView). ArePagesFree v c.args.space c.args.page c.args.n) (sym c.self.view_is) c.requires.free) c.zero-zero.ensures.zero)
    c.map.ensures.mapped c.map.ensures.kept

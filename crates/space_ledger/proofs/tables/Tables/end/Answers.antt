use Rattle.space_ledger.proofs.Common.{nat_cmp, sym, ap, subst, ◌∙◌, FinMap}
use Rattle.space_ledger.proofs.Views.{AreTables, seen, OverlaidSpace}
use Rattle.space_ledger.proofs.Seen.{shows}
use Rattle.space_ledger.proofs.TableOps.{lost_made}
use Rattle.space_ledger.proofs.tables.Tables.end.Goals as goal

pub invariant_of-self : goal.invariant_of-self
invariant_of-self c =
    subst (λ (m : FinMap nat_cmp OverlaidSpace). AreTables (record c.self.inside { spaces = m })) (sym c.remove.ensures) (lost_made (shows c.self.view_is c.self.invariant) c.args.space c.requires.empty).own

pub returns : goal.returns
returns c =
    ap (λ (m : FinMap nat_cmp OverlaidSpace). seen (record c.self.inside { spaces = m })) c.remove.ensures ∙ (lost_made (shows c.self.view_is c.self.invariant) c.args.space c.requires.empty).is

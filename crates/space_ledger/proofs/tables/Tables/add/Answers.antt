use Rattle.space_ledger.proofs.Common.{◌≡◌, false, nat_cmp, sym, ap, subst, ◌∙◌, FinMap, empty}
use Rattle.space_ledger.proofs.Views.{bare_space, put_space, AreTables, seen, OverlaidSpace, SpaceTable}
use Rattle.space_ledger.proofs.Seen.{Shows, shows}
use Rattle.space_ledger.proofs.Changing.{made}
use Rattle.space_ledger.proofs.TableOps.{added_made, either, on_ok}
use Rattle.space_ledger.proofs.tables.Tables.add.Goals as goal
use Rattle.space_ledger.proofs.tables.Tables.add.Goals.{After-insert}

bare : {x : SpaceTable} → x.pages ≡ empty → x.awaiting ≡ empty → x.speculating ≡ false → x ≡ bare_space
bare p a m i = record { pages = p i; awaiting = a i; speculating = m i }

-- the tables with the space
done : (c : After-insert) → Shows (made c.self.inside c.args.space c.new.result c.self.inside.overlays) (put_space c.args.self.now c.args.space bare_space)
done c = added_made (shows c.self.view_is c.self.invariant) c.args.space c.new.result c.requires.absent c.requires.low (bare c.new.ensures.pages c.new.ensures.awaiting c.new.ensures.mark)

pub invariant_of-self : goal.invariant_of-self
invariant_of-self c = either c.insert.result c.insert.ensures.inserted c.insert.ensures.kept
    (λ added. subst (λ (m : FinMap nat_cmp OverlaidSpace). AreTables (record c.self.inside { spaces = m })) (sym added) (done c).own)
    (λ kept. subst (λ (m : FinMap nat_cmp OverlaidSpace). AreTables (record c.self.inside { spaces = m })) (sym kept) c.self.invariant)

pub returns-clause-added : goal.returns-clause-added
returns-clause-added c = on_ok c.insert.result c.insert.ensures.inserted
    (λ added. ap (λ (m : FinMap nat_cmp OverlaidSpace). seen (record c.self.inside { spaces = m })) added ∙ (done c).is)

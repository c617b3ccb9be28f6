use Rattle.space_ledger.proofs.Common.{refl}
use Rattle.space_ledger.proofs.Views.{mapped, seen}
use Rattle.space_ledger.proofs.TableOps.{none_kept, seen_none}
use Rattle.space_ledger.proofs.tables.Tables.new.Goals as goal

pub invariant_of-result : goal.invariant_of-result
invariant_of-result c = none_kept _ c.new-in-Ok.ensures c.in-Ok.ensures.entries c.in-Ok.ensures.room

pub returns-in-Ok-clause-spaces : goal.returns-in-Ok-clause-spaces
returns-in-Ok-clause-spaces c = seen_none _ c.new-in-Ok.ensures

pub returns-in-Ok-clause-frames : goal.returns-in-Ok-clause-frames
unfolding seen mapped
returns-in-Ok-clause-frames c = refl

pub returns-in-Ok-clause-zero : goal.returns-in-Ok-clause-zero
unfolding seen mapped
returns-in-Ok-clause-zero c = refl

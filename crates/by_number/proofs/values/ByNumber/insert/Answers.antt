use Rattle.std.proofs.lemmas.Result.{on_err_weaker, on_ok_weaker}
use Rattle.by_number.proofs.Kept.{values_put, values_same}
use Rattle.by_number.proofs.values.ByNumber.insert.Goals as goal

pub returns-clause-inserted : goal.returns-clause-inserted
returns-clause-inserted g c =
    on_ok_weaker c.insert_in.result (λ edited. rw (← c.self.view_is) (values_put _ _ c.args.number c.args.value edited)) c.insert_in.ensures.inserted

pub returns-clause-kept : goal.returns-clause-kept
returns-clause-kept g c =
    on_err_weaker c.insert_in.result (λ same. rw (← c.self.view_is) (values_same _ _ same)) c.insert_in.ensures.kept

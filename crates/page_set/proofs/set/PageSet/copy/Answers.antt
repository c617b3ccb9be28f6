use Rattle.std.proofs.Common.{ap, subst, sym, ◌∙◌, ◌≡◌}
use Rattle.number_maps.specs.Rows.{map_of}
use Rattle.page_set.specs.Sets.{AreChunks, Members}
use Rattle.page_set.specs.Kept.{AreSetRows}
use Rattle.page_set.proofs.Kept.{rows_cloned}
use Rattle.page_set.proofs.set.PageSet.copy.Goals as goal
use Rattle.page_set.proofs.set.PageSet.copy.Goals.{In_ok-reserve}

same : (c : In_ok-reserve) → c.reserve.new.self.items ≡ c.self.inside.rows.items
same c = c.in_ok-reserve.ensures.items ∙ rows_cloned c.self.inside.rows.items c.in_ok-rows.rows.items c.in_ok-rows.ensures.cases.0

pub returns-in_err-rows-clause-are : goal.returns-in_err-rows-clause-are
returns-in_err-rows-clause-are c = subst (λ (s : Members). AreChunks s.chunks) c.self.view_is c.self.invariant.are

pub returns-in_err-reserve-clause-are : goal.returns-in_err-reserve-clause-are
returns-in_err-reserve-clause-are c = subst (λ (s : Members). AreChunks s.chunks) c.self.view_is c.self.invariant.are

pub invariant_of-result : goal.invariant_of-result
invariant_of-result c = subst AreSetRows (sym (same c)) c.self.invariant

pub returns-clause-chunks : goal.returns-clause-chunks
returns-clause-chunks c = ap map_of (same c) ∙ ap (λ (s : Members). s.chunks) c.self.view_is

pub returns-clause-are : goal.returns-clause-are
returns-clause-are c = subst (λ (s : Members). AreChunks s.chunks) c.self.view_is c.self.invariant.are

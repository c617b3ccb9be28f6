use Rattle.std.proofs.Common.{sym, ap, ◌∙◌}
use Rattle.page_set.proofs.Kept.{had, had_none}
use Rattle.page_set.proofs.rows.bits_of.Goals as goal

pub returns-in-Ok : goal.returns-in-Ok
returns-in-Ok c =
    sym (ap (λ row. row.1) c.index-rows-at.is) ∙ sym (had c.args.rows.now c.args.chunk c.in-Ok.at c.index-rows-at.result c.requires c.in-Ok.ensures.there c.index-rows-at.is)

pub returns-in-Err : goal.returns-in-Err
returns-in-Err c = c.empty.ensures ∙ sym (had_none c.args.rows.now c.args.chunk c.in-Err.field-0 c.in-Err.ensures.gap)

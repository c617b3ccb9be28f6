use Rattle.page_table.proofs.Both.{merged_all, merged_more}
use Rattle.page_table.proofs.links.merged.Goals as goal

pub merging-preserved : goal.merging-preserved
merging-preserved c =
    merged_more c.args.settled.now c.args.recent.now c.merging.rows.items
    (record { rise = c.requires.settled; rise_too = c.requires.recent; apart = c.requires.apart }) c.merging.at c.merging.other c.merging.invariant
    c.push.new.self.items c.in-Some.link c.in-Some.next c.in-Some.next_other c.in-Some.ensures c.in_ok-push.ensures.items

pub returns : goal.returns
returns c =
    merged_all c.args.settled.now c.args.recent.now c.merging.rows.items
    (record { rise = c.requires.settled; rise_too = c.requires.recent; apart = c.requires.apart }) c.merging.at c.merging.other c.merging.invariant
    c.in_default.ensures

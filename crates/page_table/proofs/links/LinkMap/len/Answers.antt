use Rattle.std.proofs.Common.{rules, ◌≡◌, length, ap, arith}
use Rattle.std.specs.FinMap.{len}
use Rattle.page_table.specs.Links.{Linked}
use Rattle.page_table.proofs.Both.{len_both}
use Rattle.page_table.proofs.links.LinkMap.len.Goals as goal

pub returns : goal.returns
returns c =
    let settled : c.len.result ≡ length c.self.inside.settled.items = search rules in
    let recent : c.len-2.result ≡ length c.self.inside.recent.items = search rules in
    let count =
    len_both 0 c.self.inside.settled.items c.self.inside.recent.items c.self.invariant.rise c.self.invariant.rise_too c.self.invariant.apart in
    let seen = ap (λ (l : Linked). len l.children) c.self.view_is in
    omega (arith, settled, recent, count, seen)

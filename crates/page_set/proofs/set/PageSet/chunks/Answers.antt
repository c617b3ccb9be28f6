use Rattle.std.proofs.Common.{rules, ◌≡◌, length, refl, ap, ◌∙◌}
use Rattle.std.specs.FinMap.{len}
use Rattle.number_maps.specs.Rows.{map_of}
use Rattle.number_maps.specs.RowLaws.{counted}
use Rattle.page_set.specs.Sets.{Members}
use Rattle.page_set.proofs.set.PageSet.chunks.Goals as goal

pub returns-clause-count : goal.returns-clause-count
returns-clause-count c =
    let lens : c.len.result ≡ length c.self.inside.rows.items = search rules in
    lens ∙ counted (map_of c.self.inside.rows.items) c.self.inside.rows.items refl c.self.invariant.rise ∙ ap (λ (s : Members). len s.chunks) c.self.view_is

use Rattle.std.proofs.Common.{◌≡◌, ◌+◌, ◌*◌, ◌%◌, ap, ◌∙◌, arith}
use Rattle.overlay_mapping_table.specs.Homes.{home_number}
use Rattle.overlay_mapping_table.proofs.places.home.Goals as goal

pub returns-clause-same : goal.returns-clause-same
unfolding home_number
returns-clause-same c =
    let same : c.page.result + 31 * c.from.result ≡ home_number c.args.p = omega (arith, c.page.ensures.page, c.from.ensures, c.space.ensures.space) in
    c.wrap.ensures.same ∙ ap (λ x. x % c.args.n) same

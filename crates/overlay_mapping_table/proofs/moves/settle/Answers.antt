use Rattle.std.proofs.Common.{ap, ◌∙◌, arith}
use Rattle.overlay_mapping_table.specs.declared.entry.Entry.{Entry}
use Rattle.overlay_mapping_table.specs.declared.gaps.Gap.{Gap}
use Rattle.overlay_mapping_table.specs.Rows.{nothing}
use Rattle.overlay_mapping_table.specs.Gaps.{seen_slots}
use Rattle.overlay_mapping_table.proofs.Seen.{seen_whole}
use Rattle.overlay_mapping_table.proofs.moves.settle.Goals as goal

pub returns-clause-gap : goal.returns-clause-gap
returns-clause-gap c =
    let end = ap (λ (g : Gap). g.end) c.none.ensures in
    let len = ap (λ (g : Gap). g.len) c.none.ensures in
    let at = ap (λ (g : Gap). g.at) c.none.ensures in
    record { order = omega (arith, at, end); inside = omega (arith, end, len) }

pub returns-clause-names : goal.returns-clause-names
returns-clause-names c =
    seen_whole c.close.new.items 0 c.none.result (ap (λ (g : Gap). g.len) c.none.ensures)
    (let end = ap (λ (g : Gap). g.end) c.none.ensures in let at = ap (λ (g : Gap). g.at) c.none.ensures in omega (arith, at, end))
    ∙ c.close.ensures

pub returns-clause-entries : goal.returns-clause-entries
returns-clause-entries c =
    seen_whole c.close-2.new.items nothing c.none.result (ap (λ (g : Gap). g.len) c.none.ensures)
    (let end = ap (λ (g : Gap). g.end) c.none.ensures in let at = ap (λ (g : Gap). g.at) c.none.ensures in omega (arith, at, end))
    ∙ c.close-2.ensures
    ∙ ap (λ (e : Entry). seen_slots c.args.entries.now e c.args.gap) c.nothing.ensures

pub returns-clause-full : goal.returns-clause-full
returns-clause-full c =
    λ less.
    let end = ap (λ (g : Gap). g.end) c.none.ensures in
    let len = ap (λ (g : Gap). g.len) c.none.ensures in
    omega (arith, less, end, len)

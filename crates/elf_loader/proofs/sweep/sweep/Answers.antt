use Rattle.std.proofs.Common.{◌≡◌, [], ◌+◌, ◌-◌, ◌≤◌, ◌++◌, length, map, min, ap, subst, sym, ◌∙◌, arith}
use Rattle.std.specs.List.{range_with_len}
use Rattle.std.proofs.lemmas.List.{length-map}
use Rattle.elf_loader.specs.Image.{page_numbers, page_given, pages_in}
use Rattle.elf_loader.specs.Reach.{page_at, IsTooMany}
use Rattle.elf_loader.specs.Layers.{no_header}
use Rattle.elf_loader.proofs.Pages.{page_numbers_is}
use Rattle.elf_loader.proofs.Reaching.{IsReachOf}
use Rattle.elf_loader.proofs.Filling.{Gap, filled, fewer, too_many, refused}
use Rattle.elf_loader.proofs.Sweeping.{Stands, reach_none, reach_more, stands_first, stands_more, gap_before, gap_behind, first_low}
use Rattle.elf_loader.proofs.sweep.sweep.Goals as goal

pub loop-header-init : goal.loop-header-init
loop-header-init c = record {
  few = omega (arith, ap length c.new-pages.ensures.items);
  low = omega arith;
  stands = stands_first c.args.sorted.now;
  is = subst (IsReachOf []) (sym c.of_none-reach.ensures) reach_none;
  pages = c.new-pages.ensures.items;
}

pub fill-requires : goal.fill-requires
fill-requires c = c.loop-header.invariant.few

pub returns-in_err-fill-clause-few : goal.returns-in_err-fill-clause-few
returns-in_err-fill-clause-few c =
    let sorted = c.args.sorted.now in
    let i = c.loop-header.header-index in
    let so_far = c.loop-header.invariant in
    let gap = subst (λ to. Gap sorted i c.loop-header.at to c.loop-header.reach) (sym c.first_page-first.ensures)
    (gap_before sorted i c.loop-header.at no_header c.loop-header.reach c.loop-header-test.true c.requires.below c.requires.sorted so_far.stands so_far.is) in
    refused c.from_residual.result c.in_err-fill.field-0.0 _ _ c.from_residual.ensures
    (too_many _ _ c.in_err-fill.field-0.0
    (fewer sorted i c.loop-header.at c.first_page-first.result c.loop-header.reach c.loop-header.pages.items gap so_far.pages
    (subst (λ p. p ≤ page_numbers) (sym c.first_page-first.ensures) (first_low _ (c.requires.below i no_header c.loop-header-test.true))))
    c.in_err-fill.ensures.few)

pub loop-header-preserved : goal.loop-header-preserved
loop-header-preserved c =
    let sorted = c.args.sorted.now in
    let i = c.loop-header.header-index in
    let so_far = c.loop-header.invariant in
    let within = c.loop-header-test.true in
    let first = sym c.first_page-first.ensures in
    let gap = subst (λ to. Gap sorted i c.loop-header.at to c.loop-header.reach) first
    (gap_before sorted i c.loop-header.at no_header c.loop-header.reach within c.requires.below c.requires.sorted so_far.stands so_far.is) in
    record {
      few = c.in_ok-fill.ensures.few;
      low = subst (λ p. p ≤ page_numbers) first (first_low _ (c.requires.below i no_header within));
      stands = subst (Stands sorted (i + 1)) first (stands_more sorted i c.loop-header.at no_header within c.requires.sorted so_far.stands);
      is = reach_more sorted i no_header c.loop-header.reach c.with-reach.result within so_far.is c.with-reach.ensures.memory c.with-reach.ensures.read
          c.with-reach.ensures.write c.with-reach.ensures.execute c.with-reach.ensures.file;
      pages = c.in_ok-fill.ensures.pages ∙ filled sorted i c.loop-header.at c.first_page-first.result c.loop-header.reach c.loop-header.pages.items gap so_far.pages;
    }

pub fill-requires-2 : goal.fill-requires-2
fill-requires-2 c = c.loop-header.invariant.few

pub returns-in_err-fill-2-clause-few : goal.returns-in_err-fill-2-clause-few
returns-in_err-fill-2-clause-few c =
    let sorted = c.args.sorted.now in
    let i = c.loop-header.header-index in
    let so_far = c.loop-header.invariant in
    let error = c.in_err-fill-2.field-0.0 in
    let gap = gap_behind sorted i c.loop-header.at c.loop-header.reach c.loop-header-test.false so_far.low c.requires.below so_far.stands so_far.is in
    let page_ends : page_numbers ≤ page_numbers = omega arith in
    refused c.from_residual-in_err-fill-2.result error _ _ c.from_residual-in_err-fill-2.ensures
    (too_many _ _ error
    (fewer sorted i c.loop-header.at page_numbers c.loop-header.reach c.loop-header.pages.items gap so_far.pages page_ends)
    (subst (λ n. IsTooMany (length c.loop-header.pages.items + (min n c.loop-header.reach.memory - c.loop-header.at)) error) (sym page_numbers_is)
    c.in_err-fill-2.ensures.few))

pub returns-clause-pages : goal.returns-clause-pages
returns-clause-pages c =
    let sorted = c.args.sorted.now in
    let i = c.loop-header.header-index in
    let so_far = c.loop-header.invariant in
    let gap = gap_behind sorted i c.loop-header.at c.loop-header.reach c.loop-header-test.false so_far.low c.requires.below so_far.stands so_far.is in
    subst (λ n. c.fill-2.new.pages.items ≡ c.loop-header.pages.items
    ++ map (page_at c.loop-header.reach) (range_with_len c.loop-header.at (min n c.loop-header.reach.memory - c.loop-header.at))) (sym page_numbers_is)
    c.in_ok-fill-2.ensures.pages
    ∙ filled sorted i c.loop-header.at page_numbers c.loop-header.reach c.loop-header.pages.items gap so_far.pages

pub returns-clause-few : goal.returns-clause-few
returns-clause-few c =
    let sorted = c.args.sorted.now in
    omega (arith, ap length (returns-clause-pages c), length-map (pages_in sorted) (page_given sorted), c.in_ok-fill-2.ensures.few)

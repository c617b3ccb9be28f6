use Rattle.std.proofs.Common.{◌≡◌, ◌≤◌, subst, sym, All, IfOk, MatchResult}
use Rattle.std.specs.List.Sorted.{IsPermutation}
use Rattle.std.proofs.lemmas.List.Sorted.{All-permutation}
use Rattle.sizes.specs.declared.TheConstants.{MOST_IMAGE_PAGES}
use Rattle.elf_loader.specs.Reach.{IsBelowStack, IsTooMany}
use Rattle.elf_loader.proofs.Filling.{same_image, same_count}
use Rattle.elf_loader.proofs.sweep.touched_pages.Goals as goal

pub sweep-requires-clause-below : goal.sweep-requires-clause-below
sweep-requires-clause-below c =
    subst (All IsBelowStack) (sym c.as_slice.ensures.value)
    (All-permutation IsBelowStack c.args.loads.now c.in_ok-sorted.sorted.items c.in_ok-sorted.ensures.moved c.requires)

pub returns-clause-pages : goal.returns-clause-pages
returns-clause-pages c =
    let moved = subst (IsPermutation c.args.loads.now) (sym c.as_slice.ensures.value) c.in_ok-sorted.ensures.moved in
    subst (λ image. IfOk c.sweep.result (λ pages. pages.items ≡ image)) (same_image c.args.loads.now c.as_slice.result.now moved) c.sweep.ensures.pages

pub returns-clause-few : goal.returns-clause-few
returns-clause-few c =
    let moved = subst (IsPermutation c.args.loads.now) (sym c.as_slice.ensures.value) c.in_ok-sorted.ensures.moved in
    subst (λ n. MatchResult c.sweep.result (λ x. n ≤ MOST_IMAGE_PAGES) (IsTooMany n)) (same_count c.args.loads.now c.as_slice.result.now moved) c.sweep.ensures.few

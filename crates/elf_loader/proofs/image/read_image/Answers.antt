use Rattle.std.proofs.Common.{◌≤◌, length, subst, sym, ◌∙◌, arith, All}
use Rattle.sizes.specs.declared.TheConstants.{MOST_IMAGE_PAGES}
use Rattle.elf_loader.specs.Image.{pages_in}
use Rattle.elf_loader.specs.Reach.{IsBelowStack, IsTooMany}
use Rattle.elf_loader.proofs.Pages.{ascending}
use Rattle.elf_loader.proofs.Taken.{by_header, by_table, header_passes, all_below, reads_error, reads_err, reads_too_many, taken_by, image_pages_are}
use Rattle.elf_loader.proofs.image.read_image.Goals as goal

pub returns-in-Some : goal.returns-in-Some
returns-in-Some c =
    let file = c.args.bytes.now in
    reads_error file c.in-Some.error (by_header file c.in-Some.error (sym c.in-Some.ensures))

pub read_loads-requires-clause-long : goal.read_loads-requires-clause-long
read_loads-requires-clause-long c = (header_passes c.args.bytes.now (sym c.in_default.ensures)).long

pub read_loads-requires-clause-in_file : goal.read_loads-requires-clause-in_file
read_loads-requires-clause-in_file c = (header_passes c.args.bytes.now (sym c.in_default.ensures)).table

pub table_refusal-requires-clause-long : goal.table_refusal-requires-clause-long
table_refusal-requires-clause-long c = (header_passes c.args.bytes.now (sym c.in_default.ensures)).long

pub table_refusal-requires-clause-in_file : goal.table_refusal-requires-clause-in_file
table_refusal-requires-clause-in_file c = (header_passes c.args.bytes.now (sym c.in_default.ensures)).table

pub returns-in-Some-table_refusal : goal.returns-in-Some-table_refusal
returns-in-Some-table_refusal c =
    let file = c.args.bytes.now in
    let error = c.in-Some-table_refusal.error in
    reads_error file error (by_table file error (sym c.in_default.ensures) (sym c.in-Some-table_refusal.ensures))

pub touched_pages-requires : goal.touched_pages-requires
touched_pages-requires c =
    subst (All IsBelowStack) (sym (c.as_slice-2.ensures.value ∙ c.in_ok-loads.ensures)) (all_below c.args.bytes.now (sym c.in_default-table_refusal.ensures))

pub returns-in_err-pages : goal.returns-in_err-pages
returns-in_err-pages c =
    let error = c.in_err-pages.field-0.0 in
    reads_err c.args.bytes.now c.from_residual-in_err-pages.result error c.from_residual-in_err-pages.ensures
    (reads_too_many c.args.bytes.now error (sym c.in_default.ensures) (sym c.in_default-table_refusal.ensures)
    (subst (λ loads. IsTooMany (length (pages_in loads)) error) (c.as_slice-2.ensures.value ∙ c.in_ok-loads.ensures) c.in_err-pages.ensures.few))

pub u64_at-requires : goal.u64_at-requires
u64_at-requires c = let long = (header_passes c.args.bytes.now (sym c.in_default.ensures)).long in omega arith

pub returns : goal.returns
returns c =
    let file = c.args.bytes.now in
    let same = c.as_slice-2.ensures.value ∙ c.in_ok-loads.ensures in
    record {
      taken = taken_by file (sym c.in_default.ensures) (sym c.in_default-table_refusal.ensures)
          (subst (λ loads. length (pages_in loads) ≤ MOST_IMAGE_PAGES) same c.in_ok-pages.ensures.few);
      entry = c.u64_at.ensures;
      pages = c.in_ok-pages.ensures.pages ∙ image_pages_are file c.as_slice-2.result.now same;
      loads = c.in_ok-loads.ensures;
    }

pub layers_of-requires-clause-sorted : goal.layers_of-requires-clause-sorted
layers_of-requires-clause-sorted c =
    ascending c.as_slice-2.result.now _ (c.as_slice-4.ensures.value ∙ c.in_ok-pages.ensures.pages)

pub layers_of-requires-clause-below : goal.layers_of-requires-clause-below
layers_of-requires-clause-below c =
    subst (All IsBelowStack) (sym (c.as_slice-3.ensures.value ∙ c.in_ok-loads.ensures)) (all_below c.args.bytes.now (sym c.in_default-table_refusal.ensures))

use Rattle.std.proofs.Common.{sym, ap, subst, ◌∙◌, refl, get_or, take, true, arith}
use Rattle.std.proofs.lemmas.List.{take_more}
use Rattle.elf_loader.specs.Image.{image_page, image_pages, is_stored, page_bytes}
use Rattle.elf_loader.specs.declared.image.ImagePage.{ImagePage}
use Rattle.overlay_memory.specs.View.{state_of}
use Rattle.machine_core.specs.Loading.{HasAdded, IsAdded, IsReady, none_listed}
use Rattle.machine_core.proofs.Adding.{added_more, added_none, open_itself}
use Rattle.machine_core.proofs.Images.{few_items, next_fits, next_ready, page_at, zeros_absent, zeros_few, zeros_low, zeros_more, zeros_within}
use Rattle.machine_core.proofs.load.add_image.Goals as goal

pub adding-init : goal.adding-init
adding-init c =
    let s = state_of c.args.memory.now in
    record {
      added = added_none c.args.p s (image_page c.args.file.now) (is_stored c.args.file.now)
          (open_itself c.args.p s c.requires.there (ap (λ x. x.awaiting) c.requires.bare));
      lists = refl;
      within = omega arith;
    }

-- a page that is stored
pub add_stored-requires-clause-ready : goal.add_stored-requires-clause-ready
add_stored-requires-clause-ready c =
    let file = c.args.file.now in
    let i = c.adding.at in
    let items = c.pages-pages.result.now in
    let before = state_of c.args.memory.now in
    let now = state_of c.adding.memory in
    let same = c.pages-pages.ensures ∙ c.requires.of_file.pages in
    let turn = c.adding-test.true in
    let at = page_at file items i none_listed same (omega (arith, turn)) in
    subst (IsReady now c.args.p) (sym (ap (λ (p : ImagePage). p.page) at.1))
    (next_ready file c.args.p before now i c.requires.of_file.taken c.requires.there c.requires.bare at.0 c.adding.invariant.added)

pub add_stored-requires-clause-fits : goal.add_stored-requires-clause-fits
add_stored-requires-clause-fits c =
    let file = c.args.file.now in
    let i = c.adding.at in
    let items = c.pages-pages.result.now in
    let before = state_of c.args.memory.now in
    let now = state_of c.adding.memory in
    let same = c.pages-pages.ensures ∙ c.requires.of_file.pages in
    let turn = c.adding-test.true in
    let at = page_at file items i none_listed same (omega (arith, turn)) in
    next_fits file c.args.p before now i c.requires.of_file.taken c.requires.there c.requires.bare at.0 c.adding.invariant.added c.requires.fits
    (sym (ap (λ (p : ImagePage). p.stored) at.1) ∙ c.if-next.true)

pub adding-preserved-then-next : goal.adding-preserved-then-next
adding-preserved-then-next c =
    let file = c.args.file.now in
    let i = c.adding.at in
    let items = c.pages-pages.result.now in
    let before = state_of c.args.memory.now in
    let now = state_of c.adding.memory in
    let same = c.pages-pages.ensures ∙ c.requires.of_file.pages in
    let turn = c.adding-test.true in
    let at = page_at file items i none_listed same (omega (arith, turn)) in
    let new = state_of c.add_stored.new.memory in
    let k = get_or (image_pages file) i 0 in
    let ready = next_ready file c.args.p before now i c.requires.of_file.taken c.requires.there c.requires.bare at.0 c.adding.invariant.added in
    let stored = sym (ap (λ (p : ImagePage). p.stored) at.1) ∙ c.if-next.true in
    let added = subst (IsAdded now new c.args.p k (image_page file k)) (sym stored)
    (subst (λ (it : ImagePage). IsAdded now new c.args.p it.page (record { perms = it.perms.0; bytes = page_bytes file it.page }) true) at.1
    c.in_ok-add_stored.ensures.added) in
    record {
      added = subst (HasAdded before new c.args.p (image_page file) (is_stored file)) (sym (take_more (image_pages file) i 0 at.0))
          (added_more before now new c.args.p (image_page file) (is_stored file) (take i (image_pages file)) k c.adding.invariant.added added ready.absent);
      lists = c.add_stored.ensures.lists ∙ c.adding.invariant.lists;
      within = omega (arith, at.0);
    }

-- zeros
pub count_zeros-n-requires-clause-few : goal.count_zeros-n-requires-clause-few
count_zeros-n-requires-clause-few c = few_items c.args.file.now c.pages-pages.result.now c.requires.of_file.taken (c.pages-pages.ensures ∙ c.requires.of_file.pages)

pub add_zeros-requires-clause-absent : goal.add_zeros-requires-clause-absent
add_zeros-requires-clause-absent c =
    let file = c.args.file.now in
    let i = c.adding.at in
    let items = c.pages-pages.result.now in
    let before = state_of c.args.memory.now in
    let now = state_of c.adding.memory in
    let same = c.pages-pages.ensures ∙ c.requires.of_file.pages in
    zeros_absent file c.args.p before now items i c.count_zeros-n.result c.requires.of_file.taken c.requires.there c.requires.bare same c.adding.invariant.added c.count_zeros-n.ensures.zeros

pub add_zeros-requires-clause-low : goal.add_zeros-requires-clause-low
add_zeros-requires-clause-low c =
    let file = c.args.file.now in
    let i = c.adding.at in
    let items = c.pages-pages.result.now in
    let before = state_of c.args.memory.now in
    let now = state_of c.adding.memory in
    let same = c.pages-pages.ensures ∙ c.requires.of_file.pages in
    zeros_low file c.args.p before now items i c.count_zeros-n.result c.requires.of_file.taken c.requires.there c.requires.bare same c.adding.invariant.added c.count_zeros-n.ensures.zeros
    (c.count_zeros-n.ensures.some c.if-next.false)

pub add_zeros-requires-clause-few : goal.add_zeros-requires-clause-few
add_zeros-requires-clause-few c =
    let file = c.args.file.now in
    let i = c.adding.at in
    let items = c.pages-pages.result.now in
    let before = state_of c.args.memory.now in
    let now = state_of c.adding.memory in
    let same = c.pages-pages.ensures ∙ c.requires.of_file.pages in
    zeros_few file c.args.p before now items i c.count_zeros-n.result c.requires.of_file.taken c.requires.there c.requires.bare same c.adding.invariant.added c.count_zeros-n.ensures.zeros

pub adding-preserved : goal.adding-preserved
adding-preserved c =
    let file = c.args.file.now in
    let i = c.adding.at in
    let items = c.pages-pages.result.now in
    let before = state_of c.args.memory.now in
    let now = state_of c.adding.memory in
    let same = c.pages-pages.ensures ∙ c.requires.of_file.pages in
    record {
      added = zeros_more file c.args.p before now items i c.count_zeros-n.result c.requires.of_file.taken c.requires.there c.requires.bare same c.adding.invariant.added c.count_zeros-n.ensures.zeros
          (state_of c.add_zeros.new.memory) c.in_ok-add_zeros.ensures.added;
      lists = c.add_zeros.ensures.lists ∙ c.adding.invariant.lists;
      within = zeros_within file c.args.p before now items i c.count_zeros-n.result c.requires.of_file.taken c.requires.there c.requires.bare same c.adding.invariant.added c.count_zeros-n.ensures.zeros;
    }

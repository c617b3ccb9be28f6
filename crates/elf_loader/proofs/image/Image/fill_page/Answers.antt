use Rattle.std.proofs.Common.{◌≡◌, length, ap, subst, sym, ◌∙◌, arith, rules, false}
use Rattle.std.specs.Vec.{vec_len}
use Rattle.elf_loader.specs.Layers.{AreAscending, Layered}
use Rattle.elf_loader.proofs.Taken.{taken_lie}
use Rattle.elf_loader.proofs.Pages.{page_below, page_bytes_from, ascending_of, place_in, IsPlaceOf}
use Rattle.elf_loader.proofs.Stacking.{at_page, layers_there}
use Rattle.elf_loader.proofs.image.Image.fill_page.Goals as goal

pub place_of-place-requires : goal.place_of-place-requires
place_of-place-requires c =
    subst AreAscending (sym (c.as_slice.ensures.value ∙ ap (λ kept. kept.pages) c.self.view_is)) (ascending_of c.args.file.now c.args.self.now c.requires.of_file)

pub index-requires : goal.index-requires
index-requires c =
    let pages = c.as_slice.ensures.value ∙ ap (λ kept. kept.pages) c.self.view_is in
    let at = place_in c.args.file.now c.args.self.now c.as_slice.result.now c.args.page c.place_of-place.result c.requires.of_file pages c.place_of-place.ensures.below c.place_of-place.ensures.others c.requires.is_there in
    let len : vec_len c.self.inside.layers ≡ length c.self.inside.layers.items = search rules in
    let inside = layers_there c.self.inside.loads.items c.self.inside.pages.items c.self.inside.layers.items c.args.page c.place_of-place.result c.self.invariant
    (subst (λ ps. IsPlaceOf ps c.args.page c.place_of-place.result) (sym (ap (λ kept. kept.pages) c.self.view_is)) at) in
    omega (arith, len, inside)

pub lay_all-requires-clause-layered : goal.lay_all-requires-clause-layered
lay_all-requires-clause-layered c =
    let pages = c.as_slice.ensures.value ∙ ap (λ kept. kept.pages) c.self.view_is in
    let at = place_in c.args.file.now c.args.self.now c.as_slice.result.now c.args.page c.place_of-place.result c.requires.of_file pages c.place_of-place.ensures.below c.place_of-place.ensures.others c.requires.is_there in
    subst (λ loads. Layered loads 0 c.args.page c.as_slice-layers.result.now false) (sym c.as_slice-2.ensures.value)
    (at_page c.self.inside.loads.items c.self.inside.pages.items c.self.inside.layers.items c.args.page c.place_of-place.result c.index.result.now c.as_slice-layers.result.now c.self.invariant
    (subst (λ ps. IsPlaceOf ps c.args.page c.place_of-place.result) (sym (ap (λ kept. kept.pages) c.self.view_is)) at) c.index.ensures c.as_slice-layers.ensures.value)

pub lay_all-requires-clause-lie : goal.lay_all-requires-clause-lie
lay_all-requires-clause-lie c =
    taken_lie c.args.file.now c.as_slice-2.result.now c.requires.of_file.taken (c.as_slice-2.ensures.value ∙ ap (λ kept. kept.loads) c.self.view_is ∙ c.requires.of_file.loads)

pub lay_all-requires-clause-is_page : goal.lay_all-requires-clause-is_page
lay_all-requires-clause-is_page c = page_below c.args.file.now c.args.self.now c.args.page c.requires.of_file c.requires.is_there

pub returns : goal.returns
returns c =
    let same = c.as_slice-2.ensures.value ∙ ap (λ kept. kept.loads) c.self.view_is ∙ c.requires.of_file.loads in
    page_bytes_from c.args.file.now c.args.page _ _ same c.lay_all.array_long c.lay_all.ensures

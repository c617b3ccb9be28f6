use Rattle.std.proofs.Common.{◌%◌, ap, ◌∙◌}
use Rattle.std.specs.Prelude.{slice_set}
use Rattle.overlay_memory.specs.Epochs.{Seen, bare_page, known_pages, place_of}
use Rattle.overlay_memory.proofs.Forgetting.{both, put_known}
use Rattle.overlay_memory.proofs.epochs.SeenPages.put.Goals as goal
use Rattle.translation_cache.specs.declared.TheConstants.{SETS}

pub returns : goal.returns
returns c =
    let s = c.args.space in
    let p = c.args.page in
    let places = c.self.inside.places.items in
    let heads = c.self.inside.heads in
    let known = known_pages c.self.inside.epoch places in
    both _ _ _ _
    (put_known c.self.inside.epoch places c.place_of-place.result c.bare.result
    ∙ ap (λ n. slice_set known n c.bare.result) c.place_of-place.ensures.place
    ∙ ap (λ k. slice_set known (place_of s p) k) c.bare.ensures
    ∙ ap (λ (l : Seen). slice_set l.pages (place_of s p) (bare_page c.args.found)) c.self.view_is)
    (ap (λ n. slice_set heads n c.place_of-place.result) c.set_of.ensures.set
    ∙ ap (λ n. slice_set heads (p % SETS) n) c.place_of-place.ensures.place
    ∙ ap (λ (l : Seen). slice_set l.heads (p % SETS) (place_of s p)) c.self.view_is)

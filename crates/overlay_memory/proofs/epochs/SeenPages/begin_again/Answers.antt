use Rattle.std.proofs.Common.{◌≡◌, length, ap, ◌∙◌, rules}
use Rattle.std.specs.Vec.{vec_len}
use Rattle.overlay_memory.specs.Epochs.{Seen, bare_page}
use Rattle.overlay_memory.proofs.Forgetting.{both, known_alike, none_first}
use Rattle.overlay_memory.proofs.epochs.SeenPages.begin_again.Goals as goal

pub returns : goal.returns
returns c =
    let n = vec_len c.self.inside.places in
    let count : n ≡ length c.self.inside.places.items = search rules in
    both _ _ _ _
    (none_first c.fill.new.self.items n
    (known_alike c.fill.new.self.items n c.bare.result (c.fill.ensures.items (λ y same. same)) (c.bare.ensures ∙ ap bare_page c.none.ensures))
    (count ∙ c.self.invariant.count))
    (ap (λ (s : Seen). s.heads) c.self.view_is ∙ c.requires)

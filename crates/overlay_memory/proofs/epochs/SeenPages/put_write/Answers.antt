use Rattle.std.proofs.Common.{arith}
use Rattle.overlay_memory.specs.Epochs.{with_write}
use Rattle.overlay_memory.proofs.Forgetting.{known_put}
use Rattle.overlay_memory.proofs.epochs.SeenPages.put_write.Goals as goal

pub returns : goal.returns
returns c =
    let inside = c.place_of.ensures.inside in
    known_put c.self.inside.epoch c.self.inside.places.items c.self.inside.heads c.args.self.now c.args.space c.args.page c.place_of.result c.args.line c.from.result
    c.index_mut.result.now (λ line known. with_write line c.args.at known) c.self.view_is c.place_of.ensures.place (omega (arith, inside, c.self.invariant.count))
    c.index_mut.ensures.value c.requires.known c.from.ensures

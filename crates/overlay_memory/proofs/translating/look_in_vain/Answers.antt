use Rattle.overlay_memory.proofs.Counting.{looked_true, vain_translated}
use Rattle.overlay_memory.proofs.translating.look_in_vain.Goals as goal
use Rattle.overlay_pages.specs.View.{state_of}

pub returns-clause-translated : goal.returns-clause-translated
returns-clause-translated c =
    vain_translated (state_of c.args.pages.now) c.args.space c.args.page c.args.cache.now c.look.new.self c.requires.held c.requires.absent c.look.ensures.looked

pub returns-clause-held : goal.returns-clause-held
returns-clause-held c =
    looked_true (state_of c.args.pages.now) c.args.space c.args.page c.args.cache.now c.look.new.self c.look.ensures.formed c.look.ensures.looked c.requires.held

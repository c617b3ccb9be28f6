use Rattle.rv_asm.proofs.Reaching.{placed_sound}
use Rattle.rv_asm.proofs.outcomes.reach.Goals as goal

pub reached-requires : goal.reached-requires
reached-requires c = placed_sound c.args.i c.format_of.result c.placed.result c.requires c.format_of.ensures c.placed.ensures.fits

use Rattle.std.proofs.Common.{arith}
use Rattle.overlay_memory.proofs.room.shortage_by.Goals as goal

pub overflow_add-needed : goal.overflow_add-needed
overflow_add-needed c = omega (arith, c.limit-limit.ensures.limit, c.limit-limit.ensures.few, c.units.ensures.sum, c.units.ensures.fits, c.requires.few)

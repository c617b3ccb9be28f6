use Rattle.std.proofs.Common.{length, refl, arith}
use Rattle.std.specs.Prelude.{Err}
use Rattle.overlay_memory.specs.declared.error.MemoryError.TheVariants.{Unmapped}
use Rattle.overlay_memory.proofs.Pieced.{reads_of}
use Rattle.overlay_memory.proofs.reading.read_line.Goals as goal

pub returns-in-None-clause-access : goal.returns-in-None-clause-access
returns-in-None-clause-access c =
    reads_of c.args.pages.now c.args.space c.args.need.0 c.args.address (length c.args.into.now) (Err (Unmapped c.args.address)) c.requires.some
    (omega (arith, c.requires.one_line)) (refl, c.in-None.ensures.found)

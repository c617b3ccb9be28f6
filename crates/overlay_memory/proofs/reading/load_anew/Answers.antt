use Rattle.std.proofs.Common.{◌≡◌, length, refl, subst, arith}
use Rattle.std.specs.Prelude.{Err, OnOk}
use Rattle.ovl_io.specs.Memory.{bytes_at}
use Rattle.overlay_memory.specs.Access.{Reads}
use Rattle.overlay_memory.specs.Pieces.{result_at}
use Rattle.overlay_memory.specs.declared.error.MemoryError.TheVariants.{Unmapped}
use Rattle.overlay_memory.proofs.Fronting.{line_found, line_space}
use Rattle.overlay_memory.proofs.Pieced.{reads_of}
use Rattle.overlay_memory.proofs.reading.load_anew.Goals as goal
use Rattle.overlay_pages.specs.State.{memory_of}
use Rattle.overlay_pages.specs.View.{state_of}

pub read_found-requires-clause-found : goal.read_found-requires-clause-found
read_found-requires-clause-found c =
    line_found c.args.pages.now c.args.space c.args.address c.line_of.result c.in-Some.page c.line.result c.in-Some.ensures.found c.line_of.ensures.line
    (c.line.ensures c.args.pages.now c.in-Some.ensures.found.is)

pub returns-in-Some-clause-access : goal.returns-in-Some-clause-access
returns-in-Some-clause-access c =
    subst (λ s. Reads (state_of c.args.pages.now) s c.args.need.0 c.args.address (length c.args.into.now) (result_at c.args.address c.read_found.result))
    (line_space c.args.pages.now c.args.space c.args.address c.line_of.result c.in-Some.page c.line.result c.in-Some.ensures.found c.line_of.ensures.line
    (c.line.ensures c.args.pages.now c.in-Some.ensures.found.is))
    c.read_found.ensures.access

pub returns-in-Some-clause-bytes : goal.returns-in-Some-clause-bytes
returns-in-Some-clause-bytes c =
    subst (λ s. OnOk (result_at c.args.address c.read_found.result) (c.read_found.new.into ≡ bytes_at (memory_of (state_of c.args.pages.now) s) c.args.address (length c.args.into.now)))
    (line_space c.args.pages.now c.args.space c.args.address c.line_of.result c.in-Some.page c.line.result c.in-Some.ensures.found c.line_of.ensures.line
    (c.line.ensures c.args.pages.now c.in-Some.ensures.found.is))
    c.read_found.ensures.bytes

pub returns-in-None-clause-access : goal.returns-in-None-clause-access
returns-in-None-clause-access c =
    reads_of c.args.pages.now c.args.space c.args.need.0 c.args.address (length c.args.into.now) (Err (Unmapped c.args.address)) c.requires.some
    (omega (arith, c.requires.one_line)) (refl, c.in-None.ensures.found)

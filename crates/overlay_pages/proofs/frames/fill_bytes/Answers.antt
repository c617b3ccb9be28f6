use Rattle.std.specs.Prelude.{◌/◌}
use Rattle.overlay_pages.proofs.Common.{length, ap, arith, ◌∙◌}
use Rattle.overlay_pages.proofs.Stores.{line_of}
use Rattle.overlay_pages.proofs.Filling.{chunk_at}
use Rattle.overlay_pages.proofs.frames.fill_bytes.Goals as goal

pub returns-clause-lines : goal.returns-clause-lines
returns-clause-lines c i low =
    c.put_frame.ensures.lines i low ∙ ap (λ l. line_of l i) c.as_chunks.ensures.front ∙ chunk_at (length c.args.bytes.now / 64) c.args.bytes.now i (omega (arith, low, c.told-bytes))

use Rattle.std.proofs.Common.{sym, ◌∙◌}
use Rattle.segment_store.proofs.Numbers.{word_read}
use Rattle.segment_store.proofs.pointers.free.Goals as goal

pub returns : goal.returns
returns c = c.from_le_bytes.ensures ∙ sym (word_read c.args.pointers.now c.fits-pointers c.told-pointers)

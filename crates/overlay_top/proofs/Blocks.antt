use Rattle.std.proofs.Common.{◌≡◌, ◌<◌, List, ℕ, ◌++◌, length, take, drop, sym, ◌∙◌}
use Rattle.image_lines.specs.Lines.{printed}
use Rattle.image_lines.specs.PrintedLaws.{printed_lines}
use Rattle.report_text.specs.declared.TheConstants.{BLOCK_BYTES}

-- The lines of an image, block by block.

pub next_block : (rest front behind line : List ℕ) → BLOCK_BYTES < length rest → front ≡ take BLOCK_BYTES rest → behind ≡ drop BLOCK_BYTES rest
    → line ≡ printed front → printed rest ≡ line ++ printed behind
next_block rest front behind line many is left made =
    printed_lines 31 rest many ∙ (λ i. sym (made ∙ (λ j. printed (is j))) i ++ printed (sym left i))

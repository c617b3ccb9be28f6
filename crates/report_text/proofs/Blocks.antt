use Rattle.std.proofs.Common.{◌≡◌, ◌<◌, List, ℕ, ◌++◌, length, take, drop, sym, ap, ◌∙◌, append_assoc}
use Rattle.sizes.specs.declared.TheConstants.{LINE_BYTES}
use Rattle.image_lines.specs.Lines.{image_line, printed}
use Rattle.image_lines.specs.PrintedLaws.{printed_more}

-- The lines of an image, one by one.

pub next_line : (rest front behind before after whole : List ℕ) → LINE_BYTES < length rest → front ≡ take LINE_BYTES rest → behind ≡ drop LINE_BYTES rest
    → after ≡ before ++ image_line front → before ++ printed rest ≡ whole → after ++ printed behind ≡ whole
next_line rest front behind before after whole many is left put so_far =
    (λ i. (put ∙ ap (λ (t : List ℕ). before ++ image_line t) is) i ++ printed (left i))
    ∙ append_assoc before (image_line (take LINE_BYTES rest)) (printed (drop LINE_BYTES rest))
    ∙ ap (λ (t : List ℕ). before ++ t) (sym (printed_more rest many)) ∙ so_far

use Rattle.std.proofs.Common.{◌≡◌, ℕ, ◌+◌, ◌*◌, List, [], ◌∷◌, ◌++◌, length, drop, refl, ap, ◌∙◌, arith, length-append}
use Rattle.std.specs.Int.{w32, to_le_bytes}
use Rattle.std.specs.List.{AllByRecursion}
use Rattle.sizes.specs.declared.TheConstants.{LINE_BYTES}
use Rattle.rv_execute.specs.Registers.{Registers}
use Rattle.delta_image.specs.declared.delta.Delta.{Delta}
use Rattle.delta_image.specs.declared.delta.DeltaPage.{DeltaPage}
use Rattle.delta_image.specs.declared.encoding.TheConstants.{MAGIC, PAGE_HEAD_BYTES}
use Rattle.delta_image.specs.Line.{Line, IsLine}
use Rattle.delta_image.specs.Image.{head_part, image_of, lines_part, page_part, pages_part, register_numbers, registers_part, state_part, words_part}
use Rattle.delta_image.specs.Fine.{Ascend, HasLines, IsFine, IsPage}

-- How long the image of a delta is: so it is known from how many pages and lines there are.

words_length : (words : List ℕ) → length (words_part words) ≡ 8 * length words
words_length [] = refl
words_length (x ∷ xs) = omega (arith, words_length xs)

pub many_numbers : (regs : Registers) → length regs.x ≡ 32 → length (register_numbers regs) ≡ 32
many_numbers regs count = at regs.x count
  where
    at : (x : List ℕ) → length x ≡ 32 → length (regs.pc ∷ drop 1 x) ≡ 32
    at [] e = absurd (omega (arith, e))
    at (y ∷ ys) e = omega (arith, e)

pub registers_length : (regs : Registers) → length regs.x ≡ 32 → length (registers_part regs) ≡ 8 * 32
registers_length regs count = words_length (register_numbers regs) ∙ ap (λ n. 8 * n) (many_numbers regs count)

pub lines_length : (lines : List Line) → AllByRecursion IsLine lines → length (lines_part lines) ≡ 64 * length lines
lines_length [] whole = refl
lines_length (x ∷ xs) whole = length-append x.1 (lines_part xs) ∙ omega (arith, whole.0, lines_length xs whole.1)

pub page_length : (page : DeltaPage) → length (page_part page) ≡ 13 + length (lines_part page.lines)
unfolding head_part
page_length page = omega arith

-- how many lines are given in all
abbrev pub line_count : List DeltaPage → ℕ
line_count [] = 0
line_count (page ∷ pages) = length page.lines + line_count pages

-- each of their lines has the bytes of a line
abbrev pub AreWhole : List DeltaPage → Type 0
AreWhole pages = AllByRecursion HasLines pages

pages_length : (pages : List DeltaPage) → AreWhole pages → length (pages_part pages) ≡ 13 * length pages + 64 * line_count pages
pages_length [] are = refl
pages_length (p ∷ ps) are =
    length-append (page_part p) (pages_part ps) ∙ omega (arith, page_length p, lines_length p.lines are.0, pages_length ps are.1)

pub pages_whole : (from : ℕ) (pages : List DeltaPage) → Ascend IsPage from pages → AreWhole pages
pages_whole from [] are = tt
pages_whole from (p ∷ ps) are = (are.1.1, pages_whole (p.page + 1) ps are.2)

pub parts_length : (delta : Delta)
    → length (image_of delta) ≡ length (state_part delta.state) + length (registers_part delta.regs) + 8 + length (pages_part delta.pages)
parts_length delta = at (state_part delta.state) (registers_part delta.regs) (to_le_bytes w32 (length delta.pages)) (pages_part delta.pages) refl
  where
    at : (s r c p : List ℕ) → length c ≡ 4 → length (MAGIC ++ s ++ r ++ c ++ p) ≡ length s + length r + 8 + length p
    at s r c p four =
        omega (arith, four, length-append (MAGIC ++ s ++ r ++ c) p, length-append (MAGIC ++ s ++ r) c, length-append (MAGIC ++ s) r)

-- by its state and its registers, and how many pages and lines there are
pub length_of_parts : (delta : Delta) → AreWhole delta.pages
    → length (image_of delta)
    ≡ length (state_part delta.state) + length (registers_part delta.regs) + 8 + PAGE_HEAD_BYTES * length delta.pages + LINE_BYTES * line_count delta.pages
length_of_parts delta whole = omega (arith, parts_length delta, pages_length delta.pages whole)

pub image_length : (delta : Delta) → IsFine delta
    → length (image_of delta)
    ≡ length (state_part delta.state) + 264 + PAGE_HEAD_BYTES * length delta.pages + LINE_BYTES * line_count delta.pages
image_length delta fine = omega (arith, length_of_parts delta (pages_whole 0 delta.pages fine.pages), registers_length delta.regs fine.regs.count)

use Rattle.std.specs.Prelude.{◌≡◌, ℕ, ◌/◌, ◌%◌, ◌<◌, cond, nat_eq, List, [], length, get_or, set, slice_index, slice_set, refl}
use Rattle.std.proofs.Common.{sym, ap, ◌∙◌, arith, inl, inr}
use Rattle.std.proofs.lemmas.Bool.{cases_eq}
use Rattle.std.proofs.lemmas.List.{get_or-set_other, get_or-set_same, length-set, same_lists}
use Rattle.std.proofs.lemmas.List.FromFn.{get_or-map-range_with_len, length-map-range_with_len}
use Rattle.sizes.specs.declared.TheConstants.{LINE_BYTES, PAGE_BYTES, PAGE_LINES}
use Rattle.ledger.specs.AloneLaws.{are, arent}
use Rattle.overlay_pages.specs.Lines.{bytes_in_lines, bytes_of_page, line_in_page, lines_of_page, page_lines}

-- Laws of the lines of a page.

pub lines_of_page_is : lines_of_page ≡ PAGE_LINES
unfolding lines_of_page
lines_of_page_is = refl

pub lines_count : (f : ℕ → List ℕ) → length (page_lines f) ≡ PAGE_LINES
unfolding page_lines
lines_count f = length-map-range_with_len f 0 lines_of_page ∙ lines_of_page_is

-- a line of a page
line_or : (f : ℕ → List ℕ) (i : ℕ) (d : List ℕ) → i < PAGE_LINES → get_or (page_lines f) i d ≡ f i
unfolding page_lines
line_or f i d h = get_or-map-range_with_len f 0 lines_of_page i i d (omega (arith, h, lines_of_page_is)) (omega arith)

pub line_at : (f : ℕ → List ℕ) (i : ℕ) → i < PAGE_LINES → line_in_page (page_lines f) i ≡ f i
line_at f i h = line_or f i [] h

-- two pages' lines are equal where each of them is
by_lines : (xs : List (List ℕ)) (f : ℕ → List ℕ) → length xs ≡ PAGE_LINES → ((i : ℕ) (d : List ℕ) → i < PAGE_LINES → get_or xs i d ≡ f i) → xs ≡ page_lines f
by_lines xs f count same =
    same_lists xs (page_lines f) (count ∙ sym (lines_count f)) (λ i d less. let low : i < PAGE_LINES = omega (arith, less, count) in same i d low ∙ sym (line_or f i d low))

pub lines_same : (f g : ℕ → List ℕ) → ((i : ℕ) → i < PAGE_LINES → f i ≡ g i) → page_lines f ≡ page_lines g
lines_same f g same = by_lines (page_lines f) g (lines_count f) (λ i d low. line_or f i d low ∙ same i low)

-- a page of which one line is another one
pub set_line : (f : ℕ → List ℕ) (line : ℕ) (bytes : List ℕ) → line < PAGE_LINES → slice_set (page_lines f) line bytes ≡ page_lines (λ i. cond (nat_eq line i) bytes (f i))
set_line f line bytes h =
    by_lines (set (page_lines f) line bytes) (λ i. cond (nat_eq line i) bytes (f i)) (length-set (page_lines f) line bytes ∙ lines_count f) (λ i d low. elim (cases_eq i line) [
      | inl e ↦
          ap (λ k. get_or (set (page_lines f) line bytes) k d) e ∙ get_or-set_same (page_lines f) line bytes d (omega (arith, h, lines_count f)) ∙ sym (ap (λ b. cond b bytes (f i)) (are line i (sym e)))
      | inr away ↦ get_or-set_other (page_lines f) line i bytes d away ∙ line_or f i d low ∙ sym (ap (λ b. cond b bytes (f i)) (arent line i (λ e. away (sym e))))
    ])

-- The bytes of a page by its lines.

pub bytes_of_page_is : bytes_of_page ≡ PAGE_BYTES
unfolding bytes_of_page
bytes_of_page_is = refl

pub byte_count : (lines : List (List ℕ)) → length (bytes_in_lines lines) ≡ PAGE_BYTES
unfolding bytes_in_lines
byte_count lines =
    length-map-range_with_len (λ i. slice_index (line_in_page lines (i / LINE_BYTES)) (i % LINE_BYTES)) 0 bytes_of_page ∙ bytes_of_page_is

-- a byte by its line and its place there
pub byte_at : (lines : List (List ℕ)) (i : ℕ) → i < PAGE_BYTES
    → get_or (bytes_in_lines lines) i 0 ≡ get_or (line_in_page lines (i / LINE_BYTES)) (i % LINE_BYTES) 0
unfolding bytes_in_lines
byte_at lines i low =
    get_or-map-range_with_len (λ i. slice_index (line_in_page lines (i / LINE_BYTES)) (i % LINE_BYTES)) 0 bytes_of_page i i 0
    (omega (arith, low, bytes_of_page_is)) (omega arith)

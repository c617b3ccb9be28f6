use Rattle.std.proofs.Common.{◌≡◌, ℕ, ◌+◌, ◌-◌, ◌*◌, ◌/◌, ◌%◌, ◌<◌, ◌≤◌, ◌⊎◌, inl, inr, List, [], length, get_or, take, drop, sym, ap, ◌∙◌, arith, length-drop, slice_set}
use Rattle.std.proofs.lemmas.Bool.{cases_eq, cases_lt}
use Rattle.std.proofs.lemmas.Grind.{same_number_lists}
use Rattle.std.proofs.lemmas.List.{get_or-set_same, get_or-set_other, get_or-take, get_or-drop, length-take-le}
use Rattle.sizes.specs.declared.TheConstants.{LINE_BYTES, PAGE_LINES}
use Rattle.ovl_io.specs.PageBytes.{overwritten}
use Rattle.overlay_pages.specs.Lines.{bytes_in_lines, line_in_page}
use Rattle.overlay_pages.specs.LineLaws.{byte_at, byte_count}
use Rattle.overlay_memory.proofs.Overwritten.{before, inside, behind, count}

-- Parts of the lines of a page are parts of its bytes.

byte_of : (lines : List (List ℕ)) (line at i : ℕ) → i ≡ 64 * line + at → at < 64 → line < 64
    → get_or (bytes_in_lines lines) i 0 ≡ get_or (line_in_page lines line) at 0
byte_of lines line at i is within low =
    let quotient : i / 64 ≡ line = omega (arith, is, within) in
    let rest : i % 64 ≡ at = omega (arith, is, within) in
    byte_at lines i (omega (arith, is, within, low)) ∙ ap (λ n. get_or (line_in_page lines n) (i % 64) 0) quotient
    ∙ ap (λ n. get_or (line_in_page lines line) n 0) rest

-- a part of a line is a part of the page
pub line_part : (lines : List (List ℕ)) (line at n : ℕ) → length (line_in_page lines line) ≡ LINE_BYTES → line < PAGE_LINES → at + n ≤ LINE_BYTES
    → take n (drop at (line_in_page lines line)) ≡ take n (drop (LINE_BYTES * line + at) (bytes_in_lines lines))
line_part lines line at n whole low fits =
    let page = byte_count lines in
    let short = length-take-le n (drop at (line_in_page lines line)) (omega (arith, whole, fits, length-drop at (line_in_page lines line))) in
    let long = length-take-le n (drop (64 * line + at) (bytes_in_lines lines)) (omega (arith, page, low, fits, length-drop (64 * line + at) (bytes_in_lines lines))) in
    same_number_lists _ _ (short ∙ sym long) (λ k below.
    let few : k < n = omega (arith, below, short) in
    get_or-take n (drop at (line_in_page lines line)) k 0 few ∙ get_or-drop at (line_in_page lines line) k 0
    ∙ sym (get_or-take n (drop (64 * line + at) (bytes_in_lines lines)) k 0 few ∙ get_or-drop (64 * line + at) (bytes_in_lines lines) k 0
    ∙ byte_of lines line (at + k) (64 * line + at + k) (omega arith) (omega (arith, few, fits)) low))

-- a line overwritten from a place on is the page overwritten from there on
pub line_written : (lines : List (List ℕ)) (line at : ℕ) (bytes : List ℕ) → length lines ≡ PAGE_LINES → line < PAGE_LINES
    → length (line_in_page lines line) ≡ LINE_BYTES
    → at + length bytes ≤ LINE_BYTES
    → bytes_in_lines (slice_set lines line (overwritten (line_in_page lines line) at bytes)) ≡ overwritten (bytes_in_lines lines) (LINE_BYTES * line + at) bytes
line_written lines line at bytes all low whole fits =
    same_number_lists _ _ (byte_count new ∙ sym (count (bytes_in_lines lines) (64 * line + at) bytes room ∙ page))
    (λ i below. by_line i (omega (arith, below, byte_count new)) (cases_eq (i / 64) line))
  where
    old : List ℕ
    old = line_in_page lines line

    new : List (List ℕ)
    new = slice_set lines line (overwritten old at bytes)

    page : length (bytes_in_lines lines) ≡ 4096
    page = byte_count lines

    room : 64 * line + at + length bytes ≤ length (bytes_in_lines lines)
    room = omega (arith, page, low, fits)

    full : at + length bytes ≤ length old
    full = omega (arith, whole, fits)

    here : (i : ℕ) → i / 64 ≡ line → get_or (bytes_in_lines new) i 0 ≡ get_or (overwritten old at bytes) (i % 64) 0
    here i same =
        byte_of new line (i % 64) i (omega (arith, same)) (omega arith) low
        ∙ ap (λ l. get_or l (i % 64) 0) (get_or-set_same lines line (overwritten old at bytes) [] (omega (arith, all, low)))

    was : (i : ℕ) → i / 64 ≡ line → get_or (bytes_in_lines lines) i 0 ≡ get_or old (i % 64) 0
    was i same = byte_of lines line (i % 64) i (omega (arith, same)) (omega arith) low

    in_line : (i : ℕ) → i / 64 ≡ line → (i % 64 < at) ⊎ (at ≤ i % 64) → (i % 64 < at + length bytes) ⊎ (at + length bytes ≤ i % 64)
        → get_or (bytes_in_lines new) i 0 ≡ get_or (overwritten (bytes_in_lines lines) (64 * line + at) bytes) i 0
    in_line i same (inl less) c =
        here i same ∙ before old at bytes (i % 64) full less
        ∙ sym (before (bytes_in_lines lines) (64 * line + at) bytes i room (omega (arith, same, less)) ∙ was i same)
    in_line i same (inr more) (inl less) =
        here i same ∙ inside old at bytes (i % 64) (i % 64 - at) full (omega (arith, more)) (omega (arith, more, less))
        ∙ sym (inside (bytes_in_lines lines) (64 * line + at) bytes i (i % 64 - at) room (omega (arith, same, more)) (omega (arith, more, less)))
    in_line i same (inr more) (inr over) =
        here i same ∙ behind old at bytes (i % 64) full over
        ∙ sym (behind (bytes_in_lines lines) (64 * line + at) bytes i room (omega (arith, same, over)) ∙ was i same)

    elsewhere : (i : ℕ) → i < 4096 → (i / 64 ≡ line → ⊥) → get_or (bytes_in_lines new) i 0 ≡ get_or (bytes_in_lines lines) i 0
    elsewhere i small other =
        byte_at new i small ∙ ap (λ l. get_or l (i % 64) 0) (get_or-set_other lines line (i / 64) (overwritten old at bytes) [] other)
        ∙ sym (byte_at lines i small)

    by_side : (i : ℕ) → i < 4096 → (i / 64 ≡ line → ⊥) → (i < 64 * line + at) ⊎ (64 * line + at ≤ i)
        → get_or (bytes_in_lines new) i 0 ≡ get_or (overwritten (bytes_in_lines lines) (64 * line + at) bytes) i 0
    by_side i small other (inl less) = elsewhere i small other ∙ sym (before (bytes_in_lines lines) (64 * line + at) bytes i room less)
    by_side i small other (inr more) =
        elsewhere i small other ∙ sym (behind (bytes_in_lines lines) (64 * line + at) bytes i room (omega (arith, other, more, fits)))

    by_line : (i : ℕ) → i < 4096 → (i / 64 ≡ line) ⊎ (i / 64 ≡ line → ⊥)
        → get_or (bytes_in_lines new) i 0 ≡ get_or (overwritten (bytes_in_lines lines) (64 * line + at) bytes) i 0
    by_line i small (inl same) = in_line i same (cases_lt (i % 64) at) (cases_lt (i % 64) (at + length bytes))
    by_line i small (inr other) = by_side i small other (cases_lt i (64 * line + at))

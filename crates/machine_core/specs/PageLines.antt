use Rattle.std.proofs.Common.{◌≡◌, ℕ, ◌+◌, ◌*◌, ◌/◌, ◌%◌, ◌<◌, List, length, get_or, take, drop, replicate, sym, ap, ◌∙◌, refl, arith}
use Rattle.std.proofs.lemmas.Grind.{same_number_lists}
use Rattle.std.proofs.lemmas.List.{get_or-drop, get_or-replicate, get_or-take, length-replicate}
use Rattle.sizes.specs.declared.TheConstants.{LINE_BYTES}
use Rattle.elf_loader.specs.Image.{page_length}
use Rattle.overlay_pages.specs.LineLaws.{byte_at, byte_count, line_at}
use Rattle.overlay_pages.specs.Lines.{bytes_in_lines, bytes_of_line, lines_of_bytes, zero_line, zero_page}

-- The bytes of a page that is placed as a whole, and of a zero page.

bytes_of_line_is : bytes_of_line ≡ 64
unfolding bytes_of_line
bytes_of_line_is = refl

pub page_length_is : page_length ≡ 4096
unfolding page_length
page_length_is = refl

-- lines that are made of bytes have those bytes
pub lines_joined : (bytes : List ℕ) → length bytes ≡ 4096 → bytes_in_lines (lines_of_bytes bytes) ≡ bytes
unfolding lines_of_bytes
lines_joined bytes whole =
    same_number_lists _ _ (byte_count (lines_of_bytes bytes) ∙ sym whole) (λ i below.
    let low : i < 4096 = omega (arith, below, byte_count (lines_of_bytes bytes)) in
    let same : 64 * (i / 64) + i % 64 ≡ i = omega arith in
    byte_at (lines_of_bytes bytes) i low
    ∙ ap (λ xs. get_or xs (i % 64) 0) (line_at (λ i. take LINE_BYTES (drop (LINE_BYTES * i) bytes)) (i / 64) (omega (arith, low)))
    ∙ get_or-take 64 (drop (64 * (i / 64)) bytes) (i % 64) 0 (omega arith)
    ∙ get_or-drop (64 * (i / 64)) bytes (i % 64) 0
    ∙ ap (λ n. get_or bytes n 0) same)

pub zero_bytes_are : bytes_in_lines zero_page ≡ replicate page_length 0
unfolding zero_page zero_line
zero_bytes_are =
    same_number_lists _ _ (byte_count zero_page ∙ sym (length-replicate page_length 0 ∙ page_length_is)) (λ i below.
    let low : i < 4096 = omega (arith, below, byte_count zero_page) in
    byte_at zero_page i low
    ∙ ap (λ xs. get_or xs (i % 64) 0) (line_at (λ _. zero_line) (i / 64) (omega (arith, low)))
    ∙ get_or-replicate bytes_of_line (i % 64) 0 0 (omega (arith, bytes_of_line_is))
    ∙ sym (get_or-replicate page_length i 0 0 (omega (arith, low, page_length_is))))

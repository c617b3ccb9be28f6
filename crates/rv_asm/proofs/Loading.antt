use Rattle.std.proofs.Common.{◌≡◌, ℕ, zero, suc, ◌+◌, ◌*◌, ◌^◌, ◌<◌, ◌≤◌, ◌==◌, ◌||◌, ◌&&◌, not, nat_lt, nat_le, ◌-◌, Bool, true, false, cond, List, [], ◌∷◌, ◌++◌, length, length-append, ap, ◌∙◌, refl, arith, Some, None}
use Rattle.std.specs.List.{list_any, filter, range_with_len}
use Rattle.std.proofs.lemmas.Bool.{le-ltb, lt-ltb, le-leb, and_right, and_from, or_from}
use Rattle.std.proofs.lemmas.List.{get_or-append-add}
use Rattle.std.specs.Prelude.{slice_index, Option}
use Rattle.std.specs.Int.{to_le_bytes, w32}
use Rattle.std.specs.Option.{option_map_or}
use Rattle.elf_loader.specs.Image.{byte_in}
use Rattle.sizes.specs.declared.TheConstants.{STACK_ADDRESS, MOST_IMAGE_PAGES}
use Rattle.elf_loader.specs.declared.image.ElfError.TheVariants.{TooShort, TableOutside, NeedsInterpreter, FileLarger, SegmentOutside, AddressOutside, NothingToLoad, TooManyPages}
use Rattle.elf_loader.specs.declared.header.ProgramHeader.{ProgramHeader}
use Rattle.elf_loader.specs.Fields.{number_at, table_length, headers_of, loads_of}
use Rattle.elf_loader.specs.declared.image.ElfError.{ElfError}
use Rattle.elf_loader.specs.Accepted.{refused_if, first_refusal, ends_behind, file_refusal, header_refusals, table_refusals}
use Rattle.elf_loader.specs.Touched.{page_numbers, touches_memory, pages_in, image_pages}
use Rattle.elf_loader.proofs.Taken.{by_pages}
use Rattle.rv_asm.specs.File.{file_header, segment_header, file_with, code_of, file_of, IsLoaded}

-- The file is read as one segment.

one : (size : ℕ) (code : List ℕ) → table_length (file_with size code) ≡ 1
one size code = refl

size_read : (size : ℕ) (code : List ℕ) → size < 2 ^ 32 → number_at (file_with size code) 96 8 ≡ size
size_read size code small = omega arith

memory_read : (size : ℕ) (code : List ℕ) → size < 2 ^ 32 → number_at (file_with size code) 104 8 ≡ size
memory_read size code small = omega arith

abbrev segment : ℕ → ℕ → ProgramHeader
segment m n = record { kind = 1; flags = 7; offset = 120; address = 0x10078; file_size = m; memory_size = n }

loads : (size : ℕ) (code : List ℕ) → size < 2 ^ 32 → loads_of (file_with size code) ≡ segment size size ∷ []
unfolding loads_of headers_of
loads size code small = λ i. segment (size_read size code small i) (memory_read size code small i) ∷ []

headers : (size : ℕ) (code : List ℕ) → size < 2 ^ 32 → headers_of (file_with size code) ≡ segment size size ∷ []
unfolding headers_of
headers size code small = λ i. segment (size_read size code small i) (memory_read size code small i) ∷ []

whole : (size : ℕ) (code : List ℕ) → length (file_with size code) ≡ 120 + length code
whole size code = length-append (file_header ++ segment_header size) code

-- no refusal by the header
abbrev header_for : Bool → Bool → List (Option ElfError)
header_for short outside = refused_if short TooShort ∷ None ∷ None ∷ None ∷ None ∷ None ∷ None ∷ None ∷ refused_if outside TableOutside ∷ []

two : (t u : Bool) → t ≡ false → u ≡ false → first_refusal (header_for t u) ≡ None
two true u h k = cc
two false true h k = cc
two false false h k = refl

header_none : (size : ℕ) (code : List ℕ) → first_refusal (header_refusals (file_with size code)) ≡ None
unfolding header_refusals
header_none size code =
    let long = whole size code in
    two (nat_lt (length (file_with size code)) 64) (nat_lt (length (file_with size code)) 120)
    (le-ltb (length (file_with size code)) 64 (omega arith)) (le-ltb (length (file_with size code)) 120 (omega arith))

-- nor by the segment
abbrev table_for : List ProgramHeader → List ProgramHeader → ℕ → List (Option ElfError)
table_for headers loads size =
    refused_if (list_any (λ header. header.kind == 3) headers) NeedsInterpreter
    ∷ refused_if (list_any (λ load. nat_lt load.memory_size load.file_size) loads) FileLarger
    ∷ refused_if (list_any (λ load. ends_behind size load.offset load.file_size) loads) SegmentOutside
    ∷ refused_if (list_any (λ load. ends_behind STACK_ADDRESS load.address load.memory_size) loads) AddressOutside
    ∷ refused_if (not (list_any (λ load. nat_lt 0 load.memory_size) loads)) NothingToLoad
    ∷ []

abbrev segment_for : Bool → Bool → Bool → Bool → List (Option ElfError)
segment_for larger outside high some =
    None ∷ refused_if (larger || false) FileLarger ∷ refused_if (outside || false) SegmentOutside ∷ refused_if (high || false) AddressOutside
    ∷ refused_if (not (some || false)) NothingToLoad ∷ []

four : (t u v w : Bool) → t ≡ false → u ≡ false → v ≡ false → w ≡ true → first_refusal (segment_for t u v w) ≡ None
four true u v w h i j k = cc
four false true v w h i j k = cc
four false false true w h i j k = cc
four false false false true h i j k = refl
four false false false false h i j k = cc

table_none : (size : ℕ) (code : List ℕ) → 0 < size → size < 2 ^ 32 → length code ≡ size → first_refusal (table_refusals (file_with size code)) ≡ None
unfolding table_refusals
table_none size code some small is =
    ap (λ hs. first_refusal (table_for hs (loads_of (file_with size code)) (length (file_with size code)))) (headers size code small)
    ∙ ap (λ ls. first_refusal (table_for (segment size size ∷ []) ls (length (file_with size code)))) (loads size code small)
    ∙ four (nat_lt size size) (nat_lt 0 size && nat_lt (length (file_with size code)) (120 + size)) (nat_lt 0 size && nat_lt STACK_ADDRESS (0x10078 + size)) (nat_lt 0 size)
    (le-ltb size size (omega arith))
    (and_right _ _ (le-ltb (length (file_with size code)) (120 + size) (omega (arith, whole size code, is))))
    (and_right _ _ (le-ltb STACK_ADDRESS (0x10078 + size) (omega arith)))
    (lt-ltb 0 size some)

-- and few pages
none_from : (test : ℕ → Bool) (a n : ℕ) → ((q : ℕ) → a ≤ q → test q ≡ false) → filter test (range_with_len a n) ≡ []
none_from test a zero h = refl
none_from test a (suc n) h =
    ap (λ (t : Bool). cond t (a ∷ filter test (range_with_len (a + 1) n)) (filter test (range_with_len (a + 1) n))) (h a (omega arith))
    ∙ none_from test (a + 1) n (λ q over. h q (omega arith))

no_more : (t : Bool) (q m : ℕ) (qs : List ℕ) → length qs ≤ m → length (cond t (q ∷ qs) qs) ≤ m + 1
no_more true q m qs h = omega arith
no_more false q m qs h = omega arith

-- where a test fails from a place on, no more pass than stand before it
few_pass : (test : ℕ → Bool) (m a n : ℕ) → ((q : ℕ) → a + m ≤ q → test q ≡ false) → length (filter test (range_with_len a n)) ≤ m
few_pass test zero a n h = let none = ap length (none_from test a n (λ q over. h q (omega arith))) in omega arith
few_pass test (suc m) a zero h = omega arith
few_pass test (suc m) a (suc n) h =
    let more = few_pass test m (a + 1) n (λ q over. h q (omega arith)) in
    let all = no_more (test a) a m (filter test (range_with_len (a + 1) n)) more in
    omega (arith, all)

past : (size q : ℕ) → size ≤ 262144 → 81 ≤ q → list_any (touches_memory q) (segment size size ∷ []) ≡ false
past size q small over =
    let front = nat_lt 0 size && nat_lt 0x10078 (4096 * q + 4096) in
    or_from (front && nat_lt (4096 * q) (0x10078 + size)) false (and_right front (nat_lt (4096 * q) (0x10078 + size)) (le-ltb (4096 * q) (0x10078 + size) (omega arith))) refl

few_pages : (size : ℕ) (code : List ℕ) → size ≤ 262144 → length (pages_in (loads_of (file_with size code))) ≤ MOST_IMAGE_PAGES
few_pages size code small =
    let few = few_pass (λ page. list_any (touches_memory page) (loads_of (file_with size code))) 81 0 page_numbers
    (λ q over. ap (λ ls. list_any (touches_memory q) ls) (loads size code (omega arith)) ∙ past size q small (omega arith)) in
    omega (arith, few)

-- the file is taken
taken_by : (file : List ℕ) → first_refusal (header_refusals file) ≡ None → first_refusal (table_refusals file) ≡ None
    → length (pages_in (loads_of file)) ≤ MOST_IMAGE_PAGES → file_refusal file ≡ None
unfolding image_pages
taken_by file h t few =
    by_pages file h t ∙ ap (λ b. cond b (Some TooManyPages) None) (le-ltb MOST_IMAGE_PAGES (length (pages_in (loads_of file))) few)

taken : (size : ℕ) (code : List ℕ) → 0 < size → size ≤ 262144 → length code ≡ size → file_refusal (file_with size code) ≡ None
taken size code some small is =
    taken_by (file_with size code) (header_none size code) (table_none size code some (omega arith) is) (few_pages size code small)

-- the code's bytes lie at the entry
held : (t : Bool) (segment : ProgramHeader) (file : List ℕ) (at : ℕ) → t ≡ true
    → option_map_or (λ header. slice_index file (header.offset + (at - header.address))) (cond t (Some segment) None) 0 ≡ slice_index file (segment.offset + (at - segment.address))
held true segment file at h = refl
held false segment file at h = cc

byte_at : (size : ℕ) (code : List ℕ) (k : ℕ) → size < 2 ^ 32 → k < size → byte_in (loads_of (file_with size code)) (file_with size code) (0x10078 + k) ≡ slice_index code k
byte_at size code k small below =
    let file = file_with size code in
    let inside : nat_le 0x10078 (0x10078 + k) && nat_lt (0x10078 + k) (0x10078 + size) ≡ true =
    and_from (nat_le 0x10078 (0x10078 + k)) (nat_lt (0x10078 + k) (0x10078 + size)) (le-leb 0x10078 (0x10078 + k) (omega arith)) (lt-ltb (0x10078 + k) (0x10078 + size) (omega arith)) in
    let place : 120 + (0x10078 + k - 0x10078) ≡ 120 + k = omega arith in
    ap (λ ls. byte_in ls file (0x10078 + k)) (loads size code small)
    ∙ held (nat_le 0x10078 (0x10078 + k) && nat_lt (0x10078 + k) (0x10078 + size)) (segment size size) file (0x10078 + k) inside
    ∙ ap (slice_index file) place ∙ get_or-append-add (file_header ++ segment_header size) code k 0

-- the bytes of words, four each
pub code_length : (words : List ℕ) → length (code_of words) ≡ 4 * length words
code_length [] = refl
code_length (w ∷ words) = omega (arith, length-append (to_le_bytes w32 w) (code_of words), length-to_le_bytes w, code_length words)
  where
    length-to_le_bytes : (w : ℕ) → length (to_le_bytes w32 w) ≡ 4
    length-to_le_bytes w = refl

pub words_loaded : (words : List ℕ) → 0 < length words → length words ≤ 65536 → IsLoaded words (file_of words)
unfolding file_of
words_loaded words some few = record {
  taken = taken (4 * length words) (code_of words) (omega (arith, some)) (omega (arith, few)) (code_length words);
  entry = refl;
  code = λ k below. byte_at (4 * length words) (code_of words) k (omega (arith, few)) below;
}

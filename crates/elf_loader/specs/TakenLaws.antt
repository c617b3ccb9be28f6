use Rattle.std.specs.Prelude.{◌≡◌, ℕ, zero, suc, ◌+◌, ◌-◌, ◌*◌, ◌<◌, ◌≤◌, Bool, true, false, cond, ◌||◌, List, [], ◌∷◌, ◌++◌, length, map, replicate, slice_index, get_or, Option, Some, None}
use Rattle.std.proofs.Common.{ap, sym, subst, refl, ◌∙◌, arith}
use Rattle.std.proofs.lemmas.Bool.{ltb-false}
use Rattle.std.proofs.lemmas.Bool.Decides.{nat_tests}
use Rattle.std.specs.List.{list_any, filter, range_with_len}
use Rattle.std.specs.Option.{option_map_or}
use Rattle.sizes.specs.declared.TheConstants.{PAGE_BYTES, STACK_ADDRESS, STACK_PAGE, MOST_IMAGE_PAGES}
use Rattle.elf_loader.specs.Fields.{loads_of}
use Rattle.elf_loader.specs.Touched.{image_pages, page_numbers}
use Rattle.elf_loader.specs.Accepted.{ends_behind, refused_if, first_refusal, file_refusal, header_refusals, table_refusals, page_refusals}
use Rattle.elf_loader.specs.Image.{touches_memory, touches_file, file_holds, last_holding, byte_in, is_stored, page_bytes, page_length}
use Rattle.elf_loader.specs.declared.header.ProgramHeader.{ProgramHeader}
use Rattle.elf_loader.specs.declared.image.ElfError.TheVariants.{AddressOutside, TooManyPages}

-- What callers may use of a file that is taken.

-- no refusal of a list holds where none is its first
pub none_holds : {E : Type 0} → (refusals : List (Option E)) (k : ℕ) (d : Option E) → first_refusal refusals ≡ None → k < length refusals
    → get_or refusals k d ≡ None
none_holds [] k d h below = absurd (omega arith)
none_holds (None ∷ rs) zero d h below = refl
none_holds (None ∷ rs) (suc k) d h below = none_holds rs k d h (omega arith)
none_holds (Some e ∷ rs) k d h below = cc

-- one that doesn't hold has a test that fails
pub unless : {E : Type 0} → (b : Bool) (e : E) → refused_if b e ≡ None → b ≡ false
unless true e h = cc
unless false e h = refl

-- it has no more pages than an image may have: the last of the refusals doesn't hold
pub few_pages : (file : List ℕ) → file_refusal file ≡ None → length (image_pages file) ≤ MOST_IMAGE_PAGES
unfolding file_refusal header_refusals table_refusals page_refusals
few_pages file taken =
    ltb-false MOST_IMAGE_PAGES (length (image_pages file)) (unless _ TooManyPages
    (none_holds (header_refusals file ++ table_refusals file ++ page_refusals file) 14 None taken (omega arith)))

-- whether a segment reaches the stack
abbrev is_too_high : ProgramHeader → Bool
is_too_high header = ends_behind STACK_ADDRESS header.address header.memory_size

-- no segment reaches the stack
none_high : (file : List ℕ) → file_refusal file ≡ None → list_any is_too_high (loads_of file) ≡ false
unfolding file_refusal header_refusals table_refusals page_refusals
none_high file taken =
    unless _ AddressOutside
    (none_holds (header_refusals file ++ table_refusals file ++ page_refusals file) 12 None taken (omega arith))

-- the pages are what a test keeps of all numbers
pub kept_numbers : (file : List ℕ) → image_pages file ≡ filter (λ page. list_any (touches_memory page) (loads_of file)) (range_with_len 0 page_numbers)
unfolding image_pages
kept_numbers file = refl

-- what a filter keeps passes its test
kept_step : (test : ℕ → Bool) (k i : ℕ) (b : Bool) (rest : List ℕ) → test k ≡ b → ((j : ℕ) → j < length rest → test (get_or rest j 0) ≡ true)
    → i < length (cond b (k ∷ rest) rest) → test (get_or (cond b (k ∷ rest) rest) i 0) ≡ true
kept_step test k zero true rest is others h = is
kept_step test k (suc j) true rest is others h = others j (omega arith)
kept_step test k j false rest is others h = others j h

kept_passes : (test : ℕ → Bool) (ks : List ℕ) (i : ℕ) → i < length (filter test ks) → test (get_or (filter test ks) i 0) ≡ true
kept_passes test [] i below = absurd (omega arith)
kept_passes test (k ∷ ks) i below = kept_step test k i (test k) (filter test ks) refl (kept_passes test ks) below

-- a segment that touches a page, and doesn't reach the stack
low_touch : (page : ℕ) (header : ProgramHeader) → touches_memory page header ≡ true → is_too_high header ≡ false → page < STACK_PAGE
low_touch page header touched low = grind (arith, nat_tests, touched, low)

neither : (a b : Bool) → (a || b) ≡ false → (a ≡ false) × (b ≡ false)
neither true b h = cc
neither false b h = (refl, h)

low_any : (page : ℕ) (headers : List ProgramHeader) → list_any (touches_memory page) headers ≡ true → list_any is_too_high headers ≡ false → page < STACK_PAGE
low_any page [] touched low = cc
low_any page (header ∷ headers) touched low =
    by_test (touches_memory page header) (is_too_high header) refl refl touched low (low_any page headers)
  where
    by_test : (t h : Bool) → touches_memory page header ≡ t → is_too_high header ≡ h → (t || list_any (touches_memory page) headers) ≡ true
        → (h || list_any is_too_high headers) ≡ false
        → (list_any (touches_memory page) headers ≡ true → list_any is_too_high headers ≡ false → page < STACK_PAGE) → page < STACK_PAGE
    by_test t true is_t is_h any none others = cc
    by_test true false is_t is_h any none others = low_touch page header is_t is_h
    by_test false false is_t is_h any none others = others any none

-- each of its pages lies below the stack
pub low_page : (file : List ℕ) (i : ℕ) → file_refusal file ≡ None → i < length (image_pages file) → get_or (image_pages file) i 0 < STACK_PAGE
low_page file i taken below =
    let test = λ (page : ℕ). list_any (touches_memory page) (loads_of file) in
    let passes : test (get_or (image_pages file) i 0) ≡ true =
    subst (λ ps. i < length ps → test (get_or ps i 0) ≡ true) (sym (kept_numbers file)) (kept_passes test (range_with_len 0 page_numbers) i) below in
    low_any (get_or (image_pages file) i 0) (loads_of file) passes (none_high file taken)

-- a page that no file range touches is zero
holds_touches : (header : ProgramHeader) (page i : ℕ) → touches_file page header ≡ false → i < PAGE_BYTES → file_holds header (PAGE_BYTES * page + i) ≡ false
holds_touches header page i untouched within = grind (arith, nat_tests, untouched, within)

none_holding : (headers : List ProgramHeader) (page i : ℕ) → list_any (touches_file page) headers ≡ false → i < PAGE_BYTES
    → last_holding headers (PAGE_BYTES * page + i) ≡ None
none_holding [] page i untouched within = refl
none_holding (header ∷ headers) page i untouched within =
    let parts = neither (touches_file page header) (list_any (touches_file page) headers) untouched in
    ap (λ found. option_map_or Some found (cond (file_holds header (PAGE_BYTES * page + i)) (Some header) None)) (none_holding headers page i parts.1 within)
    ∙ ap (λ (b : Bool). cond b (Some header) None) (holds_touches header page i parts.0 within)

all_zero : (f : ℕ → ℕ) (a n : ℕ) → ((q : ℕ) → q < a + n → f q ≡ 0) → map f (range_with_len a n) ≡ replicate n 0
all_zero f a zero h = refl
all_zero f a (suc n) h =
    ap (λ x. x ∷ map f (range_with_len (a + 1) n)) (h a (omega arith))
    ∙ ap (λ xs. 0 ∷ xs) (all_zero f (a + 1) n (λ q below. h q (omega arith)))

pub zero_bytes : (file : List ℕ) (page : ℕ) → is_stored file page ≡ false → page_bytes file page ≡ replicate PAGE_BYTES 0
unfolding page_bytes page_length
zero_bytes file page untouched = zeros page_length refl
  where
    zeros : (n : ℕ) → n ≡ PAGE_BYTES → map (λ i. byte_in (loads_of file) file (PAGE_BYTES * page + i)) (range_with_len 0 n) ≡ replicate n 0
    zeros n is =
        all_zero (λ i. byte_in (loads_of file) file (PAGE_BYTES * page + i)) 0 n (λ q below.
        ap (λ (found : Option ProgramHeader). option_map_or (λ (header : ProgramHeader). slice_index file (header.offset + (PAGE_BYTES * page + q - header.address))) found 0)
        (none_holding (loads_of file) page q untouched (omega (arith, is))))

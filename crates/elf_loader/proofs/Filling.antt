use Rattle.std.proofs.Common.{◌≡◌, ℕ, ◌+◌, ◌-◌, ◌<◌, ◌≤◌, Bool, min, List, [], ◌∷◌, ◌++◌, take, length, map, sym, ap, subst, ◌∙◌, arith, All, Result, Ok, Err, IsErr, IsErrAnd, MatchResult, length-append}
use Rattle.std.specs.List.{range_with_len, filter, list_any}
use Rattle.std.specs.List.Sorted.{IsPermutation}
use Rattle.std.proofs.lemmas.Bool.{le-ltb, lt-ltb}
use Rattle.std.proofs.lemmas.List.{map-append, length-map}
use Rattle.std.proofs.lemmas.List.Sorted.{list_any-IsPermutation}
use Rattle.std.proofs.lemmas.List.FromFn.{length-map-range_with_len}
use Rattle.std.proofs.lemmas.List.Elements.{filter_agree}
use Rattle.ovl_io.specs.Permissions.{readable, writable, executable}
use Rattle.elf_loader.specs.Image.{page_numbers, touches_memory, touches_file, pages_in, page_given}
use Rattle.elf_loader.specs.Reach.{page_at, IsBelowStack, IsTooMany}
use Rattle.elf_loader.specs.declared.image.ImagePage.{ImagePage}
use Rattle.elf_loader.specs.declared.image.ElfError.{ElfError}
use Rattle.elf_loader.specs.declared.image.ElfError.TheVariants.{TooManyPages, Memory}
use Rattle.elf_loader.specs.declared.header.ProgramHeader.{ProgramHeader}
use Rattle.elf_loader.specs.declared.sweep.Reach.{Reach}
use Rattle.elf_loader.proofs.Ranges.{filter_more, filter_fewer, map_range_agree}
use Rattle.elf_loader.proofs.Reaching.{Splits, IsReachOf, some_touch, some_with, some_stored}
use Rattle.elf_loader.proofs.Unions.{three_same, perms_in_is}

-- The pages that a sweep over segments gives.

-- the pages below a number that some segment touches
abbrev pub touched_below : List ProgramHeader → ℕ → List ℕ
touched_below headers n = filter (λ page. list_any (touches_memory page) headers) (range_with_len 0 n)

same_page : (page : ℕ) (p q : ℕ) (s t : Bool) → p ≡ q → s ≡ t
    → ◌≡◌ {A = ImagePage} (record { page = page; perms = record { 0 = p }; stored = s }) (record { page = page; perms = record { 0 = q }; stored = t })
same_page page p q s t h k = λ i. record { page = page; perms = record { 0 = h i }; stored = k i }

-- the reach of the segments that begin in or before a page tells the page
page_is : (headers : List ProgramHeader) (i page : ℕ) (reach : Reach) → All IsBelowStack headers → Splits headers i page → IsReachOf (take i headers) reach
    → page_at reach page ≡ page_given headers page
page_is headers i page reach below at is =
    same_page page _ _ _ _
    (three_same _ _ _ _ _ _ (sym (some_with readable headers i page reach.read at is.read)) (sym (some_with writable headers i page reach.write at is.write))
    (sym (some_with executable headers i page reach.execute at is.execute)) ∙ sym (perms_in_is headers page))
    (sym (some_stored headers i page reach.file below at is.file))

-- the order of the segments makes no difference to a page
same_pages : (xs ys : List ProgramHeader) → IsPermutation xs ys → (page : ℕ) → page_given ys page ≡ page_given xs page
same_pages xs ys moved page =
    same_page page _ _ _ _
    (perms_in_is ys page
    ∙ three_same _ _ _ _ _ _ (sym (list_any-IsPermutation _ xs ys moved)) (sym (list_any-IsPermutation _ xs ys moved)) (sym (list_any-IsPermutation _ xs ys moved))
    ∙ sym (perms_in_is xs page))
    (sym (list_any-IsPermutation (touches_file page) xs ys moved))

map_agree : (f g : ℕ → ImagePage) (pages : List ℕ) → ((q : ℕ) → f q ≡ g q) → map f pages ≡ map g pages
map_agree f g [] h = λ i. []
map_agree f g (q ∷ pages) h = ap (λ x. x ∷ map f pages) (h q) ∙ ap (λ xs. g q ∷ xs) (map_agree f g pages h)

same_numbers : (xs ys : List ProgramHeader) → IsPermutation xs ys → pages_in ys ≡ pages_in xs
same_numbers xs ys moved =
    filter_agree (λ page. list_any (touches_memory page) ys) (λ page. list_any (touches_memory page) xs)
    (λ page. sym (list_any-IsPermutation (touches_memory page) xs ys moved)) (range_with_len 0 page_numbers)

pub same_image : (xs ys : List ProgramHeader) → IsPermutation xs ys → map (page_given ys) (pages_in ys) ≡ map (page_given xs) (pages_in xs)
same_image xs ys moved = ap (map (page_given ys)) (same_numbers xs ys moved) ∙ map_agree (page_given ys) (page_given xs) (pages_in xs) (same_pages xs ys moved)

pub same_count : (xs ys : List ProgramHeader) → IsPermutation xs ys → length (pages_in ys) ≡ length (pages_in xs)
same_count xs ys moved = ap length (same_numbers xs ys moved)

-- Between two numbers the first i segments tell the pages.
pub record Gap (headers : List ProgramHeader) (i from to : ℕ) (reach : Reach) : Type 0 where
  pub ascends : from ≤ to
  pub below : All IsBelowStack headers
  pub splits : (q : ℕ) → from ≤ q → q < to → Splits headers i q
  pub is : IsReachOf (take i headers) reach

touched_more : (headers : List ProgramHeader) (i from to : ℕ) (reach : Reach) → Gap headers i from to reach
    → touched_below headers to ≡ touched_below headers from ++ range_with_len from (min to reach.memory - from)
touched_more headers i from to reach gap =
    let ascends = gap.ascends in
    filter_more (λ page. list_any (touches_memory page) headers) from (min to reach.memory - from) to (omega arith)
    (λ q low high. some_touch headers i q reach.memory (gap.splits q low (omega arith)) gap.is.memory ∙ lt-ltb q reach.memory (omega arith))
    (λ q low high. some_touch headers i q reach.memory (gap.splits q (omega arith) high) gap.is.memory ∙ le-ltb q reach.memory (omega arith))

-- the pages of the gap behind those before it
pub filled : (headers : List ProgramHeader) (i from to : ℕ) (reach : Reach) (old : List ImagePage) → Gap headers i from to reach
    → old ≡ map (page_given headers) (touched_below headers from)
    → old ++ map (page_at reach) (range_with_len from (min to reach.memory - from)) ≡ map (page_given headers) (touched_below headers to)
filled headers i from to reach old gap so_far =
    let ascends = gap.ascends in
    let k = min to reach.memory - from in
    ap (λ pages. pages ++ map (page_at reach) (range_with_len from k)) so_far
    ∙ ap (λ pages. map (page_given headers) (touched_below headers from) ++ pages)
    (map_range_agree (page_at reach) (page_given headers) from k (λ q low high. page_is headers i q reach gap.below (gap.splits q low (omega arith)) gap.is))
    ∙ sym (map-append (page_given headers) (touched_below headers from) (range_with_len from k))
    ∙ ap (map (page_given headers)) (sym (touched_more headers i from to reach gap))

-- how many pages there would be
pub fewer : (headers : List ProgramHeader) (i from to : ℕ) (reach : Reach) (old : List ImagePage) → Gap headers i from to reach
    → old ≡ map (page_given headers) (touched_below headers from) → to ≤ page_numbers
    → length old + (min to reach.memory - from) ≤ length (pages_in headers)
fewer headers i from to reach old gap so_far within =
    let same = ap length (filled headers i from to reach old gap so_far) in
    let k = min to reach.memory - from in
    omega (
      arith,
      same,
      length-append old (map (page_at reach) (range_with_len from k)),
      length-map-range_with_len (page_at reach) from k,
      length-map (touched_below headers to) (page_given headers),
      filter_fewer (λ page. list_any (touches_memory page) headers) to page_numbers within,
    )

-- an error that wants of too few pages wants of more
pub too_many : (m n : ℕ) (error : ElfError) → m ≤ n → IsTooMany m error → IsTooMany n error
too_many m n TooManyPages h few = omega arith
too_many m n Memory h few = few
too_many m n error h few = few

pub refused : {T : Type 0} (r : Result T ElfError) (error : ElfError) (P : T → Type 0) (n : ℕ) → IsErr r × IsErrAnd r (λ e. e ≡ error) → IsTooMany n error
    → MatchResult r P (IsTooMany n)
refused (Ok x) error P n is few = let no_error = is.0 in cc
refused (Err e) error P n is few = subst (IsTooMany n) (sym is.1) few

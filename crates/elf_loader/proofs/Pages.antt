use Rattle.std.proofs.Common.{◌≡◌, ℕ, ◌+◌, ◌*◌, ◌<◌, ◌≤◌, List, [], inl, inr, ◌∷◌, length, map, get_or, sym, ap, subst, ◌∙◌, refl, arith, All, Contains}
use Rattle.std.specs.List.{range_with_len, list_any}
use Rattle.std.specs.List.Sorted.{IsNonDecreasingBy}
use Rattle.std.proofs.lemmas.Bool.{cases_lt}
use Rattle.std.proofs.lemmas.List.{same_lists, get_or_default, get_or-map, length-map}
use Rattle.std.proofs.lemmas.List.Kept.{IsNonDecreasingBy-filter}
use Rattle.std.proofs.lemmas.List.FromFn.{length-map-range_with_len, get_or-map-range_with_len, length-range_with_len, get_or-range_with_len}
use Rattle.std.proofs.lemmas.List.Elements.{All-filter}
use Rattle.elf_loader.specs.Fields.{loads_of}
use Rattle.elf_loader.specs.Image.{page_numbers, page_length, image_pages, page_bytes, byte_in, listed_page, page_given, pages_in, touches_memory, KeptImage, IsImageOf}
use Rattle.elf_loader.specs.Layers.{AreAscending, page_number, number_of, no_page}
use Rattle.elf_loader.specs.declared.header.ProgramHeader.{ProgramHeader}
use Rattle.elf_loader.specs.declared.image.ImagePage.{ImagePage}

-- The pages of an image, and their bytes.

pub page_numbers_is : page_numbers ≡ 67108864
unfolding page_numbers
page_numbers_is = refl

pub page_length_is : page_length ≡ 4096
unfolding page_length
page_length_is = refl

-- as many bytes as a page has, that are the image's one by one, are the page
pub page_bytes_from : (file : List ℕ) (page : ℕ) (out : List ℕ) (loads : List ProgramHeader) → loads ≡ loads_of file → length out ≡ 4096
    → ((i : ℕ) → i < page_length → get_or out i 0 ≡ byte_in loads file (4096 * page + i)) → out ≡ page_bytes file page
unfolding page_bytes
page_bytes_from file page out loads same len each =
    same_lists out _ (len ∙ sym page_length_is ∙ sym (length-map-range_with_len (λ i. byte_in (loads_of file) file (4096 * page + i)) 0 page_length)) (λ k d below.
    let within : k < page_length = omega (arith, page_length_is) in
    get_or_default out k d 0 below ∙ each k within ∙ ap (λ hs. byte_in hs file (4096 * page + k)) same
    ∙ sym (get_or-map-range_with_len (λ i. byte_in (loads_of file) file (4096 * page + i)) 0 page_length k k d within (omega arith)))

numbers_of : (file : List ℕ) (pages : List ℕ) → map (λ p. p.page) (map (listed_page file) pages) ≡ pages
numbers_of file [] = refl
numbers_of file (p ∷ pages) = ap (λ ps. p ∷ ps) (numbers_of file pages)

below_all : All (λ p. p < page_numbers) (range_with_len 0 page_numbers)
below_all k d below =
    let len = length-range_with_len 0 page_numbers in
    let within : k < page_numbers = omega arith in
    subst (λ n. n < page_numbers) (sym (get_or-range_with_len 0 page_numbers k d within)) (omega arith)

-- a page of the image has a page number
pub page_below : (file : List ℕ) (image : KeptImage) (page : ℕ) → IsImageOf file image → Contains (map (λ p. p.page) image.pages) page → page < page_numbers
unfolding image_pages
page_below file image page is there =
    let same = ap (map (λ p. p.page)) is.pages ∙ numbers_of file (image_pages file) in
    let among : Contains (image_pages file) page = subst (λ ps. Contains ps page) same there in
    let all = All-filter _ (λ p. p < page_numbers) (range_with_len 0 page_numbers) below_all in
    subst (λ p. p < page_numbers) among.2 (all among.0 page among.1)

rising : IsNonDecreasingBy (λ q. q) (range_with_len 0 page_numbers)
rising i j d low within =
    let len = length-range_with_len 0 page_numbers in
    let first = get_or-range_with_len 0 page_numbers i d (omega arith) in
    let second = get_or-range_with_len 0 page_numbers j d (omega arith) in
    omega arith

-- the pages that segments touch are page numbers, ascending
pub ascending_in : (headers : List ProgramHeader) → AreAscending (map (page_given headers) (pages_in headers))
ascending_in headers =
    let numbers = pages_in headers in
    let len = length-map numbers (page_given headers) in
    record {
      sorted = λ i j d low within.
          let first : page_number (get_or (map (page_given headers) numbers) i d) ≡ get_or numbers i 0 = ap page_number (get_or-map (page_given headers) numbers i 0 d (omega arith)) in
          let second : page_number (get_or (map (page_given headers) numbers) j d) ≡ get_or numbers j 0 = ap page_number (get_or-map (page_given headers) numbers j 0 d (omega arith)) in
          let up : get_or numbers i 0 ≤ get_or numbers j 0 = IsNonDecreasingBy-filter (λ q. q) (λ page. list_any (touches_memory page) headers) (range_with_len 0 page_numbers) rising i j 0 low (omega arith) in
          omega arith;
      low = λ p within.
          let it : number_of (map (page_given headers) numbers) p ≡ get_or numbers p 0 = ap page_number (get_or-map (page_given headers) numbers p 0 no_page (omega arith)) in
          let below : get_or numbers p 0 < page_numbers = All-filter (λ page. list_any (touches_memory page) headers) (λ q. q < page_numbers) (range_with_len 0 page_numbers) below_all p 0 (omega arith) in
          omega arith;
    }

pub ascending : (headers : List ProgramHeader) (pages : List ImagePage) → pages ≡ map (page_given headers) (pages_in headers) → AreAscending pages
ascending headers pages is = subst AreAscending (sym is) (ascending_in headers)

pub ascending_of : (file : List ℕ) (image : KeptImage) → IsImageOf file image → AreAscending image.pages
unfolding image_pages
ascending_of file image is = ascending (loads_of file) image.pages is.pages

-- the place of a page of the image: those before it are lower, and the others aren't
pub record IsPlaceOf (pages : List ImagePage) (page place : ℕ) : Type 0 where
  pub within : place < length pages
  pub is : number_of pages place ≡ page

pub place_is : (pages : List ImagePage) (page place : ℕ) → AreAscending pages
    → ((p : ℕ) → p < place → number_of pages p < page)
    → ((p : ℕ) → place ≤ p → p < length pages → page ≤ number_of pages p)
    → Contains (map (λ p. p.page) pages) page → IsPlaceOf pages page place
place_is pages page place ascending below others there =
    let k = there.0 in
    let inside = there.1 in
    let len = length-map pages (λ p. p.page) in
    let at : number_of pages k ≡ page = sym (get_or-map (λ p. p.page) pages k no_page page (omega arith)) ∙ there.2 in
    elim (cases_lt k place) [
      | inl before ↦ absurd (let low = below k before in omega arith)
      | inr behind ↦
          let up = others place (omega arith) (omega arith) in
          let sorted = ascending.sorted place k no_page (omega arith) (omega arith) in
          record { within = omega arith; is = omega arith }
    ]

-- the same, of the pages that are kept
pub place_in : (file : List ℕ) (image : KeptImage) (pages : List ImagePage) (page place : ℕ) → IsImageOf file image → pages ≡ image.pages
    → ((p : ℕ) → p < place → number_of pages p < page)
    → ((p : ℕ) → place ≤ p → p < length pages → page ≤ number_of pages p)
    → Contains (map (λ p. p.page) image.pages) page → IsPlaceOf image.pages page place
place_in file image pages page place is same below others there =
    subst (λ ps. IsPlaceOf ps page place) same
    (place_is pages page place (subst AreAscending (sym same) (ascending_of file image is)) below others
    (subst (λ ps. Contains (map (λ p. p.page) ps) page) (sym same) there))

use Rattle.std.specs.Prelude.{◌≡◌, ℕ, ◌+◌, ◌*◌, ◌<◌, ◌≤◌, Bool, true, false, List, [], ◌∷◌, ◌++◌, ◌⊎◌, ◌≢◌, length, map, drop, get_or, set, Option, Some, None, IsSome, All, if◌then◌else◌}
use Rattle.std.specs.List.Sorted.{IsNonDecreasingBy}
use Rattle.std.specs.Global.{Vec}
use Rattle.sizes.specs.declared.TheConstants.{PAGE_BYTES}
use Rattle.elf_loader.specs.Image.{file_holds, last_holding, byte_in, page_length}
use Rattle.elf_loader.specs.Touched.{page_numbers}
use Rattle.elf_loader.specs.declared.header.ProgramHeader.{ProgramHeader}
use Rattle.elf_loader.specs.declared.image.ImagePage.{ImagePage}
use Rattle.elf_loader.specs.declared.layers.Stack.{Stack}

-- Which segments a page takes its bytes from. The segments are gone through from the last to the first, and a page takes none
-- any more once one has filled it.

-- no header, where a list is read past its end
abbrev pub no_header : ProgramHeader
no_header = record { kind = 0; flags = 0; offset = 0; address = 0; file_size = 0; memory_size = 0 }

-- The last segment to hold an address, of those at these places in the table; the last of them stands first.
abbrev pub last_among : List ProgramHeader → List ℕ → ℕ → Option ProgramHeader
last_among loads [] address = None
last_among loads (place ∷ places) address =
    if file_holds (get_or loads place no_header) address then Some (get_or loads place no_header) else last_among loads places address

-- The segments at these places give a page the bytes that all segments from one on give it; where the page is full they give
-- each of its bytes.
pub record Layered (loads : List ProgramHeader) (from page : ℕ) (places : List ℕ) (is_full : Bool) : Type 0 where
  pub there : All (λ place. place < length loads) places
  pub same : (a : ℕ) → PAGE_BYTES * page ≤ a → a < PAGE_BYTES * page + PAGE_BYTES → last_among loads places a ≡ last_holding (drop from loads) a
  pub gives : is_full ≡ true → (a : ℕ) → PAGE_BYTES * page ≤ a → a < PAGE_BYTES * page + PAGE_BYTES → IsSome (last_among loads places a)

-- a segment holds no address of a page
abbrev pub IsOutsidePage : ProgramHeader → ℕ → Type 0
IsOutsidePage header page = (a : ℕ) → PAGE_BYTES * page ≤ a → a < PAGE_BYTES * page + PAGE_BYTES → file_holds header a ≡ false

-- no page, where a list is read past its end
abbrev pub no_page : ImagePage
no_page = record { page = 0; perms = record { 0 = 0 }; stored = false }

-- the number of the page at a place
abbrev pub number_of : List ImagePage → ℕ → ℕ
number_of pages place = (get_or pages place no_page).page

abbrev pub page_number : ImagePage → ℕ
page_number page = page.page

-- page numbers, ascending
pub record AreAscending (pages : List ImagePage) : Type 0 where
  pub sorted : IsNonDecreasingBy page_number pages
  pub low : (p : ℕ) → p < length pages → number_of pages p < page_numbers

abbrev pub items_of : List (Vec ℕ) → List (List ℕ)
items_of layers = map (λ v. v.items) layers

-- each page has the places of segments that give it its bytes
pub record HasLayers (loads : List ProgramHeader) (pages : List ImagePage) (layers : List (Vec ℕ)) : Type 0 where
  pub as_many : length (items_of layers) ≡ length pages
  pub layered : (p : ℕ) → p < length pages → Layered loads 0 (number_of pages p) (get_or (items_of layers) p []) false

-- From each place on, the pages up to the next one that is looked at are full.
pub record Skips (full : List Bool) (next : List ℕ) : Type 0 where
  pub as_many : length next ≡ length full
  pub rises : (p : ℕ) → p < length next → p < get_or next p 0
  pub within : (p : ℕ) → p < length next → get_or next p 0 ≤ length next
  pub between : (p q : ℕ) → p < length next → p < q → q < get_or next p 0 → get_or full q false ≡ true

-- What the segments from one on leave: each page with the places of those that give it its bytes.
pub record IsLaid (loads : List ProgramHeader) (pages : List ImagePage) (from : ℕ) (layers : List (Vec ℕ)) (full : List Bool) (next : List ℕ) : Type 0 where
  pub as_many : length (items_of layers) ≡ length pages
  pub marked : length full ≡ length pages
  pub layered : (p : ℕ) → p < length pages → Layered loads from (number_of pages p) (get_or (items_of layers) p []) (get_or full p false)
  pub skips : Skips full next

-- So many pages before any segment: none has a place, none is full, and each is followed by the next.
pub record AreUnfilled (count : ℕ) (layers : List (Vec ℕ)) (full : List Bool) (next : List ℕ) : Type 0 where
  pub as_many : length (items_of layers) ≡ count
  pub marked : length full ≡ count
  pub follow : length next ≡ count
  pub none : (p : ℕ) → p < count → get_or (items_of layers) p [] ≡ []
  pub empty : (p : ℕ) → p < count → get_or full p false ≡ false
  pub on : (p : ℕ) → p < count → get_or next p 0 ≡ p + 1

-- The same of a stack.

abbrev pub IsUnfilled : ℕ → Stack → Type 0
IsUnfilled count stack = AreUnfilled count stack.layers.items stack.full.items stack.next.items

abbrev pub IsStack : List ProgramHeader → List ImagePage → ℕ → Stack → Type 0
IsStack loads pages from stack = IsLaid loads pages from stack.layers.items stack.full.items stack.next.items

-- one page of it has what the segments from one on give it
abbrev pub IsLayeredAt : List ProgramHeader → List ImagePage → ℕ → ℕ → Stack → Type 0
IsLayeredAt loads pages from at stack =
    Layered loads from (number_of pages at) (get_or (items_of stack.layers.items) at []) (get_or stack.full.items at false)

-- it has the lengths of its pages
abbrev pub HasLengths : ℕ → Stack → Type 0
HasLengths count stack = (length (items_of stack.layers.items) ≡ count) × (length stack.full.items ≡ count)

-- the other pages are as before
abbrev pub LeavesOthers : ℕ → Stack → Stack → Type 0
LeavesOthers at old new =
    (p : ℕ) → p ≢ at
    → (get_or (items_of new.layers.items) p [] ≡ get_or (items_of old.layers.items) p [])
    × (get_or new.full.items p false ≡ get_or old.full.items p false)

-- what was full is full
abbrev pub StaysFull : Stack → Stack → Type 0
StaysFull old new = (p : ℕ) → get_or old.full.items p false ≡ true → get_or new.full.items p false ≡ true

-- a segment holds no address of the pages outside these places
abbrev pub LiesWithin : ProgramHeader → List ImagePage → ℕ → ℕ → Type 0
LiesWithin header pages from to = (p : ℕ) → p < length pages → (p < from) ⊎ (to ≤ p) → IsOutsidePage header (number_of pages p)

-- lists of places with one place more in one of them
abbrev pub one_layer_more : List (List ℕ) → ℕ → ℕ → List (List ℕ)
one_layer_more layers at load = set layers at (get_or layers at [] ++ load ∷ [])

-- bytes that are a page's, by these segments
abbrev pub AreBytesOf : List ProgramHeader → List ℕ → ℕ → List ℕ → Type 0
AreBytesOf loads file page bytes = (i : ℕ) → i < page_length → get_or bytes i 0 ≡ byte_in loads file (PAGE_BYTES * page + i)

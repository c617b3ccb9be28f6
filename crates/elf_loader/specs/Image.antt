use Rattle.std.specs.Prelude.{◌≡◌, ℕ, ◌+◌, ◌-◌, ◌*◌, ◌&&◌, nat_lt, nat_le, Bool, List, [], ◌∷◌, map, fold, slice_index, Option, Some, None, Result, Ok, Err, if◌then◌else◌}
use Rattle.std.specs.Option.{option_map_or}
use Rattle.std.specs.List.{range_with_len, filter, list_any}
use Rattle.std.specs.Int.RustNames.{bit_and, bit_or}
use Rattle.sizes.specs.declared.TheConstants.{PAGE_BYTES}
use Rattle.ovl_io.specs.Permissions.{readable, writable, permits}
use Rattle.ovl_io.specs.Memory.{Page}
use Rattle.elf_loader.specs.Fields.{entry_address, loads_of}
use Rattle.elf_loader.specs.Accepted.{file_refusal}
unfoldable pub use Rattle.elf_loader.specs.Touched.{page_numbers, touches, touches_memory, touches_file, pages_in, image_pages}
use Rattle.elf_loader.specs.declared.header.ProgramHeader.{ProgramHeader}
use Rattle.elf_loader.specs.declared.image.ImagePage.{ImagePage}
use Rattle.elf_loader.specs.declared.image.ElfError.{ElfError}
use Rattle.elf_loader.specs.declared.image.ElfError.TheVariants.{Memory}

-- The image of a file (ELF-64, "Program Header" and "Process Image"). It is said address by address and
-- page by page: which segment is the last to hold an address, and which segments touch a page.

-- how many bytes a page has, under a name that doesn't unfold, so that no proof counts them out
unfoldable pub page_length : ℕ
page_length = PAGE_BYTES

-- whether an address is in a header's file range
abbrev pub file_holds : ProgramHeader → ℕ → Bool
file_holds header address = nat_le header.address address && nat_lt address (header.address + header.file_size)

-- whether all of a page is in a header's file range
abbrev pub fills : ℕ → ProgramHeader → Bool
fills page header = nat_le header.address (PAGE_BYTES * page) && nat_le (PAGE_BYTES * page + PAGE_BYTES) (header.address + header.file_size)

-- the last of the headers whose file range holds an address
abbrev pub last_holding : List ProgramHeader → ℕ → Option ProgramHeader
last_holding [] address = None
last_holding (header ∷ headers) address =
    option_map_or Some (last_holding headers address) (if file_holds header address then Some header else None)

-- the byte at an address: the file's byte of the last segment to hold it, else 0
abbrev pub byte_in : List ProgramHeader → List ℕ → ℕ → ℕ
byte_in headers file address =
    option_map_or (λ header. slice_index file (header.offset + (address - header.address))) (last_holding headers address) 0

-- a segment's permissions: the low three bits of its flags. What may be written may be read.
abbrev pub perms_of : ProgramHeader → ℕ
perms_of header =
    let bits = bit_and header.flags 7 in
    if permits bits writable then bit_or bits readable else bits

-- a page's permissions: the union of those of the segments that touch it
abbrev pub perms_in : List ProgramHeader → ℕ → ℕ
perms_in headers page = fold (λ perms header. bit_or perms (perms_of header)) 0 (filter (touches_memory page) headers)

-- the bytes of a page
unfoldable pub page_bytes : List ℕ → ℕ → List ℕ
page_bytes file page = map (λ i. byte_in (loads_of file) file (PAGE_BYTES * page + i)) (range_with_len 0 page_length)

-- a page of the image, as memory
abbrev pub image_page : List ℕ → ℕ → Page
image_page file page = record { perms = perms_in (loads_of file) page; bytes = page_bytes file page }

-- whether a page is stored: some segment's file range touches it
abbrev pub is_stored : List ℕ → ℕ → Bool
is_stored file page = list_any (touches_file page) (loads_of file)

-- What an `Image` keeps: the entry, the pages in ascending order with their permissions and marks, and
-- the headers of the segments.
pub record KeptImage : Type 0 where
  pub entry : ℕ
  pub pages : List ImagePage
  pub loads : List ProgramHeader

-- a page as some segments give it
abbrev pub page_given : List ProgramHeader → ℕ → ImagePage
page_given headers page = record {
  page = page;
  perms = record { 0 = perms_in headers page };
  stored = list_any (touches_file page) headers;
}

-- all pages that some segments touch
abbrev pub all_pages : List ProgramHeader → List ImagePage
all_pages headers = map (page_given headers) (pages_in headers)

abbrev pub listed_page : List ℕ → ℕ → ImagePage
listed_page file page = page_given (loads_of file) page

-- what is kept is the image of a file
pub record IsImageOf (file : List ℕ) (image : KeptImage) : Type 0 where
  pub taken : file_refusal file ≡ None
  pub entry : image.entry ≡ entry_address file
  pub pages : image.pages ≡ map (listed_page file) (image_pages file)
  pub loads : image.loads ≡ loads_of file

-- What reading a file gives: its image where it is taken, else the first refusal that holds, unless
-- there is no memory.
abbrev pub ReadsImage : List ℕ → Result KeptImage ElfError → Type 0
ReadsImage file (Ok image) = IsImageOf file image
ReadsImage file (Err Memory) = Unit {0}
ReadsImage file (Err error) = file_refusal file ≡ Some error

use Rattle.std.specs.Prelude.{ℕ, ◌+◌, ◌*◌, ◌&&◌, nat_lt, Bool, List}
use Rattle.std.specs.List.{range_with_len, filter, list_any}
use Rattle.sizes.specs.declared.TheConstants.{PAGE_BYTES, PAGE_END}
use Rattle.elf_loader.specs.Fields.{loads_of}
use Rattle.elf_loader.specs.declared.header.ProgramHeader.{ProgramHeader}

-- Which pages a segment touches, and so which pages an image has (ELF-64, "Program Header").

-- how many page numbers there are, under a name that doesn't unfold, so that no proof counts them out
unfoldable pub page_numbers : ℕ
page_numbers = PAGE_END

-- whether a range of so many bytes from an address on has a byte in a page
abbrev pub touches : ℕ → ℕ → ℕ → Bool
touches address size page = nat_lt 0 size && nat_lt address (PAGE_BYTES * page + PAGE_BYTES) && nat_lt (PAGE_BYTES * page) (address + size)

abbrev pub touches_memory : ℕ → ProgramHeader → Bool
touches_memory page header = touches header.address header.memory_size page

abbrev pub touches_file : ℕ → ProgramHeader → Bool
touches_file page header = touches header.address header.file_size page

-- the pages that some of the segments touch, ascending
abbrev pub pages_in : List ProgramHeader → List ℕ
pages_in headers = filter (λ page. list_any (touches_memory page) headers) (range_with_len 0 page_numbers)

unfoldable pub image_pages : List ℕ → List ℕ
image_pages file = pages_in (loads_of file)

use Rattle.std.specs.Prelude.{ℕ, ◌+◌, ◌*◌, ◌==◌, List, map, drop}
use Rattle.std.specs.List.{range_with_len, filter}
use Rattle.byteorder.specs.Endian.{little_number}
use Rattle.elf_loader.specs.declared.header.ProgramHeader.{ProgramHeader}

-- The fields that are read (ELF-64 Object File Format, "ELF Header" and "Program Header"). All numbers
-- are little-endian.

-- the number of so many bytes at an offset
abbrev pub number_at : List ℕ → ℕ → ℕ → ℕ
number_at file offset size = little_number size (drop offset file)

abbrev pub entry_address : List ℕ → ℕ
entry_address file = number_at file 24 8

abbrev pub table_offset : List ℕ → ℕ
table_offset file = number_at file 32 8

abbrev pub table_length : List ℕ → ℕ
table_length file = number_at file 56 2

-- the program header that begins at an offset
abbrev pub header_at : List ℕ → ℕ → ProgramHeader
header_at file offset = record {
  kind = number_at file offset 4;
  flags = number_at file (offset + 4) 4;
  offset = number_at file (offset + 8) 8;
  address = number_at file (offset + 16) 8;
  file_size = number_at file (offset + 32) 8;
  memory_size = number_at file (offset + 40) 8;
}

-- the program headers, each of 56 bytes, in the order of the table
unfoldable pub headers_of : List ℕ → List ProgramHeader
headers_of file = map (λ k. header_at file (table_offset file + 56 * k)) (range_with_len 0 (table_length file))

-- those that say what to load (PT_LOAD is 1)
unfoldable pub loads_of : List ℕ → List ProgramHeader
loads_of file = filter (λ header. header.kind == 1) (headers_of file)

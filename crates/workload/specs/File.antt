use Rattle.std.specs.Prelude.{ℕ, List, [], ◌∷◌, ◌++◌, flat_map}
use Rattle.std.specs.Int.{bytes_low_first}
use Rattle.sizes.specs.declared.TheConstants.{PAGE_BYTES}
use Rattle.workload.specs.declared.file.Field.{Field}
use Rattle.workload.specs.declared.file.Field.TheVariants.{Byte, Half, Word, Xword}
use Rattle.workload.specs.declared.file.Segment.{Segment}

-- The file of a workload, field by field (ELF-64 Object File Format, "ELF Header" and "Program Header").

-- the bytes of a field, from the low one of its number on
abbrev pub field_bytes : Field → List ℕ
field_bytes (Byte number) = bytes_low_first 0 1 number
field_bytes (Half number) = bytes_low_first 0 2 number
field_bytes (Word number) = bytes_low_first 0 4 number
field_bytes (Xword number) = bytes_low_first 0 8 number

-- The header of an executable of 64 bits, low bytes first, for RISC-V (243): where it begins, and two program headers right behind this one.
unfoldable pub file_header : List Field
file_header =
    Byte 0x7F ∷ Byte 0x45 ∷ Byte 0x4C ∷ Byte 0x46 ∷ Byte 2 ∷ Byte 1 ∷ Byte 1 ∷ Byte 0 ∷ Xword 0
    ∷ Half 2 ∷ Half 243 ∷ Word 1 ∷ Xword 0x100B0 ∷ Xword 64 ∷ Xword 0
    ∷ Word 0 ∷ Half 64 ∷ Half 56 ∷ Half 2 ∷ Half 0 ∷ Half 0 ∷ Half 0 ∷ []

-- the header of a segment that is loaded (1), by whole pages
abbrev pub program_header : Segment → List Field
program_header segment =
    Word 1 ∷ Word segment.flags ∷ Xword segment.offset ∷ Xword segment.address ∷ Xword segment.address
    ∷ Xword segment.file_size ∷ Xword segment.memory_size ∷ Xword PAGE_BYTES ∷ []

-- the program, which may be read and executed, behind the headers; and 64 pages that may be read and written, of which nothing is in the file
abbrev pub code_segment : Segment
code_segment = record { flags = 5; offset = 176; address = 0x100B0; file_size = 52; memory_size = 52 }

abbrev pub data_segment : Segment
data_segment = record { flags = 6; offset = 0; address = 0x20000; file_size = 0; memory_size = 0x40000 }

-- The program. Without end it mixes x5 by shifts and exclusive or, and stores it into one of the 64 pages, at the place that bits of it say.
unfoldable pub program : List Field
program =
    Word 0x00020337  -- lui x6, 32
    ∷ Word 0x000403B7  -- lui x7, 64
    ∷ Word 0xFF838393  -- addi x7, x7, -8
    ∷ Word 0x00D29413  -- slli x8, x5, 13
    ∷ Word 0x0082C2B3  -- xor x5, x5, x8
    ∷ Word 0x0072D413  -- srli x8, x5, 7
    ∷ Word 0x0082C2B3  -- xor x5, x5, x8
    ∷ Word 0x01129413  -- slli x8, x5, 17
    ∷ Word 0x0082C2B3  -- xor x5, x5, x8
    ∷ Word 0x0072F4B3  -- and x9, x5, x7
    ∷ Word 0x006484B3  -- add x9, x9, x6
    ∷ Word 0x0054B023  -- sd x5, 0(x9)
    ∷ Word 0xFDDFF06F  -- jal x0, -36
    ∷ []

unfoldable pub made_file : List ℕ
made_file = flat_map field_bytes (file_header ++ program_header code_segment ++ program_header data_segment ++ program)

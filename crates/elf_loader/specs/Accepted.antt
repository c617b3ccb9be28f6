use Rattle.std.specs.Prelude.{ℕ, ◌<◌, ◌≤◌, ◌+◌, ◌*◌, ◌==◌, ◌&&◌, ◌||◌, not, nat_lt, Bool, List, [], ◌∷◌, ◌++◌, length, slice_index, Option, Some, None, if◌then◌else◌}
use Rattle.std.specs.List.{list_any}
use Rattle.sizes.specs.declared.TheConstants.{STACK_ADDRESS, MOST_IMAGE_PAGES}
use Rattle.elf_loader.specs.Fields.{number_at, table_offset, table_length, headers_of, loads_of}
use Rattle.elf_loader.specs.Touched.{image_pages}
use Rattle.elf_loader.specs.declared.image.ElfError.{ElfError}
use Rattle.elf_loader.specs.declared.image.ElfError.TheVariants.{TooShort, BadMagic, NotClass64, NotLittle, BadVersion, NotExec, NotRiscv, BadEntrySize, TableOutside, NeedsInterpreter, FileLarger, SegmentOutside, AddressOutside, NothingToLoad, TooManyPages}

-- Which files are taken: those at which no refusal holds. Sums are of whole numbers and don't wrap.

-- a refusal with the test by which it holds
abbrev pub refused_if : {E : Type 0} → Bool → E → Option E
refused_if holds error = if holds then Some error else None

-- the first refusal that holds
abbrev pub first_refusal : {E : Type 0} → List (Option E) → Option E
first_refusal [] = None
first_refusal (None ∷ refusals) = first_refusal refusals
first_refusal (Some error ∷ refusals) = Some error

-- whether bytes from a place on, where there are any, end behind a limit
abbrev pub ends_behind : ℕ → ℕ → ℕ → Bool
ends_behind limit start size = nat_lt 0 size && nat_lt limit (start + size)

-- what a static executable's file header doesn't say (ELF-64, "ELF Header" and "File identification")
unfoldable pub header_refusals : List ℕ → List (Option ElfError)
header_refusals file =
    refused_if (nat_lt (length file) 64) TooShort
    -- it begins with the bytes 7F 45 4C 46
    ∷ refused_if (not (number_at file 0 4 == 0x464C457F)) BadMagic
    -- EI_CLASS is ELFCLASS64, EI_DATA is ELFDATA2LSB, EI_VERSION and e_version are EV_CURRENT
    ∷ refused_if (not (slice_index file 4 == 2)) NotClass64
    ∷ refused_if (not (slice_index file 5 == 1)) NotLittle
    ∷ refused_if (not (slice_index file 6 == 1) || not (number_at file 20 4 == 1)) BadVersion
    -- e_type is ET_EXEC, e_machine is EM_RISCV
    ∷ refused_if (not (number_at file 16 2 == 2)) NotExec
    ∷ refused_if (not (number_at file 18 2 == 243)) NotRiscv
    -- where there are program headers, e_phentsize is 56, and the table is in the file. An e_phnum of 65,535
    -- says that their number stands elsewhere.
    ∷ refused_if (not (table_length file == 0) && not (number_at file 54 2 == 56)) BadEntrySize
    ∷ refused_if ((table_length file == 65535)
    || ends_behind (length file) (table_offset file) (56 * table_length file)) TableOutside
    ∷ []

-- what the program headers don't (ELF-64, "Program Header"); an image may use what lies below the stack
unfoldable pub table_refusals : List ℕ → List (Option ElfError)
table_refusals file =
    -- p_type is PT_INTERP
    refused_if (list_any (λ header. header.kind == 3) (headers_of file)) NeedsInterpreter
    ∷ refused_if (list_any (λ load. nat_lt load.memory_size load.file_size) (loads_of file)) FileLarger
    ∷ refused_if (list_any (λ load. ends_behind (length file) load.offset load.file_size) (loads_of file)) SegmentOutside
    ∷ refused_if (list_any (λ load. ends_behind STACK_ADDRESS load.address load.memory_size) (loads_of file)) AddressOutside
    ∷ refused_if (not (list_any (λ load. nat_lt 0 load.memory_size) (loads_of file))) NothingToLoad
    ∷ []

unfoldable pub page_refusals : List ℕ → List (Option ElfError)
page_refusals file = refused_if (nat_lt MOST_IMAGE_PAGES (length (image_pages file))) TooManyPages ∷ []

-- why a file isn't taken
unfoldable pub file_refusal : List ℕ → Option ElfError
file_refusal file = first_refusal (header_refusals file ++ table_refusals file ++ page_refusals file)

-- a table that is all in the file, where there are program headers
abbrev pub HasTable : List ℕ → Type 0
HasTable file = 0 < table_length file → table_offset file + 56 * table_length file ≤ length file

use Rattle.std.specs.Prelude.{◌≡◌, ℕ, ◌+◌, ◌*◌, ◌<◌, List, [], ◌∷◌, ◌++◌, length, slice_index, flat_map, None}
use Rattle.std.specs.Int.{to_le_bytes, w32, w64}
use Rattle.elf_loader.specs.Fields.{loads_of, entry_address}
use Rattle.elf_loader.specs.Accepted.{file_refusal}
use Rattle.elf_loader.specs.Image.{byte_in}

-- The file of a program (ELF-64 Object File Format, "ELF Header" and "Program Header"): 64 bytes of header, one program
-- header of 56, and the words. They are loaded at 0x10078, may be read, written and executed, and the first is the entry.

abbrev pub file_header : List ℕ
file_header =
    0x7F ∷ 0x45 ∷ 0x4C ∷ 0x46 ∷ 2 ∷ 1 ∷ 1 ∷ 0 ∷ 0 ∷ 0 ∷ 0 ∷ 0 ∷ 0 ∷ 0 ∷ 0 ∷ 0  -- file identification
    ∷ 2 ∷ 0 ∷ 0xF3 ∷ 0 ∷ 1 ∷ 0 ∷ 0 ∷ 0 ∷ 0x78 ∷ 0 ∷ 1 ∷ 0 ∷ 0 ∷ 0 ∷ 0 ∷ 0  -- type, machine, version, entry
    ∷ 0x40 ∷ 0 ∷ 0 ∷ 0 ∷ 0 ∷ 0 ∷ 0 ∷ 0 ∷ 0 ∷ 0 ∷ 0 ∷ 0 ∷ 0 ∷ 0 ∷ 0 ∷ 0  -- table offset, section table offset
    ∷ 0 ∷ 0 ∷ 0 ∷ 0 ∷ 0x40 ∷ 0 ∷ 0x38 ∷ 0 ∷ 1 ∷ 0 ∷ 0 ∷ 0 ∷ 0 ∷ 0 ∷ 0 ∷ 0 ∷ []  -- flags, sizes and lengths

-- of a segment with so many bytes
abbrev pub segment_header : ℕ → List ℕ
segment_header size =
    (1 ∷ 0 ∷ 0 ∷ 0 ∷ 7 ∷ 0 ∷ 0 ∷ 0 ∷ 0x78 ∷ 0 ∷ 0 ∷ 0 ∷ 0 ∷ 0 ∷ 0 ∷ 0  -- kind, flags, offset
    ∷ 0x78 ∷ 0 ∷ 1 ∷ 0 ∷ 0 ∷ 0 ∷ 0 ∷ 0 ∷ 0x78 ∷ 0 ∷ 1 ∷ 0 ∷ 0 ∷ 0 ∷ 0 ∷ 0 ∷ [])  -- address, physical address
    ++ to_le_bytes w64 size ++ to_le_bytes w64 size  -- sizes in the file and in memory
    ++ (0 ∷ 0x10 ∷ 0 ∷ 0 ∷ 0 ∷ 0 ∷ 0 ∷ 0 ∷ [])  -- alignment

abbrev pub file_with : ℕ → List ℕ → List ℕ
file_with size code = file_header ++ segment_header size ++ code

abbrev pub code_of : List ℕ → List ℕ
code_of words = flat_map (to_le_bytes w32) words

unfoldable pub file_of : List ℕ → List ℕ
file_of words = file_with (4 * length words) (code_of words)

-- a file is never refused, and its image has the bytes of words from the entry on
pub record IsLoaded (words file : List ℕ) : Type 0 where
  pub taken : file_refusal file ≡ None
  pub entry : entry_address file ≡ 0x10078
  pub code : (k : ℕ) → k < 4 * length words → byte_in (loads_of file) file (0x10078 + k) ≡ slice_index (code_of words) k

use Rattle.std.specs.Prelude.{◌≡◌, ◌++◌, map, min, Result, MatchResult, ℕ, ◌+◌, ◌-◌, ◌/◌, ◌≤◌, ◌<◌, nat_lt, Bool, List, length, if◌then◌else◌}
use Rattle.std.specs.List.{range_with_len}
use Rattle.std.specs.Int.RustNames.{bit_or}
use Rattle.sizes.specs.declared.TheConstants.{PAGE_BYTES, ADDRESS_END, STACK_ADDRESS, MOST_IMAGE_PAGES}
use Rattle.ovl_io.specs.Permissions.{readable, writable, executable, permits}
use Rattle.elf_loader.specs.Image.{perms_of}
use Rattle.elf_loader.specs.declared.header.ProgramHeader.{ProgramHeader}
use Rattle.elf_loader.specs.declared.image.ImagePage.{ImagePage}
use Rattle.elf_loader.specs.declared.image.ElfError.{ElfError}
use Rattle.elf_loader.specs.declared.image.ElfError.TheVariants.{TooManyPages, Memory}
use Rattle.elf_loader.specs.declared.sweep.Reach.{Reach}

-- How far segments reach. Where segments begin in or before a page, whether one of them touches it shows
-- by the largest end among them.

-- the number of the page behind the last one that a range touches, or 0 for an empty range
abbrev pub pages_end : ℕ → ℕ → ℕ
pages_end address size = if nat_lt 0 size then (address + size - 1) / PAGE_BYTES + 1 else 0

-- the first page that a segment touches, or 0 where it touches none
abbrev pub first_page : ProgramHeader → ℕ
first_page header = if nat_lt 0 header.memory_size then header.address / PAGE_BYTES else 0

abbrev pub memory_end : ProgramHeader → ℕ
memory_end header = pages_end header.address header.memory_size

abbrev pub file_end : ProgramHeader → ℕ
file_end header = pages_end header.address header.file_size

-- the end of a segment that has a permission, else 0
abbrev pub end_with : ℕ → ProgramHeader → ℕ
end_with need header = if permits (perms_of header) need then memory_end header else 0

-- a segment of an image: the part in the file isn't larger than it, and it lies below the stack
pub record IsBelowStack (header : ProgramHeader) : Type 0 where
  pub part : header.file_size ≤ header.memory_size
  pub below : 0 < header.memory_size → header.address + header.memory_size ≤ STACK_ADDRESS

-- the segment's part in a file, where it has one, is in the file; and it lies below the end of addresses
abbrev pub IsInFile : List ℕ → ProgramHeader → Type 0
IsInFile file header = 0 < header.file_size → header.offset + header.file_size ≤ length file

abbrev pub IsAddressed : ProgramHeader → Type 0
IsAddressed header = 0 < header.file_size → header.address + header.file_size ≤ ADDRESS_END

-- what is said of each segment of a file that is taken
pub record Lies (file : List ℕ) (header : ProgramHeader) : Type 0 where
  pub part : header.file_size ≤ header.memory_size
  pub in_file : IsInFile file header
  pub below : 0 < header.memory_size → header.address + header.memory_size ≤ STACK_ADDRESS

-- permissions by whether each is there
abbrev pub perms_by : Bool → Bool → Bool → ℕ
perms_by read write execute =
    bit_or (bit_or (if read then readable else 0) (if write then writable else 0)) (if execute then executable else 0)

-- the page of an image, as a reach tells it
abbrev pub page_at : Reach → ℕ → ImagePage
page_at reach page = record {
  page = page;
  perms = record { 0 = perms_by (nat_lt page reach.read) (nat_lt page reach.write) (nat_lt page reach.execute) };
  stored = nat_lt page reach.file;
}

-- the pages from a number on, as a reach tells them, were added to others
abbrev pub Adds : Reach → ℕ → ℕ → List ImagePage → List ImagePage → Type 0
Adds reach from n old new = new ≡ old ++ map (page_at reach) (range_with_len from n)

-- how many of the pages from one number up to another are reached, where all segments so far begin before them
abbrev pub reached : Reach → ℕ → ℕ → ℕ
reached reach from to = min to reach.memory - from

-- what an error says where so many pages are wanted
abbrev pub IsTooMany : ℕ → ElfError → Type 0
IsTooMany n TooManyPages = MOST_IMAGE_PAGES < n
IsTooMany n Memory = Unit {0}
IsTooMany n error = ⊥

-- the pages of an image are so many, or an error says that they are too many
abbrev pub AreCounted : {T : Type 0} → Result T ElfError → ℕ → Type 0
AreCounted result n = MatchResult result (λ _. n ≤ MOST_IMAGE_PAGES) (IsTooMany n)

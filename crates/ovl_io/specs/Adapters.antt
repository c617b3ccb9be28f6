use Rattle.std.specs.Prelude.{◌≡◌, ◌<◌, ◌≤◌, ℕ, List, length, Option, Result, Ok, Err}
use Rattle.std.specs.declared.io.ErrorKind.{ErrorKind}
use Rattle.std.specs.declared.io.ErrorKind.TheVariants.{NotFound, OutOfMemory}
use Rattle.sizes.specs.declared.TheConstants.{MOST_FILE_BYTES}
use Rattle.ovl_io.specs.declared.shelf.ShelfError.{ShelfError}
use Rattle.ovl_io.specs.declared.shelf.ShelfError.TheVariants.{Failed, Missing, TooLong, Memory}
use Rattle.ovl_io.specs.Outside.{FetchRefused}
use Rattle.ovl_io.specs.declared.reader_source.ReaderSource.{ReaderSource}
use Rattle.ovl_io.specs.declared.writer_sink.WriterSink.{WriterSink}
use Rattle.ovl_io.specs.declared.folder_shelf.FolderShelf.{FolderShelf}

-- What the adapters show: how often they failed, what they stand on, and what the last fetch was refused.

abbrev pub read_faults : {R : Type 0} → ReaderSource R → ℕ
read_faults s = s.faults

abbrev pub reader_of : {R : Type 0} → ReaderSource R → R
reader_of s = s.reader

abbrev pub write_faults : {W : Type 0} → WriterSink W → ℕ
write_faults s = s.faults

abbrev pub writer_of : {W : Type 0} → WriterSink W → W
writer_of s = s.writer

abbrev pub fetch_faults : {R : Type 0} → FolderShelf R → ℕ
fetch_faults s = s.faults

abbrev pub fetch_refused : {R : Type 0} → FolderShelf R → Option FetchRefused
fetch_refused s = s.refused

-- What a failure of the system says of a file: one that the system doesn't find is Missing, and one that may
-- not be opened, or that can't be read, is not.
abbrev pub opening_answer : ErrorKind → ShelfError
opening_answer NotFound = Missing
opening_answer OutOfMemory = Memory
opening_answer kind = Failed

abbrev pub reading_answer : ErrorKind → ShelfError
reading_answer OutOfMemory = Memory
reading_answer kind = Failed

-- What reading a file whole gives, by the bytes that its reader has left: all of them, or too long exactly
-- where they are more than a file may have.
abbrev pub IsReadWhole : {File : Type 0} → (File → List ℕ) → List ℕ → Result File ShelfError → Type 0
IsReadWhole view bytes (Ok file) = (view file ≡ bytes) × (length bytes ≤ MOST_FILE_BYTES)
IsReadWhole view bytes (Err TooLong) = MOST_FILE_BYTES < length bytes
IsReadWhole view bytes (Err Missing) = ⊥
IsReadWhole view bytes (Err Failed) = Unit {0}
IsReadWhole view bytes (Err Memory) = Unit {0}

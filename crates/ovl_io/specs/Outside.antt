use Rattle.std.specs.Prelude.{◌≡◌, ℕ, ◌+◌, ◌-◌, ◌^◌, ◌<◌, ◌≤◌, min, List, [], ◌∷◌, length, Option, None, Some, Result, Ok, Err}
use Rattle.sizes.specs.declared.TheConstants.{MOST_FILE_BYTES, MOST_FILE_NAME}
use Rattle.ovl_io.specs.declared.shelf.ShelfError.{ShelfError}
use Rattle.ovl_io.specs.declared.shelf.ShelfError.TheVariants.{Failed, Missing, TooLong, Memory}

-- Faults rose in a call: there are more of them after it than before, or they stand at 2^64 - 1, where
-- an adapter's counter ends.
abbrev pub Rose : ℕ → ℕ → Type 0
Rose old new = min (old + 1) (2 ^ 64 - 1) ≤ new

-- a name of a file: 1 to 255 bytes
abbrev pub HasName : List ℕ → Type 0
HasName name = (0 < length name) × (length name ≤ MOST_FILE_NAME)

-- What a shelf tells of its last fetch: the name and the answer, where that was Failed or Missing.
pub record FetchRefused : Type 0 where
  pub name : List ℕ
  pub answer : ShelfError

abbrev pub fetch_refused_as : List ℕ → ShelfError → Option FetchRefused
fetch_refused_as name Failed = Some (record { name = name; answer = Failed })
fetch_refused_as name Missing = Some (record { name = name; answer = Missing })
fetch_refused_as name TooLong = None
fetch_refused_as name Memory = None

abbrev pub fetch_refused_by : {File : Type 0} → List ℕ → Result File ShelfError → Option FetchRefused
fetch_refused_by name (Ok file) = None
fetch_refused_by name (Err error) = fetch_refused_as name error

-- What a fetch may answer besides Failed and Memory, by the file that the name has: where there is none
-- it is Missing, one of more than 16 MiB is TooLong, and any other is given whole.
abbrev pub IsFetched : {File : Type 0} → (File → List ℕ) → Option (List ℕ) → Result File ShelfError → Type 0
IsFetched view file (Err Failed) = Unit {0}
IsFetched view file (Err Memory) = Unit {0}
IsFetched view None (Err Missing) = Unit {0}
IsFetched view None (Err TooLong) = ⊥
IsFetched view None (Ok given) = ⊥
IsFetched view (Some whole) (Err Missing) = ⊥
IsFetched view (Some whole) (Err TooLong) = MOST_FILE_BYTES < length whole
IsFetched view (Some whole) (Ok given) = (view given ≡ whole) × (length whole ≤ MOST_FILE_BYTES)

-- What fetches of these names make of a shelf, one after the other, each once and no others, by what the
-- shelf tells of a fetch.
abbrev pub AsksFor : {Shelf : Type 0} → (Shelf → List ℕ → Shelf → Type 0) → List (List ℕ) → Shelf → Shelf → Type 0
AsksFor fetched [] old new = new ≡ old
AsksFor {Shelf = Shelf} fetched (name ∷ names) old new =
    (next : Shelf) × fetched old name next × AsksFor fetched names next new

use Rattle.std.specs.Prelude.{◌≡◌, ℕ, ◌==◌, ◌||◌, Bool, List, [], ◌∷◌, length, Option, Some, None, Result, Ok, Err}
use Rattle.byteorder.specs.Endian.{little_number}
use Rattle.ovl_io.specs.Permissions.{readable, writable, executable}
use Rattle.ovl_io.specs.Memory.{Memory, Access, bytes_at, denied_at, with_bytes}
use Rattle.rv_execute.specs.declared.memory.Denied.{Denied}
use Rattle.rv_execute.specs.declared.memory.Refused.{Refused}
use Rattle.rv_execute.specs.declared.memory.Refused.TheVariants.{At, Full}

-- What a memory is asked by one instruction, and what it answers.

-- A call: the fetch of an instruction at an address, the load of so many bytes, or the store of some.
pub data Call : Type 0 where
  Fetch : ℕ → Call
  Load : ℕ → ℕ → Call
  Store : ℕ → List ℕ → Call

-- the access that a call tries
abbrev pub fetch_at : ℕ → Access
fetch_at address = record { need = executable; address = address; length = 4 }

abbrev pub load_at : ℕ → ℕ → Access
load_at address count = record { need = readable; address = address; length = count }

abbrev pub store_at : ℕ → ℕ → Access
store_at address count = record { need = writable; address = address; length = count }

abbrev pub access_of : Call → Access
access_of (Fetch address) = fetch_at address
access_of (Load address count) = load_at address count
access_of (Store address bytes) = store_at address (length bytes)

-- the word at an address, little-endian
abbrev pub word_at : Memory → ℕ → ℕ
word_at memory address = little_number 4 (bytes_at memory address 4)

-- What a fetch answers: the word where each of its bytes lies in a page that is there and may be executed, else the least
-- address of one that doesn't.
abbrev pub Fetches : Memory → ℕ → Result ℕ Denied → Type 0
Fetches memory address (Ok word) = (denied_at memory (fetch_at address) ≡ None) × (word ≡ word_at memory address)
Fetches memory address (Err denied) = denied_at memory (fetch_at address) ≡ Some denied.address

-- What a load answers, and what it gives.
abbrev pub LoadsBytes : {Done : Type 0} → Memory → ℕ → ℕ → List ℕ → Result Done Denied → Type 0
LoadsBytes memory address count given (Ok done) = (denied_at memory (load_at address count) ≡ None) × (given ≡ bytes_at memory address count)
LoadsBytes memory address count given (Err denied) = denied_at memory (load_at address count) ≡ Some denied.address

-- What a store answers, and the memory that it leaves. One that is refused changes nothing; for want of units it is refused
-- only where each of its bytes may be written.
abbrev pub StoresBytes : {Done : Type 0} → Memory → ℕ → List ℕ → Result Done Refused → Memory → Type 0
StoresBytes old address bytes (Ok done) new = (denied_at old (store_at address (length bytes)) ≡ None) × (new ≡ with_bytes old address bytes)
StoresBytes old address bytes (Err (At at)) new = (denied_at old (store_at address (length bytes)) ≡ Some at) × (new ≡ old)
StoresBytes old address bytes (Err (Full units limit)) new = (denied_at old (store_at address (length bytes)) ≡ None) × (new ≡ old)

-- how many bytes a load or a store may have
abbrev pub is_count : ℕ → Bool
is_count n = (n == 1) || (n == 2) || (n == 4) || (n == 8)

-- the units and the limit that a refusal for want of units names
abbrev pub full_of : {Done : Type 0} → Result Done Refused → Option (ℕ × ℕ)
full_of (Ok done) = None
full_of (Err (At at)) = None
full_of (Err (Full units limit)) = Some (units, limit)

-- What calls made of a memory object, one after the other, each once and no others, by what the object tells of each; and
-- what the last of them was refused for want of units. A refused store ends them.
abbrev pub Performs : {M : Type 0} → (M → ℕ → M → Type 0) → (M → ℕ → ℕ → M → Type 0)
    → (M → ℕ → List ℕ → Result (Unit {0}) Refused → M → Type 0) → List Call → M → Option (ℕ × ℕ) → M → Type 0
Performs fetched loaded stored [] old full new = (full ≡ None) × (new ≡ old)
Performs {M = M} fetched loaded stored (Fetch address ∷ calls) old full new =
    (next : M) × fetched old address next × Performs fetched loaded stored calls next full new
Performs {M = M} fetched loaded stored (Load address count ∷ calls) old full new =
    (next : M) × loaded old address count next × Performs fetched loaded stored calls next full new
Performs fetched loaded stored (Store address bytes ∷ calls) old full new =
    (answer : Result (Unit {0}) Refused) × stored old address bytes answer new × (full ≡ full_of answer) × (calls ≡ [])

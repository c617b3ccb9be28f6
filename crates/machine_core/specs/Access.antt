use Rattle.std.specs.Prelude.{◌≡◌, ℕ, ◌<◌, true, List, [], ◌∷◌, length, Option, Some, None, Result, Ok, Err}
use Rattle.ledger.specs.Units.{units}
use Rattle.ovl_io.specs.Memory.{Access, denied_at}
use Rattle.rv_execute.specs.Calls.{Call, LoadsBytes, Performs, StoresBytes, fetch_at, load_at, store_at}
use Rattle.rv_execute.specs.declared.memory.Denied.{Denied}
use Rattle.rv_execute.specs.declared.memory.Refused.{Refused}
use Rattle.rv_execute.specs.declared.memory.Refused.TheVariants as refused
use Rattle.overlay_memory.specs.Access.{IsStored, stored_books}
use Rattle.overlay_memory.specs.declared.error.MemoryError.{MemoryError}
use Rattle.overlay_memory.specs.declared.error.MemoryError.TheVariants.{Unmapped, Forbidden, Full}
use Rattle.overlay_pages.specs.State.{State, memory_of}
use Rattle.overlay_pages.specs.Changes.{Fits, limit_of}
use Rattle.overlay_memory.specs.View.{NoneAwaits, state_of, translations_of}
use Rattle.translation_cache.specs.Bare.{BareTranslations}
use Rattle.translation_cache.specs.Counted.{counted}
use Rattle.space_maps.specs.Spaces.{holds_space}
use Rattle.machine_core.specs.InHand.{StaysInHand}
use Rattle.machine_core.specs.declared.view.View.{View}

-- What the calls of an instruction make of the memory of all spaces.

-- where bytes may not be used; there is no such place where there aren't units enough
abbrev pub failed_at : MemoryError → Option ℕ
failed_at (Unmapped at) = Some at
failed_at (Forbidden at) = Some at
failed_at (Full needed limit) = None

-- the same, as an instruction sees it
abbrev pub refusal_of : MemoryError → Refused
refusal_of (Unmapped at) = refused.At at
refusal_of (Forbidden at) = refused.At at
refusal_of (Full needed limit) = refused.Full needed limit

-- what is lent, page by page
abbrev pub spaces_lent : View → State
spaces_lent view = state_of view.memory.now

-- and the pages that were translated last
abbrev pub lists_lent : View → BareTranslations
lists_lent view = translations_of view.memory.now

abbrev pub lists_after : View → Access → BareTranslations
lists_after view access = counted view.space (memory_of (spaces_lent view) view.space) (access ∷ []) (lists_lent view)

-- its space is there, and no page of it awaits being shared
pub record IsReadyView (view : View) : Type 0 where
  pub there : holds_space (spaces_lent view) view.space ≡ true
  pub none_awaits : NoneAwaits (spaces_lent view) view.space

-- the same loan of the same space, with the lines in hand or without
pub record IsSameLoan (old new : View) : Type 0 where
  pub loan : new.memory.ghost_name ≡ old.memory.ghost_name
  pub space : new.space ≡ old.space
  pub hand : StaysInHand old new

-- nothing changed of it, but that an access was translated
abbrev pub IsUnchanged : Access → View → View → Type 0
IsUnchanged access old new = IsSameLoan old new × (spaces_lent new ≡ spaces_lent old) × (lists_lent new ≡ lists_after old access)

-- what a store leaves, by its answer
abbrev pub Leaves : ℕ → State → ℕ → List ℕ → Result (Unit {0}) Refused → State → Type 0
Leaves space old address bytes (Ok done) new =
    (denied_at (memory_of old space) (store_at address (length bytes)) ≡ None) × IsStored old new space address bytes × Fits new
Leaves space old address bytes (Err (refused.At at)) new =
    (denied_at (memory_of old space) (store_at address (length bytes)) ≡ Some at) × (new ≡ old)
Leaves space old address bytes (Err (refused.Full needed limit)) new =
    (denied_at (memory_of old space) (store_at address (length bytes)) ≡ None)
    × (needed ≡ units (stored_books old space address (length bytes))) × (limit ≡ limit_of old) × (limit < needed) × (new ≡ old)

abbrev pub IsStoredBy : View → ℕ → List ℕ → Result (Unit {0}) Refused → View → Type 0
IsStoredBy old address bytes answer new =
    IsSameLoan old new × Leaves old.space (spaces_lent old) address bytes answer (spaces_lent new)
    × (lists_lent new ≡ lists_after old (store_at address (length bytes)))

-- what a load and a store of the space that is lent answer
abbrev pub LoadsLent : View → ℕ → ℕ → List ℕ → Result (Unit {0}) Denied → Type 0
LoadsLent view address count given answer = LoadsBytes (memory_of (spaces_lent view) view.space) address count given answer

abbrev pub StoresLent : View → ℕ → List ℕ → Result (Unit {0}) Refused → View → Type 0
StoresLent old address bytes answer new =
    StoresBytes (memory_of (spaces_lent old) old.space) address bytes answer (memory_of (spaces_lent new) new.space)

-- what calls made of it, one after the other
abbrev pub PerformsLent : List Call → View → Option (ℕ × ℕ) → View → Type 0
PerformsLent calls old full new = Performs (λ old address new. IsUnchanged (fetch_at address) old new)
    (λ old address count new. IsUnchanged (load_at address count) old new)
    (λ old address bytes answer new. IsStoredBy old address bytes answer new) calls old full new

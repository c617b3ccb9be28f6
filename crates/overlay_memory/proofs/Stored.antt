use Rattle.std.proofs.Common.{◌≡◌, ℕ, zero, suc, ◌+◌, ◌-◌, ◌*◌, ◌/◌, ◌%◌, ◌<◌, ◌≤◌, Bool, true, false, List, [], ◌∷◌, ◌++◌, length, Some, sym, ap, subst, ◌∙◌, refl, arith}
use Rattle.std.specs.Prelude.{Result, Ok, Err}
use Rattle.std.specs.FinMap.{get}
use Rattle.sizes.specs.declared.TheConstants.{LINE_BYTES, PAGE_BYTES}
use Rattle.ovl_io.specs.Memory.{Memory, first_denied, with_bytes}
use Rattle.ovl_io.specs.MemoryLaws.{access_front, all_allowed, first_refused, stored_joined}
use Rattle.ovl_io.specs.PageBytes.{page_allows}
use Rattle.ovl_io.specs.Permissions.{writable}
use Rattle.ledger.specs.Alike.{AreAlike}
use Rattle.ledger.specs.AlikeLaws.{alike_chain, alike_itself}
use Rattle.ledger.specs.Ledger.{Ledger}
use Rattle.ledger.specs.Touched.{touched}
use Rattle.ledger.specs.Units.{units}
use Rattle.overlay_pages.specs.State.{State, base_of, books, memory_of}
use Rattle.overlay_pages.specs.Changes.{limit_of}
use Rattle.overlay_pages.specs.View.{MemoryView, state_of}
use Rattle.overlay_memory.specs.declared.error.MemoryError.{MemoryError}
use Rattle.overlay_memory.specs.declared.error.MemoryError.TheVariants.{Unmapped, Forbidden, Full}
use Rattle.overlay_memory.specs.declared.error.Shortage.{Shortage}
use Rattle.overlay_memory.specs.Access.{IsAllowed, IsForbiddenAt, IsStored, IsUnmappedAt, IsUntouched, Reads, Stores, stored_books}
use Rattle.overlay_memory.specs.Pieces.{IsFilled, KeepsAllElse, came_of, result_at}
use Rattle.overlay_memory.specs.Room.{IsShort}
use Rattle.overlay_memory.specs.StateMemory.{beside_both}
use Rattle.space_maps.specs.Spaces.{space_in}
use Rattle.overlay_memory.proofs.Bringing.{HasBrought}
use Rattle.overlay_memory.proofs.Settled.{HasSettled}
use Rattle.overlay_memory.proofs.Filling.{behind_untouched, front_untouched}

-- What a store comes to: lines are brought, and then bytes are put in them.

-- what a store that is done says
abbrev pub IsDone : MemoryView → State → ℕ → ℕ → List ℕ → Type 0
IsDone view after s address bytes = IsAllowed (state_of view) s writable address (length bytes) × IsStored (state_of view) after s address bytes

-- no bytes
pub stored_none : (view : MemoryView) (s address : ℕ) (bytes : List ℕ) → length bytes ≡ 0 → IsDone view (state_of view) s address bytes
unfolding touched
stored_none view s address [] none = (
  refl,
  record {
    memory = refl;
    ledger = alike_itself (books (state_of view));
    base = λ on. refl;
    bases = λ page far. refl;
    permissions = refl;
    awaiting = refl;
    mark = refl;
    others = λ q other. refl;
    spaces = λ q. refl;
    frames = refl;
    zero_frame = refl;
  },
)
stored_none view s address (b ∷ bytes) none = absurd (omega (arith, none))

-- what a store says beside what it keeps
stored_with : (a d : State) (s address : ℕ) (bytes : List ℕ) → KeepsAllElse a d s → memory_of d s ≡ with_bytes (memory_of a s) address bytes
    → AreAlike (books d) (stored_books a s address (length bytes)) → ((space_in a s).speculating ≡ true → base_of d s ≡ base_of a s)
    → ((page : ℕ) → IsUntouched address (length bytes) page → get (base_of d s) page ≡ get (base_of a s) page) → IsStored a d s address bytes
stored_with a d s address bytes beside memory ledger base bases = record {
  memory = memory;
  ledger = ledger;
  base = base;
  bases = bases;
  permissions = beside.permissions;
  awaiting = beside.awaiting;
  mark = beside.mark;
  others = beside.others;
  spaces = beside.spaces;
  frames = beside.frames;
  zero_frame = beside.zero_frame;
}

-- a page in which a byte lies is touched
elsewhere : (address page : ℕ) (bytes : List ℕ) → 0 < length bytes → IsUntouched address (length bytes) page → page ≡ address / PAGE_BYTES → ⊥
elsewhere address page bytes some far same = let here : address + 0 ≡ address = omega arith in far 0 some (ap (λ a. a / PAGE_BYTES) here ∙ sym same)

-- lines were brought, bytes were put, and then the page was settled
pub stored_by : (a b c d : State) (s address : ℕ) (bytes : List ℕ) (joined row : Ledger) → 0 < length bytes → stored_books a s address (length bytes) ≡ row
    → HasBrought a b s joined → IsFilled b c s address bytes → HasSettled c d s (address / PAGE_BYTES) → AreAlike (books d) row → IsStored a d s address bytes
stored_by a b c d s address bytes joined row some row_is one two last alike =
    stored_with a d s address bytes (beside_both a c d s (beside_both a b c s one.beside two.beside) last.beside)
    (last.memory ∙ two.memory ∙ ap (λ m. with_bytes m address bytes) one.memory)
    (subst (AreAlike (books d)) (sym row_is) alike)
    (λ on. last.base (two.beside.mark ∙ one.beside.mark ∙ on) ∙ two.base (one.beside.mark ∙ on) ∙ one.base)
    (λ page far. last.bases page (elsewhere address page bytes some far) ∙ two.bases page far ∙ ap (λ m. get m page) one.base)

-- the page was settled, and then bytes were put
pub stored_first : (a c d : State) (s address : ℕ) (bytes : List ℕ) (row : Ledger) → 0 < length bytes → stored_books a s address (length bytes) ≡ row
    → (space_in a s).speculating ≡ false → HasSettled a c s (address / PAGE_BYTES) → IsFilled c d s address bytes → AreAlike (books c) row → IsStored a d s address bytes
stored_first a c d s address bytes row some row_is off first put alike =
    stored_with a d s address bytes (beside_both a c d s first.beside put.beside)
    (put.memory ∙ ap (λ m. with_bytes m address bytes) first.memory)
    (subst (λ l. AreAlike l (stored_books a s address (length bytes))) (sym put.ledger) (subst (AreAlike (books c)) (sym row_is) alike))
    (λ on. cc)
    (λ page far. put.bases page far ∙ first.bases page (elsewhere address page bytes some far))

-- bytes were stored, and then those behind them
pub stored_more : (a b c : State) (s address next : ℕ) (front rest : List ℕ) → next ≡ address + length front
    → AreAlike (stored_books b s next (length rest)) (stored_books a s address (length (front ++ rest)))
    → IsStored a b s address front → IsStored b c s next rest → IsStored a c s address (front ++ rest)
stored_more a b c s address next front rest is row one two = record {
  memory =
      two.memory ∙ ap (λ m. with_bytes m next rest) one.memory ∙ ap (λ n. with_bytes (with_bytes (memory_of a s) address front) n rest) is
      ∙ sym (stored_joined (memory_of a s) address front rest);
  ledger = alike_chain (books c) (stored_books b s next (length rest)) (stored_books a s address (length (front ++ rest))) two.ledger row;
  base = λ on. two.base (one.mark ∙ on) ∙ one.base on;
  bases = λ page far. two.bases page (behind_untouched address next front rest page is far) ∙ one.bases page (front_untouched address front rest page far);
  permissions = two.permissions ∙ one.permissions;
  awaiting = two.awaiting ∙ one.awaiting;
  mark = two.mark ∙ one.mark;
  others = λ q other. two.others q other ∙ one.others q other;
  spaces = λ q. two.spaces q ∙ one.spaces q;
  frames = two.frames ∙ one.frames;
  zero_frame = two.zero_frame ∙ one.zero_frame;
}

-- an error before anything was done
pub refused_store : (view : MemoryView) (s address : ℕ) (bytes : List ℕ) (error : MemoryError)
    → Reads (state_of view) s writable address (length bytes) (Err error)
    → Stores view view s address bytes (Err error)
refused_store view s address bytes (Unmapped at) h = (h, refl)
refused_store view s address bytes (Forbidden at) h = (h, refl)
refused_store view s address bytes (Full needed limit) h = absurd h

-- the first bytes are refused
pub front_refused : (v : State) (s need address front n : ℕ) (error : MemoryError) → front ≤ n → Reads v s need address front (Err error)
    → Reads v s need address n (Err error)
front_refused v s need address front n (Unmapped at) fits h =
    record { first = access_front (memory_of v s) need address front (n - front) n at (omega (arith, fits)) h.first; absent = h.absent }
front_refused v s need address front n (Forbidden at) fits h =
    record { first = access_front (memory_of v s) need address front (n - front) n at (omega (arith, fits)) h.first; there = h.there }
front_refused v s need address front n (Full needed limit) fits h = absurd h

-- a store that needs more units than there are
pub full_store : (view : MemoryView) (s address needed : ℕ) (bytes : List ℕ) (shortage : Shortage) → IsAllowed (state_of view) s writable address (length bytes)
    → units (stored_books (state_of view) s address (length bytes)) ≡ needed → IsShort needed (limit_of (state_of view)) shortage
    → Stores view view s address bytes (Err (Full shortage.needed shortage.limit))
full_store view s address needed bytes shortage may is short =
    (may, record { needed_is = short.needed_is ∙ sym is; limit_is = short.limit_is; over = short.over; kept = refl })

-- An access in one page fails at its first byte.
fails_first : (memory : Memory) (need q address n at : ℕ) (b : Bool) → page_allows memory need q ≡ b → address / PAGE_BYTES ≡ q
    → address + n ≤ PAGE_BYTES * q + PAGE_BYTES → first_denied memory need address n ≡ Some at → at ≡ address
fails_first memory need q address zero at b is here high h = absurd cc
fails_first memory need q address (suc n) at true is here high h =
    let none = all_allowed memory need q address (suc n) is (omega (arith, here)) high in absurd cc
fails_first memory need q address (suc n) at false is here high h =
    let first = first_refused memory need q address (suc n) is here (omega arith) in cc

first_fails : (v : State) (s address n at : ℕ) → address % LINE_BYTES + n ≤ LINE_BYTES → first_denied (memory_of v s) writable address n ≡ Some at → at ≡ address
first_fails v s address n at fits is =
    fails_first (memory_of v s) writable (address / 4096) address n at (page_allows (memory_of v s) writable (address / 4096)) refl refl (omega (arith, fits)) is

-- so of a store whose bytes lie in one line no more than what came of it need be said
pub told_store : (old new : MemoryView) (s address : ℕ) (bytes : List ℕ) (r : Result (Unit {0}) MemoryError) → address % LINE_BYTES + length bytes ≤ LINE_BYTES
    → Stores old new s address bytes r → Stores old new s address bytes (result_at address (came_of r))
told_store old new s address bytes (Ok done) fits h = h
told_store old new s address bytes (Err (Unmapped at)) fits h =
    (subst (λ a. IsUnmappedAt (state_of old) s writable address (length bytes) a) (first_fails (state_of old) s address (length bytes) at fits h.0.first) h.0, h.1)
told_store old new s address bytes (Err (Forbidden at)) fits h =
    (subst (λ a. IsForbiddenAt (state_of old) s writable address (length bytes) a) (first_fails (state_of old) s address (length bytes) at fits h.0.first) h.0, h.1)
told_store old new s address bytes (Err (Full needed limit)) fits h = h

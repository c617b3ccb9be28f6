use Rattle.std.proofs.Common.{◌≡◌, ℕ, ◌+◌, ◌-◌, ◌/◌, ◌%◌, ◌<◌, ◌≤◌, List, [], ◌∷◌, ◌++◌, length, take, drop, sym, ap, subst, ◌∙◌, refl, arith, length-drop}
use Rattle.std.specs.Prelude.{Err, IsSome, is_some}
use Rattle.std.proofs.lemmas.List.{length-take-le, take-append-drop}
use Rattle.sizes.specs.declared.TheConstants.{PAGE_BYTES}
use Rattle.ovl_io.specs.MemoryLaws.{both_allowed, rest_is}
use Rattle.ovl_io.specs.Permissions.{writable}
use Rattle.ledger.specs.Alike.{AreAlike}
use Rattle.ledger.specs.AlikeUnits.{units_alike}
use Rattle.ledger.specs.Events.{Store, ledger_after}
use Rattle.ledger.specs.Ledger.{Ledger}
use Rattle.ledger.specs.StoreLaws.{store_next}
use Rattle.ledger.specs.Units.{units}
use Rattle.overlay_pages.specs.State.{State, books, memory_of}
use Rattle.overlay_pages.specs.Changes.{limit_of, units_of}
use Rattle.overlay_pages.specs.Calls.{RisesBy}
use Rattle.overlay_pages.specs.View.{MemoryView, state_of}
use Rattle.overlay_memory.specs.declared.error.MemoryError.TheVariants.{Full}
use Rattle.overlay_memory.specs.declared.error.Shortage.{Shortage}
use Rattle.overlay_memory.specs.ApartLaws.{ArePagesApart, origins_apart}
use Rattle.overlay_memory.specs.Access.{FitsStored, IsAllowed, IsStored, Stores, stored_books}
use Rattle.overlay_memory.specs.Pieces.{IsPermitted, lines_under}
use Rattle.overlay_memory.specs.Room.{IsShort}
use Rattle.overlay_memory.specs.StateMemory.{same_pages}
use Rattle.overlay_memory.proofs.InOne.{row_of_one}
use Rattle.overlay_memory.proofs.Pieced.{permitted}
use Rattle.overlay_memory.proofs.Stored.{IsDone, full_store, stored_more}
use Rattle.overlay_memory.specs.TouchLaws.{touched_two}
use Rattle.space_maps.specs.Spaces.{page_in, space_in}

-- Stores whose bytes lie in two pages.

-- both may be written; with the lines under the bytes
pub record IsInTwo (view : MemoryView) (s address front : ℕ) (lines more bytes : List ℕ) : Type 0 where
  pub may : IsPermitted view s writable address
  pub also : IsPermitted view s writable (address + front)
  pub whole : address % PAGE_BYTES + front ≡ PAGE_BYTES
  pub over : front < length bytes
  pub few : length bytes ≤ PAGE_BYTES
  pub under : lines ≡ lines_under (address % PAGE_BYTES) front
  pub behind : more ≡ lines_under 0 (length bytes - front)

pub in_two : {view : MemoryView} {s address front : ℕ} {lines more bytes : List ℕ} → IsPermitted view s writable address
    → IsPermitted view s writable (address + front) → address % PAGE_BYTES + front ≡ PAGE_BYTES → front < length bytes → length bytes ≤ PAGE_BYTES
    → lines ≡ lines_under (address % PAGE_BYTES) front → more ≡ lines_under 0 (length bytes - front)
    → IsInTwo view s address front lines more bytes
in_two may also whole over few under behind =
    record { may = may; also = also; whole = whole; over = over; few = few; under = under; behind = behind }

module _ {view : MemoryView} {s address front : ℕ} {lines more bytes : List ℕ} (it : IsInTwo view s address front lines more bytes) where
  abbrev v : State
  v = state_of view

  abbrev page : ℕ
  page = address / PAGE_BYTES

  abbrev next : ℕ
  next = address / PAGE_BYTES + 1

  abbrev first_bytes : List ℕ
  first_bytes = take front bytes

  abbrev rest : List ℕ
  rest = take (length bytes - front) (drop front bytes)

  other_page : next ≡ page → ⊥
  other_page same = omega (arith, same)

  next_is : (address + front) / PAGE_BYTES ≡ next
  next_is = omega (arith, it.whole)

  begins : (address + front) % PAGE_BYTES ≡ 0
  begins = omega (arith, it.whole)

  pub first_count : length first_bytes ≡ front
  first_count = length-take-le front bytes (omega (arith, it.over))

  pub rest_count : length rest ≡ length bytes - front
  rest_count = ap length (rest_is bytes front) ∙ length-drop front bytes

  allowed : IsAllowed v s writable address (length bytes)
  allowed =
      both_allowed (memory_of v s) writable address (address + front) front (length bytes - front) (length bytes) (omega (arith, it.over)) refl
      (permitted view s writable address front it.may (omega (arith, it.whole)))
      (permitted view s writable (address + front) (length bytes - front) it.also (omega (arith, it.whole, it.over, it.few)))

  -- the ledger after the bytes of one page, and after those of the next
  abbrev first_books : Ledger
  first_books = ledger_after (Store (space_in v s).speculating s ((page, lines) ∷ [])) (books v)

  first_row : stored_books v s address front ≡ first_books
  first_row =
      row_of_one v s address front (omega (arith, it.whole)) (omega (arith, it.whole))
      ∙ ap (λ l. ledger_after (Store (space_in v s).speculating s ((page, l) ∷ [])) (books v)) (sym it.under)

  row_is : stored_books v s address (length bytes)
      ≡ ledger_after (Store (space_in v s).speculating s ((page, lines) ∷ ((next, more) ∷ []))) (books v)
  row_is =
      ap (λ t. ledger_after (Store (space_in v s).speculating s t) (books v))
      (touched_two address (length bytes) front (address / 4096) (address % 4096) (omega arith) it.whole (omega (arith, it.whole)) it.over it.few
      ∙ ap (λ l. (page, l) ∷ ((next, lines_under 0 (length bytes - front)) ∷ [])) (sym it.under)
      ∙ ap (λ l. (page, lines) ∷ ((next, l) ∷ [])) (sym it.behind))

  -- what it needs is there, or isn't

  rises : (one two : ℕ) → RisesBy v s page lines one → RisesBy v s next more two
      → units (stored_books v s address (length bytes)) ≡ units_of v + (one + two)
  rises one two first second =
      let together = first.both next more other_page in
      let alone = second.one in
      let row = ap units row_is in
      omega (arith, together, alone, row)

  pub two_full : (one two : ℕ) (shortage : Shortage) → RisesBy v s page lines one → RisesBy v s next more two
      → IsShort (units_of v + (one + two)) (limit_of v) shortage
      → Stores view view s address bytes (Err (Full shortage.needed shortage.limit))
  two_full one two shortage first second short =
      full_store view s address (units_of v + (one + two)) bytes shortage allowed (rises one two first second) short

  pub first_fits : (one two : ℕ) → RisesBy v s page lines one → units_of v + (one + two) ≤ limit_of v → FitsStored v s address (length first_bytes)
  first_fits one two first room =
      let row = ap units (ap (stored_books v s address) first_count ∙ first_row) in
      omega (arith, row, first.one, room)

  -- the bytes of one page are stored, and then those of the next
  module _ (b : State) (apart : ArePagesApart v s) (one : IsStored v b s address first_bytes) where
    pub second_there : IsSome (page_in b s ((address + front) / PAGE_BYTES))
    second_there = same_pages v b s ((address + front) / PAGE_BYTES) one.permissions ∙ ap is_some it.also.there

    rest_row : AreAlike (stored_books b s (address + front) (length rest)) (stored_books v s address (length bytes))
    rest_row =
        let after : stored_books b s (address + front) (length rest) ≡ ledger_after (Store (space_in v s).speculating s ((next, more) ∷ [])) (books b) =
        ap (stored_books b s (address + front)) rest_count
        ∙ row_of_one b s (address + front) (length bytes - front) (omega (arith, it.over)) (omega (arith, it.whole, it.over, it.few))
        ∙ ap (λ q. ledger_after (Store (space_in b s).speculating s ((q, lines_under ((address + front) % 4096) (length bytes - front)) ∷ [])) (books b)) next_is
        ∙ ap (λ at. ledger_after (Store (space_in b s).speculating s ((next, lines_under at (length bytes - front)) ∷ [])) (books b)) begins
        ∙ ap (λ l. ledger_after (Store (space_in b s).speculating s ((next, l) ∷ [])) (books b)) (sym it.behind)
        ∙ ap (λ m. ledger_after (Store m s ((next, more) ∷ [])) (books b)) one.mark in
        let like : AreAlike (books b) first_books = subst (AreAlike (books b)) (ap (stored_books v s address) first_count ∙ first_row) one.ledger in
        subst (λ l. AreAlike l (stored_books v s address (length bytes))) (sym after)
        (subst (AreAlike (ledger_after (Store (space_in v s).speculating s ((next, more) ∷ [])) (books b))) (sym row_is)
        (store_next (space_in v s).speculating (books v) (books b) s page next lines more (origins_apart v s apart) other_page like))

    pub second_fits : (one two : ℕ) → RisesBy v s page lines one → RisesBy v s next more two → units_of v + (one + two) ≤ limit_of v
        → FitsStored b s (address + front) (length rest)
    second_fits n k first second room =
        let same = units_alike _ _ rest_row in
        let all = rises n k first second in
        omega (arith, same, all, room, one.frames)

    pub two_stored : (c : State) → IsStored b c s (address + front) rest → IsDone view c s address bytes
    two_stored c two = (
      allowed,
      subst (IsStored v c s address) (ap (λ l. first_bytes ++ l) (rest_is bytes front) ∙ take-append-drop front bytes)
          (stored_more v b c s address (address + front) first_bytes rest (ap (λ n. address + n) (sym first_count))
          (subst (λ l. AreAlike (stored_books b s (address + front) (length rest)) (stored_books v s address (length l)))
          (sym (ap (λ l. first_bytes ++ l) (rest_is bytes front) ∙ take-append-drop front bytes)) rest_row) one two),
    )

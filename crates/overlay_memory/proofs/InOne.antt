use Rattle.std.proofs.Common.{◌≡◌, ℕ, ◌+◌, ◌*◌, ◌/◌, ◌%◌, ◌<◌, ◌≤◌, true, false, List, [], ◌∷◌, length, Option, Some, None, refl, sym, ap, subst, ◌∙◌, arith}
use Rattle.std.specs.Prelude.{Err, IsSome, is_some}
use Rattle.sizes.specs.declared.TheConstants.{LINE_BYTES, PAGE_BYTES, PAGE_LINES}
use Rattle.ovl_io.specs.Permissions.{writable}
use Rattle.overlay_bits.specs.Lines.{has_line}
use Rattle.ledger.specs.Alike.{AreAlike}
use Rattle.ledger.specs.AlikeLaws.{alike_itself}
use Rattle.std.specs.Option.{option_map}
use Rattle.overlay_memory.specs.PageLaws.{some_is}
use Rattle.ledger.specs.Changes.{is_large, with_lines}
use Rattle.ledger.specs.Events.{Store, ledger_after}
use Rattle.ledger.specs.Ledger.{Ledger}
use Rattle.ledger.specs.Units.{units}
use Rattle.overlay_pages.specs.State.{PageState, State, books}
use Rattle.overlay_pages.specs.Changes.{Fits, HasCopyRoom, is_writable, limit_of, units_of, with_brought}
use Rattle.overlay_pages.specs.Spots.{IsBroughtTo, IsFoundPageAt}
use Rattle.overlay_pages.specs.View.{IsJoined, MemoryView, state_of}
use Rattle.overlay_pages.specs.declared.spots.FoundPage.{FoundPage}
use Rattle.overlay_memory.specs.declared.error.MemoryError.TheVariants.{Full}
use Rattle.overlay_memory.specs.declared.error.Shortage.{Shortage}
use Rattle.overlay_memory.specs.Access.{FitsStored, IsAllowed, IsStored, Stores, stored_books}
use Rattle.overlay_memory.specs.Pieces.{AreWritable, ComesToBeLarge, IsFilled, IsPermitted, Settles, lines_under}
use Rattle.overlay_memory.specs.Room.{IsShort}
use Rattle.overlay_memory.specs.View.{AreOverlaysSmall, NoneAwaits}
use Rattle.overlay_memory.specs.FoundLaws.{found_some}
use Rattle.overlay_memory.specs.StateMemory.{still_there}
use Rattle.overlay_memory.proofs.Bringing.{HasBrought, brought_none, brought_one, brought_writable, joined_books, joins_nothing}
use Rattle.overlay_memory.proofs.Fronting.{at_address, of_address, own_there}
use Rattle.overlay_memory.proofs.Joining.{has_under}
use Rattle.overlay_memory.proofs.Pieced.{permitted}
use Rattle.overlay_memory.proofs.Settled.{IsPlacedAnew, first_room, first_row, first_settled, has_settled, joined_few, joined_small, row, row_units, settled_none, settled_row, settles_later, settles_none}
use Rattle.overlay_memory.proofs.Stored.{IsDone, full_store, stored_by, stored_first}
use Rattle.overlay_memory.specs.TouchLaws.{one_under, touched_one}
use Rattle.overlay_memory.proofs.Views.{own_set}
use Rattle.space_maps.specs.Options.{by_test}
use Rattle.space_maps.specs.Spaces.{page_in, space_in}

-- Stores whose bytes lie in one page.

pub row_of_one : (v : State) (s address n : ℕ) → 0 < n → address % PAGE_BYTES + n ≤ PAGE_BYTES
    → stored_books v s address n
    ≡ ledger_after (Store (space_in v s).speculating s ((address / PAGE_BYTES, lines_under (address % PAGE_BYTES) n) ∷ [])) (books v)
row_of_one v s address n some fits =
    ap (λ t. ledger_after (Store (space_in v s).speculating s t) (books v))
    (touched_one address n (address / 4096) (address % 4096) some (omega arith) fits)

-- bytes of a line that can be written where it stands
pub put_in_place : (view : MemoryView) (c : State) (s address : ℕ) (bytes : List ℕ) (page : PageState) → page_in (state_of view) s (address / PAGE_BYTES) ≡ Some page → IsJoined view
    → AreOverlaysSmall (state_of view) → 0 < length bytes → address % LINE_BYTES + length bytes ≤ LINE_BYTES
    → is_writable (state_of view) s (address / PAGE_BYTES) (address / LINE_BYTES % PAGE_LINES) ≡ true
    → IsFilled (state_of view) c s (PAGE_BYTES * (address / PAGE_BYTES) + (LINE_BYTES * (address / LINE_BYTES % PAGE_LINES) + address % LINE_BYTES)) bytes
    → IsStored (state_of view) c s address bytes
put_in_place view c s address bytes page there joined small some fits can filled =
    let v = state_of view in
    let p = address / 4096 in
    let line = address / 64 % 64 in
    let n = length bytes in
    let place : 4096 * p + (64 * line + address % 64) ≡ address = omega arith in
    let row : stored_books v s address n ≡ books v =
    row_of_one v s address n some (omega (arith, fits))
    ∙ ap (λ l. ledger_after (Store (space_in v s).speculating s ((p, l) ∷ [])) (books v))
    (one_under (address % 4096) n line some (omega arith) (omega (arith, fits)))
    ∙ joins_nothing v s p line page there (own_set view s p page joined there) small can in
    let put : IsFilled v c s address bytes = subst (λ a. IsFilled v c s a bytes) place filled in
    stored_by v v c c s address bytes (books v) (books v) some row (brought_none v s) put (settled_none c s p) (subst (AreAlike (books c)) put.ledger (alike_itself (books c)))

-- where the page may be written, they are stored so
pub done_in_line : (view : MemoryView) (c : State) (s address : ℕ) (bytes : List ℕ) → IsPermitted view s writable address
    → address % LINE_BYTES + length bytes ≤ LINE_BYTES → IsStored (state_of view) c s address bytes → IsDone view c s address bytes
done_in_line view c s address bytes may fits stored = (permitted view s writable address (length bytes) may (omega (arith, fits)), stored)

-- bytes in one page that is there, with the lines under them
pub record IsInOne (v : State) (s address : ℕ) (lines bytes : List ℕ) : Type 0 where
  pub page : PageState
  pub there : page_in v s (address / PAGE_BYTES) ≡ Some page
  pub some : 0 < length bytes
  pub fits : address % PAGE_BYTES + length bytes ≤ PAGE_BYTES
  pub under : lines ≡ lines_under (address % PAGE_BYTES) (length bytes)

pub in_one : {v : State} {s address : ℕ} {lines bytes : List ℕ} → IsSome (page_in v s (address / PAGE_BYTES)) → 0 < length bytes
    → address % PAGE_BYTES + length bytes ≤ PAGE_BYTES → lines ≡ lines_under (address % PAGE_BYTES) (length bytes) → IsInOne v s address lines bytes
in_one {v = v} {s = s} {address = address} {lines = lines} {bytes = bytes} is some fits under = by_page (page_in v s (address / PAGE_BYTES)) refl is
  where
    by_page : (o : Option PageState) → page_in v s (address / PAGE_BYTES) ≡ o → IsSome o → IsInOne v s address lines bytes
    by_page None absent missing = cc
    by_page (Some x) there has = record { page = x; there = there; some = some; fits = fits; under = under }

module _ {v : State} {s address : ℕ} {lines bytes : List ℕ} (it : IsInOne v s address lines bytes) where
  abbrev page : ℕ
  page = address / PAGE_BYTES

  -- the ledger after it, and the state with its lines brought
  abbrev after : Ledger
  after = row v s page lines it.page it.there

  abbrev brought : State
  brought = with_brought v s page lines

  pub row_is : stored_books v s address (length bytes) ≡ after
  row_is =
      row_of_one v s address (length bytes) it.some it.fits
      ∙ ap (λ l. ledger_after (Store (space_in v s).speculating s ((page, l) ∷ [])) (books v)) (sym it.under)

  brought_is : HasBrought v brought s (joined_books v s page lines)
  brought_is = brought_one v s page lines it.page it.there

  brought_units : units after ≡ units_of brought
  brought_units = row_units v s page lines it.page it.there ∙ sym (ap units brought_is.ledger)

  -- the units after it, told by the state with the lines brought
  pub one_needs : (needed : ℕ) → units_of brought ≡ needed → units (stored_books v s address (length bytes)) ≡ needed
  one_needs needed is = ap units row_is ∙ brought_units ∙ is

  pub one_fits : FitsStored v s address (length bytes) → Fits brought
  one_fits room =
      let same = ap units row_is ∙ brought_units in
      omega (arith, same, room, brought_is.beside.frames)

  pub one_there : (b : State) → b ≡ brought → IsSome (page_in b s page)
  one_there b is = ap (λ w. is_some (page_in w s page)) is ∙ still_there v brought s page brought_is.beside (ap is_some it.there)

  pub one_writable : (b : State) → b ≡ brought → AreWritable b s page (address % PAGE_BYTES) (length bytes)
  one_writable b is line low high =
      ap (λ w. is_writable w s page line) is
      ∙ brought_writable v s page lines it.page it.there line
      (ap (λ l. has_line l line) it.under ∙ has_under (address % 4096) (length bytes) line it.some low high)

  -- The page was settled first, and then bytes were put.
  pub one_room : FitsStored v s address (length bytes) → ComesToBeLarge v s page lines → HasCopyRoom v s page
  one_room room is = first_room v s page lines is (let same = ap units row_is in omega (arith, same, room))

  pub one_anew : (c d : State) → ComesToBeLarge v s page lines → IsPlacedAnew v c s page → IsFilled c d s (PAGE_BYTES * page + address % PAGE_BYTES) bytes
      → IsStored v d s address bytes
  one_anew c d is anew filled =
      let place : 4096 * page + address % 4096 ≡ address = omega arith in
      stored_first v c d s address bytes after it.some row_is is.off (first_settled v c s page lines is anew)
      (subst (λ a. IsFilled c d s a bytes) place filled) (first_row v c s page lines is anew)

  -- bytes were put then
  module _ (b c : State) (b_is : b ≡ brought) (filled : IsFilled b c s (PAGE_BYTES * page + address % PAGE_BYTES) bytes) where
    put : IsFilled brought c s address bytes
    put =
        let place : 4096 * page + address % 4096 ≡ address = omega arith in
        subst (λ w. IsFilled w c s address bytes) b_is (subst (λ a. IsFilled b c s a bytes) place filled)

    pub put_there : IsSome (page_in c s page)
    put_there = still_there brought c s page put.beside (still_there v brought s page brought_is.beside (ap is_some it.there))

    pub put_awaits : NoneAwaits v s → NoneAwaits c s
    put_awaits none = put.beside.awaiting ∙ brought_is.beside.awaiting ∙ none

    -- and what comes of the page
    pub one_stored : (d : State) → Settles c d s page → IsStored v d s address bytes
    one_stored d settles =
        stored_by v brought c d s address bytes (joined_books v s page lines) after it.some row_is brought_is put (has_settled c d s page settles put_there)
        (settled_row v s page lines it.page it.there c d (put.ledger ∙ brought_is.ledger) (put.beside.mark ∙ brought_is.beside.mark) settles put_there)

-- Bytes of one line of a page that was found, where the line is brought before they are put.
pub record IsApart (view : MemoryView) (s address line : ℕ) (page : FoundPage) (bytes : List ℕ) : Type 0 where
  pub at : IsFoundPageAt view s (address / PAGE_BYTES) page
  pub line_is : line ≡ address / LINE_BYTES % PAGE_LINES
  pub joined : IsJoined view
  pub one : IsInOne (state_of view) s address (address / LINE_BYTES % PAGE_LINES ∷ []) bytes
  pub apart : is_writable (state_of view) page.space page.page (address / LINE_BYTES % PAGE_LINES) ≡ false

pub is_apart : {view : MemoryView} {s address line : ℕ} {page : FoundPage} {bytes : List ℕ} → IsFoundPageAt view s (address / PAGE_BYTES) page
    → line ≡ address / LINE_BYTES % PAGE_LINES → IsJoined view
    → is_writable (state_of view) page.space page.page (address / LINE_BYTES % PAGE_LINES) ≡ false → 0 < length bytes → address % LINE_BYTES + length bytes ≤ LINE_BYTES
    → IsApart view s address line page bytes
is_apart {view = view} {s = s} {address = address} {page = page} {bytes = bytes} at line_is joined apart some fits =
    record {
      at = at;
      line_is = line_is;
      joined = joined;
      one = in_one (found_some view page s (address / 4096) at) some (omega (arith, fits))
          (sym (one_under (address % 4096) (length bytes) (address / 64 % 64) some (omega arith) (omega (arith, fits))));
      apart = apart;
    }

module _ {view : MemoryView} {s address line : ℕ} {page : FoundPage} {bytes : List ℕ} (it : IsApart view s address line page bytes) where
  pub line_allowed : IsPermitted view s writable address → IsAllowed (state_of view) s writable address (length bytes)
  line_allowed may = permitted view s writable address (length bytes) may it.one.fits

  -- what the units are with a line that is brought
  abbrev AreUnits : ℕ → Type 0
  AreUnits needed = (i : ℕ) → i < PAGE_LINES → is_writable (state_of view) page.space page.page i ≡ false
      → units_of (with_brought (state_of view) page.space page.page (i ∷ [])) ≡ needed

  needs : (needed : ℕ) → AreUnits needed → units (stored_books (state_of view) s address (length bytes)) ≡ needed
  needs needed are = one_needs it.one needed
      (at_address view s address page it.at (address / 64 % 64) refl (λ q r i. units_of (with_brought (state_of view) q r (i ∷ [])) ≡ needed) (are (address / 64 % 64) (omega arith) it.apart))

  pub line_full : IsPermitted view s writable address → (needed limit : ℕ) (shortage : Shortage) → AreUnits needed → limit ≡ limit_of (state_of view) → IsShort needed limit shortage
      → Stores view view s address bytes (Err (Full shortage.needed shortage.limit))
  line_full may needed limit shortage are limit_is short =
      full_store view s address needed bytes shortage (line_allowed may) (needs needed are) (subst (λ n. IsShort needed n shortage) limit_is short)

  -- the same, of the whole store
  pub line_room : (needed limit : ℕ) → AreUnits needed → limit ≡ limit_of (state_of view) → needed ≤ limit → FitsStored (state_of view) s address (length bytes)
  line_room needed limit are limit_is room = let needed_is = needs needed are in omega (arith, needed_is, room, limit_is)

  pub line_fits : FitsStored (state_of view) s address (length bytes) → Fits (with_brought (state_of view) page.space page.page (line ∷ []))
  line_fits room = of_address view s address page it.at line it.line_is (λ q r i. Fits (with_brought (state_of view) q r (i ∷ []))) (one_fits it.one room)

  module _ (mid : State) (mid_is : mid ≡ with_brought (state_of view) page.space page.page (line ∷ [])) where
    here : mid ≡ with_brought (state_of view) s (address / PAGE_BYTES) (address / LINE_BYTES % PAGE_LINES ∷ [])
    here = at_address view s address page it.at line it.line_is (λ q r i. mid ≡ with_brought (state_of view) q r (i ∷ [])) mid_is

    pub line_there : IsSome (page_in mid s (address / PAGE_BYTES))
    line_there = one_there it.one mid here

    pub line_writable : is_writable mid s (address / PAGE_BYTES) (address / LINE_BYTES % PAGE_LINES) ≡ true
    line_writable = one_writable it.one mid here (address / 64 % 64) (omega (arith, it.one.some)) (omega arith)

    module _ (c : State) (filled : IsFilled mid c s (PAGE_BYTES * (address / PAGE_BYTES) + (LINE_BYTES * (address / LINE_BYTES % PAGE_LINES) + address % LINE_BYTES)) bytes) where
      put_in : IsFilled mid c s (PAGE_BYTES * (address / PAGE_BYTES) + address % PAGE_BYTES) bytes
      put_in =
          let place : 4096 * (address / 4096) + (64 * (address / 64 % 64) + address % 64) ≡ 4096 * (address / 4096) + address % 4096 = omega arith in
          subst (λ a. IsFilled mid c s a bytes) place filled

      pub line_stored : (after : State) → Settles c after s (address / PAGE_BYTES) → IsStored (state_of view) after s address bytes
      line_stored after settles = one_stored it.one mid c here put_in after settles

      mark : (space_in c s).speculating ≡ (space_in (state_of view) s).speculating
      mark = filled.beside.mark ∙ ap (λ w. (space_in w s).speculating) here
          ∙ (brought_one (state_of view) s (address / PAGE_BYTES) (address / LINE_BYTES % PAGE_LINES ∷ []) it.one.page it.one.there).beside.mark

  -- the page as it is found then
  pub brought_at : (mid : MemoryView) (found : FoundPage) → IsBroughtTo view.table mid.table page line found → IsFoundPageAt mid s (address / PAGE_BYTES) found
  brought_at mid found to = record { space_is = to.space_is ∙ it.at.space_is; page_is = to.page_is ∙ it.at.page_is; is = to.is }

  -- Its page isn't to be settled, where it has at most 31 own lines then or its space is speculating.
  module _ (few : (space_in (state_of view) s).speculating ≡ false → length page.own < 31) (mid : State)
      (mid_is : mid ≡ with_brought (state_of view) page.space page.page (line ∷ [])) (c : State)
      (filled : IsFilled mid c s (PAGE_BYTES * (address / PAGE_BYTES) + (LINE_BYTES * (address / LINE_BYTES % PAGE_LINES) + address % LINE_BYTES)) bytes) where
    abbrev v : State
    v = state_of view

    abbrev p : ℕ
    p = address / PAGE_BYTES

    abbrev i : ℕ
    i = address / LINE_BYTES % PAGE_LINES

    own_is : it.one.page.own ≡ page.own
    own_is = some_is it.one.page.own page.own (sym (ap (option_map (λ (x : PageState). x.own)) it.one.there) ∙ own_there view s p page it.at)

    count : (space_in v s).speculating ≡ false → length (with_lines it.one.page.own (i ∷ [])) ≤ 31
    count off = joined_few it.one.page.own i (own_set view s p it.one.page it.joined it.one.there) (omega arith) (let less = few off in omega (arith, ap length own_is, less))

    pub line_stays : Settles c c s p
    line_stays = by_test (space_in c s).speculating (settles_later c s p) (λ off.
        settles_none c s p
        (ap (λ l. is_large l s p) (filled.ledger ∙ ap books (here mid mid_is) ∙ (brought_one v s p (i ∷ []) it.one.page it.one.there).ledger)
        ∙ joined_small v s p (i ∷ []) it.one.page it.one.there (none_large_before off) (count (sym (mark mid mid_is c filled) ∙ off))))
      where
        none_large_before : (space_in c s).speculating ≡ false → length it.one.page.own ≤ 31
        none_large_before off = let less = few (sym (mark mid mid_is c filled) ∙ off) in omega (arith, ap length own_is, less)

use Rattle.std.proofs.Common.{◌≡◌, ℕ, ◌+◌, ◌*◌, ◌/◌, ◌%◌, ◌<◌, ◌≤◌, true, List, take, drop, ◌++◌, length, get_or, Some, is_some, sym, ap, subst, ◌∙◌, refl, arith}
use Rattle.std.specs.Prelude.{IsSome}
use Rattle.std.specs.Option.{option_map}
use Rattle.sizes.specs.declared.TheConstants.{LINE_BYTES, PAGE_BYTES, PAGE_LINES}
use Rattle.ovl_io.specs.Memory.{bytes_at}
use Rattle.ovl_io.specs.Permissions.{permits, readable, writable}
use Rattle.overlay_memory.specs.Epochs.{known_first, place_of, with_page, with_read, with_write}
use Rattle.overlay_memory.specs.Fronts.{AreFronts, IsFrontPlace, IsFrontWritePlace, IsUsePlace, IsWritePlace, with_read_at, with_write_at}
use Rattle.overlay_memory.specs.Pieces.{IsFilled, IsPermitted}
use Rattle.overlay_memory.specs.View.{AreOverlaysSmall}
use Rattle.overlay_memory.specs.declared.epochs.KnownPage.{KnownPage}
use Rattle.overlay_memory.specs.declared.epochs.TheConstants.{NO_PLACE}
use Rattle.overlay_memory.specs.declared.fronts.Fronts.{Fronts}
use Rattle.overlay_memory.proofs.Filling.{line_put}
use Rattle.overlay_memory.proofs.Forgetting.{same_inside}
use Rattle.overlay_memory.proofs.Fronting.{at_address, known_at_front, known_found, known_is, known_there, learned_fronts, may_be_used, page_there, read_places, write_places}
use Rattle.overlay_memory.proofs.InOne.{done_in_line, put_in_place}
use Rattle.overlay_memory.proofs.Pieced.{read_piece}
use Rattle.overlay_memory.proofs.Stored.{IsDone}
use Rattle.overlay_pages.specs.Calls.{with_line_at_place}
use Rattle.overlay_pages.specs.Changes.{is_writable, with_written}
use Rattle.overlay_pages.specs.Lines.{line_in_page}
use Rattle.overlay_pages.specs.SpotLaws.{found_at}
use Rattle.overlay_pages.specs.Spots.{IsFoundAt, IsFoundPage, IsPlace, IsPutPlace}
use Rattle.overlay_pages.specs.State.{PageState, State, memory_of}
use Rattle.overlay_pages.specs.View.{IsJoined, MemoryView, page_state, place_at, state_of}
use Rattle.overlay_pages.specs.declared.spots.FoundLine.{FoundLine}
use Rattle.overlay_pages.specs.declared.spots.TheConstants.{NO_PAGE}
use Rattle.space_maps.specs.Spaces.{page_in}
use Rattle.translation_cache.specs.Bare.{BareTranslations}

-- Where lines of pages at the front of their lists are read and written.

module _ (view : MemoryView) (s address : ℕ) (known : KnownPage) (fronts : Fronts) (t : BareTranslations) (are : AreFronts view t fronts)
    (so : (known.found.space ≡ s) × (known.found.page ≡ address / PAGE_BYTES) × (known_first fronts.seen (address / PAGE_BYTES) ≡ known))
    (low : address / PAGE_BYTES < NO_PAGE) where
  front_place : (need line at : ℕ) → line ≡ address / LINE_BYTES % PAGE_LINES → IsUsePlace view known.found need line at → IsFrontPlace view fronts s need address at
  front_place need line at line_is place = record {
    found = known.found;
    is = known_found view s (address / PAGE_BYTES) known t fronts are so low;
    front = λ u others. known_at_front view s (address / PAGE_BYTES) known u fronts others so low;
    place = subst (λ i. IsUsePlace view known.found need i at) line_is place;
  }

  front_write : (line at : ℕ) → line ≡ address / LINE_BYTES % PAGE_LINES → IsWritePlace view known.found line at → IsFrontWritePlace view fronts s address at
  front_write line at line_is place = record {
    is = front_place writable line at line_is place.is;
    writable = at_address view s address known.found (known_found view s (address / PAGE_BYTES) known t fronts are so low) line line_is
        (λ q r i. is_writable (state_of view) q r i ≡ true) (place.stands view (known_is view s (address / PAGE_BYTES) known t fronts are so low).is);
  }

  -- It is known.
  pub read_known : (line at : ℕ) → line ≡ address / LINE_BYTES % PAGE_LINES → get_or known.reads line 0 ≡ at → at < NO_PLACE
      → IsFrontPlace view fronts s readable address at
  read_known line at line_is is there =
      let places = (known_is view s (address / PAGE_BYTES) known t fronts are so low).places in
      front_place readable line at line_is
      (places.reads line at (same_inside known.reads line NO_PLACE 0 (omega (arith, line_is, places.count_reads)) ∙ is) there)

  pub write_known : (line at : ℕ) → line ≡ address / LINE_BYTES % PAGE_LINES → get_or known.writes line 0 ≡ at → at < NO_PLACE
      → IsFrontWritePlace view fronts s address at
  write_known line at line_is is there =
      let places = (known_is view s (address / PAGE_BYTES) known t fronts are so low).places in
      front_write line at line_is
      (places.writes line at (same_inside known.writes line NO_PLACE 0 (omega (arith, line_is, places.count_writes)) ∙ is) there)

  -- It is learned of a line that was found.
  module _ (line at : ℕ) (found : FoundLine) (line_is : line ≡ address / LINE_BYTES % PAGE_LINES) (it : IsFoundAt view known.found.space known.found.page line found)
      (place : at ≡ place_at view found.space found.page found.line) where
    use_place : (need : ℕ) → permits known.found.perms.0 need ≡ true → IsUsePlace view known.found need line at
    use_place need may = record {
      may = may;
      low = omega (arith, line_is);
      at_is = found_at view known.found.space known.found.page line found it (λ q r i. place_at view q r i ≡ at) (sym place);
    }

    page_low : known.found.page < NO_PAGE
    page_low = subst (λ n. n < NO_PAGE) (sym so.1) low

    pub read_learned : permits known.found.perms.0 readable ≡ true → IsFrontPlace view fronts s readable address at
    read_learned may = front_place readable line at line_is (use_place readable may)

    pub read_fronts : permits known.found.perms.0 readable ≡ true → (u : BareTranslations) → AreFronts view u fronts
        → AreFronts view u (with_read_at s (address / PAGE_BYTES) line at fronts)
    read_fronts may u others =
        subst (λ (k : KnownPage). AreFronts view u (record { seen = with_page s (address / PAGE_BYTES) (with_read line at k) fronts.seen; any = fronts.any })) (sym (known_there view s (address / PAGE_BYTES) known t fronts are so low))
        (learned_fronts view u fronts s (address / PAGE_BYTES) known (with_read line at known) others (known_there view s (address / PAGE_BYTES) known t fronts are so low) page_low refl
        (read_places view known line at (known_is view s (address / PAGE_BYTES) known t fronts are so low).places (λ there. use_place readable may) (omega (arith, line_is))))

    module _ (may : permits known.found.perms.0 writable ≡ true)
        (can : (v : MemoryView) → IsFoundPage v.table known.found → is_writable (state_of v) known.found.space known.found.page line ≡ true) where
      write_place : IsWritePlace view known.found line at
      write_place = record { is = use_place writable may; stands = can }

      pub write_learned : IsFrontWritePlace view fronts s address at
      write_learned = front_write line at line_is write_place

      pub write_fronts : (u : BareTranslations) → AreFronts view u fronts → AreFronts view u (with_write_at s (address / PAGE_BYTES) line at fronts)
      write_fronts u others =
          subst (λ (k : KnownPage). AreFronts view u (record { seen = with_page s (address / PAGE_BYTES) (with_write line at k) fronts.seen; any = fronts.any })) (sym (known_there view s (address / PAGE_BYTES) known t fronts are so low))
          (learned_fronts view u fronts s (address / PAGE_BYTES) known (with_write line at known) others (known_there view s (address / PAGE_BYTES) known t fronts are so low) page_low refl
          (write_places view known line at (known_is view s (address / PAGE_BYTES) known t fronts are so low).places (λ there. write_place) (omega (arith, line_is))))

-- What stands there.

module _ (view : MemoryView) (fronts : Fronts) (s need address at : ℕ) (it : IsFrontPlace view fronts s need address at) where
  pub is_place : IsPlace view at
  is_place = record {
    space = s;
    page = address / PAGE_BYTES;
    line = address / LINE_BYTES % PAGE_LINES;
    there = at_address view s address it.found it.is (address / LINE_BYTES % PAGE_LINES) refl (λ q r i. IsSome (page_in view.table q r)) (ap is_some it.is.is.there);
    low = it.place.low;
    at_is = at_address view s address it.found it.is (address / LINE_BYTES % PAGE_LINES) refl (λ q r i. place_at view q r i ≡ at) it.place.at_is;
  }

  pub place_permitted : IsJoined view → IsPermitted view s need address
  place_permitted joined = may_be_used view s address it.found it.is need joined it.place.may

  pub place_there : page_in (state_of view) s (address / PAGE_BYTES) ≡ Some (page_state view.store it.is.is.x)
  place_there = page_there view s (address / PAGE_BYTES) it.found it.is

  pub place_bytes : (n : ℕ) (line : List ℕ) → address % LINE_BYTES + n ≤ LINE_BYTES
      → ((is : IsPlace view at) → option_map (λ (x : PageState). line_in_page x.lines is.line) (page_in (state_of view) is.space is.page) ≡ Some line)
      → length line ≡ LINE_BYTES → take n (drop (address % LINE_BYTES) line) ≡ bytes_at (memory_of (state_of view) s) address n
  unfolding is_place
  place_bytes n line fits value long =
      let place : address ≡ 4096 * (address / 4096) + (64 * (address / 64 % 64) + address % 64) = omega arith in
      read_piece (state_of view) s (address / 4096) (address / 64 % 64) (address % 64) n address (page_state view.store it.is.is.x) line place_there (value is_place) long
      (omega arith) fits place

module _ (view : MemoryView) (fronts : Fronts) (s address at : ℕ) (it : IsFrontWritePlace view fronts s address at) where
  pub is_put_place : IsPutPlace view at
  unfolding is_place
  is_put_place = record { is = is_place view fronts s writable address at it.is; writable = it.writable }

  -- and what is put there
  pub place_filled : (k : ℕ) (bytes old new : List ℕ)
      → ((is : IsPutPlace view at) → option_map (λ (x : PageState). line_in_page x.lines is.is.line) (page_in (state_of view) is.is.space is.is.page) ≡ Some old)
      → ((is : IsPutPlace view at) (line : List ℕ) → state_of (with_line_at_place view at line) ≡ with_written (state_of view) is.is.space is.is.page is.is.line line)
      → new ≡ bytes → k ≡ length bytes → length old ≡ LINE_BYTES → 0 < length bytes → address % LINE_BYTES + length bytes ≤ LINE_BYTES
      → IsFilled (state_of view) (state_of (with_line_at_place view at (take (address % LINE_BYTES) old ++ (new ++ drop k (drop (address % LINE_BYTES) old))))) s
      (PAGE_BYTES * (address / PAGE_BYTES) + (LINE_BYTES * (address / LINE_BYTES % PAGE_LINES) + address % LINE_BYTES)) bytes
  unfolding is_place is_put_place
  place_filled k bytes old new value state same count whole some fits =
      line_put view s (address / 4096) (address / 64 % 64) (address % 64) k bytes old new _ (value is_put_place)
      (state is_put_place (take (address % 64) old ++ (new ++ drop k (drop (address % 64) old)))) same count whole (omega arith) some fits it.writable

  pub place_stored : (after : State) (bytes : List ℕ) → IsJoined view → AreOverlaysSmall (state_of view) → 0 < length bytes → address % LINE_BYTES + length bytes ≤ LINE_BYTES
      → IsFilled (state_of view) after s (PAGE_BYTES * (address / PAGE_BYTES) + (LINE_BYTES * (address / LINE_BYTES % PAGE_LINES) + address % LINE_BYTES)) bytes
      → IsDone view after s address bytes
  place_stored after bytes joined small some fits filled =
      done_in_line view after s address bytes (place_permitted view fronts s writable address at it.is joined) fits
      (put_in_place view after s address bytes (page_state view.store it.is.is.is.x) (place_there view fronts s writable address at it.is) joined small some fits it.writable
      filled)

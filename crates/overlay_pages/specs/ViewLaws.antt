use Rattle.std.specs.Prelude.{◌≡◌, ℕ, ◌<◌, false, cond, Option, Some, None, is_some, refl}
use Rattle.std.proofs.Common.{sym, ap, ◌∙◌}
use Rattle.std.specs.Option.{option_map}
use Rattle.std.specs.FinMap.{len}
use Rattle.sizes.specs.declared.TheConstants.{PAGE_LINES}
use Rattle.number_maps.specs.Views.{viewed}
use Rattle.line_store.specs.Lines.{line_of}
use Rattle.overlay_bits.specs.Lines.{has_line}
use Rattle.overlay_mapping_table.specs.declared.entry.Entry.{Entry}
use Rattle.segment_store.specs.Store.{frame_line, frame_place, place_of}
use Rattle.ledger.specs.PlaceLaws.{same_ledger}
use Rattle.space_maps.specs.Options.{map_from, map_twice}
use Rattle.space_maps.specs.Spaces.{holds_space, page_in, space_in}
use Rattle.space_maps.specs.Mapped.{mapped, mapped_awaiting, mapped_count, mapped_holds, mapped_mark, mapped_page, mapped_pages, mapped_some, mapped_there}
use Rattle.space_maps.specs.Books.{books_page, books_spaces}
use Rattle.space_ledger.specs.View.{PageView, holding_of, ledger_of, lines_of}
use Rattle.overlay_pages.specs.LineLaws.{line_at}
use Rattle.overlay_pages.specs.Lines.{line_in_page}
use Rattle.overlay_pages.specs.State.{PageState, books, held_page}
use Rattle.overlay_pages.specs.View.{MemoryView, line_seen, page_state, state_of}

-- What the state of a view has.

module _ (v : MemoryView) where
  pub state_frames : (state_of v).frames ≡ v.table.frames
  unfolding state_of mapped
  state_frames = refl

  pub state_zero : (state_of v).zero_frame ≡ v.table.zero_frame
  unfolding state_of mapped
  state_zero = refl

  pub state_holds : (q : ℕ) → holds_space (state_of v) q ≡ holds_space v.table q
  unfolding state_of
  state_holds q = mapped_holds (λ _ _ x. page_state v.store x) v.table q

  pub state_awaiting : (q : ℕ) → (space_in (state_of v) q).awaiting ≡ (space_in v.table q).awaiting
  unfolding state_of
  state_awaiting q = mapped_awaiting (λ _ _ x. page_state v.store x) v.table q

  pub state_mark : (q : ℕ) → (space_in (state_of v) q).speculating ≡ (space_in v.table q).speculating
  unfolding state_of
  state_mark q = mapped_mark (λ _ _ x. page_state v.store x) v.table q

  pub state_pages : (q : ℕ) → (space_in (state_of v) q).pages ≡ viewed (λ _ (y : PageView). page_state v.store y) (space_in v.table q).pages
  unfolding state_of
  state_pages q = mapped_pages (λ _ _ x. page_state v.store x) v.table q

  -- how many pages a space has
  pub state_count : (q : ℕ) → len (space_in (state_of v) q).pages ≡ len (space_in v.table q).pages
  unfolding state_of
  state_count q = mapped_count (λ _ _ x. page_state v.store x) v.table q

  pub state_page : (q r : ℕ) → page_in (state_of v) q r ≡ option_map (page_state v.store) (page_in v.table q r)
  unfolding state_of
  state_page q r = mapped_page (λ _ _ x. page_state v.store x) v.table q r

  pub state_page_there : (q r : ℕ) (x : PageView) → page_in v.table q r ≡ Some x → page_in (state_of v) q r ≡ Some (page_state v.store x)
  unfolding state_of
  state_page_there q r x there = mapped_there (λ _ _ x. page_state v.store x) v.table q r x there

  pub state_page_some : (q r : ℕ) → is_some (page_in (state_of v) q r) ≡ is_some (page_in v.table q r)
  unfolding state_of
  state_page_some q r = mapped_some (λ _ _ x. page_state v.store x) v.table q r

  -- the ledger of the state is that of the tables
  pub state_books : books (state_of v) ≡ ledger_of v.table
  unfolding state_of page_state mapped
  state_books = same_ledger (books (state_of v)) (ledger_of v.table)
      (λ q. books_spaces held_page (state_of v) q ∙ state_holds q ∙ sym (books_spaces holding_of v.table q))
      (λ q r. books_page held_page (state_of v) q r ∙ ap (option_map (held_page (state_of v).zero_frame)) (state_page q r)
      ∙ map_twice (held_page (state_of v).zero_frame) (page_state v.store) (holding_of v.table.zero_frame) (page_in v.table q r) (λ x is. refl) ∙ sym (books_page holding_of v.table q r))

-- A line that isn't own is that of the frame.

outside_of : (v : MemoryView) (x : PageView) (line : ℕ) → line < PAGE_LINES → has_line (page_state v.store x).own line ≡ false
    → line_in_page (page_state v.store x).lines line ≡ line_in_page (page_state v.store x).base line
unfolding page_state
outside_of v x line low lacks = line_at (line_seen v.store x) line low ∙ by_overlay x.overlay lacks ∙ sym (line_at (frame_line v.store x.entry.frame) line low)
  where
    by_overlay : (o : Option Entry) → has_line (lines_of o) line ≡ false
        → line_seen v.store (record { entry = x.entry; overlay = o }) line ≡ frame_line v.store x.entry.frame line
    by_overlay None lacks = refl
    by_overlay (Some e) lacks = ap (λ b. line_of v.store.lines (cond b (place_of v.store e.block line) (frame_place x.entry.frame line))) lacks

pub outside_line : (v : MemoryView) (space page : ℕ) (x : PageState) (line : ℕ) → line < PAGE_LINES → page_in (state_of v) space page ≡ Some x → has_line x.own line ≡ false
    → line_in_page x.lines line ≡ line_in_page x.base line
outside_line v space page x line low at lacks =
    map_from (page_state v.store) (page_in v.table space page) x (sym (state_page v space page) ∙ at) (λ y there same.
    ap (λ (w : PageState). line_in_page w.lines line) (sym same)
    ∙ outside_of v y line low (ap (λ (w : PageState). has_line w.own line) same ∙ lacks)
    ∙ ap (λ (w : PageState). line_in_page w.base line) same)

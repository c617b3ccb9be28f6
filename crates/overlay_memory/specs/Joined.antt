use Rattle.std.specs.Prelude.{◌≡◌, ℕ, ◌^◌, ◌<◌, ◌≤◌, List, [], Option, Some, None, is_some, true, refl}
use Rattle.std.proofs.Common.{sym, ap, ◌∙◌, arith}
use Rattle.std.specs.Option.{option_map}
use Rattle.sizes.specs.declared.TheConstants.{PAGE_END}
use Rattle.overlay_mapping_table.specs.declared.entry.Entry.{Entry}
use Rattle.page_table.specs.declared.entry.PageEntry.{PageEntry}
use Rattle.space_maps.specs.Spaces.{page_in}
use Rattle.space_ledger.specs.View.{PageView, lines_of}
use Rattle.ledger.specs.Units.{units}
use Rattle.overlay_pages.specs.Changes.{Fits, limit_of}
use Rattle.overlay_pages.specs.Lines.{page_lines}
use Rattle.overlay_pages.specs.State.{PageState, State}
use Rattle.overlay_pages.specs.View.{IsJoined, MemoryView, line_seen, page_state, state_of}
use Rattle.overlay_pages.specs.ViewLaws.{state_books, state_frames, state_page}
use Rattle.overlay_memory.specs.PageLaws.{some_is}

-- Laws: what is true of every memory.

-- a page without own lines has the lines of its frame
abbrev pub IsBare : State → ℕ → Type 0
IsBare v space = (page : ℕ) (x : PageState) → page_in v space page ≡ Some x → x.own ≡ [] → x.lines ≡ x.base

bare_page : (m : MemoryView) (x : PageView) → (page_state m.store x).own ≡ [] → (page_state m.store x).lines ≡ (page_state m.store x).base
unfolding page_state
bare_page m x none = by_overlay x.entry x.overlay none
  where
    by_overlay : (e : PageEntry) (o : Option Entry) → lines_of o ≡ []
        → page_lines (line_seen m.store (record { entry = e; overlay = o })) ≡ page_lines (line_seen m.store (record { entry = e; overlay = None }))
    by_overlay e None none = refl
    by_overlay e (Some overlay) none =
        ap (λ (bits : List ℕ). page_lines (line_seen m.store (record { entry = e; overlay = Some (record { bits = bits; block = overlay.block }) }))) none

pub all_bare : (m : MemoryView) (space : ℕ) → IsBare (state_of m) space
all_bare m space page x at = by_page (page_in m.table space page) refl
  where
    by_page : (o : Option PageView) → page_in m.table space page ≡ o → x.own ≡ [] → x.lines ≡ x.base
    by_page None is none = let no = sym (ap is_some at) ∙ ap is_some (state_page m space page ∙ ap (option_map (page_state m.store)) is) in cc
    by_page (Some y) is none =
        let same : x ≡ page_state m.store y = some_is x (page_state m.store y) (sym at ∙ state_page m space page ∙ ap (option_map (page_state m.store)) is) in
        ap (λ (z : PageState). z.lines) same ∙ bare_page m y (sym (ap (λ (z : PageState). z.own) same) ∙ none) ∙ sym (ap (λ (z : PageState). z.base) same)

-- pages are low, and units are few
pub page_low : (m : MemoryView) → IsJoined m → (space page : ℕ) → is_some (page_in (state_of m) space page) ≡ true → page < PAGE_END
page_low m joined space page there = by_page (page_in m.table space page) refl
  where
    by_page : (o : Option PageView) → page_in m.table space page ≡ o → page < PAGE_END
    by_page None is = let no = sym there ∙ ap is_some (state_page m space page ∙ ap (option_map (page_state m.store)) is) in cc
    by_page (Some x) is = (joined.held space page x is).low

pub limit_few : (m : MemoryView) → IsJoined m → limit_of (state_of m) ≤ 2 ^ 20
limit_few m joined = omega (arith, state_frames m, joined.frames, joined.store.pieces.few)

-- what isn't free are the units of the ledger, so they are within the limit
pub units_fit : (m : MemoryView) → IsJoined m → Fits (state_of m)
units_fit m joined = omega (arith, state_frames m, joined.frames, joined.count, ap units (state_books m))

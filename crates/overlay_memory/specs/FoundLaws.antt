use Rattle.std.specs.Prelude.{◌≡◌, ℕ, Bool, false, Option, Some, IsSome, is_some}
use Rattle.std.specs.Option.{option_map}
use Rattle.std.proofs.Common.{ap, sym, subst, subst₂, ◌∙◌}
use Rattle.ledger.specs.Ledger.{is_alone}
use Rattle.space_maps.specs.Spaces.{page_in, space_in}
use Rattle.overlay_pages.specs.Changes.{frame_but_zero}
use Rattle.overlay_pages.specs.Spots.{IsFoundPage, IsFoundPageAt}
use Rattle.overlay_pages.specs.State.{PageState, books}
use Rattle.overlay_pages.specs.View.{MemoryView, page_state, state_of}
use Rattle.overlay_pages.specs.ViewLaws.{state_page_some, state_page_there}
use Rattle.overlay_pages.specs.declared.spots.FoundPage.{FoundPage}

-- Laws of pages that were found: what holds of the found ones holds of those that were looked for.

-- a page that was found is there
pub there_found : (view : MemoryView) (found : FoundPage) → IsFoundPage view.table found → IsSome (page_in (state_of view) found.space found.page)
there_found view found is = state_page_some view found.space found.page ∙ ap is_some is.there

-- and has its own lines
pub own_found : (view : MemoryView) (found : FoundPage) → IsFoundPage view.table found → option_map (λ (x : PageState). x.own) (page_in (state_of view) found.space found.page) ≡ Some found.own
unfolding page_state
own_found view found is = ap (option_map (λ (x : PageState). x.own)) (state_page_there view found.space found.page is.x is.there) ∙ ap Some is.own

module _ (view : MemoryView) (found : FoundPage) (s p : ℕ) (at : IsFoundPageAt view s p found) where
  pub of_page : (P : ℕ → ℕ → Type 0) → P found.space found.page → P s p
  of_page P h = subst₂ P at.space_is at.page_is h

  pub to_page : (P : ℕ → ℕ → Type 0) → P s p → P found.space found.page
  to_page P h = subst₂ P (sym at.space_is) (sym at.page_is) h

  pub found_some : IsSome (page_in (state_of view) s p)
  found_some = of_page (λ q r. IsSome (page_in (state_of view) q r)) (there_found view found at.is)

  -- whether it is alone, and its frame
  pub alone_at : (space_in (state_of view) s).speculating ≡ false → (alone : Bool)
      → ((v : MemoryView) → IsFoundPage v.table found → (space_in (state_of v) found.space).speculating ≡ false → alone ≡ is_alone (books (state_of v)) found.space found.page)
      → alone ≡ is_alone (books (state_of view)) s p
  alone_at settled alone tells =
      of_page (λ q r. alone ≡ is_alone (books (state_of view)) q r) (tells view at.is (to_page (λ q r. (space_in (state_of view) q).speculating ≡ false) settled))

  pub framed_at : (z : ℕ) (frame : Option ℕ) → option_map (λ (x : PageState). frame_but_zero z x.entry.frame) (page_in (state_of view) found.space found.page) ≡ Some frame
      → option_map (λ (x : PageState). frame_but_zero z x.entry.frame) (page_in (state_of view) s p) ≡ Some frame
  framed_at z frame is = of_page (λ q r. option_map (λ (x : PageState). frame_but_zero z x.entry.frame) (page_in (state_of view) q r) ≡ Some frame) is

-- it is found so as long as the tables stay
pub filled_at : (view new : MemoryView) (found : FoundPage) (s p : ℕ) → IsFoundPageAt view s p found → new.table ≡ view.table → IsFoundPageAt new s p found
filled_at view new found s p at same = record { space_is = at.space_is; page_is = at.page_is; is = subst (λ t. IsFoundPage t found) (sym same) at.is }

-- two pages at once
module _ (view : MemoryView) (found theirs : FoundPage) (s p from other : ℕ) (mine : IsFoundPageAt view s p found) (at : IsFoundPageAt view from other theirs) where
  pub of_found : (P : ℕ → ℕ → ℕ → ℕ → Type 0) → P found.space found.page theirs.space theirs.page → P s p from other
  of_found P h = subst₂ (λ f o. P s p f o) at.space_is at.page_is (subst₂ (λ a b. P a b theirs.space theirs.page) mine.space_is mine.page_is h)

  pub to_found : (P : ℕ → ℕ → ℕ → ℕ → Type 0) → P s p from other → P found.space found.page theirs.space theirs.page
  to_found P h = subst₂ (λ f o. P found.space found.page f o) (sym at.space_is) (sym at.page_is) (subst₂ (λ a b. P a b from other) (sym mine.space_is) (sym mine.page_is) h)

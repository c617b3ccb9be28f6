use Rattle.std.specs.Prelude.{◌≡◌, ℕ, Some}
use Rattle.std.proofs.Common.{subst, sym}
use Rattle.std.specs.Option.{option_map}
use Rattle.overlay_pages.specs.declared.spots.FoundLine.{FoundLine}
use Rattle.overlay_pages.specs.Spots.{IsFoundAt}
use Rattle.overlay_pages.specs.State.{PageState}
use Rattle.overlay_pages.specs.View.{MemoryView, state_of}
use Rattle.space_maps.specs.Options.{map_from}
use Rattle.space_maps.specs.Spaces.{page_in}

-- Laws of lines that were found.

module _ (view : MemoryView) (space page line : ℕ) (found : FoundLine) (it : IsFoundAt view space page line found) where
  -- what holds of the line that was found holds of the one that was looked for
  pub found_at : (P : ℕ → ℕ → ℕ → Type 0) → P found.space found.page found.line → P space page line
  found_at P holds =
      subst (λ s. P s page line) it.space_is (subst (λ p. P found.space p line) it.page_is (subst (λ l. P found.space found.page l) it.line_is holds))

  pub to_line : (P : ℕ → ℕ → ℕ → Type 0) → P space page line → P found.space found.page found.line
  to_line P holds =
      subst (λ s. P s found.page found.line) (sym it.space_is) (subst (λ p. P space p found.line) (sym it.page_is) (subst (λ l. P space page l) (sym it.line_is) holds))

  -- its page is there, with these permissions
  pub found_page : (x : PageState) × (page_in (state_of view) space page ≡ Some x) × (x.entry.perms ≡ found.perms)
  found_page =
      map_from (λ (x : PageState). x.entry.perms) (page_in (state_of view) space page) found.perms
      (found_at (λ s p l. option_map (λ (x : PageState). x.entry.perms) (page_in (state_of view) s p) ≡ Some found.perms) it.is.perms) (λ x there same. (x, there, same))

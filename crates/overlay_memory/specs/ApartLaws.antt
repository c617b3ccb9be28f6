use Rattle.std.specs.Prelude.{◌≡◌, ℕ, nat_eq, Some}
use Rattle.std.proofs.Common.{sym, ap, ◌∙◌}
use Rattle.std.specs.Option.{option_map}
use Rattle.std.specs.FinMap.{get}
use Rattle.number_maps.specs.Views.{get_viewed, viewed}
use Rattle.ledger.specs.Ledger.{Holding}
pub use Rattle.ledger.specs.AloneLaws.{AreOriginsApart}
use Rattle.space_maps.specs.Laws.{page_of}
use Rattle.space_maps.specs.Spaces.{page_in, space_in}
use Rattle.space_ledger.specs.Calls.{NamesOnce}
use Rattle.space_ledger.specs.View.{origin_of}
use Rattle.space_ledger.specs.ViewLaws.{frames_of}
use Rattle.overlay_pages.specs.State.{PageState, State, books}
use Rattle.overlay_pages.specs.Calls.{entries_in}
use Rattle.overlay_memory.specs.PageLaws.{there_of}

-- Laws: the pages of a space have frames of their own.

-- no two pages of a space have one frame, but for the zero frame
abbrev pub ArePagesApart : State → ℕ → Type 0
ArePagesApart state space = NamesOnce state.zero_frame (entries_in state space)

-- nor one origin, but for 0
pub origins_apart : (v : State) (space : ℕ) → ArePagesApart v space → AreOriginsApart (books v) space
unfolding entries_in
origins_apart v space apart p q x y at_p at_q same some =
    let a = there_of v space p x at_p in
    let b = there_of v space q y at_q in
    let origins : origin_of v.zero_frame a.page.entry.frame ≡ origin_of v.zero_frame b.page.entry.frame =
    sym (ap (λ (h : Holding). h.origin) a.held) ∙ same ∙ ap (λ (h : Holding). h.origin) b.held in
    let frames = frames_of v.zero_frame a.page.entry.frame b.page.entry.frame origins
    (sym (ap (λ (h : Holding). nat_eq h.origin 0) a.held) ∙ some) in
    apart p q a.page.entry b.page.entry (entry_at p a.page a.there) (entry_at q b.page b.there) frames.0 frames.1
  where
    entry_at : (r : ℕ) (z : PageState) → page_in v space r ≡ Some z → get (viewed (λ _ (x : PageState). x.entry) (space_in v space).pages) r ≡ Some z.entry
    entry_at r z there =
        get_viewed (λ _ (x : PageState). x.entry) (space_in v space).pages r ∙ ap (option_map (λ (x : PageState). x.entry)) (sym (page_of v space r) ∙ there)

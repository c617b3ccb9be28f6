use Rattle.std.specs.Prelude.{◌≡◌, ℕ, true, false, nat_lt, length, Option, Some, None, IsSome, is_some, refl}
use Rattle.std.proofs.Common.{sym, ap, ◌∙◌, true≢false}
use Rattle.std.specs.FinMap.{get, remove}
use Rattle.std.specs.Option.{option_map, option_map_or}
use Rattle.number_maps.specs.Keys.{by_key, removed_other, removed_same}
use Rattle.page_table.specs.declared.entry.PageEntry.{PageEntry}
use Rattle.page_table.specs.Table.{Pages}
use Rattle.ledger.specs.Changes.{has_own}
use Rattle.ledger.specs.Ledger.{Holding}
use Rattle.space_maps.specs.Books.{books_page}
use Rattle.space_maps.specs.Laws.{page_shared_beside, put_there, space_put}
use Rattle.space_maps.specs.Options.{by_option, map_from}
use Rattle.space_maps.specs.Spaces.{holds_space, page_in, put_shared, space_in}
use Rattle.overlay_pages.specs.Calls.{AwaitBare, AwaitsLike}
use Rattle.overlay_pages.specs.Changes.{shared_page, with_shared}
use Rattle.overlay_pages.specs.State.{PageState, SpaceState, State, books, held_page}

-- Laws: pages without own lines that are shared one after the other.

-- what a page has, by the page
pub own_in : (s : State) (space q : ℕ) → has_own (books s) space q ≡ option_map_or (λ (x : PageState). nat_lt 0 (length x.own)) (page_in s space q) false
unfolding has_own
own_in s space q = ap (λ (o : Option Holding). option_map_or (λ holding. nat_lt 0 (length holding.own)) o false) (books_page held_page s space q) ∙ by (page_in s space q)
  where
    by : (o : Option PageState) → option_map_or (λ (holding : Holding). nat_lt 0 (length holding.own)) (option_map (held_page s.zero_frame) o) false
        ≡ option_map_or (λ (x : PageState). nat_lt 0 (length x.own)) o false
    by None = refl
    by (Some x) = refl

-- a page put among those of a space
awaiting_put : (s : State) (to p : ℕ) (x : PageState) → (space_in (put_shared s to p x) to).awaiting ≡ remove (space_in s to).awaiting p
unfolding put_shared
awaiting_put s to p x = ap (λ (y : SpaceState). y.awaiting) (space_put s to _ to refl)

-- A page that awaits as another space has it, shared.
module _ (s : State) (from to page : ℕ) (differs : from ≡ to → ⊥) (waits : IsSome (get (space_in s to).awaiting page)) (like : AwaitsLike s from to page) where
  record Both : Type 0 where
    entry : PageEntry
    x : PageState
    awaits : get (space_in s to).awaiting page ≡ Some entry
    there : page_in s from page ≡ Some x

  both : Both
  both = by_option (get (space_in s to).awaiting page)
      (λ none. absurd (true≢false (sym waits ∙ ap is_some none)))
      (λ e e_is. map_from (λ (x : PageState). x.entry.frame) (page_in s from page) e.frame (sym like ∙ ap (option_map (λ (f : PageEntry). f.frame)) e_is)
      (λ x x_is same. record { entry = e; x = x; awaits = e_is; there = x_is }))

  is_put : with_shared s from to page ≡ put_shared s to page (shared_page both.entry both.x)
  unfolding with_shared
  is_put =
      ap (λ (o : Option PageEntry). option_map_or (λ e. option_map_or (λ x. put_shared s to page (shared_page e x)) (page_in s from page) s) o s) both.awaits
      ∙ ap (λ (o : Option PageState). option_map_or (λ x. put_shared s to page (shared_page both.entry x)) o s) both.there

  from_same : (q : ℕ) → page_in (with_shared s from to page) from q ≡ page_in s from q
  from_same q = ap (λ (t : State). page_in t from q) is_put ∙ page_shared_beside s to page _ from q (λ same _. differs same)

  pub awaiting_is : (space_in (with_shared s from to page) to).awaiting ≡ remove (space_in s to).awaiting page
  awaiting_is = ap (λ (t : State). (space_in t to).awaiting) is_put ∙ awaiting_put s to page _

  pub stays_there : holds_space (with_shared s from to page) to ≡ true
  unfolding put_shared
  stays_there = ap (λ (t : State). holds_space t to) is_put ∙ put_there s to _

  pub from_there : is_some (page_in s from page) ≡ true
  from_there = ap is_some both.there

  pub still_bare : (until : ℕ) → AwaitBare s from to until → AwaitBare (with_shared s from to page) from to until
  still_bare until bare q low some = by_key q page
      (λ same. let no = sym some ∙ ap is_some (ap (λ (m : Pages). get m q) awaiting_is ∙ removed_same (space_in s to).awaiting page q same) in cc)
      (λ other.
      let same = ap (λ (m : Pages). get m q) awaiting_is ∙ removed_other (space_in s to).awaiting page q other in
      let was = bare q low (ap is_some (sym same) ∙ some) in (
        ap (option_map (λ (e : PageEntry). e.frame)) same ∙ was.0 ∙ ap (option_map (λ (x : PageState). x.entry.frame)) (sym (from_same q)),
        own_in (with_shared s from to page) from q ∙ ap (λ (o : Option PageState). option_map_or (λ (x : PageState). nat_lt 0 (length x.own)) o false) (from_same q) ∙ sym (own_in s from q) ∙ was.1,
      ))

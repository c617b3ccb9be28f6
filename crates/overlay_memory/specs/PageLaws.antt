use Rattle.std.specs.Prelude.{◌≡◌, ℕ, true, false, nat_lt, length, Option, Some, None, is_some, refl}
use Rattle.std.proofs.Common.{sym, ap, ◌∙◌}
use Rattle.std.specs.Option.{option_map, option_map_or}
use Rattle.ledger.specs.Ledger.{Holding, Ledger, holding_at}
use Rattle.ledger.specs.Changes.{has_own}
use Rattle.overlay_pages.specs.State.{PageState, State, books, held_page}
use Rattle.space_maps.specs.Books.{books_page}
use Rattle.space_maps.specs.Spaces.{page_in}

-- Laws: pages that are there, and what the ledger has of them.

-- values of options that are there
pub some_is : {X : Type 0} (x y : X) → Some x ≡ Some y → x ≡ y
some_is x y e = ap (λ o. option_map_or (λ z. z) o x) e

-- a page that is there
pub record HasPage (v : State) (space page : ℕ) : Type 0 where
  pub x : PageState
  pub there : page_in v space page ≡ Some x

pub has_page : (v : State) (space page : ℕ) → is_some (page_in v space page) ≡ true → HasPage v space page
has_page v space page some = by_page (page_in v space page) refl
  where
    by_page : (o : Option PageState) → page_in v space page ≡ o → HasPage v space page
    by_page None is = let no = sym some ∙ ap is_some is in cc
    by_page (Some x) is = record { x = x; there = is }

-- what the ledger has of a page that is there
pub held_there : (v : State) (s p : ℕ) (x : PageState) → page_in v s p ≡ Some x → holding_at (books v) s p ≡ Some (held_page v.zero_frame x)
held_there v s p x there = books_page held_page v s p ∙ ap (option_map (held_page v.zero_frame)) there

-- a page that the ledger has is there
pub record IsThere (v : State) (s p : ℕ) (h : Holding) : Type 0 where
  pub page : PageState
  pub there : page_in v s p ≡ Some page
  pub held : h ≡ held_page v.zero_frame page

pub there_of : (v : State) (s p : ℕ) (h : Holding) → holding_at (books v) s p ≡ Some h → IsThere v s p h
there_of v s p h at = by_page (page_in v s p) refl
  where
    by_page : (o : Option PageState) → page_in v s p ≡ o → IsThere v s p h
    by_page None is = let no = sym (ap is_some at) ∙ ap is_some (books_page held_page v s p ∙ ap (option_map (held_page v.zero_frame)) is) in cc
    by_page (Some x) is = record { page = x; there = is; held = some_is h (held_page v.zero_frame x) (sym at ∙ held_there v s p x is) }

-- whether a page has own lines
pub own_is : (l : Ledger) (space page : ℕ) (x : Holding) → holding_at l space page ≡ Some x → has_own l space page ≡ nat_lt 0 (length x.own)
unfolding has_own
own_is l space page x at = ap (λ (o : Option Holding). option_map_or (λ holding. nat_lt 0 (length holding.own)) o false) at

pub own_absent : (l : Ledger) (space page : ℕ) → holding_at l space page ≡ None → has_own l space page ≡ false
unfolding has_own
own_absent l space page none = ap (λ (o : Option Holding). option_map_or (λ holding. nat_lt 0 (length holding.own)) o false) none

-- a page with own lines is there
pub own_there : (v : State) (s p : ℕ) → has_own (books v) s p ≡ true → is_some (page_in v s p) ≡ true
own_there v s p own = by_page (page_in v s p) refl
  where
    by_page : (o : Option PageState) → page_in v s p ≡ o → is_some (page_in v s p) ≡ true
    by_page None is = let no = sym own ∙ own_absent (books v) s p (books_page held_page v s p ∙ ap (option_map (held_page v.zero_frame)) is) in cc
    by_page (Some x) is = ap is_some is

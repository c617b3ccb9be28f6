use Rattle.std.specs.Prelude.{◌≡◌, ℕ, nat_lt, List, length, Option, Some, None, is_some, refl}
use Rattle.std.proofs.Common.{sym, ap, ◌∙◌}
use Rattle.std.specs.Option.{option_map, option_map_or}
use Rattle.ledger.specs.Ledger.{Holding, holding_at}
use Rattle.ledger.specs.Changes.{has_own}
use Rattle.ledger.specs.Units.{class}
use Rattle.overlay_pages.specs.State.{PageState, State, books, held_page}
use Rattle.overlay_memory.specs.PageLaws.{held_there, own_is, some_is}
use Rattle.overlay_memory.specs.Room.{class_at}
use Rattle.space_maps.specs.Spaces.{page_in}

-- Laws: what the own lines of a page count.

pub record HasLines (v : State) (space page : ℕ) (own : List ℕ) : Type 0 where
  pub x : PageState
  pub there : page_in v space page ≡ Some x
  pub own_is : x.own ≡ own

pub has_lines : (v : State) (space page : ℕ) (own : List ℕ) → option_map (λ (x : PageState). x.own) (page_in v space page) ≡ Some own → HasLines v space page own
has_lines v space page own e = by_page (page_in v space page) refl
  where
    by_page : (o : Option PageState) → page_in v space page ≡ o → HasLines v space page own
    by_page None is = let no = sym (ap (λ (o : Option PageState). is_some (option_map (λ (x : PageState). x.own) o)) is) ∙ ap is_some e in cc
    by_page (Some x) is = record {
      x = x;
      there = is;
      own_is = some_is x.own own (sym (ap (option_map (λ (x : PageState). x.own)) is) ∙ e);
    }

pub class_there : (v : State) (space page : ℕ) (h : Holding) → holding_at (books v) space page ≡ Some h → class_at v space page ≡ class (length h.own)
unfolding class_at
class_there v space page h at = ap (λ (o : Option Holding). option_map_or (λ holding. class (length holding.own)) o 0) at

-- what a page's own lines count
pub class_is : (v : State) (space page : ℕ) (own : List ℕ) (n : ℕ) → option_map (λ (x : PageState). x.own) (page_in v space page) ≡ Some own → n ≡ length own
    → class_at v space page ≡ class n
class_is v space page own n e count =
    let h = has_lines v space page own e in
    class_there v space page (held_page v.zero_frame h.x) (held_there v space page h.x h.there) ∙ ap (λ (l : List ℕ). class (length l)) h.own_is ∙ ap class (sym count)

pub has_own_is : (v : State) (space page : ℕ) (own : List ℕ) (n : ℕ) → option_map (λ (x : PageState). x.own) (page_in v space page) ≡ Some own → n ≡ length own
    → has_own (books v) space page ≡ nat_lt 0 n
has_own_is v space page own n e count =
    let h = has_lines v space page own e in
    own_is (books v) space page (held_page v.zero_frame h.x) (held_there v space page h.x h.there) ∙ ap (λ (l : List ℕ). nat_lt 0 (length l)) h.own_is ∙ ap (nat_lt 0) (sym count)

use Rattle.std.specs.Prelude.{◌≡◌, ℕ, ◌≤◌, false, nat_le, List, length, Some}
use Rattle.std.proofs.Common.{sym, ap, ◌∙◌, arith}
use Rattle.std.proofs.lemmas.Bool.Decides.{nat_tests}
use Rattle.std.specs.FinMap.{get}
use Rattle.std.specs.Option.{option_map}
use Rattle.ledger.specs.Changes.{is_large}
use Rattle.ledger.specs.Events.{Store, ledger_after}
use Rattle.ledger.specs.LargeLaws.{NoneLarge, few_lines, none_large_store}
use Rattle.ledger.specs.RowLaws.{is_large_too}
use Rattle.ledger.specs.Touched.{touched}
use Rattle.ledger.specs.StoreLaws.{large_absent, large_there}
use Rattle.overlay_pages.specs.State.{PageState, State, books, held_page}
use Rattle.overlay_memory.specs.Access.{IsStored, stored_books}
use Rattle.overlay_memory.specs.CountLaws.{has_lines}
use Rattle.overlay_memory.specs.PageLaws.{held_there}
use Rattle.overlay_memory.specs.View.{AreOverlaysSmall}
use Rattle.space_maps.specs.Books.{books_page}
use Rattle.space_maps.specs.Laws.{page_of}
use Rattle.space_maps.specs.Options.{by_option, by_test}
use Rattle.space_maps.specs.Spaces.{page_in, space_in}
use Rattle.number_maps.specs.Keys.{by_key}

-- Laws: pages with at most 31 own lines.

pub few_not_large : (n : ℕ) → n ≤ 31 → nat_le 32 n ≡ false
few_not_large n few = by_test (nat_le 32 n) (λ large. absurd (grind (arith, nat_tests))) (λ small. small)

-- whether a page is large, by how many own lines it has
pub large_is : (v : State) (space page : ℕ) (own : List ℕ) (n : ℕ) → option_map (λ (x : PageState). x.own) (page_in v space page) ≡ Some own → n ≡ length own
    → is_large (books v) space page ≡ nat_le 32 n
large_is v space page own n e count =
    let h = has_lines v space page own e in
    large_there (books v) space page (held_page v.zero_frame h.x) (held_there v space page h.x h.there) ∙ ap (λ (l : List ℕ). nat_le 32 (length l)) h.own_is
    ∙ ap (nat_le 32) (sym count)

-- in a space that isn't speculating none is
pub none_large : (v : State) (space : ℕ) → AreOverlaysSmall v → (space_in v space).speculating ≡ false → NoneLarge (books v) space
none_large v space small off page = by_option (page_in v space page)
    (λ none. large_absent (books v) space page (books_page held_page v space page ∙ ap (option_map (held_page v.zero_frame)) none))
    (λ x there.
    large_there (books v) space page (held_page v.zero_frame x) (held_there v space page x there) ∙ few_not_large (length x.own) (small space page x there off))

-- and where none is, each page is small
pub small_own : (v : State) (space page : ℕ) (x : PageState) → NoneLarge (books v) space → page_in v space page ≡ Some x → length x.own ≤ 31
small_own v space page x none there = few_lines (books v) space page (held_page v.zero_frame x) none (held_there v space page x there)

-- a store leaves pages so
pub small_stored : (old new : State) (space address : ℕ) (bytes : List ℕ) → IsStored old new space address bytes → AreOverlaysSmall old → AreOverlaysSmall new
small_stored old new space address bytes stored small q page x there off = by_key q space
    (λ same. small_own new space page x (here same) (sym (ap (λ n. page_in new n page) same) ∙ there))
    (λ other.
    small q page x (page_of old q page ∙ ap (λ s. get s.pages page) (sym (stored.others q other)) ∙ sym (page_of new q page) ∙ there)
    (ap (λ s. s.speculating) (sym (stored.others q other)) ∙ off))
  where
    was_off : q ≡ space → (space_in old space).speculating ≡ false
    was_off same = sym stored.mark ∙ ap (λ n. (space_in new n).speculating) (sym same) ∙ off

    here : q ≡ space → NoneLarge (books new) space
    here same r =
        is_large_too (books new) (stored_books old space address (length bytes)) stored.ledger space r
        ∙ ap (λ b. is_large (ledger_after (Store b space (touched address (length bytes))) (books old)) space r) (was_off same)
        ∙ none_large_store (books old) space (touched address (length bytes)) (none_large old space small (was_off same)) r

use Rattle.std.specs.Prelude.{◌≡◌, ℕ, Bool, true, false, Some, None, is_some}
use Rattle.std.proofs.Common.{true≢false, sym, ap, ◌∙◌}
use Rattle.std.specs.Option.{option_map}
use Rattle.std.specs.FinMap.{empty, get, insert, len, remove}
use Rattle.number_maps.specs.Keys.{insert_kept}
use Rattle.number_maps.specs.Values.{remove_absent}
use Rattle.number_maps.specs.Views.{get_viewed, len_viewed, viewed, viewed_empty, viewed_gone, viewed_put}
use Rattle.page_table.specs.Table.{Pages}
use Rattle.ledger.specs.Ledger.{Holding, Ledger, Space, all_holdings, holding_at, pages_of, with_page, without_page}
use Rattle.ledger.specs.PlaceLaws.{page_is, pages_absent, pages_there}
use Rattle.ledger.specs.TallyLaws.{empty_holdings}
use Rattle.space_maps.specs.Options.{by_option, map_some, none_by}
use Rattle.space_maps.specs.Spaces.{SpaceOf, Spaces, bare_space, cut_page, cut_space, holds_space, of_pages, page_in, put_awaiting, put_mark, put_page, put_shared, put_space, space_in}
use Rattle.space_maps.specs.Laws.{page_of, space_absent, space_there}

-- The ledger of spaces: what each page holds, by the zero frame.

abbrev pub space_books : {P : Type 0} → (P → Holding) → SpaceOf P → Space
space_books holds x = viewed (λ _ y. holds y) x.pages

unfoldable pub books_of : {P : Type 0} → (ℕ → P → Holding) → Spaces P → Ledger
books_of holds v = viewed (λ _ x. space_books (holds v.zero_frame) x) v.spaces

module _ {P : Type 0} (holds : ℕ → P → Holding) where
  -- what it has of a space
  in_books : (v : Spaces P) (s : ℕ) → get (books_of holds v) s ≡ option_map (space_books (holds v.zero_frame)) (get v.spaces s)
  unfolding books_of
  in_books v s = get_viewed (λ _ (x : SpaceOf P). space_books (holds v.zero_frame) x) v.spaces s

  -- it has the spaces that are there, and as many
  pub books_spaces : (v : Spaces P) (s : ℕ) → is_some (get (books_of holds v) s) ≡ holds_space v s
  books_spaces v s = ap is_some (in_books v s) ∙ map_some (space_books (holds v.zero_frame)) (get v.spaces s)

  pub books_len : (v : Spaces P) → len (books_of holds v) ≡ len v.spaces
  unfolding books_of
  books_len v = len_viewed (λ _ (x : SpaceOf P). space_books (holds v.zero_frame) x) v.spaces

  pub books_pages : (v : Spaces P) (s : ℕ) → pages_of (books_of holds v) s ≡ space_books (holds v.zero_frame) (space_in v s)
  books_pages v s = by_option (get v.spaces s)
      (λ is.
      pages_absent (books_of holds v) s (in_books v s ∙ ap (option_map (space_books (holds v.zero_frame))) is)
      ∙ sym (ap (space_books (holds v.zero_frame)) (space_absent v s is) ∙ viewed_empty (λ _ y. holds v.zero_frame y)))
      (λ x is. pages_there (books_of holds v) s _ (in_books v s ∙ ap (option_map (space_books (holds v.zero_frame))) is) ∙ ap (space_books (holds v.zero_frame)) (sym (space_there v s x is)))

  -- what it has of a page
  pub books_page : (v : Spaces P) (s p : ℕ) → holding_at (books_of holds v) s p ≡ option_map (holds v.zero_frame) (page_in v s p)
  books_page v s p =
      page_is (books_of holds v) s p ∙ ap (λ (m : Space). get m p) (books_pages v s) ∙ get_viewed (λ _ y. holds v.zero_frame y) (space_in v s).pages p
      ∙ ap (option_map (holds v.zero_frame)) (sym (page_of v s p))

  pub books_there : (v : Spaces P) (s p : ℕ) (x : P) → page_in v s p ≡ Some x → holding_at (books_of holds v) s p ≡ Some (holds v.zero_frame x)
  books_there v s p x there = books_page v s p ∙ ap (option_map (holds v.zero_frame)) there

  pub books_absent : (v : Spaces P) (s p : ℕ) → page_in v s p ≡ None → holding_at (books_of holds v) s p ≡ None
  books_absent v s p absent = books_page v s p ∙ ap (option_map (holds v.zero_frame)) absent

  -- the ledger with a space put in, and without one
  pub books_put : (v : Spaces P) (s : ℕ) (x : SpaceOf P) → books_of holds (put_space v s x) ≡ insert (books_of holds v) s (space_books (holds v.zero_frame) x)
  unfolding books_of put_space
  books_put v s x = viewed_put (λ _ (y : SpaceOf P). space_books (holds v.zero_frame) y) v.spaces s x

  pub books_cut : (v : Spaces P) (s : ℕ) → books_of holds (cut_space v s) ≡ remove (books_of holds v) s
  unfolding books_of cut_space
  books_cut v s = viewed_gone (λ _ (y : SpaceOf P). space_books (holds v.zero_frame) y) v.spaces s

  -- with a page put at a place, and without one
  pub books_put_page : (v : Spaces P) (s p : ℕ) (x : P) → books_of holds (put_page v s p x) ≡ with_page (books_of holds v) s p (holds v.zero_frame x)
  unfolding put_page with_page put_space
  books_put_page v s p x =
      books_put v s (of_pages (space_in v s) (insert (space_in v s).pages p x))
      ∙ ap (insert (books_of holds v) s) (viewed_put (λ _ y. holds v.zero_frame y) (space_in v s).pages p x ∙ ap (λ (m : Space). insert m p (holds v.zero_frame x)) (sym (books_pages v s)))

  pub books_cut_page : (v : Spaces P) (s p : ℕ) → books_of holds (cut_page v s p) ≡ without_page (books_of holds v) s p
  unfolding cut_page without_page put_space
  books_cut_page v s p =
      books_put v s (of_pages (space_in v s) (remove (space_in v s).pages p))
      ∙ ap (insert (books_of holds v) s) (viewed_gone (λ _ y. holds v.zero_frame y) (space_in v s).pages p ∙ ap (λ (m : Space). remove m p) (sym (books_pages v s)))

  -- a page shared is a page put
  pub books_put_shared : (v : Spaces P) (s p : ℕ) (x : P) → books_of holds (put_shared v s p x) ≡ with_page (books_of holds v) s p (holds v.zero_frame x)
  unfolding put_shared with_page put_space
  books_put_shared v s p x =
      books_put v s _
      ∙ ap (insert (books_of holds v) s) (viewed_put (λ _ y. holds v.zero_frame y) (space_in v s).pages p x ∙ ap (λ (m : Space). insert m p (holds v.zero_frame x)) (sym (books_pages v s)))

  -- a mark, and pages that await, aren't in the ledger
  pub books_kept : (v : Spaces P) (s : ℕ) → holds_space v s ≡ true → insert (books_of holds v) s (space_books (holds v.zero_frame) (space_in v s)) ≡ books_of holds v
  books_kept v s there = by_option (get v.spaces s)
      (λ is. absurd (true≢false (sym there ∙ ap is_some is)))
      (λ x is. insert_kept (books_of holds v) s _ (in_books v s ∙ ap (option_map (space_books (holds v.zero_frame))) is ∙ ap (λ (y : SpaceOf P). Some (space_books (holds v.zero_frame) y)) (sym (space_there v s x is))))

  pub books_marked : (v : Spaces P) (s : ℕ) (on : Bool) → holds_space v s ≡ true → books_of holds (put_mark v s on) ≡ books_of holds v
  unfolding put_mark put_space
  books_marked v s on there = books_put v s _ ∙ books_kept v s there

  pub books_awaiting : (v : Spaces P) (s : ℕ) (awaiting : Pages) → holds_space v s ≡ true → books_of holds (put_awaiting v s awaiting) ≡ books_of holds v
  unfolding put_awaiting put_space
  books_awaiting v s awaiting there = books_put v s _ ∙ books_kept v s there

  -- a space without a page has nothing in the ledger
  pub books_added : (v : Spaces P) (s : ℕ) → holds_space v s ≡ false → all_holdings (books_of holds (put_space v s bare_space)) ≡ all_holdings (books_of holds v)
  books_added v s absent =
      ap all_holdings (books_put v s bare_space) ∙ empty_holdings (books_of holds v) s _ (viewed_empty _)
      ∙ ap all_holdings (remove_absent (books_of holds v) s (none_by (get (books_of holds v) s) (books_spaces v s ∙ absent)))

  pub books_lost : (v : Spaces P) (s : ℕ) → holds_space v s ≡ true → (space_in v s).pages ≡ empty → all_holdings (books_of holds (cut_space v s)) ≡ all_holdings (books_of holds v)
  books_lost v s there none =
      ap all_holdings (books_cut v s)
      ∙ sym (empty_holdings (books_of holds v) s (space_books (holds v.zero_frame) (space_in v s)) (ap (viewed (λ _ y. holds v.zero_frame y)) none ∙ viewed_empty _))
      ∙ ap all_holdings (books_kept v s there)

  -- no space, no ledger
  pub books_empty : (v : Spaces P) → v.spaces ≡ empty → books_of holds v ≡ empty
  unfolding books_of
  books_empty v none = ap (viewed (λ _ (x : SpaceOf P). space_books (holds v.zero_frame) x)) none ∙ viewed_empty (λ _ (x : SpaceOf P). space_books (holds v.zero_frame) x)

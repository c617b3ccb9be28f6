use Rattle.std.specs.Prelude.{◌≡◌, ℕ, zero, suc, ◌+◌, Bool, Option, Some, None, is_some, refl}
use Rattle.std.proofs.Common.{sym, ap, ◌∙◌}
use Rattle.std.specs.Option.{option_map, unwrap_or}
use Rattle.std.specs.Ordering.{nat_cmp}
use Rattle.std.specs.FinMap.{FinMap, empty, get, insert, len, remove}
use Rattle.number_maps.specs.Views.{get_viewed, len_viewed, viewed, viewed_empty, viewed_gone, viewed_put}
use Rattle.page_table.specs.Table.{Pages}
use Rattle.space_maps.specs.Options.{map_some}
use Rattle.space_maps.specs.Spaces.{SpaceOf, Spaces, bare_space, cut_page, cut_pages, cut_space, holds_space, of_pages, page_in, put_awaiting, put_mark, put_page, put_pages, put_shared, put_space, set_page, space_in}
use Rattle.space_maps.specs.Laws.{page_of}

-- The same spaces with their pages seen in another way, each by its space and its number.

abbrev pub mapped_space : {P Q : Type 0} → (ℕ → P → Q) → SpaceOf P → SpaceOf Q
mapped_space f x = record { pages = viewed f x.pages; awaiting = x.awaiting; speculating = x.speculating }

unfoldable pub mapped : {P Q : Type 0} → (ℕ → ℕ → P → Q) → Spaces P → Spaces Q
mapped f v = record { spaces = viewed (λ s x. mapped_space (f s) x) v.spaces; frames = v.frames; zero_frame = v.zero_frame }

module _ {P Q : Type 0} (f : ℕ → ℕ → P → Q) where
  -- what it has at a place

  pub mapped_at : (v : Spaces P) (q : ℕ) → get (mapped f v).spaces q ≡ option_map (mapped_space (f q)) (get v.spaces q)
  unfolding mapped
  mapped_at v q = get_viewed (λ s (x : SpaceOf P). mapped_space (f s) x) v.spaces q

  pub mapped_holds : (v : Spaces P) (q : ℕ) → holds_space (mapped f v) q ≡ holds_space v q
  mapped_holds v q = ap is_some (mapped_at v q) ∙ map_some (mapped_space (f q)) (get v.spaces q)

  pub mapped_bare : (g : ℕ → P → Q) → mapped_space g bare_space ≡ bare_space
  mapped_bare g = ap (of_pages bare_space) (viewed_empty g)

  pub mapped_in : (v : Spaces P) (q : ℕ) → space_in (mapped f v) q ≡ mapped_space (f q) (space_in v q)
  unfolding space_in
  mapped_in v q = ap (λ (o : Option (SpaceOf Q)). unwrap_or o bare_space) (mapped_at v q) ∙ at (get v.spaces q)
    where
      at : (o : Option (SpaceOf P)) → unwrap_or (option_map (mapped_space (f q)) o) bare_space ≡ mapped_space (f q) (unwrap_or o bare_space)
      at None = sym (mapped_bare (f q))
      at (Some x) = refl

  pub mapped_awaiting : (v : Spaces P) (q : ℕ) → (space_in (mapped f v) q).awaiting ≡ (space_in v q).awaiting
  mapped_awaiting v q = ap (λ (x : SpaceOf Q). x.awaiting) (mapped_in v q)

  pub mapped_mark : (v : Spaces P) (q : ℕ) → (space_in (mapped f v) q).speculating ≡ (space_in v q).speculating
  mapped_mark v q = ap (λ (x : SpaceOf Q). x.speculating) (mapped_in v q)

  pub mapped_pages : (v : Spaces P) (q : ℕ) → (space_in (mapped f v) q).pages ≡ viewed (f q) (space_in v q).pages
  mapped_pages v q = ap (λ (x : SpaceOf Q). x.pages) (mapped_in v q)

  pub mapped_page : (v : Spaces P) (q r : ℕ) → page_in (mapped f v) q r ≡ option_map (f q r) (page_in v q r)
  mapped_page v q r =
      page_of (mapped f v) q r ∙ ap (λ (m : FinMap nat_cmp Q). get m r) (mapped_pages v q) ∙ get_viewed (f q) (space_in v q).pages r
      ∙ ap (option_map (f q r)) (sym (page_of v q r))

  pub mapped_there : (v : Spaces P) (q r : ℕ) (x : P) → page_in v q r ≡ Some x → page_in (mapped f v) q r ≡ Some (f q r x)
  mapped_there v q r x there = mapped_page v q r ∙ ap (option_map (f q r)) there

  pub mapped_some : (v : Spaces P) (q r : ℕ) → is_some (page_in (mapped f v) q r) ≡ is_some (page_in v q r)
  mapped_some v q r = ap is_some (mapped_page v q r) ∙ map_some (f q r) (page_in v q r)

  -- how many pages a space has
  pub mapped_count : (v : Spaces P) (q : ℕ) → len (space_in (mapped f v) q).pages ≡ len (space_in v q).pages
  mapped_count v q = ap len (mapped_pages v q) ∙ len_viewed (f q) (space_in v q).pages

  -- no space
  pub mapped_none : (v : Spaces P) → v.spaces ≡ empty → (mapped f v).spaces ≡ empty
  unfolding mapped
  mapped_none v none = ap (viewed (λ s (x : SpaceOf P). mapped_space (f s) x)) none ∙ viewed_empty (λ s (x : SpaceOf P). mapped_space (f s) x)

  -- What was done to the spaces is done to those seen.

  pub mapped_put : (v : Spaces P) (s : ℕ) (x : SpaceOf P) → mapped f (put_space v s x) ≡ put_space (mapped f v) s (mapped_space (f s) x)
  unfolding mapped put_space
  mapped_put v s x =
      let all = viewed_put (λ s (y : SpaceOf P). mapped_space (f s) y) v.spaces s x in λ i. record { spaces = all i; frames = v.frames; zero_frame = v.zero_frame }

  pub mapped_cut : (v : Spaces P) (s : ℕ) → mapped f (cut_space v s) ≡ cut_space (mapped f v) s
  unfolding mapped cut_space
  mapped_cut v s =
      let all = viewed_gone (λ s (y : SpaceOf P). mapped_space (f s) y) v.spaces s in λ i. record { spaces = all i; frames = v.frames; zero_frame = v.zero_frame }

  pub mapped_put_page : (v : Spaces P) (s p : ℕ) (x : P) → mapped f (put_page v s p x) ≡ put_page (mapped f v) s p (f s p x)
  unfolding put_page
  mapped_put_page v s p x =
      mapped_put v s _ ∙ ap (λ m. put_space (mapped f v) s (record { pages = m; awaiting = (space_in v s).awaiting; speculating = (space_in v s).speculating })) (viewed_put (f s) (space_in v s).pages p x)
      ∙ ap (λ (y : SpaceOf Q). put_space (mapped f v) s (of_pages y (insert y.pages p (f s p x)))) (sym (mapped_in v s))

  pub mapped_cut_page : (v : Spaces P) (s p : ℕ) → mapped f (cut_page v s p) ≡ cut_page (mapped f v) s p
  unfolding cut_page
  mapped_cut_page v s p =
      mapped_put v s _ ∙ ap (λ m. put_space (mapped f v) s (record { pages = m; awaiting = (space_in v s).awaiting; speculating = (space_in v s).speculating })) (viewed_gone (f s) (space_in v s).pages p)
      ∙ ap (λ (y : SpaceOf Q). put_space (mapped f v) s (of_pages y (remove y.pages p))) (sym (mapped_in v s))

  pub mapped_set_page : (v : Spaces P) (s p : ℕ) (o : Option P) → mapped f (set_page v s p o) ≡ set_page (mapped f v) s p (option_map (f s p) o)
  unfolding set_page
  mapped_set_page v s p None = mapped_cut_page v s p
  mapped_set_page v s p (Some x) = mapped_put_page v s p x

  pub mapped_put_mark : (v : Spaces P) (s : ℕ) (on : Bool) → mapped f (put_mark v s on) ≡ put_mark (mapped f v) s on
  unfolding put_mark
  mapped_put_mark v s on =
      mapped_put v s _ ∙ ap (λ (y : SpaceOf Q). put_space (mapped f v) s (record { pages = y.pages; awaiting = y.awaiting; speculating = on })) (sym (mapped_in v s))

  pub mapped_put_awaiting : (v : Spaces P) (s : ℕ) (awaiting : Pages) → mapped f (put_awaiting v s awaiting) ≡ put_awaiting (mapped f v) s awaiting
  unfolding put_awaiting
  mapped_put_awaiting v s awaiting =
      mapped_put v s _ ∙ ap (λ (y : SpaceOf Q). put_space (mapped f v) s (record { pages = y.pages; awaiting = awaiting; speculating = y.speculating })) (sym (mapped_in v s))

  pub mapped_put_shared : (v : Spaces P) (s p : ℕ) (x : P) → mapped f (put_shared v s p x) ≡ put_shared (mapped f v) s p (f s p x)
  unfolding put_shared
  mapped_put_shared v s p x =
      mapped_put v s _
      ∙ ap (λ m. put_space (mapped f v) s (record { pages = m; awaiting = remove (space_in v s).awaiting p; speculating = (space_in v s).speculating })) (viewed_put (f s) (space_in v s).pages p x)
      ∙ ap (λ (y : SpaceOf Q). put_space (mapped f v) s (record { pages = insert y.pages p (f s p x); awaiting = remove y.awaiting p; speculating = y.speculating })) (sym (mapped_in v s))

-- Pages taken away one after the other.
pub mapped_cut_pages : {P Q : Type 0} (f : ℕ → ℕ → P → Q) (k from : ℕ) (v : Spaces P) (s : ℕ) → mapped f (cut_pages v s from k) ≡ cut_pages (mapped f v) s from k
unfolding cut_pages
mapped_cut_pages f zero from v s = refl
mapped_cut_pages f (suc k) from v s = mapped_cut_page f (cut_pages v s from k) s (from + k) ∙ ap (λ w. cut_page w s (from + k)) (mapped_cut_pages f k from v s)

-- Pages put one after the other, where a page is seen alike wherever it stands.
pub mapped_put_pages : {P Q : Type 0} (f : P → Q) (n from : ℕ) (v : Spaces P) (s : ℕ) (x : P)
    → mapped (λ _ _ y. f y) (put_pages v s from n x) ≡ put_pages (mapped (λ _ _ y. f y) v) s from n (f x)
unfolding put_pages
mapped_put_pages f zero from v s x = refl
mapped_put_pages f (suc n) from v s x =
    mapped_put_pages f n (from + 1) (put_page v s from x) s x ∙ ap (λ w. put_pages w s (from + 1) n (f x)) (mapped_put_page (λ _ _ y. f y) v s from x)

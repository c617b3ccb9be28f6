use Rattle.std.specs.Prelude.{◌≡◌, ℕ, ◌+◌, ◌<◌, ◌≤◌, Bool, true, false, cond, ◌||◌, nat_eq, nat_lt, length, Option, Some, None, is_some, refl}
use Rattle.std.proofs.Common.{sym, ap, subst, ◌∙◌, arith}
use Rattle.std.proofs.lemmas.Bool.Decides.{nat_tests}
use Rattle.std.specs.Option.{option_map, option_map_or}
use Rattle.std.specs.FinMap.{empty, get, insert, remove, values}
use Rattle.sizes.specs.declared.TheConstants.{PAGE_END}
use Rattle.number_maps.specs.Keys.{alike, by_key, get_other, get_same, insert_kept, insert_over, removed_other, removed_same}
use Rattle.number_maps.specs.Values.{remove_absent}
use Rattle.number_maps.specs.Views.{viewed}
use Rattle.page_table.specs.Table.{Pages}
use Rattle.page_table.specs.declared.entry.PageEntry.{PageEntry}
use Rattle.space_maps.specs.Books.{books_page, books_pages, books_put, books_put_shared, books_spaces}
use Rattle.space_maps.specs.Laws.{beside_space, in_space, page_of, put_there, space_beside, space_put, space_there}
use Rattle.space_maps.specs.Spaces.{bare_space, cut_space, holds_space, of_pages, page_in, put_awaiting, put_shared, put_space, space_in}
use Rattle.space_ledger.specs.Calls.{NamesOnce}
use Rattle.space_ledger.specs.Space.{IsLeast}
use Rattle.ledger.specs.Ledger.{Holding, Ledger, Space, pages_of, without_page}
use Rattle.ledger.specs.Events.{Copy, Drop, ledger_after}
use Rattle.ledger.specs.Units.{class, units}
use Rattle.ledger.specs.CopyLaws.{class_sum, units_copied}
use Rattle.ledger.specs.PlaceLaws.{page_is, pages_beside}
use Rattle.ledger.specs.AloneLaws.{are, arent, without_absent}
use Rattle.ledger.specs.UnitLaws.{units_new}
use Rattle.overlay_pages.specs.State.{PageState, SpaceState, State, base_of, base_page, books, held_page, memory_of, seen_page}
use Rattle.overlay_pages.specs.Changes.{HasShareRoom, limit_of, shared_page, units_of, with_shared}
use Rattle.overlay_pages.specs.Calls.{AwaitsLike, IsNextPage, entries_in}
use Rattle.overlay_memory.specs.PageLaws.{has_page, some_is}
use Rattle.overlay_memory.specs.Pieces.{emptied_space}
use Rattle.overlay_memory.specs.Room.{FitsAfter, event_units}
use Rattle.overlay_memory.specs.StateMemory.{entries_at}
use Rattle.overlay_memory.specs.Walked.{walked_all, walked_one}
use Rattle.fork_checkpoint.specs.Parts.{low_part, low_part_absent, low_part_all, low_part_at, low_part_more, low_part_none, high_part, high_part_all, high_part_less, high_part_none, high_part_some, high_part_there, sum_low_part, viewed_low_part}
use Rattle.fork_checkpoint.specs.Copied.{ArePagesLow, CanHave, HasCopied, with_copies, with_copy}
use Rattle.fork_checkpoint.proofs.Sums.{units_part}

-- The pages below one were shared, the others await.
abbrev pub part_space : State → ℕ → ℕ → ℕ → SpaceState
part_space v from to end = record {
  pages = low_part (space_in v from).pages end;
  awaiting = high_part (entries_in v from) end;
  speculating = (space_in v to).speculating;
}

unfoldable pub partly : State → ℕ → ℕ → ℕ → State
partly v from to end = put_space v to (part_space v from to end)

-- spaces
pub put_over : (v : State) (s : ℕ) (x y : SpaceState) → put_space (put_space v s x) s y ≡ put_space v s y
unfolding put_space
put_over v s x y = λ i. record { spaces = insert_over v.spaces s x y i; frames = v.frames; zero_frame = v.zero_frame }

pub put_frames : (v : State) (s : ℕ) (x : SpaceState) → ((put_space v s x).frames ≡ v.frames) × ((put_space v s x).zero_frame ≡ v.zero_frame)
unfolding put_space
put_frames v s x = (refl, refl)

pub put_spaces : (v : State) (s : ℕ) (x : SpaceState) (q : ℕ) → holds_space (put_space v s x) q ≡ (nat_eq q s || holds_space v q)
unfolding put_space
put_spaces v s x q = by_key q s
    (λ same. ap is_some (get_same v.spaces s q x same) ∙ sym (ap (λ b. b || holds_space v q) (are q s same)))
    (λ other. ap is_some (get_other v.spaces s q x other) ∙ sym (ap (λ b. b || holds_space v q) (arent q s other)))

pub cut_put : (v : State) (s : ℕ) (x : SpaceState) → holds_space v s ≡ false → cut_space (put_space v s x) s ≡ v
unfolding put_space cut_space
cut_put v s x absent = λ i. record { spaces = gone i; frames = v.frames; zero_frame = v.zero_frame }
  where
    none : (o : Option SpaceState) → is_some o ≡ false → o ≡ None
    none None e = refl
    none (Some y) e = cc

    gone : remove (insert v.spaces s x) s ≡ v.spaces
    gone = alike _ _ (λ q. by_key q s
        (λ same. removed_same (insert v.spaces s x) s q same ∙ sym (none (get v.spaces s) absent) ∙ ap (get v.spaces) (sym same))
        (λ other. removed_other (insert v.spaces s x) s q other ∙ get_other v.spaces s q x other))

entries_same : (v w : State) (s : ℕ) → space_in v s ≡ space_in w s → entries_in v s ≡ entries_in w s
unfolding entries_in
entries_same v w s e = ap (λ (x : SpaceState). viewed (λ _ (y : PageState). y.entry) x.pages) e

pub entry_some : (v : State) (s r : ℕ) → is_some (get (entries_in v s) r) ≡ true → is_some (page_in v s r) ≡ true
entry_some v s r some = sym (at (page_in v s r)) ∙ ap is_some (sym (entries_at v s r)) ∙ some
  where
    at : (o : Option PageState) → is_some (option_map (λ (x : PageState). x.entry) o) ≡ is_some o
    at None = refl
    at (Some x) = refl

put_same : (v : State) (s : ℕ) → holds_space v s ≡ true → put_space v s (space_in v s) ≡ v
unfolding put_space
put_same v s there = λ i. record { spaces = insert_kept v.spaces s (space_in v s) (is_there (get v.spaces s) refl) i; frames = v.frames; zero_frame = v.zero_frame }
  where
    is_there : (o : Option SpaceState) → get v.spaces s ≡ o → get v.spaces s ≡ Some (space_in v s)
    is_there None is = let no = sym there ∙ ap is_some is in cc
    is_there (Some x) is = is ∙ ap Some (sym (space_there v s x is))

-- the units after a copy, and those of a part of it
pub copy_units : (v : State) (from to : ℕ) → (from ≡ to → ⊥)
    → event_units (Copy from to) v ≡ units (remove (books v) to) + class_sum (values (pages_of (books v) from))
copy_units v from to differs = units_copied (books v) from to differs

part_units : (v : State) (from to end : ℕ) → (from ≡ to → ⊥)
    → units (insert (books v) to (low_part (pages_of (books v) from) end)) ≡ units (remove (books v) to) + class_sum (values (low_part (pages_of (books v) from) end))
part_units v from to end differs =
    units_part (books v) from to (low_part (pages_of (books v) from) end) differs (λ r y at. page_is (books v) from r ∙ in_part r y at)
  where
    whole : (b : Bool) (o : Option Holding) (y : Holding) → cond b o None ≡ Some y → o ≡ Some y
    whole true o y e = e
    whole false o y e = cc

    in_part : (r : ℕ) (y : Holding) → get (low_part (pages_of (books v) from) end) r ≡ Some y → get (pages_of (books v) from) r ≡ Some y
    in_part r y at = whole (nat_lt r end) (get (pages_of (books v) from) r) y (sym (low_part_at (pages_of (books v) from) end r) ∙ at)

pub part_fewer : (v : State) (from to end : ℕ) → (from ≡ to → ⊥) → units (insert (books v) to (low_part (pages_of (books v) from) end)) ≤ event_units (Copy from to) v
unfolding class_sum
part_fewer v from to end differs =
    let all = copy_units v from to differs in
    let part = part_units v from to end differs in
    let fewer = sum_low_part (λ (y : Holding). class (length y.own)) end (pages_of (books v) from) in
    omega (arith, all, part, fewer)

partly_books : (v : State) (from to end : ℕ) → books (partly v from to end) ≡ insert (books v) to (low_part (pages_of (books v) from) end)
unfolding partly
partly_books v from to end =
    books_put held_page v to _
    ∙ ap (insert (books v) to) (viewed_low_part (λ page y. held_page v.zero_frame y) (space_in v from).pages end ∙ ap (λ (m : Space). low_part m end) (sym (books_pages held_page v from)))

module _ (v : State) (from to : ℕ) (differs : from ≡ to → ⊥) where
  -- at first all await
  pub partly_none : (space_in v to).pages ≡ empty → (space_in v to).awaiting ≡ entries_in v from → holds_space v to ≡ true → v ≡ partly v from to 0
  unfolding partly
  partly_none bare awaits there = sym (ap (put_space v to) same ∙ put_same v to there)
    where
      same : part_space v from to 0 ≡ space_in v to
      same = λ i. record {
        pages = (low_part_none (space_in v from).pages ∙ sym bare) i;
        awaiting = (high_part_all (entries_in v from) ∙ sym awaits) i;
        speculating = (space_in v to).speculating;
      }

  -- the space that is shared from stays
  pub from_stays : (end r : ℕ) → page_in (partly v from to end) from r ≡ page_in v from r
  unfolding partly
  from_stays end r = beside_space v to _ from r differs

  pub mark_stays : (end : ℕ) → (space_in (partly v from to end) from).speculating ≡ (space_in v from).speculating
  unfolding partly
  mark_stays end = ap (λ (x : SpaceState). x.speculating) (space_beside v to _ from differs)

  pub to_waits : (end : ℕ) → (space_in (partly v from to end) to).awaiting ≡ high_part (entries_in v from) end
  unfolding partly
  to_waits end = ap (λ (x : SpaceState). x.awaiting) (space_put v to _ to refl)

  pub to_there : (end : ℕ) → holds_space (partly v from to end) to ≡ true
  unfolding partly
  to_there end = put_there v to _

  pub partly_frames : (end : ℕ) → (partly v from to end).frames ≡ v.frames
  unfolding partly
  partly_frames end = (put_frames v to _).0

  -- at last all are shared
  pub partly_all : (end : ℕ) → IsNextPage (partly v from to end) from end None → partly v from to end ≡ with_copy v from to
  unfolding partly with_copy
  partly_all end none = ap (put_space v to) (λ i. record {
    pages = low_part_all (space_in v from).pages end passed i;
    awaiting = high_part_none (entries_in v from) end waited i;
    speculating = (space_in v to).speculating;
  })
    where
      passed_page : (r : ℕ) → is_some (page_in v from r) ≡ true → nat_lt r end ≡ true
      passed_page r some = walked_all v from end (λ q le. sym (from_stays end q) ∙ none q le) r some

      passed : (r : ℕ) → is_some (get (space_in v from).pages r) ≡ true → nat_lt r end ≡ true
      passed r some = passed_page r (ap is_some (page_of v from r) ∙ some)

      waited : (r : ℕ) → is_some (get (entries_in v from) r) ≡ true → nat_lt r end ≡ true
      waited r some = passed_page r (entry_some v from r some)

  -- the next one
  module _ (end page : ℕ) (next : IsNextPage (partly v from to end) from end (Some page)) (x : PageState) (there : page_in v from page ≡ Some x) where
    abbrev now : State
    now = partly v from to end

    next_there : IsNextPage v from end (Some page)
    next_there = (next.0, ap is_some (sym (from_stays end page)) ∙ next.1, λ q le lt. sym (from_stays end q) ∙ next.2 q le lt)

    at_now : page_in now from page ≡ Some x
    at_now = from_stays end page ∙ there

    waits : get (space_in now to).awaiting page ≡ Some x.entry
    waits =
        ap (λ (m : Pages). get m page) (to_waits end) ∙ high_part_there (entries_in v from) end page next.0 ∙ entries_at v from page ∙ ap (option_map (λ (y : PageState). y.entry)) there

    pub is_least : IsLeast (space_in now to).awaiting page
    is_least = record {
      there = ap is_some waits;
      least = λ q some. at_least q (high_part_some (entries_in v from) end q (ap (λ (m : Pages). is_some (get m q)) (sym (to_waits end)) ∙ some));
    }
      where
        at_least : (q : ℕ) → (end ≤ q) × (is_some (get (entries_in v from) q) ≡ true) → page ≤ q
        at_least q parts = by_test (nat_lt q page) refl
          where
            below_it : nat_lt q page ≡ true → q < page
            below_it e = grind (arith, nat_tests)

            not_below : nat_lt q page ≡ false → page ≤ q
            not_below e = grind (arith, nat_tests)

            by_test : (b : Bool) → nat_lt q page ≡ b → page ≤ q
            by_test false e = not_below e
            by_test true e = let no = sym (entry_some v from q parts.1) ∙ ap is_some (next_there.2 q parts.0 (below_it e)) in cc

    pub is_like : AwaitsLike now from to page
    is_like = ap (option_map (λ (e : PageEntry). e.frame)) waits ∙ sym (ap (option_map (λ (y : PageState). y.entry.frame)) at_now)

    abbrev more : SpaceState → SpaceState
    more y = record { pages = insert y.pages page x; awaiting = remove y.awaiting page; speculating = y.speculating }

    one_more : more (part_space v from to end) ≡ part_space v from to (page + 1)
    one_more = λ i. record {
      pages = sym (low_part_more (space_in v from).pages end page x (sym (page_of v from page) ∙ there)
          (λ r some. walked_one v from end page next_there r (ap is_some (page_of v from r) ∙ some))) i;
      awaiting = sym (high_part_less (entries_in v from) end page x.entry (entries_at v from page ∙ ap (option_map (λ (y : PageState). y.entry)) there)
          (λ r some. walked_one v from end page next_there r (entry_some v from r some))) i;
      speculating = (space_in v to).speculating;
    }

    put_more : put_shared now to page x ≡ partly v from to (page + 1)
    unfolding put_shared partly
    put_more =
        ap (λ (y : SpaceState). put_space (put_space v to (part_space v from to end)) to (more y)) (space_put v to (part_space v from to end) to refl)
        ∙ put_over v to (part_space v from to end) (more (part_space v from to end)) ∙ ap (put_space v to) one_more

    pub shares : with_shared now from to page ≡ partly v from to (page + 1)
    unfolding with_shared
    shares =
        ap (λ (o : Option PageEntry). option_map_or (λ entry. option_map_or (λ y. put_shared now to page (shared_page entry y)) (page_in now from page) now) o now) waits
        ∙ ap (λ (o : Option PageState). option_map_or (λ y. put_shared now to page (shared_page x.entry y)) o now) at_now
        ∙ put_more

    -- it isn't in the new space yet, so its segment is one more
    absent : without_page (books now) to page ≡ books now
    unfolding partly
    absent =
        without_absent (books now) to page (books_spaces held_page now to ∙ to_there end)
        (books_page held_page now to page ∙ ap (option_map (held_page now.zero_frame)) (in_space v to (part_space v from to end) to page refl ∙ low_part_absent (space_in v from).pages end page next.0))

    pub has_room : FitsAfter (Copy from to) v → HasShareRoom now from page
    has_room fits y at =
        let le = part_fewer v from to (page + 1) differs in
        let is = ap units (partly_books v from to (page + 1)) in
        let frames = partly_frames end in
        let new = units_new (books now) to page (held_page now.zero_frame x) absent in
        let put = ap units (sym (books_put_shared held_page now to page x) ∙ ap books put_more) in
        let same = ap (λ (z : PageState). class (length z.own)) (some_is y x (sym at ∙ at_now)) in
        omega (arith, le, is, fits, frames, new, put, same)

-- What a new space with the pages of another one is.

-- the copy over other pages of the new space
pub copy_over : (v : State) (from to : ℕ) (x : SpaceState) → (from ≡ to → ⊥) → x.speculating ≡ (space_in v to).speculating
    → with_copy (put_space v to x) from to ≡ with_copy v from to
unfolding with_copy
copy_over v from to x differs mark =
    put_over v to x _
    ∙ ap (put_space v to) (λ i. record {
      pages = (space_beside v to x from differs i).pages;
      awaiting = empty;
      speculating = (ap (λ (y : SpaceState). y.speculating) (space_put v to x to refl) ∙ mark) i;
    })

-- the ledger after a copy into a space that was just made
pub copy_books : (v : State) (from to : ℕ) (x : SpaceState) → (from ≡ to → ⊥)
    → ledger_after (Copy from to) (books (put_space v to x)) ≡ ledger_after (Copy from to) (books v)
copy_books v from to x differs =
    ap (λ (l : Ledger). insert l to (pages_of l from)) (books_put held_page v to x)
    ∙ insert_over (books v) to _ _
    ∙ ap (insert (books v) to) (pages_beside (books v) to _ from differs)

pub fits_too : (v : State) (from to : ℕ) (x : SpaceState) → (from ≡ to → ⊥) → FitsAfter (Copy from to) v → FitsAfter (Copy from to) (put_space v to x)
fits_too v from to x differs fits =
    let same = ap units (copy_books v from to x differs) in
    let frames = (put_frames v to x).0 in
    omega (arith, same, frames, fits)

-- a space that is there isn't one that isn't
pub two_spaces : (v : State) (from to : ℕ) → holds_space v from ≡ true → holds_space v to ≡ false → from ≡ to → ⊥
two_spaces v from to there absent same = let no = sym there ∙ ap (holds_space v) same ∙ absent in cc

-- The units that the code finds are those after it: of a fork, with those of now, and of a restore, with those without the space's
-- own pages.
pub needed_is : (v : State) (from to n kept : ℕ) → holds_space v from ≡ true → holds_space v to ≡ false → kept ≡ units_of v → n ≡ with_copies kept v from
    → n ≡ event_units (Copy from to) v
needed_is v from to n kept there absent kept_is is =
    let after = copy_units v from to (two_spaces v from to there absent) in
    let same = ap units (remove_absent (books v) to (none (get (books v) to) (books_spaces held_page v to ∙ absent))) in
    omega (arith, is, kept_is, after, same)
  where
    none : (o : Option Space) → is_some o ≡ false → o ≡ None
    none None e = refl
    none (Some y) e = cc

pub fits_before : (v : State) (from to n kept : ℕ) → holds_space v from ≡ true → holds_space v to ≡ false → kept ≡ units_of v → n ≡ with_copies kept v from
    → n ≤ limit_of v → FitsAfter (Copy from to) v
fits_before v from to n kept there absent kept_is is le = let needed = needed_is v from to n kept there absent kept_is is in omega (arith, needed, le)

pub restored_units : (v : State) (from to n left : ℕ) → (from ≡ to → ⊥) → left ≡ event_units (Drop to) v → n ≡ with_copies left v from
    → n ≡ event_units (Copy from to) v
restored_units v from to n left differs left_is is = is ∙ ap (λ k. with_copies k v from) left_is ∙ sym (copy_units v from to differs)

-- what a copy makes
abbrev made : State → ℕ → SpaceState
made v from = record { pages = (space_in v from).pages; awaiting = empty; speculating = false }

whole : (v : State) (from to : ℕ) → (from ≡ to → ⊥) → with_copy (put_space v to bare_space) from to ≡ put_space v to (made v from)
unfolding with_copy
whole v from to differs =
    put_over v to bare_space _
    ∙ ap (put_space v to) (λ i. record {
      pages = (space_beside v to bare_space from differs i).pages;
      awaiting = empty;
      speculating = ap (λ (y : SpaceState). y.speculating) (space_put v to bare_space to refl) i;
    })

has_made : (v : State) (from to : ℕ) → HasCopied v (put_space v to (made v from)) from to
unfolding memory_of base_of
has_made v from to = record {
  memory = ap (λ (x : SpaceState). viewed (λ _ (y : PageState). seen_page y) x.pages) here;
  base = ap (λ (x : SpaceState). viewed (λ _ (y : PageState). base_page y) x.pages) here;
  ledger = books_put held_page v to (made v from) ∙ ap (insert (books v) to) (sym (books_pages held_page v from));
  awaiting = ap (λ (x : SpaceState). x.awaiting) here;
  mark = ap (λ (x : SpaceState). x.speculating) here;
  others = λ q d. space_beside v to (made v from) q d;
  spaces = λ q. put_spaces v to (made v from) q;
  frames = (put_frames v to (made v from)).0;
  zero_frame = (put_frames v to (made v from)).1;
}
  where
    here : space_in (put_space v to (made v from)) to ≡ made v from
    here = space_put v to (made v from) to refl

pub has_forked : (v w : State) (from to : ℕ) → (from ≡ to → ⊥) → w ≡ with_copy (put_space v to bare_space) from to → HasCopied v w from to
has_forked v w from to differs is = subst (λ (u : State). HasCopied v u from to) (sym (is ∙ whole v from to differs)) (has_made v from to)

-- the same of a space that was there, without a mark
pub has_restored : (v w : State) (from to : ℕ) → (space_in v to).speculating ≡ false → w ≡ with_copy v from to → HasCopied v w from to
unfolding with_copy
has_restored v w from to unmarked is =
    subst (λ (u : State). HasCopied v u from to)
    (sym (is ∙ ap (λ b. put_space v to (record { pages = (space_in v from).pages; awaiting = empty; speculating = b })) unmarked)) (has_made v from to)

-- One step of the walk, in a state that is partly shared.
pub record HasStep (v w : State) (from to end page : ℕ) : Type 0 where
  pub ahead : end ≤ page
  pub mark : (space_in w from).speculating ≡ (space_in v from).speculating
  pub space : holds_space w to ≡ true
  pub least : IsLeast (space_in w to).awaiting page
  pub frame : AwaitsLike w from to page
  pub room : FitsAfter (Copy from to) v → HasShareRoom w from page
  pub low : ArePagesLow v from → page < PAGE_END
  pub shared : (new : State) → new ≡ with_shared w from to page → new ≡ partly v from to (page + 1)

pub share_step : (v w : State) (from to end page : ℕ) → (from ≡ to → ⊥) → w ≡ partly v from to end → IsNextPage w from end (Some page) → HasStep v w from to end page
share_step v w from to end page differs is next =
    subst (λ (u : State). HasStep v u from to end page) (sym is) (step (subst (λ (u : State). IsNextPage u from end (Some page)) is next))
  where
    step : IsNextPage (partly v from to end) from end (Some page) → HasStep v (partly v from to end) from to end page
    step next =
        let some : is_some (page_in v from page) ≡ true = ap is_some (sym (from_stays v from to differs end page)) ∙ next.1 in
        let p = has_page v from page some in record {
          ahead = next.0;
          mark = mark_stays v from to differs end;
          space = to_there v from to differs end;
          least = is_least v from to differs end page next p.x p.there;
          frame = is_like v from to differs end page next p.x p.there;
          room = has_room v from to differs end page next p.x p.there;
          low = λ low. low page some;
          shared = λ new e. e ∙ shares v from to differs end page next p.x p.there;
        }

pub shared_all : (v w : State) (from to end : ℕ) → (from ≡ to → ⊥) → w ≡ partly v from to end → IsNextPage w from end None → w ≡ with_copy v from to
shared_all v w from to end differs is none = is ∙ partly_all v from to differs end (subst (λ (u : State). IsNextPage u from end None) is none)

-- A space put beside another one.
pub record IsBeside (v w : State) (from to : ℕ) : Type 0 where
  pub there : holds_space v from ≡ true → holds_space w from ≡ true
  pub space : holds_space w to ≡ true
  pub unmarked : (space_in v from).speculating ≡ false → (space_in w from).speculating ≡ false
  pub none_awaits : (space_in v from).awaiting ≡ empty → (space_in w from).awaiting ≡ empty
  pub low : ArePagesLow v from → ArePagesLow w from
  pub fits : FitsAfter (Copy from to) v → FitsAfter (Copy from to) w
  pub entries : entries_in w from ≡ entries_in v from

pub put_beside : (v : State) (from to : ℕ) (x : SpaceState) → (from ≡ to → ⊥) → IsBeside v (put_space v to x) from to
put_beside v from to x differs = record {
  there = λ h. put_spaces v to x from ∙ or_true (nat_eq from to) (holds_space v from) h;
  space = put_there v to x;
  unmarked = λ h. ap (λ (y : SpaceState). y.speculating) (space_beside v to x from differs) ∙ h;
  none_awaits = λ h. ap (λ (y : SpaceState). y.awaiting) (space_beside v to x from differs) ∙ h;
  low = λ h r some. h r (ap is_some (sym (beside_space v to x from r differs)) ∙ some);
  fits = fits_too v from to x differs;
  entries = entries_same (put_space v to x) v from (space_beside v to x from differs);
}
  where
    or_true : (b c : Bool) → c ≡ true → (b || c) ≡ true
    or_true true c e = refl
    or_true false c e = e

-- A space without a page that can have those of another one: one that was just made, and one that lost its own.
pub ready_made : (v u : State) (from to : ℕ) (table : Pages) → (from ≡ to → ⊥) → holds_space v from ≡ true → (space_in v from).speculating ≡ false → holds_space v to ≡ true → space_in v to ≡ bare_space
    → ArePagesLow v from → FitsAfter (Copy from to) v → u ≡ v → table ≡ entries_in v from → NamesOnce v.zero_frame table → CanHave u from to table
ready_made v u from to table differs here off made is_bare are_low fit same is named = subst (λ (s : State). CanHave s from to table) (sym same) (record {
  differ = differs;
  there = here;
  unmarked = off;
  space = made;
  bare = ap (λ (y : SpaceState). y.pages) is_bare;
  none_awaits = ap (λ (y : SpaceState). y.awaiting) is_bare;
  entries = is;
  once = named;
  low = are_low;
  fits = fit;
})

abbrev cleared : State → ℕ → SpaceState
cleared v to = of_pages (space_in v to) empty

cleared_is : (v u w : State) (to : ℕ) → u ≡ v → w ≡ emptied_space u to → w ≡ put_space v to (cleared v to)
unfolding emptied_space
cleared_is v u w to same is = is ∙ ap (λ (s : State). emptied_space s to) same

pub ready_cleared : (v u w : State) (from to : ℕ) (table : Pages) → (from ≡ to → ⊥) → holds_space v from ≡ true → (space_in v from).speculating ≡ false → (space_in v to).awaiting ≡ empty
    → ArePagesLow v from → FitsAfter (Copy from to) v → u ≡ v → w ≡ emptied_space u to → table ≡ entries_in v from → NamesOnce v.zero_frame table → CanHave w from to table
ready_cleared v u w from to table differs here off none_awaits are_low fit same gone is named =
    subst (λ (s : State). CanHave s from to table) (sym (cleared_is v u w to same gone)) (record {
      differ = differs;
      there = beside.there here;
      unmarked = beside.unmarked off;
      space = beside.space;
      bare = ap (λ (y : SpaceState). y.pages) now;
      none_awaits = ap (λ (y : SpaceState). y.awaiting) now ∙ none_awaits;
      entries = is ∙ sym beside.entries;
      once = subst (λ z. NamesOnce z table) (sym (put_frames v to (cleared v to)).1) named;
      low = beside.low are_low;
      fits = beside.fits fit;
    })
  where
    beside : IsBeside v (put_space v to (cleared v to)) from to
    beside = put_beside v from to (cleared v to) differs

    now : space_in (put_space v to (cleared v to)) to ≡ cleared v to
    now = space_put v to (cleared v to) to refl

-- what it has then
pub refilled : (v u w new : State) (from to : ℕ) → (from ≡ to → ⊥) → u ≡ v → w ≡ emptied_space u to → new ≡ with_copy w from to → new ≡ with_copy v from to
refilled v u w new from to differs same gone is =
    is ∙ ap (λ (s : State). with_copy s from to) (cleared_is v u w to same gone) ∙ copy_over v from to (cleared v to) differs refl

-- the table was adopted
pub record HasAdopted (v w : State) (from to : ℕ) : Type 0 where
  pub beside : IsBeside v w from to
  pub empty_is : (space_in w to).pages ≡ empty
  pub awaits : (space_in w to).awaiting ≡ entries_in w from
  pub copy : with_copy w from to ≡ with_copy v from to

pub has_adopted : (v w : State) (from to : ℕ) (table : Pages) → CanHave v from to table → w ≡ put_awaiting v to table → HasAdopted v w from to
unfolding put_awaiting
has_adopted v w from to table can put =
    subst (λ (s : State). HasAdopted v s from to) (sym put) (record {
      beside = beside;
      empty_is = ap (λ (y : SpaceState). y.pages) (space_put v to x to refl) ∙ can.bare;
      awaits = ap (λ (y : SpaceState). y.awaiting) (space_put v to x to refl) ∙ can.entries ∙ sym beside.entries;
      copy = copy_over v from to x can.differ refl;
    })
  where
    x : SpaceState
    x = record { pages = (space_in v to).pages; awaiting = table; speculating = (space_in v to).speculating }

    beside : IsBeside v (put_space v to x) from to
    beside = put_beside v from to x can.differ

-- the space was made
pub record HasAdded (v w : State) (from to : ℕ) : Type 0 where
  pub beside : IsBeside v w from to
  pub bare : space_in w to ≡ bare_space

pub has_added : (v w : State) (from to : ℕ) → (from ≡ to → ⊥) → w ≡ put_space v to bare_space → HasAdded v w from to
has_added v w from to differs is =
    subst (λ (s : State). HasAdded v s from to) (sym is) (record { beside = put_beside v from to bare_space differs; bare = space_put v to bare_space to refl })

use Rattle.std.specs.Prelude.{◌≡◌, ℕ, ◌+◌, ◌<◌, ◌≤◌, true, false, Option, Some, None, IsSome, is_some, refl}
use Rattle.std.proofs.Common.{sym, ap, subst, ◌∙◌, arith}
use Rattle.std.specs.Option.{option_map}
use Rattle.std.specs.FinMap.{get}
use Rattle.page_table.specs.Table.{Pages}
use Rattle.page_table.specs.declared.entry.PageEntry.{PageEntry}
use Rattle.ledger.specs.Changes.{has_own}
use Rattle.space_maps.specs.Laws.{page_of}
use Rattle.space_maps.specs.Spaces.{holds_space, page_in, put_space, space_in}
use Rattle.space_ledger.specs.Space.{IsLeast}
use Rattle.sizes.specs.declared.TheConstants.{PAGE_END}
use Rattle.space_ledger.specs.Calls.{IsNextOwn}
use Rattle.overlay_pages.specs.State.{PageState, State, books}
use Rattle.overlay_pages.specs.Changes.{with_shared}
use Rattle.overlay_pages.specs.Calls.{AreShared, AwaitBare, AwaitsLike, IsNextPage, NoneAwaitsBelow, entries_in}
use Rattle.overlay_pages.specs.Calls.AreShared.{Still, Then}
use Rattle.fork_checkpoint.specs.Parts.{high_part_past, high_part_some, high_part_there, low_part_past}
use Rattle.fork_checkpoint.specs.Copied.{ArePagesLow, with_copy}
use Rattle.overlay_memory.specs.StateMemory.{entries_at}
use Rattle.fork_checkpoint.proofs.Shares.{HasStep, entry_some, from_stays, part_space, partly, put_beside, share_step, shared_all, to_waits}
use Rattle.overlay_memory.specs.PageLaws.{own_there}

-- Pages without own lines are shared, as far as one.

module _ (v : State) (from to : ℕ) (differs : from ≡ to → ⊥) where
  -- what awaits
  waits_at : (end q : ℕ) → end ≤ q → get (space_in (partly v from to end) to).awaiting q ≡ option_map (λ (x : PageState). x.entry) (page_in v from q)
  waits_at end q le = ap (λ (m : Pages). get m q) (to_waits v from to differs end) ∙ high_part_there (entries_in v from) end q le ∙ entries_at v from q

  waits_from : (end q : ℕ) → IsSome (get (space_in (partly v from to end) to).awaiting q) → (end ≤ q) × (is_some (page_in v from q) ≡ true)
  waits_from end q some =
      let parts = high_part_some (entries_in v from) end q (ap (λ (m : Pages). is_some (get m q)) (sym (to_waits v from to differs end)) ∙ some) in
      (parts.0, entry_some v from q parts.1)

  like_at : (end q : ℕ) → end ≤ q → AwaitsLike (partly v from to end) from to q
  like_at end q le =
      ap (option_map (λ (e : PageEntry). e.frame)) (waits_at end q le) ∙ twice (page_in v from q) ∙ ap (option_map (λ (x : PageState). x.entry.frame)) (sym (from_stays v from to differs end q))
    where
      twice : (o : Option PageState) → option_map (λ (e : PageEntry). e.frame) (option_map (λ (x : PageState). x.entry) o) ≡ option_map (λ (x : PageState). x.entry.frame) o
      twice None = refl
      twice (Some x) = refl

  -- the next page that awaits is the next one of the space
  next_waits : (end page : ℕ) → IsLeast (space_in (partly v from to end) to).awaiting page → IsNextPage (partly v from to end) from end (Some page)
  next_waits end page least =
      let found = waits_from end page least.there in (
        found.0,
        ap is_some (from_stays v from to differs end page) ∙ found.1,
        λ q le lt. from_stays v from to differs end q ∙ none q le lt (page_in v from q) refl,
      )
    where
      none : (q : ℕ) → end ≤ q → q < page → (o : Option PageState) → page_in v from q ≡ o → page_in v from q ≡ None
      none q le lt None is = is
      none q le lt (Some x) is =
          let before : page ≤ q = least.least q (ap is_some (waits_at end q le ∙ ap (option_map (λ (x : PageState). x.entry)) is)) in
          absurd (omega (arith, before, lt))

  -- as far as a run comes
  record HasCome (b : State) (until : ℕ) : Type 0 where
    pub end : ℕ
    pub within : end ≤ until
    pub is : b ≡ partly v from to end

  come : (until end : ℕ) (a b : State) → end ≤ until → a ≡ partly v from to end → AreShared from to until a b → HasCome b until
  come until end a b le is (Still s) = record { end = end; within = le; is = is }
  come until end a b le is (Then s t page low least rest) =
      let next = next_waits end page (subst (λ (u : State). IsLeast (space_in u to).awaiting page) is least) in
      let one = share_step v a from to end page differs is (subst (λ (u : State). IsNextPage u from end (Some page)) (sym is) next) in
      come until (page + 1) (with_shared a from to page) b (omega (arith, low)) (one.shared (with_shared a from to page) refl) rest

  -- no page is passed over
  past : (end until : ℕ) → end ≤ until → ((q : ℕ) → end ≤ q → q < until → page_in v from q ≡ None) → partly v from to end ≡ partly v from to until
  unfolding partly
  past end until le none = ap (put_space v to) (λ i. record {
    pages = low_part_past (space_in v from).pages end until le (λ q ge lt. sym (page_of v from q) ∙ none q ge lt) i;
    awaiting = high_part_past (entries_in v from) end until le (λ q ge lt. entries_at v from q ∙ ap (option_map (λ (x : PageState). x.entry)) (none q ge lt)) i;
    speculating = (space_in v to).speculating;
  })

  pub shared_until : (until end : ℕ) (a b : State) → end ≤ until → a ≡ partly v from to end → AreShared from to until a b → NoneAwaitsBelow b to until → b ≡ partly v from to until
  shared_until until end a b le is run none =
      let c = come until end a b le is run in
      c.is ∙ past c.end until c.within (λ q ge lt. gone c.end q ge (ap (λ (u : State). get (space_in u to).awaiting q) (sym c.is) ∙ none q lt) (page_in v from q) refl)
    where
      gone : (end q : ℕ) → end ≤ q → get (space_in (partly v from to end) to).awaiting q ≡ None → (o : Option PageState) → page_in v from q ≡ o → page_in v from q ≡ None
      gone end q ge absent None at = at
      gone end q ge absent (Some x) at = let no = ap is_some (sym absent ∙ waits_at end q ge ∙ ap (option_map (λ (x : PageState). x.entry)) at) in cc

  -- those between have no own lines
  pub bare_until : (w : State) (until end : ℕ) → w ≡ partly v from to end → ((q : ℕ) → end ≤ q → q < until → has_own (books w) from q ≡ false) → AwaitBare w from to until
  bare_until w until end is none q lt some =
      let found = waits_from end q (subst (λ (u : State). IsSome (get (space_in u to).awaiting q)) is some) in
      (subst (λ (u : State). AwaitsLike u from to q) (sym is) (like_at end q found.0), none q found.0 lt)

  -- the space that is shared from is still there, with its pages
  pub from_there : (w : State) (end : ℕ) → w ≡ partly v from to end → holds_space v from ≡ true → holds_space w from ≡ true
  unfolding partly
  from_there w end is there = ap (λ (u : State). holds_space u from) is ∙ (put_beside v from to (part_space v from to end) differs).there there

  same_page : (w : State) (end q : ℕ) → w ≡ partly v from to end → page_in w from q ≡ page_in v from q
  same_page w end q is = ap (λ (u : State). page_in u from q) is ∙ from_stays v from to differs end q

  -- The next page with own lines, once those before it are shared.
  pub record HasReached (w : State) (page : ℕ) : Type 0 where
    pub there : is_some (page_in w from page) ≡ true
    pub step : HasStep v w from to page page

  pub reached : (before w : State) (at page : ℕ) → before ≡ partly v from to at → IsNextOwn (books before) from at (Some page) → AreShared from to page before w → NoneAwaitsBelow w to page
      → HasReached w page
  reached before w at page is next run none = record { there = there; step = share_step v w from to page page differs now (omega arith, there, λ q le lt. absurd (omega (arith, le, lt))) }
    where
      now : w ≡ partly v from to page
      now = shared_until page at before w next.0 is run none

      there : is_some (page_in w from page) ≡ true
      there = ap is_some (same_page w page page now ∙ sym (same_page before at page is)) ∙ own_there before from page next.1

  -- At last no page is left.
  pub reached_all : (before w : State) (at : ℕ) → before ≡ partly v from to at → at ≤ PAGE_END → ArePagesLow v from → AreShared from to PAGE_END before w → NoneAwaitsBelow w to PAGE_END
      → w ≡ with_copy v from to
  reached_all before w at is le low run none = shared_all v w from to PAGE_END differs now (λ q past. beyond q past (page_in w from q) refl)
    where
      now : w ≡ partly v from to PAGE_END
      now = shared_until PAGE_END at before w le is run none

      beyond : (q : ℕ) → PAGE_END ≤ q → (o : Option PageState) → page_in w from q ≡ o → page_in w from q ≡ None
      beyond q past None e = e
      beyond q past (Some x) e = let under : q < PAGE_END = low q (ap is_some (sym (same_page w PAGE_END q now) ∙ e)) in absurd (omega (arith, past, under))

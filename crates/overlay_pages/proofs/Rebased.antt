use Rattle.overlay_pages.proofs.Common.{◌≡◌, ℕ, ◌+◌, ◌<◌, ◌≤◌, ◌||◌, true, false, cond, nat_eq, List, [], Option, Some, None, IfSome, IsSome, is_some, length, refl, true≢false, sym, ap, subst, ◌∙◌, arith, inl, inr, none-some, same_Some, nat_tests, option_and_then, option_map, empty}
use Rattle.overlay_pages.proofs.Stores.{Entry, Store, IsFrame, frame_inside, frame_line, KeepsFrame, has_line}
use Rattle.page_table.specs.declared.entry.PageEntry.{PageEntry}
use Rattle.overlay_pages.proofs.Books.{Ledger, has_origin, holding_at, is_alone, is_unused, with_page, without_page, class, class_most, units, class_none, frame_for, units_changed, alone_is, alone_same, are, by_place, by_test, not_true, origin_with, unused_from, unused_parts, books_put_page, books_there, changed_there, keeps_page_put, keeps_page_set, KeepsSpaces, map_from, map_some, map_twice, page_put_here, page_put_beside, page_over, set_some, there_space, page_in, put_page, set_page, space_in, altered_page, LedgerView, PageView, frame_at, given_as, given_up, holding_of, ledger_of, lines_of, overlay_at, origin_of, with_frame}
use Rattle.overlay_pages.proofs.Views.{page_lines, line_at, lines_same, line_in_page, AreKept, by_rank, PageState, State, IsAway, IsRebased, SeesFrame, books, held_page, discarded, frame_in, given_page, limit_of, moved_to, rebased_page, units_of, IsJoined, MemoryView, line_seen, page_state, state_of, view_of, state_awaiting, state_books, state_page, state_page_some, state_page_there, state_zero}
use Rattle.ledger.specs.PlaceLaws.{gone_other}
use Rattle.space_ledger.specs.Calls.{IsFreeFor}
use Rattle.space_ledger.specs.ViewLaws.{frames_of}
use Rattle.overlay_pages.proofs.Steps.{IsOthers, alone_other, segments_bare, stepped}
use Rattle.overlay_pages.proofs.Leaving.{LeavesStore}
use Rattle.overlay_pages.proofs.Committing.{page_frame}
use Rattle.overlay_pages.proofs.Joining.{Has, page_with}
use Rattle.overlay_pages.proofs.Growing.{altered_limit, bare_by, free_is}

-- A page without an overlay that is alone comes onto the frame of another page.

module _ (a : MemoryView) (s p from other : ℕ) (x y : PageView) (is : IsJoined a) (there : page_in a.table s p ≡ Some x) (bare : x.overlay ≡ None)
    (alone : is_alone (ledger_of a.table) s p ≡ true) (at : page_in a.table from other ≡ Some y) (away : IsAway (state_of a) s from other) where
  abbrev z : ℕ
  z = a.table.zero_frame

  abbrev f : ℕ
  f = y.entry.frame

  held : holding_at (ledger_of a.table) s p ≡ Some (holding_of z x)
  held = books_there holding_of a.table s p x there

  -- the frame of a page in the state
  frame_there : (q r : ℕ) (w : PageView) → page_in a.table q r ≡ Some w → frame_in (state_of a) q r ≡ Some w.entry.frame
  unfolding page_state
  frame_there q r w e = ap (option_map (λ (v : PageState). v.entry.frame)) (state_page_there a q r w e)

  on_zero : frame_in (state_of a) from other ≡ Some (state_of a).zero_frame → f ≡ z
  on_zero e = same_Some _ _ (sym (frame_there from other y at) ∙ e) ∙ state_zero a

  nowhere : ((page : ℕ) → frame_in (state_of a) s page ≡ frame_in (state_of a) from other → ⊥) → (r : ℕ) (w : PageView) → page_in a.table s r ≡ Some w → w.entry.frame ≡ f → ⊥
  nowhere none r w e same = none r (frame_there s r w e ∙ ap Some same ∙ sym (frame_there from other y at))

  named : IsOthers a.table s p f
  named = elim away [
    | inl zero ↦ inl (on_zero zero)
    | inr none ↦ inr (from, other, y, (λ ss pp. nowhere none p y ((λ i. page_in a.table (sym ss i) (sym pp i)) ∙ at) refl), at, refl)
  ]

  pub free_for : IsFreeFor a.table s p f
  free_for = elim away [
    | inl zero ↦ inl (on_zero zero)
    | inr none ↦ inr (λ q w e same. absurd (nowhere none q w e same))
  ]

  -- What becomes of the ledger.

  abbrev books_old : Ledger
  books_old = ledger_of a.table

  abbrev rest : Ledger
  rest = without_page (ledger_of a.table) s p

  lonely : is_unused rest (origin_of z x.entry.frame) ≡ true
  lonely = sym (alone_is books_old s p (holding_of z x) held) ∙ alone

  -- the other page's origin is 0, or had without this page
  used : is_unused rest (origin_of z f) ≡ false
  used = not_true _ (λ unused.
      let parts = unused_parts rest (origin_of z f) unused in
      elim named [
        | inl zero ↦ true≢false (sym (are (origin_of z f) 0 (ap (λ b. cond b 0 (f + 1)) (are f z zero))) ∙ parts.0)
        | inr w ↦
            let had = Rattle.ledger.specs.AloneLaws.origin_of rest w.0 w.1 (holding_of z w.2) (gone_other books_old s p w.0 w.1 w.3 ∙ books_there holding_of a.table w.0 w.1 w.2 w.4) in
            true≢false (sym (ap (λ n. has_origin rest (origin_of z n)) w.5 ∙ had) ∙ parts.1)
      ])

  -- the page's own is another one
  other_origin : nat_eq (origin_of z f) (origin_of z x.entry.frame) ≡ false
  other_origin = not_true _ (λ same.
      let parts = unused_parts rest (origin_of z x.entry.frame) lonely in
      let equal : origin_of z f ≡ origin_of z x.entry.frame = grind (arith, nat_tests) in
      let frames = frames_of z f x.entry.frame equal (ap (λ n. nat_eq n 0) equal ∙ parts.0) in
      alone_other a.table s p x there alone f named frames.0)

  module _ (table : LedgerView) (table_is : table ≡ with_frame a.table s p f) where
    abbrev placed : PageView
    placed = record { entry = record { perms = x.entry.perms; frame = f }; overlay = None }

    table_now : table ≡ set_page a.table s p (Some placed)
    unfolding with_frame
    table_now =
        table_is ∙ changed_there (λ (w : PageView). record { entry = record { perms = w.entry.perms; frame = f }; overlay = w.overlay }) a.table s p x there
        ∙ ap (put_page a.table s p) (λ i. record { entry = record { perms = x.entry.perms; frame = f }; overlay = bare i }) ∙ sym (set_some a.table s p placed)

    books_now : ledger_of table ≡ with_page books_old s p (holding_of z placed)
    books_now = ap ledger_of (table_now ∙ set_some a.table s p placed) ∙ books_put_page holding_of a.table s p placed

    zero_same : table.zero_frame ≡ z
    zero_same = ap (λ (v : LedgerView). v.zero_frame) table_now ∙ (keeps_page_set a.table s p (Some placed) (there_space a.table s p x there)).zero_frame

    left : is_unused (ledger_of table) (origin_of table.zero_frame x.entry.frame) ≡ true
    left =
        let parts = unused_parts rest (origin_of z x.entry.frame) lonely in
        (λ i. is_unused (books_now i) (origin_of (zero_same i) x.entry.frame))
        ∙ unused_from (with_page books_old s p (holding_of z placed)) (origin_of z x.entry.frame) parts.0
        (origin_with books_old s p (holding_of z placed) (origin_of z x.entry.frame) ∙ (λ i. other_origin i || parts.1 i))

    -- its own frame is given up
    pub own_freed : (freed : Option ℕ) → freed ≡ given_up table (page_in a.table s p) → freed ≡ Some x.entry.frame
    own_freed freed e = e ∙ ap (given_up table) there ∙ given_as table x ∙ ap (λ b. cond b (Some x.entry.frame) None) left

    units_now : units (ledger_of table) + 16 ≡ units books_old
    unfolding frame_for
    units_now =
        let changes = units_changed books_old s p (holding_of z x) (holding_of z placed) held in
        let none : class (length (lines_of x.overlay)) ≡ 0 = ap (λ (o : Option Entry). class (length (lines_of o))) bare ∙ class_none in
        let before : frame_for (is_alone books_old s p) ≡ 16 = ap frame_for alone in
        let after : frame_for (is_unused rest (origin_of z f)) ≡ 0 = ap frame_for used in
        omega (arith, ap units books_now, changes, none, before, after, class_none)

    pub now_there : page_in table s p ≡ Some placed
    now_there = ap (λ (v : LedgerView). page_in v s p) (table_now ∙ set_some a.table s p placed) ∙ page_put_here a.table s p placed s p refl refl

    pub now_bare : overlay_at table s p ≡ None
    now_bare = ap (option_and_then (λ (w : PageView). w.overlay)) now_there

    module _ (store : Store) (leaves : LeavesStore a.store store x.entry.frame true) where
      kept : (frame : ℕ) → IsFrame a.store frame → IsOthers a.table s p frame → KeepsFrame a.store store frame
      kept frame g others = leaves.frames frame (λ gives same. alone_other a.table s p x there alone frame others same) g

      theirs : KeepsFrame a.store store f
      theirs = kept f (is.held from other y at).frame named

      both : IsJoined (view_of store table) × (state_of (view_of store table) ≡ put_page (state_of a) s p (page_state store placed))
      unfolding set_page frame_for
      both = stepped a (view_of store table) s p (Some (record { entry = x.entry; overlay = None })) (Some placed) is (record {
        there = there_space a.table s p x there;
        low = (is.held s p x there).low;
        was = there ∙ (λ i. Some (record { entry = x.entry; overlay = bare i }));
        table_is = table_now;
        segments = segments_bare a.store store s p leaves.same leaves.segments (leaves.settled is.blocks) leaves.whole leaves.store;
        frames = kept;
        frame = λ w same. subst (λ (v : PageView). IsFrame store v.entry.frame) (same_Some placed w same) theirs.stays;
        count = omega (arith, is.count, units_now, leaves.free, leaves.whole);
      })

      page_is : page_state store placed ≡ moved_to (page_state a.store x) (page_state a.store y).base (page_state a.store y).entry.frame
      unfolding page_state
      page_is =
          let lines = lines_same (frame_line store f) (frame_line a.store f) theirs.lines in
          λ i. record { entry = record { perms = x.entry.perms; frame = f }; own = []; lines = lines i; base = lines i }

      pub changed : IsJoined (view_of store table)
          × IfSome (page_in (state_of a) from other) (λ w. state_of (view_of store table) ≡ altered_page (λ v. moved_to v w.base w.entry.frame) (state_of a) s p)
      changed = (
        both.0,
        subst (λ o. IfSome o (λ (w : PageState). state_of (view_of store table) ≡ altered_page (λ v. moved_to v w.base w.entry.frame) (state_of a) s p)) (sym (state_page_there a from other y at))
            (both.1 ∙ ap (put_page (state_of a) s p) page_is
            ∙ sym (changed_there (λ (v : PageState). moved_to v (page_state a.store y).base (page_state a.store y).entry.frame) (state_of a) s p (page_state a.store x) (state_page_there a s p x there))),
      )

      pub fewer : units_of (state_of (view_of store table)) + 16 ≡ units_of (state_of a)
      fewer = omega (arith, units_now, ap units (state_books (view_of store table)), ap units (state_books a))

-- The same of a page that is there, with the frame that is known.
module _ (a : MemoryView) (s p from other frame : ℕ) (is : IsJoined a) (there : IsSome (page_in a.table s p)) (bare : overlay_at a.table s p ≡ None)
    (alone : is_alone (ledger_of a.table) s p ≡ true) (theirs : IsSome (page_in a.table from other)) (away : IsAway (state_of a) s from other)
    (frame_is : frame_at a.table from other ≡ Some frame) where
  abbrev mine : Has a.table s p None
  mine = page_with a.table s p there None bare

  abbrev onto : Has a.table from other (overlay_at a.table from other)
  onto = page_with a.table from other theirs (overlay_at a.table from other) refl

  looked_up : onto.x.entry.frame ≡ frame
  looked_up = page_frame a.table from other onto.x frame onto.there frame_is

  pub change_inside : frame < a.table.frames
  change_inside = omega (arith, frame_inside a.store is.store onto.x.entry.frame (is.held from other onto.x onto.there).frame, is.frames, looked_up)

  pub change_free : IsFreeFor a.table s p frame
  change_free = subst (IsFreeFor a.table s p) looked_up (free_for a s p from other mine.x onto.x is mine.there mine.is alone onto.there away)

  module _ (table : LedgerView) (table_is : table ≡ with_frame a.table s p frame) where
    framed : table ≡ with_frame a.table s p onto.x.entry.frame
    framed = table_is ∙ ap (with_frame a.table s p) (sym looked_up)

    pub change_there : IsSome (page_in table s p)
    change_there = ap is_some (now_there a s p from other mine.x onto.x is mine.there mine.is alone onto.there away table framed)

    pub change_bare : overlay_at table s p ≡ None
    change_bare = now_bare a s p from other mine.x onto.x is mine.there mine.is alone onto.there away table framed

    module _ (freed : Option ℕ) (freed_is : freed ≡ given_up table (page_in a.table s p)) where
      own : freed ≡ Some mine.x.entry.frame
      own = own_freed a s p from other mine.x onto.x is mine.there mine.is alone onto.there away table framed freed freed_is

      pub change_some : freed ≡ None → ⊥
      change_some none = none-some mine.x.entry.frame (sym none ∙ own)

      module _ (given : ℕ) (some : freed ≡ Some given) where
        given_is : mine.x.entry.frame ≡ given
        given_is = same_Some _ _ (sym own ∙ some)

        pub change_taken : IsFrame a.store given
        change_taken = subst (IsFrame a.store) given_is (is.held s p mine.x mine.there).frame

        module _ (store : Store) (leaves : LeavesStore a.store store given true) where
          left_so : LeavesStore a.store store mine.x.entry.frame true
          left_so = subst (λ f. LeavesStore a.store store f true) (sym given_is) leaves

          pub change_state : IsJoined (view_of store table)
              × IfSome (page_in (state_of a) from other) (λ w. state_of (view_of store table) ≡ altered_page (λ v. moved_to v w.base w.entry.frame) (state_of a) s p)
          change_state = changed a s p from other mine.x onto.x is mine.there mine.is alone onto.there away table framed store left_so

          pub change_units : units_of (state_of (view_of store table)) + 16 ≡ units_of (state_of a)
          change_units = fewer a s p from other mine.x onto.x is mine.there mine.is alone onto.there away table framed store left_so

-- It isn't that page itself.
pub not_itself : (a : MemoryView) (s p from other : ℕ) → IsSome (page_in a.table s p) → is_alone (ledger_of a.table) s p ≡ true → IsAway (state_of a) s from other
    → from ≡ s → other ≡ p → ⊥
unfolding page_state
not_itself a s p from other there alone away ss pp =
    let has = page_with a.table s p there (overlay_at a.table s p) refl in
    let here = ap (option_map (λ (v : PageState). v.entry.frame)) (state_page_there a s p has.x has.there) in
    elim away [
      | inl zero ↦ alone_other a.table s p has.x has.there alone has.x.entry.frame (inl (same_Some _ _ (sym here ∙ (λ i. frame_in (state_of a) (sym ss i) (sym pp i)) ∙ zero) ∙ state_zero a)) refl
      | inr none ↦ none p (λ i. frame_in (state_of a) (sym ss i) (sym pp i))
    ]

-- What the steps come to: the page's overlay ended, the page came onto another frame, and an overlay of lines came back.
module _ (st one two : State) (s p from other : ℕ) (x y : PageState) (there : page_in st s p ≡ Some x) (at : page_in st from other ≡ Some y)
    (differs : from ≡ s → other ≡ p → ⊥) (first : one ≡ altered_page discarded st s p)
    (second : IfSome (page_in one from other) (λ w. two ≡ altered_page (λ v. moved_to v w.base w.entry.frame) one s p)) where
  one_is : one ≡ put_page st s p (discarded x)
  one_is = first ∙ changed_there discarded st s p x there

  other_still : page_in one from other ≡ Some y
  other_still = ap (λ v. page_in v from other) one_is ∙ page_put_beside st s p (discarded x) from other differs ∙ at

  two_is : two ≡ put_page st s p (moved_to (discarded x) y.base y.entry.frame)
  two_is =
      subst (λ o. IfSome o (λ (w : PageState). two ≡ altered_page (λ v. moved_to v w.base w.entry.frame) one s p)) other_still second
      ∙ ap (λ v. altered_page (λ (w : PageState). moved_to w y.base y.entry.frame) v s p) one_is
      ∙ changed_there (λ (w : PageState). moved_to w y.base y.entry.frame) (put_page st s p (discarded x)) s p (discarded x) (page_put_here st s p (discarded x) s p refl refl)
      ∙ page_over st s p (discarded x) (moved_to (discarded x) y.base y.entry.frame)

  -- the frame that was given up has room for any overlay
  pub two_fits : units_of one ≤ limit_of one → units_of two + 16 ≡ units_of one → (n : ℕ) → units_of two + class n ≤ limit_of two
  two_fits fits fewer n =
      let limit = ap limit_of (subst (λ o. IfSome o (λ (w : PageState). two ≡ altered_page (λ v. moved_to v w.base w.entry.frame) one s p)) other_still second)
      ∙ altered_limit (λ (w : PageState). moved_to w y.base y.entry.frame) one s p (discarded x) (ap (λ v. page_in v s p) one_is ∙ page_put_here st s p (discarded x) s p refl refl) in
      omega (arith, fits, fewer, class_most n, limit)

  module _ (three : State) (bits : List ℕ) (given : ℕ → List ℕ) (third : three ≡ altered_page (given_page bits given) two s p)
      (whole : page_lines (line_in_page x.lines) ≡ x.lines) (given_is : (i : ℕ) → i < 64 → has_line bits i ≡ true → given i ≡ line_in_page x.lines i) (sees : SeesFrame bits x y) where
    each : (i : ℕ) → i < 64 → cond (has_line bits i) (given i) (line_in_page y.base i) ≡ line_in_page x.lines i
    each i low = by_test (has_line bits i)
        (λ has. ap (λ b. cond b (given i) (line_in_page y.base i)) has ∙ given_is i low has)
        (λ lacks. ap (λ b. cond b (given i) (line_in_page y.base i)) lacks ∙ sym (sees i low lacks))

    page_rebased : given_page bits given (moved_to (discarded x) y.base y.entry.frame) ≡ rebased_page bits y x
    page_rebased =
        let lines = lines_same (λ i. cond (has_line bits i) (given i) (line_in_page y.base i)) (line_in_page x.lines) each ∙ whole in
        λ i. record { entry = record { perms = x.entry.perms; frame = y.entry.frame }; own = bits; lines = lines i; base = y.base }

    pub three_is : IsRebased st three s p from other bits
    three_is = subst (λ o. IfSome o (λ (w : PageState). three ≡ altered_page (rebased_page bits w) st s p)) (sym at)
        (third ∙ ap (λ v. altered_page (given_page bits given) v s p) two_is
        ∙ changed_there (given_page bits given) (put_page st s p (moved_to (discarded x) y.base y.entry.frame)) s p (moved_to (discarded x) y.base y.entry.frame)
        (page_put_here st s p (moved_to (discarded x) y.base y.entry.frame) s p refl refl)
        ∙ page_over st s p (moved_to (discarded x) y.base y.entry.frame) (given_page bits given (moved_to (discarded x) y.base y.entry.frame))
        ∙ ap (put_page st s p) page_rebased ∙ sym (changed_there (rebased_page bits y) st s p x there))

-- What the first step leaves.
module _ (a v : MemoryView) (s p : ℕ) (there : IsSome (page_in a.table s p)) (is : IsJoined v) (same : state_of v ≡ altered_page discarded (state_of a) s p) where
  abbrev was : Has a.table s p (overlay_at a.table s p)
  was = page_with a.table s p there (overlay_at a.table s p) refl

  abbrev page : PageState
  page = page_state a.store was.x

  page_there : page_in (state_of a) s p ≡ Some page
  page_there = state_page_there a s p was.x was.there

  after_is : state_of v ≡ put_page (state_of a) s p (discarded page)
  after_is = same ∙ changed_there discarded (state_of a) s p page page_there

  keeps : KeepsSpaces (state_of a) (put_page (state_of a) s p (discarded page))
  keeps = keeps_page_put (state_of a) s p (discarded page) (there_space (state_of a) s p page page_there)

  after_page : page_in (state_of v) s p ≡ Some (discarded page)
  after_page = ap (λ st. page_in st s p) after_is ∙ page_put_here (state_of a) s p (discarded page) s p refl refl

  pub after_there : IsSome (page_in v.table s p)
  after_there = sym (state_page_some v s p) ∙ ap is_some after_page

  pub after_bare : overlay_at v.table s p ≡ None
  after_bare = bare_by v s p is (discarded page) after_page refl after_there

  pub after_alone : is_alone (ledger_of a.table) s p ≡ true → is_alone (ledger_of v.table) s p ≡ true
  after_alone alone =
      ap (λ (l : Ledger). is_alone l s p) (sym (state_books v) ∙ ap books after_is ∙ books_put_page held_page (state_of a) s p (discarded page))
      ∙ alone_same (books (state_of a)) s p (held_page (state_of a).zero_frame page) (held_page (state_of a).zero_frame (discarded page)) (books_there held_page (state_of a) s p page page_there) refl s p
      ∙ ap (λ (l : Ledger). is_alone l s p) (state_books a) ∙ alone

  pub after_awaits : (space_in a.table s).awaiting ≡ empty → (space_in v.table s).awaiting ≡ empty
  after_awaits none = sym (state_awaiting v s) ∙ ap (λ (st : State). (space_in st s).awaiting) after_is ∙ keeps.awaiting s ∙ state_awaiting a s ∙ none

  after_frame : (q r : ℕ) → frame_in (state_of v) q r ≡ frame_in (state_of a) q r
  after_frame q r =
      ap (λ (st : State). frame_in st q r) after_is
      ∙ by_place s p q r
      (λ ss pp. ap (option_map (λ (x : PageState). x.entry.frame)) (page_put_here (state_of a) s p (discarded page) q r ss pp)
      ∙ sym (ap (option_map (λ (x : PageState). x.entry.frame)) ((λ i. page_in (state_of a) (ss i) (pp i)) ∙ page_there)))
      (λ d. ap (option_map (λ (x : PageState). x.entry.frame)) (page_put_beside (state_of a) s p (discarded page) q r d))

  -- the frames of pages, and the entry of that page
  pub after_framed : (q r frame : ℕ) → frame_at a.table q r ≡ Some frame → frame_at v.table q r ≡ Some frame
  unfolding page_state
  after_framed q r frame is =
      sym (ap (option_map (λ (x : PageState). x.entry.frame)) (state_page v q r) ∙ map_twice (λ (x : PageState). x.entry.frame) (page_state v.store) (λ (x : PageView). x.entry.frame) (page_in v.table q r) (λ x _. refl))
      ∙ after_frame q r
      ∙ ap (option_map (λ (x : PageState). x.entry.frame)) (state_page a q r) ∙ map_twice (λ (x : PageState). x.entry.frame) (page_state a.store) (λ (x : PageView). x.entry.frame) (page_in a.table q r) (λ x _. refl)
      ∙ is

  pub after_entry : (e : PageEntry) → Some e ≡ option_map (λ (x : PageView). x.entry) (page_in a.table s p) → Some e ≡ option_map (λ (x : PageView). x.entry) (page_in v.table s p)
  unfolding page_state
  after_entry e is =
      is ∙ ap (option_map (λ (x : PageView). x.entry)) was.there
      ∙ sym (ap (option_map (λ (x : PageState). x.entry)) (sym (state_page v s p) ∙ after_page))
      ∙ map_twice (λ (x : PageState). x.entry) (page_state v.store) (λ (x : PageView). x.entry) (page_in v.table s p) (λ x _. refl)

  pub after_theirs : (from other : ℕ) → IsSome (page_in a.table from other) → IsSome (page_in v.table from other)
  after_theirs from other some =
      sym (state_page_some v from other) ∙ sym (map_some (λ (x : PageState). x.entry.frame) (page_in (state_of v) from other)) ∙ ap is_some (after_frame from other)
      ∙ map_some (λ (x : PageState). x.entry.frame) (page_in (state_of a) from other) ∙ state_page_some a from other ∙ some

  pub after_away : (from other : ℕ) → IsAway (state_of a) s from other → IsAway (state_of v) s from other
  after_away from other away = elim away [
    | inl zero ↦ inl (after_frame from other ∙ zero ∙ ap Some (sym (ap (λ (st : State). st.zero_frame) after_is ∙ keeps.zero_frame)))
    | inr none ↦ inr (λ q e. none q (sym (after_frame s q) ∙ e ∙ after_frame from other))
  ]

-- the lines of a page are those of it
pub whole_lines : (v : MemoryView) (s p : ℕ) (x : PageState) → page_in (state_of v) s p ≡ Some x → page_lines (line_in_page x.lines) ≡ x.lines
unfolding page_state
whole_lines v s p x at = map_from (page_state v.store) (page_in v.table s p) x (sym (state_page v s p) ∙ at) (λ y there same.
    ap (λ (w : PageState). page_lines (line_in_page w.lines)) (sym same)
    ∙ lines_same (line_in_page (page_lines (line_seen v.store y))) (line_seen v.store y) (λ i low. line_at (line_seen v.store y) i low)
    ∙ ap (λ (w : PageState). w.lines) same)

-- All of it, from what the calls ensure.
module _ (a v : MemoryView) (s p : ℕ) (there : IsSome (page_in a.table s p)) (is : IsJoined v) (same : state_of v ≡ altered_page discarded (state_of a) s p) where
  abbrev first : PageState
  first = page a v s p there is same

  module _ (from other : ℕ) (alone : is_alone (ledger_of a.table) s p ≡ true) (theirs : IsSome (page_in a.table from other)) (away : IsAway (state_of a) s from other) (two : State)
      (second : IfSome (page_in (state_of v) from other) (λ w. two ≡ altered_page (λ u. moved_to u w.base w.entry.frame) (state_of v) s p)) where
    abbrev target : Has a.table from other (overlay_at a.table from other)
    target = page_with a.table from other theirs (overlay_at a.table from other) refl

    abbrev other_page : PageState
    other_page = page_state a.store target.x

    other_there : page_in (state_of a) from other ≡ Some (page_state a.store target.x)
    other_there = state_page_there a from other target.x target.there

    pub rebase_fits : units_of two + 16 ≡ units_of (state_of v) → (n : ℕ) → units_of two + class n ≤ limit_of two
    rebase_fits fewer n =
        two_fits (state_of a) (state_of v) two s p from other first other_page (page_there a v s p there is same) other_there (not_itself a s p from other there alone away) same second
        (omega (arith, free_is v is)) fewer n

    pub rebase_state : (three : State) (bits : List ℕ) (kept : List (List ℕ)) → three ≡ altered_page (given_page bits (by_rank bits kept)) two s p → AreKept (state_of a) s p bits kept
        → ((x y : PageState) → page_in (state_of a) s p ≡ Some x → page_in (state_of a) from other ≡ Some y → SeesFrame bits x y) → IsRebased (state_of a) three s p from other bits
    rebase_state three bits kept third are sees =
        three_is (state_of a) (state_of v) two s p from other first other_page (page_there a v s p there is same) other_there (not_itself a s p from other there alone away) same second
        three bits (by_rank bits kept) third (whole_lines a s p first (page_there a v s p there is same)) (are first (page_there a v s p there is same))
        (sees first other_page (page_there a v s p there is same) other_there)

use Rattle.space_ledger.proofs.Common.{◌≡◌, ℕ, zero, suc, ◌+◌, ◌-◌, ◌*◌, ◌^◌, ◌≤◌, ◌<◌, ◌⊎◌, Bool, true, false, cond, Option, Some, None, is_some, IfSome, IsSome, Result, Ok, Err, OnOk, OnErr, refl, option_map, option_and_then, nat_cmp, sym, ap, subst, ◌∙◌, arith, inl, inr, nat_tests, nat_eq, nat_cmp_total, FinMap, empty, get, get-empty, insert, len, len-empty, len-insert, len-remove, remove, FRAME_UNITS, LAST_SPACE, PAGE_END, same_Some}
use Rattle.space_ledger.proofs.Pages.{alike, by_key, get_other, get_same, insert_kept, removed_other, get_viewed, viewed, viewed_empty, viewed_gone, viewed_put, AreTakenOut, IsPut, holds, Pages, is_within, entry_at, PageEntry, PageRun, overlay_page, space_of, same_page, Entry, HasRoomFor}
use Rattle.space_ledger.proofs.Views.{are, arent, by_test, map_alike, none_by, Spaces, bare_space, cut_page, cut_pages, cut_space, holds_space, page_in, put_awaiting, put_mark, put_page, put_pages, put_shared, put_space, space_in, ArePut, are_put, beside_space, changed_there, in_space, keeps_put, page_absent, page_of, same_spaces, space_over, space_put, space_there, spaces_alike, mapped, mapped_bare, mapped_cut, mapped_cut_pages, mapped_none, mapped_put, mapped_space, Inside, AreNotOverlaid, HasMapped, OverlaidSpace, SpaceTable, adopted, awaited, marked, run_awaited, with_entry, without_pages, LedgerView, PageView, SpaceView, with_entry_at, with_overlay, with_run_shared, with_zero_pages, AreBare, ArePagesFree, IsLined, AreTables, Overlays, plain, put_over, seen, seen_page, tables_of}
use Rattle.overlay_address.specs.Names.{page_of as page_named}
use Rattle.overlay_mapping_table.specs.Table.{NamedEntries}
use Rattle.space_ledger.specs.Space.{without_page}
use Rattle.space_ledger.proofs.Seen.{Shows, absent_is, awaiting_is, bare_at, empty_in, entry_at as entry_is, entry_there, found, held_at, low_is, mark_is, none_placed, overlay_is, page_at, plain_at, plain_some, some_is, space_is, there_is}
use Rattle.space_ledger.proofs.Keys.{gone_at, put_at}
use Rattle.space_ledger.proofs.RunParts.{pages_run}
use Rattle.space_ledger.proofs.Removing.{without_at}
use Rattle.space_ledger.proofs.Changing.{AreBeside, IsChange, WasAt, changed, made}

-- What each call on the tables makes of the view.

-- A range of one page.

within_one : (p q : ℕ) → is_within p 1 q ≡ true → q ≡ p
within_one p q within = grind (arith, nat_tests)

beside_one : (p q : ℕ) → is_within p 1 q ≡ false → q ≡ p → ⊥
beside_one p q out same = grind (arith, nat_tests)

-- An overlay put in the place of that of a name, or taken away.

over_at : (old : Overlays) (n : ℕ) (o : Option Entry) (m : ℕ) → get (put_over old n o) m ≡ cond (nat_eq m n) o (get old m)
over_at old n None m = gone_at old n m
over_at old n (Some e) m = put_at old n e m

over_most : (old : Overlays) (n most : ℕ) (o : Option Entry) → len old ≤ most → IfSome o (λ e. IsSome (get old n) ⊎ (len old < most)) → len (put_over old n o) ≤ most
over_most old n most None le room = let less = len-remove nat_cmp_total old n in grind (arith, nat_tests, less)
over_most old n most (Some e) le room = let more = len-insert nat_cmp_total old n e in grind (arith, nat_tests, more, room)

-- Runs of pages that go, and that await no more, as a space put in.

cut_as : (k from : ℕ) (v : Spaces PageEntry) (s : ℕ) → holds_space v s ≡ true → cut_pages v s from k ≡ put_space v s (without_pages (space_in v s) from k)
unfolding cut_pages without_pages cut_page
cut_as zero from v s has = sym (same_spaces v s has)
cut_as (suc k) from v s has =
    let mid = without_pages (space_in v s) from k in
    ap (λ w. cut_page w s (from + k)) (cut_as k from v s has) ∙ ap (λ m. put_space (put_space v s mid) s (without_page m (from + k))) (space_put v s mid s refl)
    ∙ space_over v s mid (without_page mid (from + k))

shared_as : (f : ℕ → PageEntry → PageView) (v : LedgerView) (s : ℕ) (x : SpaceTable) (run : PageRun) → holds_space v s ≡ true → space_in v s ≡ mapped_space f x
    → (k : ℕ) → ((i : ℕ) → i < k → (f (run.page + i) (entry_at run i)).overlay ≡ None) → ((p : ℕ) (e : PageEntry) → (f p e).entry ≡ e)
    → with_run_shared v s run k ≡ put_space v s (mapped_space f (run_awaited x run k))
unfolding with_run_shared run_awaited put_shared
shared_as f v s x run has is zero bare entry = sym (same_spaces v s has) ∙ ap (put_space v s) is
shared_as f v s x run has is (suc k) bare entry =
    let mid = mapped_space f (run_awaited x run k) in
    let p = run.page + k in
    let e = entry_at run k in
    let page : ◌≡◌ {A = PageView} (record { entry = e; overlay = None }) (f p e) = λ i. record { entry = sym (entry p e) i; overlay = sym (bare k (omega arith)) i } in
    ap (λ w. put_shared w s p (record { entry = e; overlay = None })) (shared_as f v s x run has is k (λ i low. bare i (omega (arith, low))) entry)
    ∙ ap (λ (m : SpaceView). put_space (put_space v s mid) s (record { pages = insert m.pages p (record { entry = e; overlay = None }); awaiting = remove m.awaiting p; speculating = m.speculating })) (space_put v s mid s refl)
    ∙ space_over v s mid _
    ∙ ap (λ (m : FinMap nat_cmp PageView). put_space v s (record { pages = m; awaiting = remove mid.awaiting p; speculating = mid.speculating }))
    (ap (insert mid.pages p) page ∙ sym (viewed_put f (run_awaited x run k).pages p e))

-- no page is in a range of none
no_range : (q : ℕ) → is_within 0 0 q ≡ false
no_range q = grind (arith, nat_tests)

nowhere : (P : ℕ → Type 0) (q : ℕ) → is_within 0 0 q ≡ true → P q
nowhere P q within = let no = sym within ∙ no_range q in cc

module _ {t : Inside} {v : LedgerView} (show : Shows t v) (s : ℕ) where
  -- with the overlays as they are
  same_overlays : (from n : ℕ) → AreBeside t s from n t.overlays
  same_overlays from n = record { others = λ m. inl refl; lined = show.own.lined; room = refl; most = show.own.most }

  -- a space without a page, where there was none, or one without a page
  pub empty_made : (y : OverlaidSpace) (w : LedgerView) → s ≤ LAST_SPACE → ((q : ℕ) → page_in v s q ≡ None) → y.table.pages ≡ empty
      → w ≡ put_space v s (mapped_space (seen_page t.overlays.entries s) y.table) → Shows (made t s y t.overlays) w
  empty_made y w number none pages is = changed show {x = y}
      (record {
        number = number;
        pages = λ q. none_by (page_in (plain t) s q) (sym (plain_some show.is show.own s q) ∙ ap is_some (none q)) ∙ sym (no_page q);
        shown = λ q some. let no = sym some ∙ ap is_some (no_page q) in cc;
      })
      (same_overlays 0 0) (record { is = is; inside = nowhere _; beside = λ q out. (refl, λ some. refl) })
    where
      no_page : (q : ℕ) → get y.table.pages q ≡ None
      no_page q = ap (λ (m : Pages). get m q) pages ∙ get-empty nat_cmp q

  pub added_made : (y : OverlaidSpace) → holds_space v s ≡ false → s ≤ LAST_SPACE → y.table ≡ bare_space → Shows (made t s y t.overlays) (put_space v s bare_space)
  added_made y absent low is = empty_made y (put_space v s bare_space) low
      (λ q. page_absent v s q (none_by (get v.spaces s) absent)) (ap (λ (k : SpaceTable). k.pages) is)
      (ap (put_space v s) (sym (mapped_bare (seen_page t.overlays.entries) (seen_page t.overlays.entries s)) ∙ ap (mapped_space (seen_page t.overlays.entries s)) (sym is)))

  -- one without a page taken away
  pub lost_made : (space_in v s).pages ≡ empty → Shows (record t { spaces = remove t.spaces s }) (cut_space v s)
  unfolding seen cut_space tables_of
  lost_made none = record {
    is = ap (λ m. mapped (seen_page t.overlays.entries) (record { spaces = m; frames = t.frames; zero_frame = t.zero })) (viewed_gone (λ (k : ℕ) (x : OverlaidSpace). x.table) t.spaces s)
        ∙ mapped_cut (seen_page t.overlays.entries) (plain t) s ∙ ap (λ (w : LedgerView). cut_space w s) show.is;
    own = record {
      numbers = λ r some. let own = show.own.numbers r in grind (arith, nat_tests, gone_at, own, some);
      pages = λ r q z there some. let own = show.own.pages r q z in grind (arith, nat_tests, gone_at, own, there, some);
      placed = λ m some.
          let old = show.own.placed m some in
          let z = found t (space_of m) (page_named m) old.1 in (
            old.0,
            by_key (space_of m) s
                (λ same.
                let no = sym old.1 ∙ sym (plain_some show.is show.own (space_of m) (page_named m)) ∙ ap (λ k. is_some (page_in v k (page_named m))) same
                ∙ ap is_some (page_of v s (page_named m) ∙ ap (λ n. get n (page_named m)) none ∙ get-empty {X = PageView} nat_cmp (page_named m)) in cc)
                (λ d. ap is_some (plain_at (record t { spaces = remove t.spaces s }) (space_of m) z.0 (removed_other t.spaces s (space_of m) d ∙ z.1) (page_named m)) ∙ z.2),
          );
      lined = show.own.lined;
      roomy = show.own.roomy;
      most = show.own.most;
    };
  }

-- no space at all
pub seen_none : (t : Inside) → t.spaces ≡ empty → (seen t).spaces ≡ empty
unfolding seen tables_of
seen_none t none = mapped_none (seen_page t.overlays.entries) (plain t) (ap (viewed (λ (k : ℕ) (x : OverlaidSpace). x.table)) none ∙ viewed_empty (λ (k : ℕ) (x : OverlaidSpace). x.table))

pub none_kept : (t : Inside) → t.spaces ≡ empty → t.overlays.entries ≡ empty → t.overlays.room ≡ FRAME_UNITS * t.frames → AreTables t
none_kept t none entries roomy = record {
  numbers = λ q some. let no = sym some ∙ ap (λ m. is_some (get m q)) none ∙ ap is_some (get-empty {X = OverlaidSpace} nat_cmp q) in cc;
  pages = λ s q x at some. let no = ap is_some (sym at ∙ ap (λ m. get m s) none ∙ get-empty {X = OverlaidSpace} nat_cmp s) in cc;
  placed = λ m some. let no = sym some ∙ ap is_some (nothing m) in cc;
  lined = λ m e at. let no = ap is_some (sym at ∙ nothing m) in cc;
  roomy = roomy;
  most = let none = ap len entries ∙ len-empty nat_cmp Entry in omega (arith, none);
}
  where
    nothing : (m : ℕ) → get t.overlays.entries m ≡ None
    nothing m = ap (λ k. get k m) entries ∙ get-empty nat_cmp m

module _ {t : Inside} {v : LedgerView} (show : Shows t v) (s : ℕ) (x y : OverlaidSpace) (at : Some x ≡ get t.spaces s) where
  has : holds_space v s ≡ true
  has = there_is show.is show.own s x at

  was : WasAt t s x
  was = record { number = show.own.numbers s (ap is_some (sym at)); pages = plain_at t s x (sym at); shown = λ q some. show.own.pages s q x (sym at) some }

  abbrev seen_by : ℕ → PageEntry → PageView
  seen_by = seen_page t.overlays.entries s

  -- a change whose pages have no overlays
  bare : (from n : ℕ) (w : LedgerView) → w ≡ put_space v s (mapped_space (seen_page t.overlays.entries s) y.table)
      → ((q : ℕ) → is_within from n q ≡ true → (q < PAGE_END) × (get t.overlays.entries (overlay_page s q) ≡ None))
      → ((q : ℕ) → is_within from n q ≡ false → get y.table.pages q ≡ get x.table.pages q) → AreTakenOut x.overlaid from n y.overlaid → Shows (made t s y t.overlays) w
  bare from n w is inside beside cut = changed show was (same_overlays show s from n) (record {
    is = is;
    inside = λ q within.
        let i = inside q within in
        ((i.0, cut q ∙ ap (λ b. cond b false (holds x.overlaid q)) within ∙ sym (ap is_some i.1)), λ some. let no = sym some ∙ ap is_some i.1 in cc);
    beside = λ q out. (ap is_some (beside q out), λ _. cut q ∙ ap (λ b. cond b false (holds x.overlaid q)) out);
  })

  -- one that leaves the pages
  left : (w : LedgerView) → w ≡ put_space v s (mapped_space (seen_page t.overlays.entries s) y.table) → y.table.pages ≡ x.table.pages → y.overlaid ≡ x.overlaid → Shows (made t s y t.overlays) w
  left w is pages same = bare 0 0 w is (nowhere _) (λ q out. ap (λ (m : Pages). get m q) pages)
      (λ q. ap (λ m. holds m q) same ∙ ap (λ b. cond b false (holds x.overlaid q)) (sym (no_range q)))

  pub marked_made : (on : Bool) → y.table ≡ marked x.table on → y.overlaid ≡ x.overlaid → Shows (made t s y t.overlays) (put_mark v s on)
  unfolding put_mark
  marked_made on is same = left (put_mark v s on)
      (ap (λ (k : SpaceView). put_space v s (record { pages = k.pages; awaiting = k.awaiting; speculating = on })) (space_is show.is show.own s x at) ∙ ap (λ k. put_space v s (mapped_space (seen_page t.overlays.entries s) k)) (sym is))
      (ap (λ (k : SpaceTable). k.pages) is) same

  pub still_made : y ≡ x → Shows (made t s y t.overlays) v
  still_made is = left v
      (sym (same_spaces v s has) ∙ ap (put_space v s) (space_is show.is show.own s x at) ∙ ap (λ (k : OverlaidSpace). put_space v s (mapped_space (seen_page t.overlays.entries s) k.table)) (sym is))
      (ap (λ (k : OverlaidSpace). k.table.pages) is) (ap (λ (k : OverlaidSpace). k.overlaid) is)

  pub adopted_made : (given : Pages) → y.table ≡ adopted x.table given → (space_in v s).pages ≡ empty → Shows (made t s y t.overlays) (put_awaiting v s given)
  unfolding put_awaiting
  adopted_made given is none = empty_made show s y (put_awaiting v s given) was.number
      (λ q. page_of v s q ∙ ap (λ m. get m q) none ∙ get-empty nat_cmp q) (ap (λ (k : SpaceTable). k.pages) is)
      (ap (λ (k : SpaceView). put_space v s (record { pages = k.pages; awaiting = given; speculating = k.speculating })) (space_is show.is show.own s x at)
      ∙ ap (λ (m : Pages). put_space v s (mapped_space (seen_page t.overlays.entries s) (record { pages = m; awaiting = given; speculating = x.table.speculating }))) (empty_in show.is show.own s x at none)
      ∙ ap (λ k. put_space v s (mapped_space (seen_page t.overlays.entries s) k)) (sym is))

  -- pages without overlays taken away
  pub cut_made : (from n : ℕ) → y.table ≡ without_pages x.table from n → AreTakenOut x.overlaid from n y.overlaid → AreBare v s from n → Shows (made t s y t.overlays) (cut_pages v s from n)
  unfolding seen
  cut_made from n is cut none = bare from n (cut_pages v s from n)
      (ap (λ (w : LedgerView). cut_pages w s from n) (sym show.is) ∙ sym (mapped_cut_pages (seen_page t.overlays.entries) n from (plain t) s)
      ∙ ap (mapped (seen_page t.overlays.entries)) (cut_as n from (plain t) s has_plain ∙ ap (put_space (plain t) s) (ap (λ (k : SpaceTable). without_pages k from n) here ∙ sym is))
      ∙ mapped_put (seen_page t.overlays.entries) (plain t) s y.table ∙ ap (λ (w : LedgerView). put_space w s (mapped_space (seen_page t.overlays.entries s) y.table)) show.is)
      (λ q within. let b = bare_at v s from n none q within in (low_is show.is show.own s q b.0, overlay_is show.is show.own s q b.0 ∙ b.1))
      (λ q out. ap (λ (k : SpaceTable). get k.pages q) is ∙ without_at n from x.table q ∙ ap (λ b. cond b None (get x.table.pages q)) out) cut
    where
      plain_there : get (plain t).spaces s ≡ Some x.table
      plain_there = held_at t.spaces s ∙ ap (option_map (λ (k : OverlaidSpace). k.table)) (sym at)

      has_plain : holds_space (plain t) s ≡ true
      has_plain = ap is_some plain_there

      here : space_in (plain t) s ≡ x.table
      here = space_there (plain t) s x.table plain_there

  -- pages mapped, which weren't there
  pub mapped_made : (from n : ℕ) (e : PageEntry) → HasMapped x.table from n e y.table → y.overlaid ≡ x.overlaid → AreNotOverlaid x.overlaid from n → ArePagesFree v s from n → from + n ≤ PAGE_END
      → Shows (made t s y t.overlays) (with_zero_pages v s from n e)
  unfolding with_zero_pages
  mapped_made from n e mapped same none free low = bare from n (put_pages v s from n page)
      (spaces_alike v (put_pages v s from n page) (put_space v s z) all.keeps
      (keeps_put v s z has (mapped.awaiting ∙ sym (awaiting_is show.is show.own s x at)) (mapped.mark ∙ sym (mark_is show.is show.own s x at))) (λ q r. sym (pages q r)))
      (λ q within. (below q within, nothing q within))
      (λ q out. mapped.pages q ∙ ap (λ b. cond b (Some e) (get x.table.pages q)) out)
      (λ q. ap (λ m. holds m q) same ∙ by_test (is_within from n q)
      (λ within. none q within ∙ ap (λ b. cond b false (holds x.overlaid q)) (sym within)) (λ out. ap (λ b. cond b false (holds x.overlaid q)) (sym out)))
    where
      page : PageView
      page = record { entry = e; overlay = None }

      z : SpaceView
      z = mapped_space (seen_page t.overlays.entries s) y.table

      all : ArePut v (put_pages v s from n page) s from n page
      all = are_put n from v s page has

      below : (q : ℕ) → is_within from n q ≡ true → q < PAGE_END
      below q within = grind (arith, nat_tests)

      nothing : (q : ℕ) → is_within from n q ≡ true → get t.overlays.entries (overlay_page s q) ≡ None
      nothing q within = none_placed show.is show.own s q has (below q within) (free q within)

      here : (r : ℕ) (b : Bool) → is_within from n r ≡ b → option_map (seen_by r) (cond b (Some e) (get x.table.pages r)) ≡ page_in (put_pages v s from n page) s r
      here r true within = ap (λ o. Some (record { entry = e; overlay = o })) (nothing r within) ∙ sym (all.here r within)
      here r false within = sym (page_at show.is show.own s x at r) ∙ sym (all.beside s r (λ _ inside. let no = sym inside ∙ within in cc))

      pages : (q r : ℕ) → page_in (put_space v s z) q r ≡ page_in (put_pages v s from n page) q r
      pages q r = by_key q s
          (λ ss. in_space v s z q r ss ∙ get_viewed seen_by y.table.pages r ∙ ap (option_map (seen_by r)) (mapped.pages r) ∙ here r (is_within from n r) refl
          ∙ ap (λ k. page_in (put_pages v s from n page) k r) (sym ss))
          (λ d. beside_space v s z q r d ∙ sym (all.beside q r (λ ss _. d ss)))

  -- the pages of a run shared
  pub run_made : (run : PageRun) → y.table ≡ run_awaited x.table run run.n → ((i : ℕ) → i < run.n → get x.table.pages (run.page + i) ≡ None) → run.page + run.n ≤ PAGE_END
      → AreTakenOut x.overlaid run.page run.n y.overlaid → Shows (made t s y t.overlays) (with_run_shared v s run run.n)
  run_made run is absent low cut = bare run.page run.n (with_run_shared v s run run.n)
      (shared_as seen_by v s x.table run has (space_is show.is show.own s x at) run.n (λ i few. nothing i few) (λ p e. refl) ∙ ap (λ k. put_space v s (mapped_space (seen_page t.overlays.entries s) k)) (sym is))
      (λ q within. let i = place q within in (i.2, ap (λ k. get t.overlays.entries (overlay_page s k)) (sym i.1) ∙ nothing (q - run.page) i.0))
      (λ q out. ap (λ (k : SpaceTable). get k.pages q) is ∙ (let made = pages_run x.table run run.n q in grind (arith, made, out))) cut
    where
      nothing : (i : ℕ) → i < run.n → get t.overlays.entries (overlay_page s (run.page + i)) ≡ None
      nothing i few = none_placed show.is show.own s (run.page + i) has (omega (arith, few, low)) (absent_is show.is show.own s x at (run.page + i) (absent i few))

      place : (q : ℕ) → is_within run.page run.n q ≡ true → (q - run.page < run.n) × (run.page + (q - run.page) ≡ q) × (q < PAGE_END)
      place q within =
          let from : run.page ≤ q = grind (arith, nat_tests) in
          let to : q < run.page + run.n = grind (arith, nat_tests) in
          (omega (arith, from, to), omega (arith, from), omega (arith, to, low))

  -- One page, with another entry, or with its overlay.

  -- its overlay put in or taken away
  module _ (p : ℕ) (o : Option Entry) (new : NamedEntries) (low : p < PAGE_END) (lined : IfSome o IsLined) (room : IfSome o (λ e. HasRoomFor t.overlays (overlay_page s p)))
      (entries : new.entries ≡ put_over t.overlays.entries (overlay_page s p) o) (same_room : new.room ≡ t.overlays.room) (put : IsPut x.overlaid p (is_some o) y.overlaid) where
    new_at : (m : ℕ) → get new.entries m ≡ cond (nat_eq m (overlay_page s p)) o (get t.overlays.entries m)
    new_at m = ap (λ k. get k m) entries ∙ over_at t.overlays.entries (overlay_page s p) o m

    now : get new.entries (overlay_page s p) ≡ o
    now = grind (arith, nat_tests, new_at)

    others : (m : ℕ) → (m ≡ overlay_page s p → ⊥) → get new.entries m ≡ get t.overlays.entries m
    others m d = grind (arith, nat_tests, new_at, d)

    over_beside : AreBeside t s p 1 new
    over_beside = record {
      others = λ m. by_key m (overlay_page s p) (λ same. inr (p, grind (arith, nat_tests), same)) (λ d. inl (others m d));
      lined = λ m e is. by_key m (overlay_page s p)
          (λ same. subst (λ k. IfSome k IsLined) (sym now ∙ ap (get new.entries) (sym same) ∙ is) lined)
          (λ d. show.own.lined m e (sym (others m d) ∙ is));
      room = same_room;
      most = subst (λ k. len k ≤ new.room) (sym entries) (subst (λ k. len (put_over t.overlays.entries (overlay_page s p) o) ≤ k) (sym same_room) (over_most t.overlays.entries (overlay_page s p) t.overlays.room o show.own.most room));
    }

    -- the pages with it, where the page has an entry
    viewed_over : (e : PageEntry) → viewed (seen_page new.entries s) (insert x.table.pages p e) ≡ insert (viewed seen_by x.table.pages) p (record { entry = e; overlay = o })
    viewed_over e =
        viewed_put (seen_page new.entries s) x.table.pages p e
        ∙ alike _ _ (λ q. by_key q p
        (λ same. get_same _ p q _ same ∙ ap (λ k. Some (record { entry = e; overlay = k })) now ∙ sym (get_same _ p q _ same))
        (λ d. get_other _ p q _ d ∙ get_viewed (seen_page new.entries s) x.table.pages q
        ∙ map_alike (seen_page new.entries s q) (seen_by q) (get x.table.pages q) (λ k is. ap (λ u. record { entry = k; overlay = u })
        (others (overlay_page s q) (λ same. d (same_page s q s p mine (omega (arith, (was.shown q (ap is_some is)).0)) mine (omega (arith, low)) same))))
        ∙ sym (get_viewed seen_by x.table.pages q) ∙ sym (get_other _ p q _ d)))
      where
        mine : s < 2 ^ 15
        mine = let number = was.number in omega (arith, number)

    over_change : (e : PageEntry) (w : LedgerView) → y.table.pages ≡ insert x.table.pages p e → w ≡ put_space v s (mapped_space (seen_page new.entries s) y.table) → IsChange v s p 1 x y new.entries w
    over_change e w pages is = record {
      is = is;
      inside = λ q within. let same = within_one p q within in (
        (
          subst (λ k. k < PAGE_END) (sym same) low,
          put q ∙ ap (λ b. cond b (is_some o) (holds x.overlaid q)) (are p q (sym same)) ∙ ap is_some (sym now) ∙ ap (λ k. is_some (get new.entries (overlay_page s k))) (sym same),
        ),
        λ some. ap (λ (m : Pages). is_some (get m q)) pages ∙ ap is_some (get_same x.table.pages p q e same),
      );
      beside = λ q out. let d = beside_one p q out in
          (ap (λ (m : Pages). is_some (get m q)) pages ∙ ap is_some (get_other x.table.pages p q e d), λ some. put q ∙ ap (λ b. cond b (is_some o) (holds x.overlaid q)) (arent p q (λ same. d (sym same))));
    }

    pub over_made : y.table ≡ x.table → IsSome (page_in v s p) → Shows (made t s y new) (with_overlay v s p o)
    unfolding with_overlay put_page
    over_made same there =
        let z = some_is (page_in v s p) there in
        let e = some_is (get x.table.pages p) (entry_there show.is show.own s x at p there) in
        let pages = insert_kept x.table.pages p e.0 e.1 in
        let entry : z.0.entry ≡ e.0 = same_Some z.0.entry e.0 (sym (ap (option_map (λ (k : PageView). k.entry)) z.1) ∙ sym (entry_is show.is show.own s x at p) ∙ e.1) in
        changed show was over_beside (over_change e.0 (with_overlay v s p o) (ap (λ (k : SpaceTable). k.pages) same ∙ sym pages)
        (changed_there (λ (k : PageView). record { entry = k.entry; overlay = o }) v s p z.0 z.1
        ∙ ap (λ k. put_page v s p (record { entry = k; overlay = o })) entry
        ∙ ap (λ (k : SpaceView). put_space v s (record { pages = insert k.pages p (record { entry = e.0; overlay = o }); awaiting = k.awaiting; speculating = k.speculating })) (space_is show.is show.own s x at)
        ∙ ap (λ m. put_space v s (record { pages = m; awaiting = x.table.awaiting; speculating = x.table.speculating })) (sym (viewed_over e.0) ∙ ap (viewed (seen_page new.entries s)) pages)
        ∙ ap (λ k. put_space v s (mapped_space (seen_page new.entries s) k)) (sym same)))

    pub shared_made : (e : PageEntry) → y.table ≡ awaited x.table p e → Shows (made t s y new) (put_shared v s p (record { entry = e; overlay = o }))
    unfolding put_shared
    shared_made e is = changed show was over_beside (over_change e (put_shared v s p (record { entry = e; overlay = o })) (ap (λ (k : SpaceTable). k.pages) is)
        (ap (λ (k : SpaceView). put_space v s (record { pages = insert k.pages p (record { entry = e; overlay = o }); awaiting = remove k.awaiting p; speculating = k.speculating })) (space_is show.is show.own s x at)
        ∙ ap (λ m. put_space v s (record { pages = m; awaiting = remove x.table.awaiting p; speculating = x.table.speculating })) (sym (viewed_over e))
        ∙ ap (λ k. put_space v s (mapped_space (seen_page new.entries s) k)) (sym is)))

  pub entry_made : (p : ℕ) (e : PageEntry) → y.table ≡ with_entry x.table p e → y.overlaid ≡ x.overlaid → IsSome (page_in v s p) → Shows (made t s y t.overlays) (with_entry_at v s p e)
  unfolding with_entry_at put_page
  entry_made p e is same there =
      let z = some_is (page_in v s p) there in
      let over = overlay_is show.is show.own s p there ∙ ap (option_and_then (λ (k : PageView). k.overlay)) z.1 in
      changed show was (same_overlays show s p 1) (record {
        is = changed_there (λ (k : PageView). record { entry = e; overlay = k.overlay }) v s p z.0 z.1
            ∙ ap (λ k. put_page v s p (record { entry = e; overlay = k })) (sym over)
            ∙ ap (λ (k : SpaceView). put_space v s (record { pages = insert k.pages p (seen_by p e); awaiting = k.awaiting; speculating = k.speculating })) (space_is show.is show.own s x at)
            ∙ ap (λ m. put_space v s (record { pages = m; awaiting = x.table.awaiting; speculating = x.table.speculating })) (sym (viewed_put seen_by x.table.pages p e))
            ∙ ap (λ k. put_space v s (mapped_space (seen_page t.overlays.entries s) k)) (sym is);
        inside = λ q within. let here = within_one p q within in
            let own = was.shown q (ap (λ k. is_some (get x.table.pages k)) here ∙ entry_there show.is show.own s x at p there) in
            ((own.0, ap (λ m. holds m q) same ∙ own.1), λ some. ap (λ (k : SpaceTable). is_some (get k.pages q)) is ∙ ap is_some (get_same x.table.pages p q e here));
        beside = λ q out. (ap (λ (k : SpaceTable). is_some (get k.pages q)) is ∙ ap is_some (get_other x.table.pages p q e (beside_one p q out)), λ some. ap (λ m. holds m q) same);
      })

-- A call that may want memory: it is done, or nothing is.

pub either : {E A B C : Type 0} (r : Result (Unit {0}) E) → OnOk r A → OnErr r B → (A → C) → (B → C) → C
either (Ok u) ok err f g = f ok
either (Err e) ok err f g = g err

pub on_ok : {E A C : Type 0} (r : Result (Unit {0}) E) → OnOk r A → (A → C) → OnOk r C
on_ok (Ok u) ok f = f ok
on_ok (Err e) ok f = ok

pub on_err : {E B C : Type 0} (r : Result (Unit {0}) E) → OnErr r B → (B → C) → OnErr r C
on_err (Ok u) err f = err
on_err (Err e) err f = f err

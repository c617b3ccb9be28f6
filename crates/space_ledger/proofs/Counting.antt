use Rattle.space_ledger.proofs.Common.{◌≡◌, ℕ, ◌+◌, ◌*◌, ◌≤◌, ◌<◌, cond, nat_lt, length, Option, Some, None, is_some, IfSome, IsSome, refl, option_and_then, sym, ap, subst, ◌∙◌, arith, inl, inr, nat_tests, same_Some, nat_cmp_total, empty, get, get-empty, insert, len, len-empty, len-insert, nat_cmp, FRAME_UNITS, LAST_SPACE, PAGE_END}
use Rattle.space_ledger.proofs.Pages.{by_entries, get_other, get_same, len_low, IsName, overlay_page, space_of, page_back, space_back, Entry, HasRoomFor}
use Rattle.space_ledger.proofs.Views.{Holding, Ledger, overlaid_pages, own_lines, tally, by_place, lines_tally, tally_changed, tally_le, page_in, put_page, page_put_beside, page_put_here, books_put_page, books_there, Inside, LedgerView, PageView, holding_of, ledger_of, lines_of, Overlays, HasOverlayRoom, HasSpare, IsSound}
use Rattle.overlay_address.specs.Names.{page_of}
use Rattle.space_ledger.proofs.Numbers.{held_page}
use Rattle.space_ledger.proofs.Seen.{Shows, frames_is, has_is, low_is, number_is, overlay_is, plain_some, some_is}

-- There are as many overlays as pages with own lines.

-- whether a page has own lines, as a number
has_lines : Holding → ℕ
has_lines x = cond (nat_lt 0 (length x.own)) 1 0

overlaid_is : (l : Ledger) → overlaid_pages l ≡ tally has_lines l
unfolding overlaid_pages has_lines
overlaid_is l = refl

-- with a page put in another's place
overlaid_changed : (v : LedgerView) (s p : ℕ) (x y : PageView) → page_in v s p ≡ Some x
    → overlaid_pages (ledger_of (put_page v s p y)) + has_lines (holding_of v.zero_frame x) ≡ overlaid_pages (ledger_of v) + has_lines (holding_of v.zero_frame y)
overlaid_changed v s p x y there =
    ap (λ (l : Ledger). overlaid_pages l + has_lines (holding_of v.zero_frame x)) (books_put_page holding_of v s p y)
    ∙ ap (λ n. n + has_lines (holding_of v.zero_frame x)) (overlaid_is _)
    ∙ tally_changed has_lines (ledger_of v) s p (holding_of v.zero_frame x) (holding_of v.zero_frame y) (books_there holding_of v s p x there)
    ∙ ap (λ n. n + has_lines (holding_of v.zero_frame y)) (sym (overlaid_is (ledger_of v)))

-- overlays by name are those of the pages of a view
record AreThose (v : LedgerView) (overlays : Overlays) : Type 0 where
  page : (s p : ℕ) (x : PageView) → page_in v s p ≡ Some x → (s ≤ LAST_SPACE) × (p < PAGE_END) × (x.overlay ≡ get overlays (overlay_page s p))
  placed : (n : ℕ) → IsSome (get overlays n) → IsName n × IsSome (page_in v (space_of n) (page_of n))
  lined : (n : ℕ) (e : Entry) → get overlays n ≡ Some e → 0 < length e.bits

Counts : Overlays → Type 0
Counts overlays = (v : LedgerView) → AreThose v overlays → overlaid_pages (ledger_of v) ≡ len overlays

no_overlays : Counts empty
unfolding Counts own_lines has_lines
no_overlays v those =
    let few = lines_tally (ledger_of v) 0 (λ s p h there.
    let x = held_page v s p h there in
    let none = ap (λ (k : Holding). length k.own) x.2 ∙ ap (λ o. length (lines_of o)) ((those.page s p x.0 x.1).2 ∙ get-empty {X = Entry} nat_cmp (overlay_page s p)) in
    omega (arith, none)) in
    let most = tally_le has_lines (λ x. length x.own) (ledger_of v) (λ s p h there. grind (arith, nat_tests)) in
    let same = overlaid_is (ledger_of v) in
    let none = len-empty nat_cmp Entry in
    omega (arith, few, most, same, none)

one_more : (m : Overlays) (k : ℕ) (e : Entry) → get m k ≡ None → Counts m → Counts (insert m k e)
unfolding Counts has_lines
one_more m k e absent counts v those =
    let changed = overlaid_changed v (space_of k) (page_of k) x bare there in
    let some = those.lined k e here in
    let one : has_lines (holding_of v.zero_frame x) ≡ 1 = ap (λ o. cond (nat_lt 0 (length (lines_of o))) 1 0) over
    ∙ (let has : cond (nat_lt 0 (length e.bits)) 1 0 ≡ 1 = grind (arith, nat_tests, some) in has) in
    let rest = counts (put_page v (space_of k) (page_of k) bare) fewer in
    let count = len-insert nat_cmp_total m k e ∙ ap (λ (o : Option Entry). cond (is_some o) (len m) (len m + 1)) absent in
    omega (arith, changed, one, rest, count)
  where
    here : get (insert m k e) k ≡ Some e
    here = get_same m k k e refl

    placed : IsName k × IsSome (page_in v (space_of k) (page_of k))
    placed = those.placed k (ap is_some here)

    x : PageView
    x = (some_is (page_in v (space_of k) (page_of k)) placed.1).0

    there : page_in v (space_of k) (page_of k) ≡ Some x
    there = (some_is (page_in v (space_of k) (page_of k)) placed.1).1

    over : x.overlay ≡ Some e
    over = (those.page (space_of k) (page_of k) x there).2 ∙ ap (get (insert m k e)) (sym placed.0) ∙ here

    bare : PageView
    bare = record { entry = x.entry; overlay = None }

    differs : (n : ℕ) → IsSome (get m n) → n ≡ k → ⊥
    differs n some same = let no = sym some ∙ ap (λ j. is_some (get m j)) same ∙ ap is_some absent in cc

    fewer : AreThose (put_page v (space_of k) (page_of k) bare) m
    fewer = record {
      page = λ q r z at. by_place (space_of k) (page_of k) q r
          (λ qq rr.
          let old = those.page (space_of k) (page_of k) x there in
          let none : z.overlay ≡ None = ap (λ (y : PageView). y.overlay) (same_Some z bare (sym at ∙ page_put_here v (space_of k) (page_of k) bare q r qq rr)) in
          let name : overlay_page q r ≡ k = (λ i. overlay_page (qq i) (rr i)) ∙ sym placed.0 in
          (subst (λ j. j ≤ LAST_SPACE) (sym qq) old.0, subst (λ j. j < PAGE_END) (sym rr) old.1, none ∙ sym (ap (get m) name ∙ absent)))
          (λ d.
          let old = those.page q r z (sym (page_put_beside v (space_of k) (page_of k) bare q r d) ∙ at) in (
            old.0,
            old.1,
            old.2 ∙ get_other m k (overlay_page q r) e (λ same. d
                (sym (space_back q r (omega (arith, old.0)) (omega (arith, old.1))) ∙ ap space_of same)
                (sym (page_back q r (omega (arith, old.0)) (omega (arith, old.1))) ∙ ap page_of same)),
          ));
      placed = λ n some.
          let old = those.placed n (ap is_some (get_other m k n e (differs n some)) ∙ some) in (
            old.0,
            by_place (space_of k) (page_of k) (space_of n) (page_of n)
                (λ qq rr. ap is_some (page_put_here v (space_of k) (page_of k) bare (space_of n) (page_of n) qq rr))
                (λ d. ap is_some (page_put_beside v (space_of k) (page_of k) bare (space_of n) (page_of n) d) ∙ old.1),
          );
      lined = λ n f at. those.lined n f (get_other m k n e (differs n (ap is_some at)) ∙ at);
    }

-- What is true of every view.
module _ {t : Inside} {v : LedgerView} (show : Shows t v) where
  count_is : overlaid_pages (ledger_of v) ≡ len t.overlays.entries
  unfolding Counts
  count_is = by_entries Counts no_overlays one_more t.overlays.entries v (record {
    page = λ s p x at.
        let there = ap is_some at in
        (number_is show.is show.own s p there, low_is show.is show.own s p there, sym (overlay_is show.is show.own s p there ∙ ap (option_and_then (λ (k : PageView). k.overlay)) at));
    placed = λ n some. let own = show.own.placed n some in (own.0, plain_some show.is show.own (space_of n) (page_of n) ∙ own.1);
    lined = λ n e at. (show.own.lined n e at).0;
  })

  room_is : t.overlays.room ≡ FRAME_UNITS * v.frames
  room_is = show.own.roomy ∙ ap (λ k. FRAME_UNITS * k) (sym (frames_is show.is show.own))

  pub is_sound : IsSound v
  is_sound = record {
    few = let few = len_low (LAST_SPACE + 1) v.spaces (λ q there. let low = show.own.numbers q (has_is show.is show.own q ∙ there) in omega (arith, low)) in few;
    most = let most = show.own.most in let count = count_is in let room = room_is in omega (arith, most, count, room);
    low = low_is show.is show.own;
    lines = λ s p x o at is. show.own.lined (overlay_page s p) o (overlay_is show.is show.own s p (ap is_some at) ∙ ap (option_and_then (λ (k : PageView). k.overlay)) at ∙ is);
  }

  -- there is room for an overlay, as the mapping table asks
  room_left : HasSpare v → len t.overlays.entries < t.overlays.room
  room_left less = let count = count_is in let room = room_is in omega (arith, less, count, room)

  pub room_for : (s p : ℕ) → IsSome (page_in v s p) → (o : Option Entry) → HasOverlayRoom v s p o → IfSome o (λ e. HasRoomFor t.overlays (overlay_page s p))
  room_for s p there None room = tt
  room_for s p there (Some e) (inl some) = inl (ap is_some (overlay_is show.is show.own s p there) ∙ some)
  room_for s p there (Some e) (inr less) = inr (room_left less)

  pub room_spare : (n : ℕ) (o : Option Entry) → IfSome o (λ e. HasSpare v) → IfSome o (λ e. HasRoomFor t.overlays n)
  room_spare n None room = tt
  room_spare n (Some e) less = inr (room_left less)

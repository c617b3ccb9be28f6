use Rattle.space_ledger.proofs.Common.{◌≡◌, ℕ, ◌+◌, ◌<◌, ◌⊎◌, Bool, true, false, List, Some, refl, nat_cmp, sym, ap, subst, ◌∙◌, arith, inl, inr, nat_tests, none-some, option_map, same_Some, FinMap, empty, get, insert, remove}
use Rattle.space_ledger.proofs.Pages.{by_key, get_other, get_same, removed_other, removed_same, Pages, PageEntry}
use Rattle.space_ledger.proofs.Views.{map_from, Ledger, all_holdings, with_page, without_page, by_place, same_lines, same_sharers, same_units, books_added, books_awaiting, books_cut_page, books_lost, books_marked, books_put_page, books_put_shared, page_added, page_awaited, page_cut_beside, page_cut_here, page_lost, page_marked, page_of, page_put_beside, page_put_here, page_shared_beside, page_shared_here, space_absent, space_beside, space_left, space_put, bare_space, cut_page, cut_space, holds_space, of_pages, page_in, put_awaiting, put_mark, put_page, put_shared, put_space, space_in, LedgerView, PageView, SpaceView, holding_of, ledger_of, AreBooks, HasFramesApart, IsBooked, NamesOnce}
use Rattle.space_ledger.specs.Calls.{frame_named}
use Rattle.space_ledger.proofs.Booking.{by_two}
use Rattle.space_ledger.proofs.Keys.{gone_at, none_at}

-- How what is kept beside the tables is kept.

-- Frames that are named once in a space.

-- a page that another space names no frame at, or its frame at no other place, and whose other places are those of one
by_places : (z p g : ℕ) (x y : SpaceView) → HasFramesApart z x
    → ((a : Bool) (q f : ℕ) → frame_named y a q ≡ Some f → (f ≡ z → ⊥) → ((a ≡ false) × (q ≡ p) × (f ≡ g)) ⊎ ((frame_named x a q ≡ Some f) × (f ≡ g → ⊥))) → HasFramesApart z y
by_places z p g x y apart from a b q r f at_q at_r isnt = by (from a q f at_q isnt) (from b r f at_r isnt)
  where
    by : ((a ≡ false) × (q ≡ p) × (f ≡ g)) ⊎ ((frame_named x a q ≡ Some f) × (f ≡ g → ⊥))
        → ((b ≡ false) × (r ≡ p) × (f ≡ g)) ⊎ ((frame_named x b r ≡ Some f) × (f ≡ g → ⊥)) → (a ≡ b) × (q ≡ r)
    by (inl one) (inl two) = (one.0 ∙ sym two.0, one.1 ∙ sym two.1)
    by (inl one) (inr two) = absurd (two.1 one.2)
    by (inr one) (inl two) = absurd (one.1 two.2)
    by (inr one) (inr two) = apart a b q r f one.0 two.0 isnt

-- what another page has to be, for a frame to be named once
abbrev pub FitsIn : ℕ → SpaceView → ℕ → PageView → Type 0
FitsIn z x p y = (y.entry.frame ≡ z) ⊎ ((a : Bool) (q : ℕ) → frame_named x a q ≡ Some y.entry.frame → (a ≡ false) × (q ≡ p))

apart_put : (z : ℕ) (x : SpaceView) (p : ℕ) (y : PageView) → HasFramesApart z x → FitsIn z x p y → HasFramesApart z (of_pages x (insert x.pages p y))
apart_put z x p y apart fits = by_places z p y.entry.frame x (of_pages x (insert x.pages p y)) apart from
  where
    other : (a : Bool) (q f : ℕ) → frame_named x a q ≡ Some f → (f ≡ z → ⊥) → ((a ≡ false) × (q ≡ p) → ⊥) → f ≡ y.entry.frame → ⊥
    other a q f at isnt d same = by fits
      where
        by : FitsIn z x p y → ⊥
        by (inl is) = isnt (same ∙ is)
        by (inr one) = d (one a q (at ∙ ap Some same))

    from : (a : Bool) (q f : ℕ) → frame_named (of_pages x (insert x.pages p y)) a q ≡ Some f → (f ≡ z → ⊥)
        → ((a ≡ false) × (q ≡ p) × (f ≡ y.entry.frame)) ⊎ ((frame_named x a q ≡ Some f) × (f ≡ y.entry.frame → ⊥))
    from true q f at isnt = inr (at, other true q f at isnt (λ no. let e = no.0 in cc))
    from false q f at isnt = by_key q p
        (λ here. inl (refl, here, (let put = get_same x.pages p q y here in let is = ap (option_map (λ (w : PageView). w.entry.frame)) put in cc)))
        (λ d. let was = sym (ap (option_map (λ (w : PageView). w.entry.frame)) (get_other x.pages p q y d)) ∙ at in inr (was, other false q f was isnt (λ one. d one.1)))

-- another page of the same frame
pub fits_same : (z : ℕ) (x : SpaceView) (p : ℕ) (a y : PageView) → HasFramesApart z x → get x.pages p ≡ Some a → y.entry.frame ≡ a.entry.frame → FitsIn z x p y
fits_same z x p a y apart at same = by_two y.entry.frame z inl
    (λ isnt. inr (λ b q there. apart b false q p y.entry.frame there (ap (option_map (λ (w : PageView). w.entry.frame)) at ∙ ap Some (sym same)) isnt))

apart_gone : (z : ℕ) (x : SpaceView) (p : ℕ) → HasFramesApart z x → HasFramesApart z (of_pages x (remove x.pages p))
apart_gone z x p apart a b q r f at_q at_r isnt = apart a b q r f (was a q at_q) (was b r at_r) isnt
  where
    was : (a : Bool) (q : ℕ) → frame_named (of_pages x (remove x.pages p)) a q ≡ Some f → frame_named x a q ≡ Some f
    was true q at = at
    was false q at = grind (arith, nat_tests, gone_at, at)

-- a page that awaits no more
abbrev shared_in : SpaceView → ℕ → PageView → SpaceView
shared_in x p y = record { pages = insert x.pages p y; awaiting = remove x.awaiting p; speculating = x.speculating }

apart_shared : (z : ℕ) (x : SpaceView) (p : ℕ) (y : PageView) (e : PageEntry) → HasFramesApart z x → get x.awaiting p ≡ Some e → y.entry.frame ≡ e.frame
    → HasFramesApart z (shared_in x p y)
apart_shared z x p y e apart waiting same = by_places z p e.frame x (shared_in x p y) apart from
  where
    here : frame_named x true p ≡ Some e.frame
    here = ap (option_map (λ (k : PageEntry). k.frame)) waiting

    from : (a : Bool) (q f : ℕ) → frame_named (shared_in x p y) a q ≡ Some f → (f ≡ z → ⊥)
        → ((a ≡ false) × (q ≡ p) × (f ≡ e.frame)) ⊎ ((frame_named x a q ≡ Some f) × (f ≡ e.frame → ⊥))
    from true q f at isnt = by_key q p
        (λ gone. let none = ap (option_map (λ (k : PageEntry). k.frame)) (removed_same x.awaiting p q gone) in cc)
        (λ d. let was = sym (ap (option_map (λ (k : PageEntry). k.frame)) (removed_other x.awaiting p q d)) ∙ at in
        inr (was, λ is. d (apart true true q p f was (here ∙ ap Some (sym is)) isnt).1))
    from false q f at isnt = by_key q p
        (λ put. inl (refl, put, (let now = ap (option_map (λ (w : PageView). w.entry.frame)) (get_same x.pages p q y put) in cc)))
        (λ d. let was = sym (ap (option_map (λ (w : PageView). w.entry.frame)) (get_other x.pages p q y d)) ∙ at in
        inr (was, λ is. d (apart false true q p f was (here ∙ ap Some (sym is)) isnt).1))

apart_adopted : (z : ℕ) (x : SpaceView) (table : Pages) → x.pages ≡ empty → NamesOnce z table → HasFramesApart z (record { pages = x.pages; awaiting = table; speculating = x.speculating })
apart_adopted z x table none once a b p q f at_p at_q isnt = by a b at_p at_q
  where
    no : (p : ℕ) → option_map (λ (w : PageView). w.entry.frame) (get x.pages p) ≡ Some f → ⊥
    no p at = let gone = ap (λ m. get m p) none in let nothing = none_at {X = PageView} p in cc

    by : (a b : Bool) → frame_named (record { pages = x.pages; awaiting = table; speculating = x.speculating }) a p ≡ Some f
        → frame_named (record { pages = x.pages; awaiting = table; speculating = x.speculating }) b q ≡ Some f → (a ≡ b) × (p ≡ q)
    by false b at_p at_q = absurd (no p at_p)
    by true false at_p at_q = absurd (no q at_q)
    by true true at_p at_q = map_from (λ (e : PageEntry). e.frame) (get table p) f at_p (λ e there_p is_p.
        map_from (λ (e : PageEntry). e.frame) (get table q) f at_q (λ k there_q is_q.
        (refl, once p q e k there_p there_q (is_p ∙ sym is_q) (λ zero_e. isnt (sym is_p ∙ zero_e)))))

pub nothing_apart : (z : ℕ) → HasFramesApart z bare_space
nothing_apart z = apart_adopted z bare_space empty refl (λ p q e f at_p at_q same isnt. let none = none_at {X = PageEntry} p in cc)

-- of all spaces, where one is put in
apart_all : (v : LedgerView) (s : ℕ) (x : SpaceView) → ((q : ℕ) → HasFramesApart v.zero_frame (space_in v q)) → HasFramesApart v.zero_frame x → (q : ℕ) → HasFramesApart v.zero_frame (space_in (put_space v s x) q)
apart_all v s x apart here q = by_key q s
    (λ same. subst (HasFramesApart v.zero_frame) (sym (space_put v s x q same)) here)
    (λ d. subst (HasFramesApart v.zero_frame) (sym (space_beside v s x q d)) (apart q))

-- The books of a view with other spaces, by its ledger.

abbrev with_spaces : LedgerView → FinMap nat_cmp SpaceView → LedgerView
with_spaces v m = record { spaces = m; frames = v.frames; zero_frame = v.zero_frame }

booked_by : {v : LedgerView} {counts : List ℕ} {u n : ℕ} → IsBooked v counts u n → (m : FinMap nat_cmp SpaceView) (l : Ledger) → ledger_of (with_spaces v m) ≡ l
    → ((s p : ℕ) (x : PageView) → page_in (with_spaces v m) s p ≡ Some x → x.entry.frame < v.frames) → ((s : ℕ) → HasFramesApart v.zero_frame (space_in (with_spaces v m) s))
    → {new : List ℕ} {u' n' : ℕ} → AreBooks l v.zero_frame v.frames new u' n' → IsBooked (with_spaces v m) new u' n'
booked_by {v = v} kept m l is inside apart {new = new} {u' = u'} {n' = n'} books = record {
  some = kept.some;
  frames = kept.frames;
  zero_in = kept.zero_in;
  inside = inside;
  apart = apart;
  books = subst (λ k. AreBooks k v.zero_frame v.frames new u' n') (sym is) books;
}

-- with the same pages
booked_as : {v : LedgerView} {counts : List ℕ} {u n : ℕ} → IsBooked v counts u n → (m : FinMap nat_cmp SpaceView) → ((s p : ℕ) → page_in (with_spaces v m) s p ≡ page_in v s p)
    → ((s : ℕ) → HasFramesApart v.zero_frame (space_in (with_spaces v m) s)) → all_holdings (ledger_of (with_spaces v m)) ≡ all_holdings (ledger_of v) → IsBooked (with_spaces v m) counts u n
booked_as {v = v} kept m pages apart same = booked_by kept m (ledger_of (with_spaces v m)) refl (λ s p x at. kept.inside s p x (sym (pages s p) ∙ at)) apart (record {
  room = kept.books.room;
  counted = λ f low isnt. kept.books.counted f low isnt ∙ sym (same_sharers (ledger_of (with_spaces v m)) (ledger_of v) (f + 1) same);
  units_is = kept.books.units_is ∙ sym (same_units (ledger_of (with_spaces v m)) (ledger_of v) same);
  lines_is = kept.books.lines_is ∙ sym (same_lines (ledger_of (with_spaces v m)) (ledger_of v) same);
})

-- a space made, and one taken away
module _ {v : LedgerView} {counts : List ℕ} {u n : ℕ} (kept : IsBooked v counts u n) (s : ℕ) where
  pub booked_space : holds_space v s ≡ false → IsBooked (put_space v s bare_space) counts u n
  unfolding put_space
  booked_space absent =
      booked_as kept (put_space v s bare_space).spaces (page_added v s absent) (apart_all v s bare_space kept.apart (nothing_apart v.zero_frame)) (books_added holding_of v s absent)

  pub booked_lost : holds_space v s ≡ true → (space_in v s).pages ≡ empty → IsBooked (cut_space v s) counts u n
  unfolding cut_space
  booked_lost there none = booked_as kept (cut_space v s).spaces (page_lost v s none) (λ q. by_key q s
      (λ same. subst (HasFramesApart v.zero_frame) (sym (space_absent (cut_space v s) q (removed_same v.spaces s q same))) (nothing_apart v.zero_frame))
      (λ d. subst (HasFramesApart v.zero_frame) (sym (space_left v s q d)) (kept.apart q))) (books_lost holding_of v s there none)

  pub booked_mark : (on : Bool) → holds_space v s ≡ true → IsBooked (put_mark v s on) counts u n
  unfolding put_mark put_space
  booked_mark on there = booked_as kept (put_mark v s on).spaces (page_marked v s on) (apart_all v s _ kept.apart (kept.apart s)) (ap all_holdings (books_marked holding_of v s on there))

  pub booked_adopted : (table : Pages) → holds_space v s ≡ true → (space_in v s).pages ≡ empty → NamesOnce v.zero_frame table → IsBooked (put_awaiting v s table) counts u n
  unfolding put_awaiting put_space
  booked_adopted table there none once = booked_as kept (put_awaiting v s table).spaces (page_awaited v s table)
      (apart_all v s _ kept.apart (apart_adopted v.zero_frame (space_in v s) table none once)) (ap all_holdings (books_awaiting holding_of v s table there))

-- The books of a view with a page put, taken away or shared.

pub in_pages : (v : LedgerView) (s p : ℕ) (x : PageView) → page_in v s p ≡ Some x → get (space_in v s).pages p ≡ Some x
in_pages v s p x there = sym (page_of v s p) ∙ there

-- the frame of a page
pub names : (v : LedgerView) (s p : ℕ) (x : PageView) → page_in v s p ≡ Some x → frame_named (space_in v s) false p ≡ Some x.entry.frame
names v s p x there = ap (option_map (λ (y : PageView). y.entry.frame)) (in_pages v s p x there)

module _ {v : LedgerView} {counts : List ℕ} {u n : ℕ} (kept : IsBooked v counts u n) (s p : ℕ) {new : List ℕ} {u' n' : ℕ} where
  pub booked_put : (y : PageView) → y.entry.frame < v.frames → FitsIn v.zero_frame (space_in v s) p y
      → AreBooks (with_page (ledger_of v) s p (holding_of v.zero_frame y)) v.zero_frame v.frames new u' n' → IsBooked (put_page v s p y) new u' n'
  unfolding put_page put_space
  booked_put y low fits = booked_by kept (put_page v s p y).spaces (with_page (ledger_of v) s p (holding_of v.zero_frame y)) (books_put_page holding_of v s p y)
      (λ q r x at. by_place s p q r
      (λ ss pp. subst (λ k. k < v.frames) (ap (λ (w : PageView). w.entry.frame) (same_Some y x (sym (page_put_here v s p y q r ss pp) ∙ at))) low)
      (λ d. kept.inside q r x (sym (page_put_beside v s p y q r d) ∙ at)))
      (apart_all v s _ kept.apart (apart_put v.zero_frame (space_in v s) p y (kept.apart s) fits))

  pub booked_gone : AreBooks (without_page (ledger_of v) s p) v.zero_frame v.frames new u' n' → IsBooked (cut_page v s p) new u' n'
  unfolding cut_page put_space
  booked_gone = booked_by kept (cut_page v s p).spaces (without_page (ledger_of v) s p) (books_cut_page holding_of v s p)
      (λ q r x at. by_place s p q r
      (λ ss pp. absurd (none-some x (sym (page_cut_here v s p q r ss pp) ∙ at)))
      (λ d. kept.inside q r x (sym (page_cut_beside v s p q r d) ∙ at)))
      (apart_all v s _ kept.apart (apart_gone v.zero_frame (space_in v s) p (kept.apart s)))

  pub booked_shared : (y : PageView) (e : PageEntry) → y.entry.frame < v.frames → get (space_in v s).awaiting p ≡ Some e → y.entry.frame ≡ e.frame
      → AreBooks (with_page (ledger_of v) s p (holding_of v.zero_frame y)) v.zero_frame v.frames new u' n' → IsBooked (put_shared v s p y) new u' n'
  unfolding put_shared put_space
  booked_shared y e low waiting same = booked_by kept (put_shared v s p y).spaces (with_page (ledger_of v) s p (holding_of v.zero_frame y)) (books_put_shared holding_of v s p y)
      (λ q r x at. by_place s p q r
      (λ ss pp. subst (λ k. k < v.frames) (ap (λ (w : PageView). w.entry.frame) (same_Some y x (sym (page_shared_here v s p y q r ss pp) ∙ at))) low)
      (λ d. kept.inside q r x (sym (page_shared_beside v s p y q r d) ∙ at)))
      (apart_all v s _ kept.apart (apart_shared v.zero_frame (space_in v s) p y e (kept.apart s) waiting same))

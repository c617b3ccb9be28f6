use Rattle.space_ledger.proofs.Common.{◌≡◌, ℕ, zero, suc, ◌+◌, ◌*◌, ◌^◌, ◌==◌, ◌≤◌, ◌<◌, Bool, true, false, cond, not, ◌&&◌, nat_eq, nat_lt, List, [], length, Option, Some, None, is_some, Result, Ok, Err, OnOk, OnErr, refl, nat_cmp, sym, ap, subst, ◌∙◌, arith, inl, nat_tests, option_map, empty, get, get-empty, len, FRAME_UNITS, LAST_SPACE, MOST_FRAMES, PAGE_LINES}
use Rattle.space_ledger.proofs.Pages.{is_within, PageEntry, Entry, none_shared, sharers_of, none_at}
use Rattle.space_ledger.proofs.Views.{by_option, Holding, Ledger, all_holdings, holding_at, is_unused, with_page, without_page, class, own_lines, sharers, units, units_of, has_own, class_none, frame_for, origin_with, without_absent, no_holdings, tally_none, lines_tally, sharers_few, units_few, map_from, keeps_page_put, page_of, page_put_beside, space_absent, bare_space, holds_space, page_in, put_page, put_pages, put_space, space_in, books_absent, books_empty, books_len, books_page, books_spaces, LedgerView, PageView, SpaceView, holding_of, ledger_of, lines_of, origin_of, overlay_at, with_zero_pages, unused_is, AreBooks, ArePagesFree, HasFramesApart, IsBooked, IsNextOverlaid, IsNextOwn, IsSound}
use Rattle.ledger.specs.UnitLaws.{no_units as no_page_units}
use Rattle.space_ledger.proofs.Booking.{held_zero, no_units, page_come, same_books}
use Rattle.space_ledger.proofs.Booked.{nothing_apart, booked_put, names}

-- The numbers that each call leaves.

origin_low : (z frame frames : ℕ) → frame < frames → origin_of z frame ≤ frames
origin_low z frame frames low = grind (arith, nat_tests)

-- what a holding in the ledger is of
pub held_page : (v : LedgerView) (s p : ℕ) (h : Holding) → holding_at (ledger_of v) s p ≡ Some h → (x : PageView) × (page_in v s p ≡ Some x) × (h ≡ holding_of v.zero_frame x)
held_page v s p h there = map_from (holding_of v.zero_frame) (page_in v s p) h (sym (books_page holding_of v s p) ∙ there) (λ x is same. (x, is, sym same))

module _ (v : LedgerView) (counts : List ℕ) (u n : ℕ) (kept : IsBooked v counts u n) (sound : IsSound v) where
  -- bounds
  pub units_bound : u ≤ 32 + 16 * v.frames + 16 * (FRAME_UNITS * v.frames)
  units_bound =
      let few = units_few (ledger_of v) v.frames (λ s p h there.
      let of = held_page v s p h there in
      subst (λ k. k ≤ v.frames) (ap (λ (y : Holding). y.origin) (sym of.2)) (origin_low v.zero_frame of.0.entry.frame v.frames (kept.inside s p of.0 of.1))) in
      let most = sound.most in
      let is = kept.books.units_is in
      omega (arith, few, most, is)

  pub units_fit : u + 64 < 2 ^ 32
  units_fit = let bound = units_bound in let frames = kept.frames in omega (arith, bound, frames)

  pub lines_fit : n + 64 < 2 ^ 32
  lines_fit =
      let few = lines_tally (ledger_of v) PAGE_LINES (λ s p h there.
      let of = held_page v s p h there in
      subst (λ k. k ≤ PAGE_LINES) (ap (λ (y : Holding). length y.own) (sym of.2)) (by_overlay s p of.0 of.1 of.0.overlay refl)) in
      let most = sound.most in
      let is = kept.books.lines_is in
      let frames = kept.frames in
      omega (arith, few, most, is, frames)
    where
      by_overlay : (s p : ℕ) (x : PageView) → page_in v s p ≡ Some x → (o : Option Entry) → x.overlay ≡ o → length (lines_of o) ≤ PAGE_LINES
      by_overlay s p x at None is = omega arith
      by_overlay s p x at (Some e) is = (sound.lines s p x e at is).1

-- a frame that isn't the zero frame has at most a sharer a space
pub sharers_bound : (v : LedgerView) (counts : List ℕ) (u n : ℕ) → IsBooked v counts u n → len v.spaces ≤ LAST_SPACE + 1 → (f : ℕ) → f < v.frames → (f ≡ v.zero_frame → ⊥) → sharers (ledger_of v) (f + 1) ≤ LAST_SPACE + 1
sharers_bound v counts u n kept few f low isnt =
    let most = sharers_few (ledger_of v) (f + 1) (λ s p q a b at_p at_q is_a is_b.
    let x = held_page v s p a at_p in
    let y = held_page v s q b at_q in
    let ox = ap (λ (h : Holding). h.origin) x.2 in
    let oy = ap (λ (h : Holding). h.origin) y.2 in
    let fx : x.0.entry.frame ≡ f = grind (arith, nat_tests, ox, is_a) in
    let fy : y.0.entry.frame ≡ f = grind (arith, nat_tests, oy, is_b) in
    (kept.apart s false false p q f (names v s p x.0 x.1 ∙ ap Some fx) (names v s q y.0 y.1 ∙ ap Some fy) isnt).1) in
    let spaces = books_len holding_of v in
    omega (arith, most, spaces, few)

-- A frame that is unused costs units, and one that a page is put on isn't unused.
pub unused_tells : (b : Bool) → nat_lt 0 (frame_for b) ≡ b
unfolding frame_for
unused_tells true = refl
unused_tells false = refl

pub unused_put : (l : Ledger) (s p z f g : ℕ) (h : Holding) → h.origin ≡ origin_of z f
    → is_unused (with_page l s p h) (origin_of z g) ≡ (is_unused (without_page l s p) (origin_of z g) && not (nat_eq f g))
unused_put l s p z f g h origin =
    let now = unused_is (with_page l s p h) z g in let was = unused_is (without_page l s p) z g in let origins = origin_with l s p h (g + 1) in
    grind (arith, nat_tests, now, was, origins, origin)

-- where a page isn't there, the ledger without it is the same
pub books_without : (v : LedgerView) (counts : List ℕ) (u n : ℕ) → IsBooked v counts u n → (s p : ℕ) → holds_space v s ≡ true → page_in v s p ≡ None
    → AreBooks (without_page (ledger_of v) s p) v.zero_frame v.frames counts u n
books_without v counts u n kept s p has absent =
    subst (λ l. AreBooks l v.zero_frame v.frames counts u n) (sym (without_absent (ledger_of v) s p (books_spaces holding_of v s ∙ has) (books_absent holding_of v s p absent))) kept.books

-- A page mapped on the zero frame, and many.

zero_books : (v : LedgerView) (counts : List ℕ) (u n : ℕ) → IsBooked v counts u n → (s p : ℕ) (y : PageView) → holds_space v s ≡ true → page_in v s p ≡ None → y.entry.frame ≡ v.zero_frame → y.overlay ≡ None
    → IsBooked (put_page v s p y) counts u n
zero_books v counts u n kept s p y has absent zero_y bare =
    let low = subst (λ k. k < v.frames) (sym zero_y) kept.zero_in in
    let free = no_units v.zero_frame y.entry.frame counts zero_y in
    let nothing : class (length (lines_of y.overlay)) ≡ 0 = ap (λ o. class (length (lines_of o))) bare ∙ class_none in
    let none : length (lines_of y.overlay) ≡ 0 = ap (λ o. length (lines_of o)) bare in
    booked_put kept s p y low (inl zero_y)
    (same_books (page_come (ledger_of v) v.zero_frame v.frames s p y.entry.frame (holding_of v.zero_frame y) refl low (books_without v counts u n kept s p has absent)
    (sym (held_zero v.zero_frame counts y.entry.frame zero_y)) refl)
    (omega (arith, free, nothing)) (omega (arith, none)))

mapped_books : (k from : ℕ) (v : LedgerView) (counts : List ℕ) (u n s : ℕ) (y : PageView) → IsBooked v counts u n → holds_space v s ≡ true → ArePagesFree v s from k → y.entry.frame ≡ v.zero_frame → y.overlay ≡ None
    → IsBooked (put_pages v s from k y) counts u n
unfolding put_pages put_page put_space
mapped_books zero from v counts u n s y kept has free zero_y bare = kept
mapped_books (suc k) from v counts u n s y kept has free zero_y bare =
    let here : is_within from (suc k) from ≡ true = grind (arith, nat_tests) in
    mapped_books k (from + 1) (put_page v s from y) counts u n s y
    (zero_books v counts u n kept s from y has (free from here) zero_y bare)
    ((keeps_page_put v s from y has).there s ∙ has)
    (λ q within. page_put_beside v s from y s q (λ ss pp. let e : is_within (from + 1) k q ≡ false = grind (arith, nat_tests) in let no = sym within ∙ e in cc)
    ∙ free q (grind (arith, nat_tests, within))) zero_y bare

-- the books after a call that may want memory
pub on_either : {E : Type 0} (r : Result (Unit {0}) E) (old new made : LedgerView) (counts : List ℕ) (u n : ℕ) → IsBooked old counts u n → IsBooked made counts u n → OnOk r (new ≡ made) → OnErr r (new ≡ old)
    → IsBooked new counts u n
on_either (Ok x) old new made counts u n kept then ok err = subst (λ v. IsBooked v counts u n) (sym ok) then
on_either (Err e) old new made counts u n kept then ok err = subst (λ v. IsBooked v counts u n) (sym err) kept

-- pages mapped on the zero frame
pub mapped_view : (v : LedgerView) (counts : List ℕ) (u n s from k : ℕ) (e : PageEntry) → IsBooked v counts u n → holds_space v s ≡ true → ArePagesFree v s from k → e.frame ≡ v.zero_frame
    → IsBooked (with_zero_pages v s from k e) counts u n
unfolding with_zero_pages
mapped_view v counts u n s from k e kept has free zero_e = mapped_books k from v counts u n s (record { entry = e; overlay = None }) kept has free zero_e refl

-- no space at all
pub new_books : (v : LedgerView) (counts : List ℕ) (frames z : ℕ) → v.spaces ≡ empty → v.frames ≡ frames → v.zero_frame ≡ z → counts ≡ none_shared frames → length counts ≡ frames
    → 0 < frames → frames ≤ MOST_FRAMES → z < frames → IsBooked v counts FRAME_UNITS 0
unfolding sharers own_lines units
new_books v counts frames z none frames_is zero_is counts_is room some few inside = record {
  some = subst (λ k. 0 < k) (sym frames_is) some;
  frames = subst (λ k. k ≤ MOST_FRAMES) (sym frames_is) few;
  zero_in = subst (λ k. k < v.frames) (sym zero_is) (subst (λ k. z < k) (sym frames_is) inside);
  inside = λ s p x at. let no = ap is_some (sym at ∙ nowhere s p) in cc;
  apart = λ s. subst (HasFramesApart v.zero_frame) (sym (no_space s)) (nothing_apart v.zero_frame);
  books = record {
    room = room ∙ sym frames_is;
    counted = λ f low isnt. ap (λ (c : List ℕ). sharers_of c f) counts_is ∙ none_at frames f (subst (λ k. f < k) frames_is low) ∙ sym (tally_none (λ x. cond (x.origin == f + 1) 1 0) (ledger_of v) nothing);
    units_is = sym (ap units_of nothing ∙ no_page_units);
    lines_is = sym (tally_none (λ x. length x.own) (ledger_of v) nothing);
  };
}
  where
    no_space : (s : ℕ) → space_in v s ≡ bare_space
    no_space s = space_absent v s (ap (λ m. get m s) none ∙ get-empty {X = SpaceView} nat_cmp s)

    nowhere : (s p : ℕ) → page_in v s p ≡ None
    nowhere s p = page_of v s p ∙ ap (λ (x : SpaceView). get x.pages p) (no_space s) ∙ get-empty nat_cmp p

    nothing : all_holdings (ledger_of v) ≡ []
    nothing = ap all_holdings (books_empty holding_of v none) ∙ no_holdings

-- What is asked of a page, in the words of the ledger.

-- whether it has own lines
pub own_is : (v : LedgerView) → IsSound v → (s p : ℕ) → is_some (overlay_at v s p) ≡ has_own (ledger_of v) s p
unfolding has_own
own_is v sound s p =
    let held = books_page holding_of v s p in by_option (page_in v s p)
    (λ none. grind (arith, nat_tests, held, none))
    (λ x is. by_option x.overlay (λ none. grind (arith, nat_tests, held, is, none))
    (λ e over. let some = sound.lines s p x e is over in grind (arith, nat_tests, held, is, over, some)))

-- and which page is the next one that has
pub next_own : (v w : LedgerView) → v ≡ w → IsSound v → (s p : ℕ) (r : Option ℕ) → IsNextOverlaid v s p r → IsNextOwn (ledger_of w) s p r
next_own v w same sound s p None next = λ q le. ap (λ k. has_own (ledger_of k) s q) (sym same) ∙ sym (own_is v sound s q) ∙ ap is_some (next q le)
next_own v w same sound s p (Some k) next = (
  next.0,
  ap (λ x. has_own (ledger_of x) s k) (sym same) ∙ sym (own_is v sound s k) ∙ next.1,
  λ q le lt. ap (λ x. has_own (ledger_of x) s q) (sym same) ∙ sym (own_is v sound s q) ∙ ap is_some (next.2 q le lt),
)

-- a page by its entry
pub entry_page : (v : LedgerView) (s p : ℕ) (e : PageEntry) → Some e ≡ option_map (λ (x : PageView). x.entry) (page_in v s p) → (o : Option Entry) × (page_in v s p ≡ Some (record { entry = e; overlay = o }))
entry_page v s p e is =
    map_from (λ (x : PageView). x.entry) (page_in v s p) e (sym is) (λ x there same. (x.overlay, there ∙ ap (λ k. Some (record { entry = k; overlay = x.overlay })) same))

use Rattle.space_ledger.proofs.Common.{len, LAST_SPACE, ◌≡◌, ℕ, ◌+◌, ◌-◌, ◌^◌, ◌==◌, ◌≤◌, ◌<◌, ◌⊎◌, Bool, true, false, cond, not, ◌&&◌, nat_lt, List, length, Option, Some, None, is_some, IsSome, Result, Ok, Err, IfOk, refl, nat_cmp, inl, inr, sym, ap, subst, subst₂, ◌∙◌, arith, nat_tests, same_Some, option_and_then, option_map, option_map_or, empty, get, get-empty}
use Rattle.space_ledger.proofs.Pages.{get_viewed, Pages, Table, PageEntry, Entry, Block, sharers_of}
use Rattle.space_ledger.proofs.Views.{map_from, changed_there, page_of, page_shared_here, cut_page, holds_space, page_in, put_page, put_shared, put_space, space_in, holding_at, is_alone, is_unused, without_page, class, books_cut_page, books_page, books_put_page, books_there, LedgerView, PageView, frame_at, frame_awaiting, holding_of, ledger_of, lines_of, origin_of, overlay_at, with_block, with_entry_at, with_frame, with_overlay, with_page_shared, IsBooked, IsFreeFor, IsSound, NamesOnce, entries_of, given_up, frame_units, held_by, released_by, given_as, by_option, class_none, sharers_at}
use Rattle.space_ledger.specs.Calls.{frame_named}
use Rattle.space_ledger.proofs.Seen.{some_is}
use Rattle.space_ledger.proofs.Booking.{HasGone, alone_frame, by_two, page_come, page_gone, page_over, same_books, some_sharer}
use Rattle.space_ledger.proofs.Booked.{FitsIn, booked_gone, booked_put, booked_shared, fits_same, in_pages}
use Rattle.space_ledger.proofs.Numbers.{books_without, entry_page, sharers_bound, unused_put, unused_tells}

-- What the calls leave, in the words of the calls below them.

pub before_release : (v : LedgerView) (counts : List ℕ) (u n : ℕ) → IsBooked v counts u n → (s p z : ℕ) (e : PageEntry) → z ≡ v.zero_frame
    → Some e ≡ option_map (λ (x : PageView). x.entry) (page_in v s p) → (e.frame ≡ z) ⊎ (0 < sharers_of counts e.frame)
before_release v counts u n kept s p z e zero_is is =
    let there = (entry_page v s p e is).1 in
    subst (λ y. (e.frame ≡ y) ⊎ (0 < sharers_of counts e.frame)) (sym zero_is)
    (some_sharer (ledger_of v) v.zero_frame v.frames s p e.frame _ counts kept.books.counted (books_there holding_of v s p _ there) refl (kept.inside s p _ there))

-- a page that names a frame
on_frame : (v : LedgerView) (s p f : ℕ) → frame_at v s p ≡ Some f → (x : PageView) × (page_in v s p ≡ Some x) × (f ≡ x.entry.frame)
on_frame v s p f is = map_from (λ (x : PageView). x.entry.frame) (page_in v s p) f is (λ x there same. (x, there, sym same))

pub entry_inside : (v : LedgerView) (counts : List ℕ) (u n : ℕ) → IsBooked v counts u n → (s p : ℕ) (e : PageEntry)
    → Some e ≡ option_map (λ (x : PageView). x.entry) (page_in v s p) → e.frame < v.frames
entry_inside v counts u n kept s p e is = kept.inside s p _ (entry_page v s p e is).1

pub alone_call : (v : LedgerView) (counts : List ℕ) (u n : ℕ) → IsBooked v counts u n → (s p z f : ℕ) → z ≡ v.zero_frame → frame_at v s p ≡ Some f
    → (not (f == z) && (sharers_of counts f == 1)) ≡ is_alone (ledger_of v) s p
alone_call v counts u n kept s p z f zero_is is =
    let found = on_frame v s p f is in
    ap (λ k. not (f == k) && (sharers_of counts f == 1)) zero_is
    ∙ ap (λ k. not (k == v.zero_frame) && (sharers_of counts k == 1)) found.2
    ∙ alone_frame (ledger_of v) v.zero_frame v.frames s p found.0.entry.frame (holding_of v.zero_frame found.0) counts kept.books.counted (books_there holding_of v s p found.0 found.1) refl (kept.inside s p found.0 found.1)

-- A page goes, and one with another frame comes in its place.

pub record Released (v : LedgerView) (less : List ℕ) (u n s p freed frame : ℕ) : Type 0 where
  pub fits : freed ≤ u
  pub books : IsBooked (cut_page v s p) less (u - freed) n
  pub answer : cond (nat_lt 0 freed) (Some frame) None ≡ given_up (cut_page v s p) (page_in v s p)

pub record Framed (v : LedgerView) (more : List ℕ) (u n s p f freed added frame : ℕ) : Type 0 where
  pub fits : freed ≤ u
  pub books : IsBooked (with_frame v s p f) more (u - freed + added) n
  pub answer : option_and_then (λ (k : ℕ). cond (f == k) None (Some k)) (cond (nat_lt 0 freed) (Some frame) None) ≡ given_up (with_frame v s p f) (page_in v s p)

-- the page of an entry
abbrev page_by : (v : LedgerView) (s p : ℕ) (e : PageEntry) → Some e ≡ option_map (λ (x : PageView). x.entry) (page_in v s p) → PageView
page_by v s p e is = record { entry = e; overlay = (entry_page v s p e is).0 }

module _ {v : LedgerView} {counts less : List ℕ} {u n : ℕ} (kept : IsBooked v counts u n) (s p z freed : ℕ) (e : PageEntry) (zero_is : z ≡ v.zero_frame)
    (is : Some e ≡ option_map (λ (x : PageView). x.entry) (page_in v s p)) (less_is : less ≡ released_by z counts e.frame) (freed_is : freed ≡ frame_units z less e.frame) where
  there : page_in v s p ≡ Some (page_by v s p e is)
  there = (entry_page v s p e is).1

  gone : HasGone (ledger_of v) v.zero_frame v.frames s p e.frame (holding_of v.zero_frame (page_by v s p e is)) less freed u n
  gone = page_gone (ledger_of v) v.zero_frame v.frames s p e.frame (holding_of v.zero_frame (page_by v s p e is)) refl (kept.inside s p _ there) kept.books
      (books_there holding_of v s p _ there)
      (less_is ∙ ap (λ k. released_by k counts e.frame) zero_is) (freed_is ∙ ap (λ k. frame_units k less e.frame) zero_is)

  -- whether its frame is given up
  freed_tells : nat_lt 0 freed ≡ is_unused (without_page (ledger_of v) s p) (origin_of v.zero_frame e.frame)
  freed_tells = ap (nat_lt 0) gone.freed_is ∙ unused_tells (is_unused (without_page (ledger_of v) s p) (origin_of v.zero_frame e.frame))

  pub removed_call : overlay_at v s p ≡ None → Released v less u n s p freed e.frame
  unfolding cut_page put_space
  removed_call bare_v =
      let fits = gone.fits in
      let bare = sym (ap (option_and_then (λ (y : PageView). y.overlay)) there) ∙ bare_v in
      let nothing = ap (λ k. class (length (lines_of k))) bare ∙ class_none in
      let none = ap (λ k. length (lines_of k)) bare in record {
        fits = omega (arith, fits);
        books = booked_gone kept s p (same_books gone.books (omega (arith, nothing)) (omega (arith, none)));
        answer = ap (λ b. cond b (Some e.frame) None) (freed_tells ∙ ap (λ l. is_unused l (origin_of v.zero_frame e.frame)) (sym (books_cut_page holding_of v s p)))
            ∙ sym (given_as (cut_page v s p) (page_by v s p e is)) ∙ ap (given_up (cut_page v s p)) (sym there);
      }

  module _ (sound : IsSound v) (f : ℕ) (low : f < v.frames) where
    pub before_hold : (f ≡ z) ⊎ (sharers_of less f < 2 ^ 32 - 1)
    before_hold = subst (λ k. (f ≡ k) ⊎ (sharers_of less f < 2 ^ 32 - 1)) (sym zero_is) (by_two f v.zero_frame inl (λ isnt.
        let bound = sharers_bound v counts u n kept sound.few f low isnt in
        let all = sharers_at (ledger_of v) s p (holding_of v.zero_frame (page_by v s p e is)) (f + 1) (books_there holding_of v s p _ there) in
        let count = gone.books.counted f low isnt in
        inr (omega (arith, bound, all, count))))

    abbrev y : PageView
    y = record { entry = record { perms = e.perms; frame = f }; overlay = (entry_page v s p e is).0 }

    framed_is : with_frame v s p f ≡ put_page v s p y
    unfolding with_frame
    framed_is = changed_there _ v s p (page_by v s p e is) there

    pub framed_call : {more : List ℕ} {added : ℕ} → more ≡ held_by z less f → added ≡ frame_units z less f → (space_in v s).awaiting ≡ empty → IsFreeFor v s p f
        → Framed v more u n s p f freed added e.frame
    unfolding put_page put_space
    framed_call {more = more} {added = added} more_is added_is settled free =
        let fits = gone.fits in
        let lines = gone.lines_fit in record {
          fits = omega (arith, fits);
          books = subst (λ w. IsBooked w more (u - freed + added) n) (sym framed_is) (booked_put kept s p y low (fits_in free)
              (same_books (page_come (ledger_of v) v.zero_frame v.frames s p f (holding_of v.zero_frame y) refl low gone.books (more_is ∙ ap (λ k. held_by k less f) zero_is)
              (added_is ∙ ap (λ k. frame_units k less f) zero_is)) (omega (arith, fits)) (omega (arith, lines))));
          answer = joined (nat_lt 0 freed) e.frame
              ∙ ap (λ b. cond (b && not (f == e.frame)) (Some e.frame) None) freed_tells
              ∙ ap (λ b. cond b (Some e.frame) None) (sym (ap (λ l. is_unused l (origin_of v.zero_frame e.frame)) (books_put_page holding_of v s p y)
              ∙ unused_put (ledger_of v) s p v.zero_frame f e.frame (holding_of v.zero_frame y) refl))
              ∙ sym (given_as (put_page v s p y) (page_by v s p e is)) ∙ (λ i. given_up (sym framed_is i) (sym there i));
        }
      where
        fits_in : IsFreeFor v s p f → FitsIn v.zero_frame (space_in v s) p y
        fits_in (inl zero_f) = inl zero_f
        fits_in (inr alone) = inr by
          where
            by : (a : Bool) (q : ℕ) → frame_named (space_in v s) a q ≡ Some f → (a ≡ false) × (q ≡ p)
            by true q at = let none = ap (λ m. get m q) settled ∙ get-empty {X = PageEntry} nat_cmp q in cc
            by false q at = map_from (λ (x : PageView). x.entry.frame) (get (space_in v s).pages q) f at (λ x there is. (refl, alone q x (page_of v s q ∙ there) is))

        joined : (b : Bool) (g : ℕ) → ◌≡◌ {A = Option ℕ} (option_and_then (λ (m : ℕ). cond (f == m) None (Some m)) (cond b (Some g) None)) (cond (b && not (f == g)) (Some g) None)
        joined b g = grind (arith, nat_tests)

-- an entry that is known, of what is kept
pub entry_known : (v w : LedgerView) (s p : ℕ) (e : PageEntry) → v ≡ w → Some e ≡ option_map (λ (x : PageView). x.entry) (page_in w s p)
    → Some e ≡ option_map (λ (x : PageView). x.entry) (page_in v s p)
entry_known v w s p e same is = is ∙ sym (ap (λ (m : LedgerView). option_map (λ (x : PageView). x.entry) (page_in m s p)) same)

-- an entry with another frame
pub entry_is_frame : (v : LedgerView) (s p f : ℕ) (e : PageEntry) → Some e ≡ option_map (λ (x : PageView). x.entry) (page_in v s p)
    → with_entry_at v s p (record { perms = e.perms; frame = f }) ≡ with_frame v s p f
unfolding with_entry_at with_frame
entry_is_frame v s p f e is = let found = entry_page v s p e is in changed_there _ v s p _ found.1 ∙ sym (changed_there _ v s p _ found.1)

-- A page with another overlay, or none.

pub record Overlaid (v : LedgerView) (counts : List ℕ) (u n s p before after : ℕ) (o : Option Entry) : Type 0 where
  pub fits : class before ≤ u
  pub lines_fit : before ≤ n
  pub books : IsBooked (with_overlay v s p o) counts (u - class before + class after) (n - before + after)

pub overlaid_call : (v : LedgerView) (counts : List ℕ) (u n : ℕ) → IsBooked v counts u n → (s p before after : ℕ) (had o : Option Entry) → IsSome (page_in v s p)
    → had ≡ overlay_at v s p → before ≡ length (lines_of had) → after ≡ length (lines_of o) → Overlaid v counts u n s p before after o
unfolding with_overlay
overlaid_call v counts u n kept s p before after had o there had_is before_is after_is =
    let x = some_is (page_in v s p) there in
    let y : PageView = record { entry = x.0.entry; overlay = o } in
    let low = kept.inside s p x.0 x.1 in
    let at = books_there holding_of v s p x.0 x.1 in
    let was : before ≡ length (lines_of x.0.overlay) = before_is ∙ ap (λ k. length (lines_of k)) (had_is ∙ ap (option_and_then (λ (y : PageView). y.overlay)) x.1) in
    let gone = page_gone (ledger_of v) v.zero_frame v.frames s p x.0.entry.frame (holding_of v.zero_frame x.0) refl low kept.books at refl refl in
    let fits = gone.fits in
    let few = gone.lines_fit in
    let less = ap class was in
    let more = ap class after_is in record {
      fits = omega (arith, fits, less);
      lines_fit = omega (arith, few, was);
      books = subst (λ w. IsBooked w counts (u - class before + class after) (n - before + after)) (sym (changed_there _ v s p x.0 x.1))
          (booked_put kept s p y low (fits_same v.zero_frame (space_in v s) p x.0 y (kept.apart s) (in_pages v s p x.0 x.1) refl)
          (same_books (page_over (ledger_of v) v.zero_frame v.frames s p x.0.entry.frame (holding_of v.zero_frame y) refl low counts u n (holding_of v.zero_frame x.0) kept.books at refl)
          (omega (arith, less, more)) (omega (arith, was, after_is))));
    }

-- another block alone
pub record Moved (v : LedgerView) (counts : List ℕ) (u n s p : ℕ) (e : Entry) (to : Block) : Type 0 where
  pub books : IsBooked (with_overlay v s p (Some (record { bits = e.bits; block = to }))) counts u n
  pub is : with_overlay v s p (Some (record { bits = e.bits; block = to })) ≡ with_block v s p to

pub moved_call : (v : LedgerView) (counts : List ℕ) (u n : ℕ) → IsBooked v counts u n → (s p : ℕ) (e : Entry) (to : Block) → Some e ≡ overlay_at v s p → Moved v counts u n s p e to
unfolding with_block with_overlay
moved_call v counts u n kept s p e to is = by_option (page_in v s p)
    (λ none. let no = ap is_some (is ∙ ap (option_and_then (λ (y : PageView). y.overlay)) none) in cc)
    (λ x there.
    let over : x.overlay ≡ Some e = sym (is ∙ ap (option_and_then (λ (y : PageView). y.overlay)) there) in
    let new : Option Entry = Some (record { bits = e.bits; block = to }) in
    let made = overlaid_call v counts u n kept s p (length e.bits) (length e.bits) (Some e) new (ap is_some there) is refl refl in
    let fits = made.fits in
    let few = made.lines_fit in record {
      books = subst₂ (λ j k. IsBooked (with_overlay v s p new) counts j k) (omega (arith, fits)) (omega (arith, few)) made.books;
      is = changed_there _ v s p x there ∙ ap (λ o. put_page v s p (record { entry = x.entry; overlay = option_map (λ (k : Entry). record { bits = k.bits; block = to }) o })) (sym over)
          ∙ sym (changed_there _ v s p x there);
    })

-- A page shared.

pub shared_frame : (v : LedgerView) (counts : List ℕ) (u n : ℕ) → IsBooked v counts u n → (from to p : ℕ) (entry : PageEntry) → IsSome (page_in v from p) → get (space_in v to).awaiting p ≡ Some entry
    → frame_awaiting v to p ≡ frame_at v from p → (x : PageView) × (page_in v from p ≡ Some x) × (entry.frame ≡ x.entry.frame) × (entry.frame < v.frames)
shared_frame v counts u n kept from to p entry there waiting same =
    let x = some_is (page_in v from p) there in
    let frames : entry.frame ≡ x.0.entry.frame = some_frame (sym (ap (option_map (λ (e : PageEntry). e.frame)) waiting) ∙ same ∙ ap (option_map (λ (y : PageView). y.entry.frame)) x.1) in
    (x.0, x.1, frames, subst (λ k. k < v.frames) (sym frames) (kept.inside from p x.0 x.1))
  where
    some_frame : {a b : ℕ} → Some a ≡ Some b → a ≡ b
    some_frame {a = a} e = same_Some _ _ e

pub before_share : (v : LedgerView) (counts : List ℕ) (u n : ℕ) → IsBooked v counts u n → len v.spaces ≤ LAST_SPACE + 1 → (z : ℕ) (entry : PageEntry) → entry.frame < v.frames → z ≡ v.zero_frame
    → (entry.frame ≡ z) ⊎ (sharers_of counts entry.frame < 2 ^ 32 - 1)
before_share v counts u n kept few z entry low zero_is =
    subst (λ k. (entry.frame ≡ k) ⊎ (sharers_of counts entry.frame < 2 ^ 32 - 1)) (sym zero_is) (by_two entry.frame v.zero_frame inl (λ isnt.
    let bound = sharers_bound v counts u n kept few entry.frame low isnt in
    let count = kept.books.counted entry.frame low isnt in
    inr (omega (arith, bound, count))))

pub shared_call : (v : LedgerView) (counts more : List ℕ) (u n : ℕ) → IsBooked v counts u n → (s p z added lines : ℕ) (entry : PageEntry) (o : Option Entry) → holds_space v s ≡ true
    → page_in v s p ≡ None → get (space_in v s).awaiting p ≡ Some entry → entry.frame < v.frames → z ≡ v.zero_frame → more ≡ held_by z counts entry.frame → added ≡ frame_units z counts entry.frame
    → lines ≡ length (lines_of o) → IsBooked (put_shared v s p (record { entry = entry; overlay = o })) more (u + added + class lines) (n + lines)
shared_call v counts more u n kept s p z added lines entry o has absent waiting low zero_is more_is added_is lines_is =
    let y : PageView = record { entry = entry; overlay = o } in
    let added_v : added ≡ frame_units v.zero_frame counts entry.frame = added_is ∙ ap (λ k. frame_units k counts entry.frame) zero_is in
    let classes = ap class lines_is in
    booked_shared kept s p y entry low waiting refl
    (same_books (page_come (ledger_of v) v.zero_frame v.frames s p entry.frame (holding_of v.zero_frame y) refl low (books_without v counts u n kept s p has absent)
    (more_is ∙ ap (λ k. held_by k counts entry.frame) zero_is) added_v) (omega (arith, classes)) (omega (arith, lines_is)))

-- the view of a page shared, and that it has the origin and the own lines of the other
pub shared_view : (v : LedgerView) (from to p : ℕ) (entry : PageEntry) (own o : Option Entry) (block : Option Block) → get (space_in v to).awaiting p ≡ Some entry → own ≡ overlay_at v from p
    → o ≡ option_map (λ (b : Block). record { bits = lines_of own; block = b }) block
    → put_shared v to p (record { entry = entry; overlay = o }) ≡ with_page_shared v from to p block
unfolding with_page_shared
shared_view v from to p entry own o block waiting own_is o_is =
    ap (λ k. put_shared v to p (record { entry = entry; overlay = k })) o_is
    ∙ ap (λ k. put_shared v to p (record { entry = entry; overlay = option_map (λ (b : Block). record { bits = lines_of k; block = b }) block })) own_is
    ∙ sym (ap (λ (w : Option PageEntry). option_map_or (λ (e : PageEntry). put_shared v to p (record { entry = e; overlay = option_map (λ (b : Block). record { bits = lines_of (overlay_at v from p); block = b }) block })) w v) waiting)

pub shared_holding : (v : LedgerView) (from to p : ℕ) (entry : PageEntry) (x : PageView) (own o : Option Entry) (block : Option Block) → page_in v from p ≡ Some x → entry.frame ≡ x.entry.frame
    → own ≡ overlay_at v from p → o ≡ option_map (λ (b : Block). record { bits = lines_of own; block = b }) block → is_some block ≡ is_some (overlay_at v from p)
    → holding_at (ledger_of (put_shared v to p (record { entry = entry; overlay = o }))) to p ≡ holding_at (ledger_of v) from p
unfolding put_shared put_space
shared_holding v from to p entry x own o block there frame own_is o_is given =
    books_page holding_of (put_shared v to p (record { entry = entry; overlay = o })) to p
    ∙ ap (option_map (holding_of v.zero_frame)) (page_shared_here v to p (record { entry = entry; overlay = o }) to p refl refl)
    ∙ ap (λ k. Some (record { origin = origin_of v.zero_frame k; own = lines_of o })) frame
    ∙ ap (λ (k : List ℕ). Some (record { origin = origin_of v.zero_frame x.entry.frame; own = k })) (ap lines_of o_is ∙ same own block (given ∙ ap is_some (sym own_is)) ∙ ap lines_of (own_is ∙ ap (option_and_then (λ (y : PageView). y.overlay)) there))
    ∙ sym (books_there holding_of v from p x there)
  where
    same : (own : Option Entry) (block : Option Block) → is_some block ≡ is_some own → lines_of (option_map (λ (b : Block). record { bits = lines_of own; block = b }) block) ≡ lines_of own
    same None None h = refl
    same None (Some b) h = cc
    same (Some e) None h = cc
    same (Some e) (Some b) h = refl

-- pages that are those of a space name no frame but the zero frame twice
pub named_once : (v w : LedgerView) (counts : List ℕ) (u n : ℕ) → IsBooked v counts u n → (s : ℕ) (pages : Pages) → v ≡ w → pages ≡ entries_of v s
    → NamesOnce w.zero_frame pages
unfolding entries_of
named_once v w counts u n kept s pages same is =
    subst (λ (k : LedgerView). NamesOnce k.zero_frame pages) same
    (λ p q a b at_p at_q frames isnt. (kept.apart s false false p q a.frame (frame_of p a at_p) (frame_of q b at_q ∙ ap Some (sym frames)) isnt).1)
  where
    frame_of : (p : ℕ) (a : PageEntry) → get pages p ≡ Some a → frame_named (space_in v s) false p ≡ Some a.frame
    frame_of p a at =
        map_from (λ (y : PageView). y.entry) (get (space_in v s).pages p) a (sym (ap (λ (m : Pages). get m p) is ∙ get_viewed (λ page (y : PageView). y.entry) (space_in v s).pages p) ∙ at)
        (λ x there same. ap (option_map (λ (y : PageView). y.entry.frame)) there ∙ ap (λ (e : PageEntry). Some e.frame) same)

-- and so does a table that was copied
pub copied_once : {E : Type 0} (v w : LedgerView) (counts : List ℕ) (u n : ℕ) → IsBooked v counts u n → (s : ℕ) (r : Result Table E) → v ≡ w
    → IfOk r (λ table. table.pages ≡ entries_of v s) → IfOk r (λ table. NamesOnce w.zero_frame table.pages)
copied_once v w counts u n kept s (Err e) same h = h
copied_once v w counts u n kept s (Ok table) same is = named_once v w counts u n kept s table.pages same is

use Rattle.std.specs.Prelude.{◌≡◌, ℕ, ◌+◌, ◌<◌, ◌≤◌, ◌&&◌, ◌||◌, Bool, true, false, nat_lt, Option, Some, None, refl, IfSome}
use Rattle.std.proofs.Common.{sym, ap, subst, ◌∙◌, arith}
use Rattle.std.proofs.lemmas.Bool.Decides.{nat_tests}
use Rattle.std.specs.FinMap.{get}
use Rattle.ovl_io.specs.Memory.{Memory}
use Rattle.ledger.specs.Alike.{AreAlike}
use Rattle.ledger.specs.AlikeLaws.{alike_chain}
use Rattle.ledger.specs.AlikeUnits.{units_alike}
use Rattle.sizes.specs.declared.TheConstants.{PAGE_END}
use Rattle.ledger.specs.Ledger.{Ledger, is_alone, is_unused, without_page}
use Rattle.ledger.specs.Changes.{has_own}
use Rattle.ledger.specs.Events.{Settle, ledger_after}
use Rattle.ledger.specs.AloneLaws.{unused_without}
use Rattle.space_maps.specs.Spaces.{page_in, put_page}
use Rattle.space_ledger.specs.Calls.{IsNextOwn}
use Rattle.overlay_pages.specs.State.{PageState, State, books, held_page, seen_page}
use Rattle.overlay_pages.specs.Changes.{HasCopyRoom, IsNewFrame, IsPlaced, copied}
use Rattle.overlay_memory.specs.ApartLaws.{ArePagesApart, origins_apart}
use Rattle.overlay_memory.specs.Joined.{IsBare}
use Rattle.overlay_memory.specs.PageLaws.{held_there, own_is}
use Rattle.overlay_memory.specs.Room.{FitsAfter}
use Rattle.promotion.specs.Settled.{CanCopy, HasCommittedAlone, HasSettled, CopiesOwnWhere, NoneAlone, alone_in, every_page}
use Rattle.promotion.specs.FateLaws.{alike_altered}
use Rattle.promotion.specs.FateFolds.{after_settle, both_tests, commits_first, none_alone, none_own, or_page, retold}
use Rattle.promotion.specs.FateUnits.{room_on_the_way}
use Rattle.promotion.specs.Altered.{HaveAltered, alone_now, are_settled, new_origin_of, none_yet, one_more, own_now, said_again}
use Rattle.promotion.specs.Walks.{ComesTo, at_first, come_past, comes_to, next_done, so_far}

-- Pages with own lines, of which none is alone, are copied, one after the other.

-- the pages that are to be
abbrev pub to_copy : State → ℕ → ℕ → Bool
to_copy v space r = has_own (books v) space r

pub record IsCopying (old now : State) (space from : ℕ) : Type 0 where
  pub altered : HaveAltered seen_page (so_far (to_copy old space) from) (alone_in old space) old now space
  pub low : from ≤ PAGE_END

pub copying_none : (v : State) (space : ℕ) → IsCopying v v space 0
copying_none v space = record {
  altered = said_again seen_page _ _ (alone_in v space) v v space (none_yet seen_page (alone_in v space) v space) (λ r x at. at_first (to_copy v space) r);
  low = omega arith;
}

-- A page that isn't alone goes into a new frame.
module _ (t : ℕ → Bool) (old now : State) (space page : ℕ) (x : PageState) (h : HaveAltered seen_page t (alone_in old space) old now space)
    (had : page_in old space page ≡ Some x) (unaltered : t page ≡ false) (shared : is_alone (books old) space page ≡ false) (frame : ℕ) (fresh : IsNewFrame now frame) where
  pub copied_one : HaveAltered seen_page (or_page t page) (alone_in old space) old (put_page now space page (copied frame x)) space
  copied_one =
      one_more seen_page t (alone_in old space) old now space page x (copied frame x) h had unaltered refl refl refl
      (λ yes. let no = sym yes ∙ shared in cc)
      (λ _. ap (is_unused (without_page (books now) space page)) (new_origin_of now.zero_frame frame fresh.other) ∙ unused_without (books now) space page (frame + 1) fresh.unused)

module _ (old now : State) (space from page : ℕ) (apart : ArePagesApart old space) (none : NoneAlone old space) (fits : FitsAfter (Settle space) old) (h : IsCopying old now space from)
    (next : IsNextOwn (books now) space from (Some page)) where
  abbrev test : ℕ → Bool
  test = to_copy old space

  it : ComesTo seen_page test (alone_in old space) old now space page
  it = comes_to seen_page test (alone_in old space) old now space from h.altered (λ q bare. bare) page next

  passes : test page ≡ true
  passes = sym (own_now old now space page it.x it.had it.at) ∙ next.1

  not_alone : (r : ℕ) → has_own (books old) space r ≡ true → is_alone (books old) space r ≡ false
  not_alone r own = by_test (is_alone (books old) space r) refl
    where
      by_test : (b : Bool) → is_alone (books old) space r ≡ b → is_alone (books old) space r ≡ false
      by_test false e = e
      by_test true e = let no = sym own ∙ none r e in cc

  altered_more : (frame : ℕ) → IsNewFrame now frame → HaveAltered seen_page (so_far test (page + 1)) (alone_in old space) old (put_page now space page (copied frame it.x)) space
  altered_more frame fresh =
      said_again seen_page _ _ (alone_in old space) old (put_page now space page (copied frame it.x)) space
      (copied_one (so_far test page) old now space page it.x it.reached it.had it.unaltered (not_alone page passes) frame fresh)
      (λ r x had. next_done test page r passes)

  -- the units with it are at most those after the last one
  room_now : is_alone (books now) space page ≡ false → HasCopyRoom now space page
  room_now shared x there =
      let le = room_on_the_way (books old) space (origins_apart old space apart) (λ r. alone_in old space r || nat_lt r page) (books now)
      (retold (so_far test page) (both_tests test (λ r. alone_in old space r || nat_lt r page)) (alone_in old space) (books old) (books now) space it.reached.ledger (λ r x had. alone_too r))
      (λ r alone. ap (λ b. b || nat_lt r page) alone) page (held_page now.zero_frame x) passes (not_alone page passes) (held_there now space page x there) shared in
      let frames = it.reached.frames in
      omega (arith, le, fits, frames)
    where
      alone_too : (r : ℕ) → both_tests test (λ r. alone_in old space r || nat_lt r page) r ≡ so_far test page r
      alone_too r = by_own (test r) refl
        where
          by_own : (b : Bool) → test r ≡ b → (test r && (alone_in old space r || nat_lt r page)) ≡ (test r && nat_lt r page)
          by_own true e = ap (λ b. test r && (b || nat_lt r page)) (not_alone r e)
          by_own false e = ap (λ b. b && (alone_in old space r || nat_lt r page)) e ∙ sym (ap (λ b. b && nat_lt r page) e)

  pub can_copy : has_own (books now) space page ≡ true → CanCopy now space page
  can_copy own = record { shared = shared; room = room_now shared }
    where
      shared : is_alone (books now) space page ≡ false
      shared = alone_now seen_page (so_far test page) old now space page it.x apart it.reached it.unaltered it.had ∙ not_alone page passes

  pub copying_more : (new : State) → CopiesOwnWhere (has_own (books now) space page) now new space page → page < PAGE_END → IsCopying old new space (page + 1)
  copying_more new copies low = record { altered = moved; low = omega arith }
    where
      at_true : IfSome (page_in now space page) (λ x. IsPlaced now new space page (λ frame. copied frame x))
      at_true = subst (λ b. CopiesOwnWhere b now new space page) next.1 copies

      placed : IsPlaced now new space page (λ frame. copied frame it.x)
      placed = subst (λ (o : Option PageState). IfSome o (λ x. IsPlaced now new space page (λ frame. copied frame x))) it.at at_true

      moved : HaveAltered seen_page (so_far test (page + 1)) (alone_in old space) old new space
      moved = subst (λ (v : State). HaveAltered seen_page (so_far test (page + 1)) (alone_in old space) old v space) (sym placed.placed) (altered_more placed.frame placed.fresh)

pub copied_all : (old now : State) (space from : ℕ) → IsBare old space → IsCopying old now space from → IsNextOwn (books now) space from None → HasSettled old now space
copied_all old now space from plain h none = record {
  settled = are_settled test (alone_in old space) every_page old now space whole plain (λ r e. refl)
      (λ r x had e _. none_own x.own (sym (own_is (books old) space r (held_page old.zero_frame x) (held_there old space r x had)) ∙ e));
  ledger = alike_altered test (alone_in old space) (books old) (books now) (ledger_after (Settle space) (books old)) space whole.ledger (after_settle (books old) space);
}
  where
    test : ℕ → Bool
    test = to_copy old space

    whole : HaveAltered seen_page test (alone_in old space) old now space
    whole = come_past seen_page test (alone_in old space) old now space from h.altered (λ q bare. bare) none

-- one page
pub lines_above : (v : State) (space page n : ℕ) → has_own (books v) space page ≡ nat_lt 0 n → (n ≡ 0 → ⊥) → has_own (books v) space page ≡ true
lines_above v space page n own some = own ∙ above
  where
    above : nat_lt 0 n ≡ true
    above = grind (arith, nat_tests)

pub copies_none : (v : State) (space page n : ℕ) → has_own (books v) space page ≡ nat_lt 0 n → n ≡ 0 → CopiesOwnWhere (has_own (books v) space page) v v space page
copies_none v space page n own none = subst (λ b. CopiesOwnWhere b v v space page) (sym (own ∙ ap (nat_lt 0) none)) refl

pub copies_it : (v w : State) (space page n : ℕ) → has_own (books v) space page ≡ nat_lt 0 n → (n ≡ 0 → ⊥)
    → IfSome (page_in v space page) (λ x. IsPlaced v w space page (λ frame. copied frame x)) → CopiesOwnWhere (has_own (books v) space page) v w space page
copies_it v w space page n own some placed = subst (λ b. CopiesOwnWhere b v w space page) (sym (lines_above v space page n own some)) placed

-- Commits first, then copies.
module _ (old mid : State) (space : ℕ) (apart : ArePagesApart old space) (h : HasCommittedAlone old mid space) where
  pub none_left : NoneAlone mid space
  none_left = subst (λ (l : Ledger). (r : ℕ) → is_alone l space r ≡ true → has_own l space r ≡ false) (sym h.ledger) (none_alone (books old) space (origins_apart old space apart))

  same_end : AreAlike (ledger_after (Settle space) (books mid)) (ledger_after (Settle space) (books old))
  same_end =
      subst (λ (l : Ledger). AreAlike (ledger_after (Settle space) l) (ledger_after (Settle space) (books old))) (sym h.ledger)
      (commits_first (books old) space (origins_apart old space apart))

  pub fits_still : FitsAfter (Settle space) old → FitsAfter (Settle space) mid
  fits_still fits =
      let same = units_alike _ _ same_end in
      let frames = h.settled.frames in
      omega (arith, same, fits, frames)

  pub both_settled : (new : State) → HasSettled mid new space → HasSettled old new space
  both_settled new k = record {
    settled = record {
      memory = k.settled.memory ∙ h.settled.memory;
      base = λ r. k.settled.base r ∙ ap (λ (m : Memory). get m r) h.settled.memory;
      own = k.settled.own;
      awaiting = k.settled.awaiting ∙ h.settled.awaiting;
      marked = k.settled.marked ∙ h.settled.marked;
      others = λ q d. k.settled.others q d ∙ h.settled.others q d;
      spaces = λ q. k.settled.spaces q ∙ h.settled.spaces q;
      frames = k.settled.frames ∙ h.settled.frames;
      zero_frame = k.settled.zero_frame ∙ h.settled.zero_frame;
    };
    ledger = alike_chain _ _ _ k.ledger same_end;
  }

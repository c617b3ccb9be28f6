use Rattle.std.specs.Prelude.{◌≡◌, ℕ, ◌+◌, ◌<◌, ◌≤◌, ◌&&◌, ◌⊎◌, Bool, true, false, cond, nat_lt, [], Some, None, refl}
use Rattle.std.proofs.Common.{sym, ap, subst, ◌∙◌, arith, inl, inr}
use Rattle.std.proofs.lemmas.Bool.Decides.{nat_tests}
use Rattle.sizes.specs.declared.TheConstants.{PAGE_END}
use Rattle.ledger.specs.Ledger.{Holding, holding_at, is_alone}
use Rattle.ledger.specs.Changes.{has_own}
use Rattle.space_maps.specs.Laws.{changed_there}
use Rattle.space_maps.specs.Spaces.{page_in, put_page, altered_page}
use Rattle.space_ledger.specs.Calls.{IsNextOwn}
use Rattle.overlay_pages.specs.State.{PageState, State, books, held_page, seen_page}
use Rattle.overlay_pages.specs.Changes.{committed}
use Rattle.promotion.specs.Settled.{HasCommittedAlone, alone_in, with_committed, without_alone}
use Rattle.overlay_memory.specs.ApartLaws.{ArePagesApart}
use Rattle.overlay_memory.specs.Joined.{IsBare}
use Rattle.overlay_memory.specs.PageLaws.{held_there, own_is}
use Rattle.promotion.specs.FateFolds.{alone_turns, none_own, same_altered, widened}
use Rattle.promotion.specs.Altered.{HaveAltered, alone_now, are_settled, none_yet, one_more, own_now, said_again}
use Rattle.promotion.specs.Walks.{ComesTo, at_first, come_past, comes_to, next_done, next_kept, so_far}

-- Pages that are alone are committed, one after the other.

-- the pages that are to be
abbrev pub to_commit : State → ℕ → ℕ → Bool
to_commit v space r = has_own (books v) space r && is_alone (books v) space r

pub record IsCommitting (old now : State) (space from : ℕ) : Type 0 where
  pub altered : HaveAltered seen_page (so_far (to_commit old space) from) (alone_in old space) old now space
  pub low : from ≤ PAGE_END

pub committing_none : (v : State) (space : ℕ) → IsCommitting v v space 0
committing_none v space = record {
  altered = said_again seen_page _ _ (alone_in v space) v v space (none_yet seen_page (alone_in v space) v space) (λ r x at. at_first (to_commit v space) r);
  low = omega arith;
}

and_right : (b c : Bool) → (b && c) ≡ true → c ≡ true
and_right true c e = e
and_right false c e = cc

-- a page without own lines isn't one of them
bare_stays : (v : State) (space r : ℕ) → has_own (books v) space r ≡ false → to_commit v space r ≡ false
bare_stays v space r bare = ap (λ b. b && is_alone (books v) space r) bare

module _ (old now new : State) (space from page : ℕ) (apart : ArePagesApart old space) (h : IsCommitting old now space from)
    (next : IsNextOwn (books now) space from (Some page)) (is : new ≡ with_committed now space page) (low : page < PAGE_END) where
  abbrev test : ℕ → Bool
  test = to_commit old space

  it : ComesTo seen_page test (alone_in old space) old now space page
  it = comes_to seen_page test (alone_in old space) old now space from h.altered (bare_stays old space) page next

  pub committing_more : IsCommitting old new space (page + 1)
  unfolding with_committed
  committing_more = record { altered = by_test (test page) refl; low = omega arith }
    where
      same_test : (has_own (books now) space page && is_alone (books now) space page) ≡ test page
      same_test = λ i. own_now old now space page it.x it.had it.at i && alone_now seen_page (so_far test page) old now space page it.x apart it.reached it.unaltered it.had i

      by_test : (b : Bool) → test page ≡ b → HaveAltered seen_page (so_far test (page + 1)) (alone_in old space) old new space
      by_test false e =
          let kept : new ≡ now = is ∙ ap (λ b. cond b (altered_page committed now space page) now) (same_test ∙ e) in
          subst (λ (v : State). HaveAltered seen_page (so_far test (page + 1)) (alone_in old space) old v space) (sym kept)
          (said_again seen_page _ _ (alone_in old space) old now space it.reached (λ r x had. next_kept test page r e))
      by_test true e =
          let put : new ≡ put_page now space page (committed it.x) =
          is ∙ ap (λ b. cond b (altered_page committed now space page) now) (same_test ∙ e) ∙ changed_there committed now space page it.x it.at in
          subst (λ (v : State). HaveAltered seen_page (so_far test (page + 1)) (alone_in old space) old v space) (sym put)
          (said_again seen_page _ _ (alone_in old space) old (put_page now space page (committed it.x)) space
          (one_more seen_page (so_far test page) (alone_in old space) old now space page it.x (committed it.x) it.reached it.had it.unaltered refl refl refl (λ _. refl)
          (λ no. let yes = and_right (has_own (books old) space page) (is_alone (books old) space page) e in let never = sym yes ∙ no in cc))
          (λ r x had. next_done test page r e))

pub committed_all : (old now : State) (space from : ℕ) → IsBare old space → IsCommitting old now space from → IsNextOwn (books now) space from None → HasCommittedAlone old now space
committed_all old now space from plain h none = record {
  settled = are_settled test (alone_in old space) (alone_in old space) old now space whole plain
      (λ r e. and_right (has_own (books old) space r) (is_alone (books old) space r) e) bare;
  ledger = same_altered (alone_in old space) (alone_in old space) (books old) (books now) (without_alone space (books old)) space
      (widened test (alone_in old space) (alone_in old space) (books old) (books now) space whole.ledger wide) (alone_turns (books old) space) (λ r e. e);
}
  where
    test : ℕ → Bool
    test = to_commit old space

    whole : HaveAltered seen_page test (alone_in old space) old now space
    whole = come_past seen_page test (alone_in old space) old now space from h.altered (bare_stays old space) none

    own_of : (r : ℕ) (x : PageState) → page_in old space r ≡ Some x → has_own (books old) space r ≡ false → x.own ≡ []
    own_of r x had e = none_own x.own (sym (own_is (books old) space r (held_page old.zero_frame x) (held_there old space r x had)) ∙ e)

    not_own : (b c : Bool) → (b && c) ≡ false → c ≡ true → b ≡ false
    not_own false c e g = refl
    not_own true c e g = let no = sym g ∙ e in cc

    bare : (r : ℕ) (x : PageState) → page_in old space r ≡ Some x → test r ≡ false → alone_in old space r ≡ true → x.own ≡ []
    bare r x had e alone = own_of r x had (not_own (has_own (books old) space r) (is_alone (books old) space r) e alone)

    wide : (r : ℕ) (x : Holding) → holding_at (books old) space r ≡ Some x → (alone_in old space r ≡ test r) ⊎ ((test r ≡ false) × (alone_in old space r ≡ true) × (x.own ≡ []))
    wide r x had = by_tests (has_own (books old) space r) (is_alone (books old) space r) refl refl
      where
        by_tests : (b c : Bool) → has_own (books old) space r ≡ b → is_alone (books old) space r ≡ c
            → (alone_in old space r ≡ test r) ⊎ ((test r ≡ false) × (alone_in old space r ≡ true) × (x.own ≡ []))
        by_tests true c e g = inl (sym (ap (λ d. d && is_alone (books old) space r) e))
        by_tests false false e g = inl (g ∙ sym (ap (λ d. d && is_alone (books old) space r) e))
        by_tests false true e g =
            inr (ap (λ d. d && is_alone (books old) space r) e, g, none_own x.own (sym (own_is (books old) space r x had) ∙ e))

-- one page
pub commits_none : (v : State) (space page n : ℕ) → has_own (books v) space page ≡ nat_lt 0 n → n ≡ 0 → v ≡ with_committed v space page
unfolding with_committed
commits_none v space page n own none = sym (ap (λ b. cond (b && is_alone (books v) space page) (altered_page committed v space page) v) (own ∙ ap (nat_lt 0) none))

pub commits_no_other : (v : State) (space page : ℕ) → is_alone (books v) space page ≡ false → v ≡ with_committed v space page
unfolding with_committed
commits_no_other v space page shared = sym (ap (λ b. cond (has_own (books v) space page && b) (altered_page committed v space page) v) shared ∙ at (has_own (books v) space page))
  where
    at : (b : Bool) → cond (b && false) (altered_page committed v space page) v ≡ v
    at true = refl
    at false = refl

pub commits_it : (v w : State) (space page n : ℕ) → has_own (books v) space page ≡ nat_lt 0 n → (n ≡ 0 → ⊥) → is_alone (books v) space page ≡ true
    → w ≡ altered_page committed v space page → w ≡ with_committed v space page
unfolding with_committed
commits_it v w space page n own some alone is =
    is ∙ sym (λ i. cond ((own ∙ above) i && alone i) (altered_page committed v space page) v)
  where
    above : nat_lt 0 n ≡ true
    above = grind (arith, nat_tests)

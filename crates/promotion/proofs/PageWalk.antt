use Rattle.std.specs.Prelude.{◌≡◌, ℕ, ◌+◌, ◌<◌, ◌≤◌, ◌&&◌, ◌||◌, ◌⊎◌, Bool, true, false, nat_le, List, [], length, Option, Some, None, refl, IfSome}
use Rattle.std.proofs.Common.{sym, ap, subst, ◌∙◌, arith, inl, inr}
use Rattle.std.proofs.lemmas.Bool.Decides.{nat_tests}
use Rattle.std.specs.Option.{option_map}
use Rattle.sizes.specs.declared.TheConstants.{PAGE_END}
use Rattle.ledger.specs.Ledger.{Holding, holding_at, is_alone}
use Rattle.ledger.specs.Changes.{has_own, is_large}
use Rattle.ledger.specs.ClassLaws.{class_many}
use Rattle.ledger.specs.Events.{Commit, ledger_after}
use Rattle.ledger.specs.StoreLaws.{large_there}
use Rattle.ledger.specs.Units.{units}
use Rattle.space_maps.specs.Laws.{changed_there}
use Rattle.space_maps.specs.Spaces.{page_in, put_page}
use Rattle.space_ledger.specs.Calls.{IsNextOwn}
use Rattle.overlay_pages.specs.State.{PageState, State, books, held_page, seen_page}
use Rattle.overlay_pages.specs.Changes.{Fits, HasCopyRoom, IsPlaced, committed, copied}
use Rattle.overlay_pages.specs.View.{IsJoined, MemoryView, state_of}
use Rattle.overlay_pages.specs.ViewLaws.{state_books, state_frames}
use Rattle.overlay_memory.specs.ApartLaws.{ArePagesApart}
use Rattle.overlay_memory.specs.Joined.{IsBare}
use Rattle.overlay_memory.specs.PageLaws.{held_there, own_is}
use Rattle.overlay_memory.specs.SmallLaws.{large_is}
use Rattle.promotion.specs.Settled.{CommitsPage, CommitsWhere, HasCommittedPages, alone_in, alone_or_large_in}
use Rattle.promotion.specs.FateLaws.{alike_altered}
use Rattle.promotion.specs.FateFolds.{after_commit, bare_small, none_own, widened}
use Rattle.promotion.specs.Altered.{HaveAltered, alone_now, are_settled, none_yet, one_more, own_now, said_again}
use Rattle.promotion.specs.Walks.{ComesTo, at_first, come_past, comes_to, next_done, next_kept, so_far}
use Rattle.promotion.proofs.CopyWalk.{copied_one}

-- Pages that are alone are committed, and those that have 32 own lines or more are copied, one after the other.

-- the pages that are to be
abbrev pub to_settle : State → ℕ → ℕ → Bool
to_settle v space r = has_own (books v) space r && alone_or_large_in v space r

pub record IsSettling (old now : State) (space from : ℕ) : Type 0 where
  pub altered : HaveAltered seen_page (so_far (to_settle old space) from) (alone_in old space) old now space
  pub low : from ≤ PAGE_END

pub settling_none : (v : State) (space : ℕ) → IsSettling v v space 0
settling_none v space = record {
  altered = said_again seen_page _ _ (alone_in v space) v v space (none_yet seen_page (alone_in v space) v space) (λ r x at. at_first (to_settle v space) r);
  low = omega arith;
}

-- a page without own lines isn't one of them
bare_stays : (v : State) (space r : ℕ) → has_own (books v) space r ≡ false → to_settle v space r ≡ false
bare_stays v space r bare = ap (λ b. b && alone_or_large_in v space r) bare

module _ (old now : State) (space from page : ℕ) (apart : ArePagesApart old space) (h : IsSettling old now space from)
    (next : IsNextOwn (books now) space from (Some page)) where
  abbrev test : ℕ → Bool
  test = to_settle old space

  it : ComesTo seen_page test (alone_in old space) old now space page
  it = comes_to seen_page test (alone_in old space) old now space from h.altered (bare_stays old space) page next

  -- it is to be where it is alone, or large
  own_old : has_own (books old) space page ≡ true
  own_old = sym (own_now old now space page it.x it.had it.at) ∙ next.1

  same_alone : is_alone (books now) space page ≡ is_alone (books old) space page
  same_alone = alone_now seen_page (so_far test page) old now space page it.x apart it.reached it.unaltered it.had

  same_large : is_large (books now) space page ≡ is_large (books old) space page
  same_large =
      large_there (books now) space page (held_page now.zero_frame it.x) (held_there now space page it.x it.at)
      ∙ sym (large_there (books old) space page (held_page old.zero_frame it.x) (held_there old space page it.x it.had))

  is_test : (b c : Bool) → is_alone (books old) space page ≡ b → is_large (books old) space page ≡ c → test page ≡ (b || c)
  is_test b c e f = (λ i. own_old i && (e i || f i))

  pub settling_more : (new : State) → CommitsPage now new space page → page < PAGE_END → IsSettling old new space (page + 1)
  settling_more new commits low =
      record { altered = by_tests (is_alone (books old) space page) refl (is_large (books old) space page) refl said; low = omega arith }
    where
      said : CommitsWhere (is_alone (books old) space page) (is_large (books old) space page) now new space page
      said =
          subst (λ b. CommitsWhere b (is_large (books old) space page) now new space page) same_alone
          (subst (λ c. CommitsWhere (is_alone (books now) space page) c now new space page) same_large commits)

      by_tests : (b : Bool) → is_alone (books old) space page ≡ b → (c : Bool) → is_large (books old) space page ≡ c → CommitsWhere b c now new space page
          → HaveAltered seen_page (so_far test (page + 1)) (alone_in old space) old new space
      by_tests true e c f is =
          let put : new ≡ put_page now space page (committed it.x) = is ∙ changed_there committed now space page it.x it.at in
          subst (λ (v : State). HaveAltered seen_page (so_far test (page + 1)) (alone_in old space) old v space) (sym put)
          (said_again seen_page _ _ (alone_in old space) old (put_page now space page (committed it.x)) space
          (one_more seen_page (so_far test page) (alone_in old space) old now space page it.x (committed it.x) it.reached it.had it.unaltered refl refl refl (λ _. refl)
          (λ no. let never = sym e ∙ no in cc))
          (λ r x had. next_done test page r (is_test true c e f)))
      by_tests false e true f placed_at =
          let placed : IsPlaced now new space page (λ frame. copied frame it.x) =
          subst (λ (o : Option PageState). IfSome o (λ x. IsPlaced now new space page (λ frame. copied frame x))) it.at placed_at in
          subst (λ (v : State). HaveAltered seen_page (so_far test (page + 1)) (alone_in old space) old v space) (sym placed.placed)
          (said_again seen_page _ _ (alone_in old space) old (put_page now space page (copied placed.frame it.x)) space
          (copied_one (so_far test page) old now space page it.x it.reached it.had it.unaltered e placed.frame placed.fresh)
          (λ r x had. next_done test page r (is_test false true e f)))
      by_tests false e false f is =
          subst (λ (v : State). HaveAltered seen_page (so_far test (page + 1)) (alone_in old space) old v space) (sym is)
          (said_again seen_page _ _ (alone_in old space) old now space it.reached (λ r x had. next_kept test page r (is_test false false e f)))

pub settled_all : (old now : State) (space from : ℕ) → IsBare old space → IsSettling old now space from → IsNextOwn (books now) space from None → HasCommittedPages old now space
settled_all old now space from plain h none = record {
  settled = are_settled test (alone_in old space) which old now space whole plain (λ r e. and_right (has_own (books old) space r) (which r) e) bare;
  ledger = alike_altered which (alone_in old space) (books old) (books now) (ledger_after (Commit space) (books old)) space
      (widened test which (alone_in old space) (books old) (books now) space whole.ledger wide) (after_commit (books old) space);
}
  where
    test : ℕ → Bool
    test = to_settle old space

    which : ℕ → Bool
    which = alone_or_large_in old space

    whole : HaveAltered seen_page test (alone_in old space) old now space
    whole = come_past seen_page test (alone_in old space) old now space from h.altered (bare_stays old space) none

    and_right : (b c : Bool) → (b && c) ≡ true → c ≡ true
    and_right true c e = e
    and_right false c e = cc

    not_own : (b c : Bool) → (b && c) ≡ false → c ≡ true → b ≡ false
    not_own false c e g = refl
    not_own true c e g = let no = sym g ∙ e in cc

    bare : (r : ℕ) (x : PageState) → page_in old space r ≡ Some x → test r ≡ false → which r ≡ true → x.own ≡ []
    bare r x had e named =
        none_own x.own (sym (own_is (books old) space r (held_page old.zero_frame x) (held_there old space r x had)) ∙ not_own (has_own (books old) space r) (which r) e named)

    wide : (r : ℕ) (x : Holding) → holding_at (books old) space r ≡ Some x → (which r ≡ test r) ⊎ ((test r ≡ false) × (alone_in old space r ≡ true) × (x.own ≡ []))
    wide r x had = by_tests (has_own (books old) space r) (is_alone (books old) space r) refl refl
      where
        by_tests : (b c : Bool) → has_own (books old) space r ≡ b → is_alone (books old) space r ≡ c
            → (which r ≡ test r) ⊎ ((test r ≡ false) × (alone_in old space r ≡ true) × (x.own ≡ []))
        by_tests true c e g = inl (sym (ap (λ d. d && which r) e))
        by_tests false true e g = inr (ap (λ d. d && which r) e, g, none_own x.own (sym (own_is (books old) space r x had) ∙ e))
        by_tests false false e g =
            inl (ap (λ d. d || is_large (books old) space r) g ∙ bare_small (books old) space r e ∙ sym (ap (λ d. d && which r) e))

-- one page

-- the units suffice for a copy of a page that has 32 own lines or more: its segment is as large as a frame
pub always_fits : (m : MemoryView) → IsJoined m → Fits (state_of m)
always_fits m joined = let same = ap units (state_books m) in omega (arith, joined.count, joined.frames, state_frames m, same)

pub large_room : (v : State) (space page : ℕ) → Fits v → is_large (books v) space page ≡ true → HasCopyRoom v space page
large_room v space page fits large x there =
    let many = sym (large_there (books v) space page (held_page v.zero_frame x) (held_there v space page x there)) ∙ large in
    let class = class_many (length x.own) (at (length x.own) many) in omega (arith, class, fits)
  where
    at : (n : ℕ) → nat_le 32 n ≡ true → 32 ≤ n
    at n e = grind (arith, nat_tests)

-- whether it has, by how many there are
pub large_by : (v : State) (space page : ℕ) (own : List ℕ) (n : ℕ) → option_map (λ (x : PageState). x.own) (page_in v space page) ≡ Some own → n ≡ length own
    → 32 ≤ n → is_large (books v) space page ≡ true
large_by v space page own n e count many = large_is v space page own n e count ∙ at
  where
    at : nat_le 32 n ≡ true
    at = grind (arith, nat_tests)

pub small_by : (v : State) (space page : ℕ) (own : List ℕ) (n : ℕ) → option_map (λ (x : PageState). x.own) (page_in v space page) ≡ Some own → n ≡ length own
    → n < 32 → is_large (books v) space page ≡ false
small_by v space page own n e count few = large_is v space page own n e count ∙ at
  where
    at : nat_le 32 n ≡ false
    at = grind (arith, nat_tests)

pub copies_page : (v w : State) (space page : ℕ) → is_alone (books v) space page ≡ false → is_large (books v) space page ≡ true
    → IfSome (page_in v space page) (λ x. IsPlaced v w space page (λ frame. copied frame x)) → CommitsPage v w space page
copies_page v w space page shared large placed =
    subst (λ b. CommitsWhere b (is_large (books v) space page) v w space page) (sym shared) (subst (λ c. CommitsWhere false c v w space page) (sym large) placed)

pub keeps_page : (v : State) (space page : ℕ) → is_alone (books v) space page ≡ false → is_large (books v) space page ≡ false → CommitsPage v v space page
keeps_page v space page shared small =
    subst (λ b. CommitsWhere b (is_large (books v) space page) v v space page) (sym shared) (subst (λ c. CommitsWhere false c v v space page) (sym small) refl)

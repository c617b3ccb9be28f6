use Rattle.std.specs.Prelude.{◌≡◌, ℕ, ◌+◌, ◌<◌, ◌≤◌, ◌⊎◌, Bool, true, false, cond, nat_lt, List, [], length, Option, Some, None, refl}
use Rattle.std.proofs.Common.{sym, ap, subst, ◌∙◌, arith, inl, inr}
use Rattle.std.proofs.lemmas.Bool.Decides.{nat_tests}
use Rattle.std.specs.Option.{option_map}
use Rattle.sizes.specs.declared.TheConstants.{PAGE_END}
use Rattle.number_maps.specs.Keys.{alike}
use Rattle.ledger.specs.Ledger.{Holding, holding_at}
use Rattle.ledger.specs.Changes.{has_own}
use Rattle.ledger.specs.Events.{Discard, ledger_after}
use Rattle.space_maps.specs.Books.{books_page}
use Rattle.space_maps.specs.Laws.{changed_there}
use Rattle.space_maps.specs.Spaces.{page_in, put_page, altered_page}
use Rattle.space_ledger.specs.Calls.{IsNextOwn}
use Rattle.overlay_pages.specs.State.{PageState, State, base_page, books, held_page, seen_page}
use Rattle.overlay_pages.specs.Changes.{discarded}
use Rattle.overlay_pages.specs.Lines.{bytes_in_lines}
use Rattle.promotion.specs.Settled.{mark_of}
use Rattle.promotion.specs.Fates.{IsFate}
use Rattle.overlay_memory.specs.Joined.{IsBare}
use Rattle.overlay_memory.specs.PageLaws.{held_there, own_absent, own_is}
use Rattle.promotion.specs.FateFolds.{discard_turns, none_own, same_altered, widened}
use Rattle.overlay_memory.specs.StateMemory.{memory_at}
use Rattle.promotion.specs.Altered.{HaveAltered, IsAlteration, base_at, none_yet, one_more, own_now, said_again}
use Rattle.promotion.specs.Walks.{ComesTo, at_first, come_past, comes_to, next_done, so_far}
use Rattle.speculation.specs.Speculated.{HasDiscarded, with_discarded}

-- Overlays are given up, one after the other.

abbrev any_origin : ℕ → Bool
any_origin r = true

-- the pages that have one
abbrev pub to_discard : State → ℕ → ℕ → Bool
to_discard v space r = has_own (books v) space r

pub record IsDiscarding (old now : State) (space from : ℕ) : Type 0 where
  pub altered : HaveAltered base_page (so_far (to_discard old space) from) any_origin old now space
  pub low : from ≤ PAGE_END

pub discarding_none : (v : State) (space : ℕ) → IsDiscarding v v space 0
discarding_none v space = record {
  altered = said_again base_page _ _ any_origin v v space (none_yet base_page any_origin v space) (λ r x at. at_first (to_discard v space) r);
  low = omega arith;
}

module _ (old now new : State) (space from page : ℕ) (h : IsDiscarding old now space from) (next : IsNextOwn (books now) space from (Some page))
    (is : new ≡ with_discarded now space page) (low : page < PAGE_END) where
  abbrev test : ℕ → Bool
  test = to_discard old space

  it : ComesTo base_page test any_origin old now space page
  it = comes_to base_page test any_origin old now space from h.altered (λ q bare. bare) page next

  pub discarding_more : IsDiscarding old new space (page + 1)
  unfolding with_discarded
  discarding_more = record { altered = moved; low = omega arith }
    where
      passes : test page ≡ true
      passes = sym (own_now old now space page it.x it.had it.at) ∙ next.1

      put : new ≡ put_page now space page (discarded it.x)
      put = is ∙ ap (λ b. cond b (altered_page discarded now space page) now) next.1 ∙ changed_there discarded now space page it.x it.at

      moved : HaveAltered base_page (so_far test (page + 1)) any_origin old new space
      moved =
          subst (λ (v : State). HaveAltered base_page (so_far test (page + 1)) any_origin old v space) (sym put)
          (said_again base_page _ _ any_origin old (put_page now space page (discarded it.x)) space
          (one_more base_page (so_far test page) any_origin old now space page it.x (discarded it.x) it.reached it.had it.unaltered refl refl refl (λ _. refl) (λ no. cc))
          (λ r x had. next_done test page r passes))

module _ (old now : State) (space from : ℕ) (plain : IsBare old space) (h : IsDiscarding old now space from) (none : IsNextOwn (books now) space from None) where
  abbrev tests : ℕ → Bool
  tests = to_discard old space

  whole : HaveAltered base_page tests any_origin old now space
  whole = come_past base_page tests any_origin old now space from h.altered (λ q bare. bare) none

  bare : (r : ℕ) (x : PageState) → page_in old space r ≡ Some x → tests r ≡ false → x.own ≡ []
  bare r x had e = none_own x.own (sym (own_is (books old) space r (held_page old.zero_frame x) (held_there old space r x had)) ∙ e)

  same_memory : (r : ℕ) (o : Option PageState) → page_in old space r ≡ o → option_map seen_page (page_in now space r) ≡ option_map base_page (page_in old space r)
  same_memory r None had = ap (option_map seen_page) (whole.absent r had) ∙ sym (ap (option_map base_page) had)
  same_memory r (Some x) had =
      let p = whole.pages r x had in ap (option_map seen_page) p.there ∙ ap Some (by_turn (tests r) refl p.is p.turn) ∙ sym (ap (option_map base_page) had)
    where
      by_turn : (b : Bool) → tests r ≡ b → (is : PageState) → IsAlteration base_page b x is → seen_page is ≡ base_page x
      by_turn true e is turn = turn.0
      by_turn false e is turn = ap seen_page turn ∙ ap (λ lines. record { perms = x.entry.perms.0; bytes = bytes_in_lines lines }) (plain r x had (bare r x had e))

  same_base : (r : ℕ) (o : Option PageState) → page_in old space r ≡ o → option_map base_page (page_in now space r) ≡ option_map base_page (page_in old space r)
  same_base r None had = ap (option_map base_page) (whole.absent r had ∙ sym had)
  same_base r (Some x) had =
      let p = whole.pages r x had in ap (option_map base_page) p.there ∙ ap Some (by_turn (tests r) p.is p.turn) ∙ sym (ap (option_map base_page) had)
    where
      by_turn : (b : Bool) (is : PageState) → IsAlteration base_page b x is → base_page is ≡ base_page x
      by_turn true is turn = turn.1
      by_turn false is turn = ap base_page turn

  none_owned : (r : ℕ) → has_own (books now) space r ≡ false
  none_owned r = by_page (page_in old space r) refl
    where
      by_page : (o : Option PageState) → page_in old space r ≡ o → has_own (books now) space r ≡ false
      by_page None had = own_absent (books now) space r (whole.ledger.absent r (books_page held_page old space r ∙ ap (option_map (held_page old.zero_frame)) had))
      by_page (Some x) had =
          let f = whole.ledger.pages r (held_page old.zero_frame x) (held_there old space r x had) in
          own_is (books now) space r f.is f.there ∙ ap (λ (l : List ℕ). nat_lt 0 (length l)) (by_turn (tests r) refl f.is f.fate)
        where
          by_turn : (b : Bool) → tests r ≡ b → (w : Holding) → IsFate b true (books now) space r (held_page old.zero_frame x) w → w.own ≡ []
          by_turn false e w fate = ap (λ (v : Holding). v.own) fate ∙ bare r x had e
          by_turn true e w fate = ap (λ (v : Holding). v.own) fate

  wide : (r : ℕ) (x : Holding) → holding_at (books old) space r ≡ Some x → (any_origin r ≡ tests r) ⊎ ((tests r ≡ false) × (any_origin r ≡ true) × (x.own ≡ []))
  wide r x had = by_own (tests r) refl
    where
      by_own : (b : Bool) → tests r ≡ b → (any_origin r ≡ tests r) ⊎ ((tests r ≡ false) × (any_origin r ≡ true) × (x.own ≡ []))
      by_own true e = inl (sym e)
      by_own false e = inr (e, refl, none_own x.own (sym (own_is (books old) space r x had) ∙ e))

  pub discarded_all : HasDiscarded (mark_of old space) old now space
  discarded_all = record {
    memory = alike _ _ (λ r. memory_at now space r ∙ same_memory r (page_in old space r) refl ∙ sym (base_at old space r));
    base = alike _ _ (λ r. base_at now space r ∙ same_base r (page_in old space r) refl ∙ sym (base_at old space r));
    ledger = same_altered any_origin any_origin (books old) (books now) (ledger_after (Discard space) (books old)) space
        (widened tests any_origin any_origin (books old) (books now) space whole.ledger wide) (discard_turns (books old) space) (λ r e. refl);
    own = none_owned;
    awaiting = whole.awaiting;
    marked = whole.mark;
    others = whole.others;
    spaces = whole.spaces;
    frames = whole.frames;
    zero_frame = whole.zero_frame;
  }

-- one page
pub discards_none : (v : State) (space page n : ℕ) → has_own (books v) space page ≡ nat_lt 0 n → n ≡ 0 → v ≡ with_discarded v space page
unfolding with_discarded
discards_none v space page n own none = sym (ap (λ b. cond b (altered_page discarded v space page) v) (own ∙ ap (nat_lt 0) none))

pub discards_it : (v w : State) (space page n : ℕ) → has_own (books v) space page ≡ nat_lt 0 n → (n ≡ 0 → ⊥) → w ≡ altered_page discarded v space page
    → w ≡ with_discarded v space page
unfolding with_discarded
discards_it v w space page n own some is = is ∙ sym (ap (λ b. cond b (altered_page discarded v space page) v) (own ∙ above))
  where
    above : nat_lt 0 n ≡ true
    above = grind (arith, nat_tests)

use Rattle.std.specs.Prelude.{◌≡◌, ℕ, ◌+◌, ◌-◌, ◌≤◌, ◌&&◌, ◌==◌, Bool, true, false, cond, nat_eq, nat_lt, List, [], length, Option, Some, is_some, IfSome, refl}
use Rattle.std.proofs.Common.{sym, ap, subst, ◌∙◌, arith}
use Rattle.std.specs.Option.{option_map}
use Rattle.sizes.specs.declared.TheConstants.{FRAME_UNITS}
use Rattle.number_maps.specs.Keys.{by_key}
use Rattle.ledger.specs.Ledger.{holding_at, is_alone, with_page}
use Rattle.ledger.specs.Changes.{has_own, settled}
use Rattle.ledger.specs.Events.{SettlePage, ledger_after}
use Rattle.ledger.specs.Units.{class, units}
use Rattle.ledger.specs.Alike.{AreAlike}
use Rattle.ledger.specs.AlikeLaws.{alike_itself}
use Rattle.ledger.specs.UnitLaws.{units_at}
use Rattle.ledger.specs.ClassLaws.{class_none}
use Rattle.overlay_pages.specs.State.{PageState, State, books, held_page, seen_page}
use Rattle.overlay_pages.specs.Changes.{HasCopyRoom, IsPlaced, committed, copied, limit_of}
use Rattle.overlay_memory.specs.View.{TranslatedView, state_of}
use Rattle.overlay_memory.specs.CountLaws.{HasLines, class_there, has_lines, has_own_is}
use Rattle.overlay_memory.specs.Joined.{IsBare, all_bare}
use Rattle.overlay_memory.specs.PageLaws.{held_there, own_is, some_is}
use Rattle.overlay_memory.specs.Room.{FitsAfter, IsFullAt, IsShort, class_at, event_units}
use Rattle.overlay_memory.specs.declared.error.Shortage.{Shortage}
use Rattle.space_maps.specs.Laws.{changed_there}
use Rattle.space_maps.specs.Spaces.{page_in, put_page, altered_page}
use Rattle.promotion.specs.Counted.{new_frame_at}
use Rattle.promotion.specs.Settled.{AreInFrames, IsAfter, alone_in, mark_of}
use Rattle.promotion.specs.Promoted.{HasPromoted, one_page}
use Rattle.promotion.specs.FateLaws.{alike_altered}
use Rattle.promotion.specs.FateFolds.{after_settle_page, arent_same, none_own, retold, settle_acts}
use Rattle.promotion.specs.FateUnits.{settled_units}
use Rattle.promotion.specs.Altered.{HaveAltered, are_settled, none_yet, one_more}
use Rattle.promotion.proofs.Counts.{enough_for, frame_is, needs_no_other, needs_none, sum_shared}
use Rattle.promotion.proofs.CopyWalk.{copied_one, lines_above}

-- One page is settled.

-- the units after it
pub page_units : (v : State) (space page : ℕ) (x : PageState) → page_in v space page ≡ Some x
    → event_units (SettlePage space page) v + class_at v space page ≡ units (books v) + new_frame_at v space page
page_units v space page x at = by_own (has_own (books v) space page) refl
  where
    had : holding_at (books v) space page ≡ Some (held_page v.zero_frame x)
    had = held_there v space page x at

    segment : class_at v space page ≡ class (length x.own)
    segment = class_there v space page (held_page v.zero_frame x) had

    by_alone : (b : Bool) → is_alone (books v) space page ≡ b → has_own (books v) space page ≡ true → new_frame_at v space page ≡ cond b 0 FRAME_UNITS
    by_alone true e own = frame_is v space page true true own e
    by_alone false e own = frame_is v space page true false own e

    by_own : (b : Bool) → has_own (books v) space page ≡ b
        → units (cond b (settled (books v) (books v) space page) (books v)) + class_at v space page ≡ units (books v) + new_frame_at v space page
    by_own false e =
        let frame = frame_is v space page false (is_alone (books v) space page) e refl in
        let none : class (length x.own) ≡ 0 = ap (λ (l : List ℕ). class (length l)) (none_own x.own (sym (own_is (books v) space page (held_page v.zero_frame x) had) ∙ e)) ∙ class_none in
        omega (arith, frame, segment, none)
    by_own true e =
        let act = settle_acts (books v) (books v) space page (held_page v.zero_frame x) had in
        let sum : units (with_page (books v) space page act.z) + class (length x.own) ≡ units (books v) + cond (is_alone (books v) space page) 0 FRAME_UNITS =
        settled_units (books v) space page (held_page v.zero_frame x) act.z (is_alone (books v) space page) had refl act.own act.kept act.fresh in
        let frame = by_alone (is_alone (books v) space page) refl e in
        let put = ap units act.put in
        omega (arith, sum, frame, put, segment)

-- one page alone was altered
module _ (old new : State) (space page : ℕ) (plain : IsBare old space) (h : HaveAltered seen_page (λ r. nat_eq r page) (alone_in old space) old new space)
    (own : has_own (books old) space page ≡ true) where
  pub page_settled : AreInFrames (one_page page) (mark_of old space) old new space
  page_settled = are_settled (λ r. nat_eq r page) (alone_in old space) (one_page page) old new space h plain (λ r e. e) (λ r x had e yes. let no = sym e ∙ yes in cc)

  pub page_ledger : IsAfter (SettlePage space page) old new
  page_ledger =
      alike_altered (λ r. has_own (books old) space r && (r == page)) (alone_in old space) (books old) (books new) (ledger_after (SettlePage space page) (books old)) space
      (retold (λ r. nat_eq r page) (λ r. has_own (books old) space r && (r == page)) (alone_in old space) (books old) (books new) space h.ledger (λ r x at. named r))
      (after_settle_page (books old) space page)
    where
      named : (r : ℕ) → (has_own (books old) space r && nat_eq r page) ≡ nat_eq r page
      named r = by_key r page
          (λ same. ap (λ b. b && nat_eq r page) (ap (has_own (books old) space) same ∙ own))
          (λ other. ap (λ b. has_own (books old) space r && b) (arent_same r page other) ∙ none (has_own (books old) space r) ∙ sym (arent_same r page other))
        where
          none : (b : Bool) → (b && false) ≡ false
          none true = refl
          none false = refl

module _ (old : State) (space page : ℕ) (x : PageState) (plain : IsBare old space) (at : page_in old space page ≡ Some x) (fits : FitsAfter (SettlePage space page) old) where
  pub promoted_bare : has_own (books old) space page ≡ false → HasPromoted old old space page
  promoted_bare none = record {
    there = ap is_some at;
    fits = fits;
    settled = are_settled (λ r. false) (alone_in old space) (one_page page) old old space (none_yet seen_page (alone_in old space) old space) plain (λ r e. cc) bare;
    ledger = subst (λ b. AreAlike (books old) (cond b (settled (books old) (books old) space page) (books old))) (sym none) (alike_itself (books old));
  }
    where
      bare : (r : ℕ) (y : PageState) → page_in old space r ≡ Some y → false ≡ false → nat_eq r page ≡ true → y.own ≡ []
      bare r y had _ same = by_key r page
          (λ e. none_own y.own (sym (own_is (books old) space r (held_page old.zero_frame y) (held_there old space r y had)) ∙ ap (has_own (books old) space) e ∙ none))
          (λ other. let no = sym (arent_same r page other) ∙ same in cc)

  turns : (new : State) (z : PageState) → HaveAltered seen_page (λ r. nat_eq r page) (alone_in old space) old (put_page old space page z) space → new ≡ put_page old space page z
      → has_own (books old) space page ≡ true → HasPromoted old new space page
  turns new z h is own =
      let moved = subst (λ (v : State). HaveAltered seen_page (λ r. nat_eq r page) (alone_in old space) old v space) (sym is) h in record {
        there = ap is_some at;
        fits = fits;
        settled = page_settled old new space page plain moved own;
        ledger = page_ledger old new space page plain moved own;
      }

  pub promoted_alone : (new : State) → has_own (books old) space page ≡ true → is_alone (books old) space page ≡ true → new ≡ altered_page committed old space page
      → HasPromoted old new space page
  promoted_alone new own alone is =
      turns new (committed x)
      (one_more seen_page (λ r. false) (alone_in old space) old old space page x (committed x) (none_yet seen_page (alone_in old space) old space) at refl refl refl refl (λ _. refl)
      (λ no. let never = sym alone ∙ no in cc))
      (is ∙ changed_there committed old space page x at) own

  pub promoted_shared : (new : State) → has_own (books old) space page ≡ true → is_alone (books old) space page ≡ false
      → IsPlaced old new space page (λ frame. copied frame x) → HasPromoted old new space page
  promoted_shared new own shared p =
      turns new (copied p.frame x)
      (copied_one (λ r. false) old old space page x (none_yet seen_page (alone_in old space) old space) at refl shared p.frame p.fresh) p.placed own

-- The units that the code finds are those after it.
module _ (v : State) (space page n : ℕ) (own : List ℕ) (count segment : ℕ) (lines : option_map (λ (x : PageState). x.own) (page_in v space page) ≡ Some own)
    (count_is : count ≡ length own) (segment_is : segment ≡ class count) (units_is : n ≡ units (books v)) where
  lined : HasLines v space page own
  lined = has_lines v space page own lines

  enough : class_at v space page ≤ n
  enough =
      let sum = units_at (books v) space page (held_page v.zero_frame lined.x) (held_there v space page lined.x lined.there) in
      let is = class_there v space page (held_page v.zero_frame lined.x) (held_there v space page lined.x lined.there) in
      omega (arith, sum, is, units_is)

  pub segment_within : segment ≤ n
  segment_within = enough_for v space page n own count segment lines count_is segment_is enough

  pub needed_is : (count ≡ 0 → ⊥) → is_alone (books v) space page ≡ false → n + FRAME_UNITS - segment ≡ event_units (SettlePage space page) v
  needed_is some shared =
      let sum = sum_shared v space page n own count segment lines count_is segment_is enough some shared in
      let after = page_units v space page lined.x lined.there in
      omega (arith, sum, after, units_is)

  pub fits_alone : is_alone (books v) space page ≡ true → units (books v) ≤ limit_of v → FitsAfter (SettlePage space page) v
  fits_alone alone fits =
      let after = page_units v space page lined.x lined.there in
      let none = needs_no_other v space page alone in
      omega (arith, after, none, fits)

  pub fits_bare : count ≡ 0 → units (books v) ≤ limit_of v → FitsAfter (SettlePage space page) v
  fits_bare none fits =
      let after = page_units v space page lined.x lined.there in
      let frame = needs_none v space page count (has_own_is v space page own count lines count_is) none in
      omega (arith, after, frame, fits)

-- How settling the page comes out.
module _ (m : TranslatedView) (space page n : ℕ) (own : List ℕ) (count segment : ℕ)
    (lines : option_map (λ (x : PageState). x.own) (page_in (state_of m) space page) ≡ Some own)
    (count_is : count ≡ length own) (units_is : n ≡ units (books (state_of m))) (fits : units (books (state_of m)) ≤ limit_of (state_of m)) where
  abbrev v : State
  v = state_of m

  x : HasLines v space page own
  x = has_lines v space page own lines

  owned : (count ≡ 0 → ⊥) → has_own (books v) space page ≡ true
  owned some = lines_above v space page count (has_own_is v space page own count lines count_is) some

  pub stays : count ≡ 0 → HasPromoted v v space page
  stays none =
      promoted_bare v space page x.x (all_bare m.pages space) x.there (fits_bare v space page n own count (class count) lines count_is refl units_is none fits)
      (has_own_is v space page own count lines count_is ∙ ap (nat_lt 0) none)

  pub commits : (new : State) → (count ≡ 0 → ⊥) → is_alone (books v) space page ≡ true → new ≡ altered_page committed v space page → HasPromoted v new space page
  commits new some alone is =
      promoted_alone v space page x.x (all_bare m.pages space) x.there (fits_alone v space page n own count (class count) lines count_is refl units_is alone fits) new (owned some) alone is

  module _ (segment_is : segment ≡ class count) (some : count ≡ 0 → ⊥) (shared : is_alone (books v) space page ≡ false) where
    pub fits_copied : n + FRAME_UNITS - segment ≤ limit_of v → FitsAfter (SettlePage space page) v
    fits_copied le = let is = needed_is v space page n own count segment lines count_is segment_is units_is some shared in omega (arith, is, le)

    pub copies : (new : State) → n + FRAME_UNITS - segment ≤ limit_of v → IfSome (page_in v space page) (λ x. IsPlaced v new space page (λ frame. copied frame x)) → HasPromoted v new space page
    copies new le placed =
        promoted_shared v space page x.x (all_bare m.pages space) x.there (fits_copied le) new (owned some) shared
        (subst (λ (o : Option PageState). IfSome o (λ x. IsPlaced v new space page (λ frame. copied frame x))) x.there placed)

    pub has_room : n + FRAME_UNITS - segment ≤ limit_of v → HasCopyRoom v space page
    has_room le y there =
        let given : Some y ≡ Some x.x = sym there ∙ x.there in
        let same : class (length y.own) ≡ class (length own) = ap (λ (z : PageState). class (length z.own)) (some_is y x.x given) ∙ ap (λ (l : List ℕ). class (length l)) x.own_is in
        let own_class : class count ≡ class (length own) = ap class count_is in
        omega (arith, same, own_class, le, segment_is, units_is)

    pub falls_short : (shortage : Shortage) → IsShort (n + FRAME_UNITS - segment) (limit_of v) shortage
        → IsFullAt m m (event_units (SettlePage space page) v) shortage.needed shortage.limit
    falls_short shortage short = record {
      needed_is = short.needed_is ∙ needed_is v space page n own count segment lines count_is segment_is units_is some shared;
      limit_is = short.limit_is;
      over = short.over;
      kept = refl;
    }

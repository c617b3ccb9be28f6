use Rattle.std.proofs.Common.{◌≡◌, ℕ, zero, suc, ◌+◌, ◌<◌, ◌≤◌, ◌⊎◌, inl, inr, Bool, true, false, cond, nat_eq, List, length, replicate, set, Option, Some, None, is_some, sym, ap, ◌∙◌, refl, arith, true≢false}
use Rattle.std.specs.Prelude.{IfSome}
use Rattle.std.proofs.lemmas.Bool.{cases_eq, cases_lt}
use Rattle.std.proofs.lemmas.Bool.Decides.{nat_tests}
use Rattle.std.proofs.lemmas.List.{get_or-set_other, get_or-set_same, length-set}
use Rattle.std.specs.Option.{option_map, option_map_or}
use Rattle.sizes.specs.declared.TheConstants.{MOST_FRAMES}
use Rattle.number_maps.specs.Keys.{by_key}
use Rattle.ledger.specs.AloneLaws.{IsAlone, alone_apart, are, not_true, same_test}
use Rattle.ledger.specs.Changes.{is_origin_here}
use Rattle.ledger.specs.Ledger.{Holding, Ledger, holding_at, is_alone, with_page}
use Rattle.ledger.specs.PlaceLaws.{put_here, put_other}
use Rattle.ledger.specs.RebaseLaws.{HasOriginHere, at_here, here_at}
use Rattle.overlay_pages.specs.Changes.{frame_but_zero}
use Rattle.overlay_pages.specs.State.{PageState, State, books, held_page}
use Rattle.overlay_memory.specs.PageLaws.{held_there, some_is}
use Rattle.page_dedup.specs.Deduplicated.{has_origin_at}
use Rattle.page_dedup.specs.Marked.{AreClear, AreMarks, AreMarksBelow, IsHere, is_marked, with_mark}
use Rattle.space_maps.specs.Books.{books_page}
use Rattle.space_maps.specs.Options.{by_test, map_from}
use Rattle.space_maps.specs.Spaces.{page_in}

-- The frame of a page, as the ledger has it.

-- the origin of a page on a frame, and 0 for the zero frame
abbrev pub origin_by : Option ℕ → ℕ
origin_by None = 0
origin_by (Some frame) = frame + 1

pub record IsOn (ledger : Ledger) (space page : ℕ) (frame : Option ℕ) : Type 0 where
  pub holding : Holding
  pub there : holding_at ledger space page ≡ Some holding
  pub origin_is : holding.origin ≡ origin_by frame

pub told_on : (v : State) (s p : ℕ) (o : Option ℕ) → option_map (λ (x : PageState). frame_but_zero v.zero_frame x.entry.frame) (page_in v s p) ≡ Some o → IsOn (books v) s p o
told_on v s p o told = map_from (λ (x : PageState). frame_but_zero v.zero_frame x.entry.frame) (page_in v s p) o told (λ x there same. record {
  holding = held_page v.zero_frame x;
  there = held_there v s p x there;
  origin_is = by_test (nat_eq x.entry.frame v.zero_frame)
      (λ zero. ap (λ b. cond b 0 (x.entry.frame + 1)) zero ∙ ap origin_by (sym (ap (λ b. cond b None (Some x.entry.frame)) zero) ∙ same))
      (λ some. ap (λ b. cond b 0 (x.entry.frame + 1)) some ∙ ap origin_by (sym (ap (λ b. cond b None (Some x.entry.frame)) some) ∙ same));
})

-- a page that isn't there has no holding
pub absent_held : (v : State) (s p : ℕ) → page_in v s p ≡ None → holding_at (books v) s p ≡ None
absent_held v s p none = books_page held_page v s p ∙ ap (option_map (held_page v.zero_frame)) none

-- whether it has an origin
pub origin_at : (l : Ledger) (s p origin : ℕ) (x : Holding) → holding_at l s p ≡ Some x → has_origin_at l s p origin ≡ nat_eq x.origin origin
origin_at l s p origin x there = ap (λ (o : Option Holding). option_map_or (λ holding. nat_eq holding.origin origin) o false) there

none_at_zero : (n : ℕ) → nat_eq 0 (n + 1) ≡ false
none_at_zero n = not_true _ (λ e. let same : 0 ≡ n + 1 = grind (arith, nat_tests) in omega (arith, same))

pub found_on : (l : Ledger) (s p found frame : ℕ) → IsOn l s p (Some found) → nat_eq found frame ≡ has_origin_at l s p (frame + 1)
found_on l s p found frame on =
    sym (origin_at l s p (frame + 1) on.holding on.there ∙ ap (λ n. nat_eq n (frame + 1)) on.origin_is ∙ one_more)
  where
    one_more : nat_eq (found + 1) (frame + 1) ≡ nat_eq found frame
    one_more = grind (arith, nat_tests)

pub none_on : (l : Ledger) (s p frame : ℕ) → IsOn l s p None → false ≡ has_origin_at l s p (frame + 1)
none_on l s p frame on = sym (origin_at l s p (frame + 1) on.holding on.there ∙ ap (λ n. nat_eq n (frame + 1)) on.origin_is ∙ none_at_zero frame)

-- Whether a page's origin is here.

module _ (l : Ledger) (s from other : ℕ) where
  pub zero_not_here : IsOn l from other None → is_origin_here l s from other ≡ false
  zero_not_here on = not_true _ (λ here.
      let has : HasOriginHere l s from other = here_at l s from other here in
      let same : has.theirs ≡ on.holding = some_is _ _ (sym has.at ∙ on.there) in
      true≢false (sym (are has.theirs.origin 0 (ap (λ (h : Holding). h.origin) same ∙ on.origin_is)) ∙ has.not_zero))

  -- some page that has the origin, or none
  pub shown_here : (frame q : ℕ) → IsOn l from other (Some frame) → has_origin_at l s q (frame + 1) ≡ true → is_origin_here l s from other ≡ true
  shown_here frame q on has = by_page (holding_at l s q) refl
    where
      by_page : (o : Option Holding) → holding_at l s q ≡ o → is_origin_here l s from other ≡ true
      by_page None is = let no = sym has ∙ ap (λ (o : Option Holding). option_map_or (λ holding. nat_eq holding.origin (frame + 1)) o false) is in cc
      by_page (Some x) is =
          at_here l s from other q x on.holding on.there
          (ap (λ n. nat_eq n 0) on.origin_is ∙ not_true _ (λ e. let same : frame + 1 ≡ 0 = grind (arith, nat_tests) in omega (arith, same))) is
          (sym (ap (λ n. nat_eq x.origin n) (sym on.origin_is)) ∙ sym (origin_at l s q (frame + 1) x is) ∙ has)

  pub nowhere_shown : (frame : ℕ) → IsOn l from other (Some frame) → ((q : ℕ) → has_origin_at l s q (frame + 1) ≡ false) → is_origin_here l s from other ≡ false
  nowhere_shown frame on none = not_true _ (λ here.
      let has : HasOriginHere l s from other = here_at l s from other here in
      let same : has.theirs ≡ on.holding = some_is _ _ (sym has.at ∙ on.there) in
      let theirs : has.theirs.origin ≡ frame + 1 = ap (λ (h : Holding). h.origin) same ∙ on.origin_is in
      true≢false (sym (origin_at l s has.page (frame + 1) has.holding has.there ∙ ap (nat_eq has.holding.origin) (sym theirs) ∙ has.same) ∙ none has.page))

  -- a page of another space that is alone shares its origin with none here
  pub alone_not_here : (from ≡ s → ⊥) → is_alone l from other ≡ true → is_origin_here l s from other ≡ false
  alone_not_here differs alone = not_true _ (λ here.
      let has : HasOriginHere l s from other = here_at l s from other here in
      let apart : IsAlone l from other = alone_apart l from other alone in
      let same : has.theirs ≡ apart.holding = some_is _ _ (sym has.at ∙ apart.there) in
      true≢false (sym (ap (λ (h : Holding). nat_eq has.holding.origin h.origin) (sym same) ∙ has.same) ∙ apart.others s has.page has.holding (λ ss pp. differs (sym ss)) has.there))

-- Marks.

marked_same : (marks : List Bool) (f frame : ℕ) (on : Bool) → f < length marks → frame ≡ f → is_marked (set marks f on) frame ≡ on
marked_same marks f frame on low same = ap (is_marked (set marks f on)) same ∙ get_or-set_same marks f on false low

marked_other : (marks : List Bool) (f frame : ℕ) (on : Bool) → (frame ≡ f → ⊥) → is_marked (set marks f on) frame ≡ is_marked marks frame
marked_other marks f frame on other = get_or-set_other marks f frame on false other

pub clear_below : (l : Ledger) (s : ℕ) (marks : List Bool) → AreClear marks → AreMarksBelow l s 0 marks
clear_below l s marks clear = record {
  sound = λ frame h. absurd (true≢false (sym h ∙ clear frame));
  complete = λ page frame x low at same. absurd (omega (arith, low));
}

module _ (l : Ledger) (s at page : ℕ) (marks : List Bool) (so : AreMarksBelow l s at marks) (low : at ≤ page) (between : (q : ℕ) → at ≤ q → q < page → holding_at l s q ≡ None) where
  before : (q : ℕ) (x : Holding) → q < page + 1 → holding_at l s q ≡ Some x → (q < at) ⊎ (q ≡ page)
  before q x less there = elim (cases_lt q at) [
    | inl less ↦ inl less
    | inr above ↦ elim (cases_eq q page) [
      | inl same ↦ inr same
      | inr other ↦ let no = ap is_some (sym there ∙ between q above (omega (arith, less, other))) in absurd (true≢false no)
    ]
  ]

  pub one_marked : (o : Option ℕ) → IsOn l s page o → IfSome o (λ f. f < length marks) → AreMarksBelow l s (page + 1) (with_mark marks o true)
  one_marked None on room = record {
    sound = so.sound;
    complete = λ q frame x less there same. elim (before q x less there) [
      | inl early ↦ so.complete q frame x early there same
      | inr here ↦
          let is : x ≡ on.holding = some_is _ _ (sym there ∙ ap (holding_at l s) here ∙ on.there) in
          absurd (omega (arith, same, ap (λ (h : Holding). h.origin) is, on.origin_is))
    ];
  }
  one_marked (Some f) on room = record {
    sound = λ frame h. by_key frame f
        (λ same. record { page = page; holding = on.holding; there = on.there; same = on.origin_is ∙ ap (λ n. n + 1) (sym same) })
        (λ other. so.sound frame (sym (marked_other marks f frame true other) ∙ h));
    complete = λ q frame x less there same. by_key frame f
        (λ is. marked_same marks f frame true room is)
        (λ other. marked_other marks f frame true other ∙ elim (before q x less there) [
          | inl early ↦ so.complete q frame x early there same
          | inr here ↦
              let is : x ≡ on.holding = some_is _ _ (sym there ∙ ap (holding_at l s) here ∙ on.there) in
              absurd (other (omega (arith, same, ap (λ (h : Holding). h.origin) is, on.origin_is)))
        ]);
  }

pub all_marked : (l : Ledger) (s at : ℕ) (marks : List Bool) → AreMarksBelow l s at marks → ((q : ℕ) → at ≤ q → holding_at l s q ≡ None) → AreMarks l s marks
all_marked l s at marks so none = record {
  sound = so.sound;
  complete = λ q frame x there same. elim (cases_lt q at) [
    | inl early ↦ so.complete q frame x early there same
    | inr above ↦ let no = ap is_some (sym there ∙ none q above) in absurd (true≢false no)
  ];
}

-- a frame that is marked is here
pub marked_here : (l : Ledger) (s from other frame : ℕ) (marks : List Bool) → AreMarks l s marks → IsOn l from other (Some frame) → is_marked marks frame ≡ is_origin_here l s from other
marked_here l s from other frame marks so on = same_test _ _
    (λ marked.
    let here : IsHere l s (frame + 1) = so.sound frame marked in
    shown_here l s from other frame here.page on (origin_at l s here.page (frame + 1) here.holding here.there ∙ are here.holding.origin (frame + 1) here.same))
    (λ shown.
    let has : HasOriginHere l s from other = here_at l s from other shown in
    let same : has.theirs ≡ on.holding = some_is _ _ (sym has.at ∙ on.there) in
    let equal : has.holding.origin ≡ has.theirs.origin = let e = has.same in grind (arith, nat_tests) in
    so.complete has.page frame has.holding has.there (equal ∙ ap (λ (h : Holding). h.origin) same ∙ on.origin_is))

-- A page that was alone came onto another frame.
module _ (l : Ledger) (s p : ℕ) (marks : List Bool) (so : AreMarks l s marks) (alone : is_alone l s p ≡ true) (y : Holding) where
  abbrev now : Ledger
  now = with_page l s p y

  -- its own frame isn't marked any more
  left : (own : ℕ) → IsOn l s p (Some own) → own < length marks → (frame : ℕ) → is_marked (set marks own false) frame ≡ true → IsHere (with_page l s p y) s (frame + 1)
  left own on room frame h = by_key frame own
      (λ same. absurd (true≢false (sym h ∙ marked_same marks own frame false room same)))
      (λ other.
      let here : IsHere l s (frame + 1) = so.sound frame (sym (marked_other marks own frame false other) ∙ h) in
      record {
        page = here.page;
        holding = here.holding;
        there = put_other l s p y s here.page (λ ss pp.
            let is : here.holding ≡ on.holding = some_is _ _ (sym here.there ∙ ap (holding_at l s) pp ∙ on.there) in
            other (omega (arith, here.same, ap (λ (k : Holding). k.origin) is, on.origin_is))) ∙ here.there;
        same = here.same;
      })

  stays : (own : ℕ) → IsOn l s p (Some own) → (q frame : ℕ) (x : Holding) → (q ≡ p → ⊥) → holding_at (with_page l s p y) s q ≡ Some x → x.origin ≡ frame + 1
      → is_marked (set marks own false) frame ≡ true
  stays own on q frame x differs at same =
      let old : holding_at l s q ≡ Some x = sym (put_other l s p y s q (λ ss pp. differs pp)) ∙ at in
      let apart : IsAlone l s p = alone_apart l s p alone in
      let is : apart.holding ≡ on.holding = some_is _ _ (sym apart.there ∙ on.there) in
      marked_other marks own frame false (λ equal.
      true≢false (sym (are x.origin apart.holding.origin (same ∙ ap (λ n. n + 1) equal ∙ sym on.origin_is ∙ ap (λ (k : Holding). k.origin) (sym is))) ∙ apart.others s q x (λ ss pp. differs pp) old))
      ∙ so.complete q frame x old same

  pub marked_after : (own theirs : Option ℕ) → IsOn l s p own → y.origin ≡ origin_by theirs → IfSome own (λ f. f < length marks) → IfSome theirs (λ f. f < length marks)
      → AreMarks (with_page l s p y) s (with_mark (with_mark marks own false) theirs true)
  marked_after None theirs on other room more =
      let apart : IsAlone l s p = alone_apart l s p alone in
      let is : apart.holding ≡ on.holding = some_is _ _ (sym apart.there ∙ on.there) in
      absurd (true≢false (sym (are apart.holding.origin 0 (ap (λ (k : Holding). k.origin) is ∙ on.origin_is)) ∙ apart.not_zero))
  marked_after (Some own) None on other room more = record {
    sound = left own on room;
    complete = λ q frame x at same. by_key q p
        (λ here. let is : y ≡ x = some_is _ _ (sym (put_here l s p y s q refl here) ∙ at) in absurd (omega (arith, same, ap (λ (k : Holding). k.origin) is, other)))
        (λ differs. stays own on q frame x differs at same);
  }
  marked_after (Some own) (Some f) on other room more = record {
    sound = λ frame h. by_key frame f
        (λ same. record { page = p; holding = y; there = put_here l s p y s p refl refl; same = other ∙ ap (λ n. n + 1) (sym same) })
        (λ differs. left own on room frame (sym (marked_other (set marks own false) f frame true differs) ∙ h));
    complete = λ q frame x at same. by_key frame f
        (λ is. marked_same (set marks own false) f frame true (omega (arith, more, length-set marks own false)) is)
        (λ away. marked_other (set marks own false) f frame true away ∙ by_key q p
        (λ here. let is : y ≡ x = some_is _ _ (sym (put_here l s p y s q refl here) ∙ at) in absurd (away (omega (arith, same, ap (λ (k : Holding). k.origin) is, other))))
        (λ differs. stays own on q frame x differs at same));
  }

-- What is told by a look through pages.

pub origin_on : (l : Ledger) (s p frame : ℕ) → option_map (λ (h : Holding). h.origin) (holding_at l s p) ≡ Some (frame + 1) → IsOn l s p (Some frame)
origin_on l s p frame told = map_from (λ (h : Holding). h.origin) (holding_at l s p) (frame + 1) told (λ h there same. record { holding = h; there = there; origin_is = same })

pub on_origin : (l : Ledger) (s p frame : ℕ) → IsOn l s p (Some frame) → option_map (λ (h : Holding). h.origin) (holding_at l s p) ≡ Some (frame + 1)
on_origin l s p frame on = ap (option_map (λ (h : Holding). h.origin)) on.there ∙ ap Some on.origin_is

none_at : (l : Ledger) (s q origin : ℕ) → holding_at l s q ≡ None → has_origin_at l s q origin ≡ false
none_at l s q origin none = ap (λ (o : Option Holding). option_map_or (λ holding. nat_eq holding.origin origin) o false) none

pub further : (l : Ledger) (s origin at page : ℕ) → ((q : ℕ) → q < at → has_origin_at l s q origin ≡ false) → ((q : ℕ) → at ≤ q → q < page → holding_at l s q ≡ None)
    → has_origin_at l s page origin ≡ false → (q : ℕ) → q < page + 1 → has_origin_at l s q origin ≡ false
further l s origin at page so between here q less = elim (cases_lt q at) [
  | inl early ↦ so q early
  | inr above ↦ elim (cases_eq q page) [
    | inl same ↦ ap (λ n. has_origin_at l s n origin) same ∙ here
    | inr other ↦ none_at l s q origin (between q above (omega (arith, less, other)))
  ]
]

pub looked_all : (l : Ledger) (s origin at : ℕ) → ((q : ℕ) → q < at → has_origin_at l s q origin ≡ false) → ((q : ℕ) → at ≤ q → holding_at l s q ≡ None)
    → (q : ℕ) → has_origin_at l s q origin ≡ false
looked_all l s origin at so none q = elim (cases_lt q at) [
  | inl early ↦ so q early
  | inr above ↦ none_at l s q origin (none q above)
]

-- a frame that there may be has a mark
pub room_in : (o : Option ℕ) (n : ℕ) → IfSome o (λ f. f < MOST_FRAMES) → n ≡ MOST_FRAMES → IfSome o (λ f. f < n)
room_in None n low size = tt
room_in (Some f) n low size = omega (arith, low, size)

pub count_marked : (marks : List Bool) (o : Option ℕ) (on : Bool) → length (with_mark marks o on) ≡ length marks
count_marked marks None on = refl
count_marked marks (Some f) on = length-set marks f on

pub none_marked : (n : ℕ) → AreClear (replicate n false)
none_marked zero frame = refl
none_marked (suc n) zero = refl
none_marked (suc n) (suc frame) = none_marked n frame

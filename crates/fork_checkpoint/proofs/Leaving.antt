use Rattle.std.specs.Prelude.{◌≡◌, ℕ, zero, suc, ◌+◌, ◌-◌, ◌<◌, ◌≤◌, if◌then◌else◌, Bool, true, false, cond, nat_eq, nat_lt, List, length, Option, Some, None, IsSome, is_some, refl}
use Rattle.std.proofs.Common.{sym, ap, subst, ◌∙◌, arith}
use Rattle.std.proofs.lemmas.Bool.Decides.{nat_tests}
use Rattle.std.specs.Option.{option_map}
use Rattle.std.specs.FinMap.{get, insert, remove}
use Rattle.sizes.specs.declared.TheConstants.{FRAME_UNITS, PAGE_END}
use Rattle.number_maps.specs.Keys.{by_key, insert_kept, insert_over}
use Rattle.ledger.specs.Ledger.{Holding, Ledger, Space, holding_at, is_alone, is_unused, pages_of, without_page}
use Rattle.ledger.specs.Events.{Drop}
use Rattle.ledger.specs.Units.{class, units}
use Rattle.ledger.specs.PlaceLaws.{page_is, pages_beside, pages_put, pages_there}
use Rattle.ledger.specs.ClassLaws.{class_none}
use Rattle.ledger.specs.UnitLaws.{alone_is, frame_for, units_at}
use Rattle.ledger.specs.AloneLaws.{alone_apart, apart_alone, not_true, same_test}
use Rattle.ledger.specs.TallyLaws.{empty_holdings, same_units}
use Rattle.overlay_pages.specs.State.{PageState, State, books, held_page}
use Rattle.overlay_pages.specs.Calls.{AreZeros, IsNextPage, zero_holding}
use Rattle.overlay_pages.specs.Changes.{limit_of, units_of}
use Rattle.overlay_memory.specs.ApartLaws.{AreOriginsApart, ArePagesApart, origins_apart}
use Rattle.overlay_memory.specs.CountLaws.{class_is, class_there}
use Rattle.overlay_memory.specs.PageLaws.{HasPage, has_page, held_there, some_is}
use Rattle.overlay_memory.specs.Room.{class_at, event_units}
use Rattle.overlay_memory.specs.Walked.{one_further, walked_all}
use Rattle.space_maps.specs.Books.{books_page, books_spaces}
use Rattle.space_maps.specs.Spaces.{holds_space, page_in}
use Rattle.fork_checkpoint.specs.Parts.{high_part, high_part_all, high_part_at, high_part_less, high_part_none, high_part_past, high_part_there}
use Rattle.fork_checkpoint.specs.Copied.{page_units}
use Rattle.fork_checkpoint.proofs.Sums.{in_state}

-- The units without the pages of a space, which leave it one by one.

-- a ledger in which a space has its pages from one on
abbrev pub left_from : Ledger → ℕ → ℕ → Ledger
left_from l space from = insert l space (high_part (pages_of l space) from)

module _ (l : Ledger) (space : ℕ) where
  pub left_none : is_some (get l space) ≡ true → left_from l space 0 ≡ l
  left_none here = ap (insert l space) (high_part_all (pages_of l space)) ∙ insert_kept l space (pages_of l space) (by_space (get l space) refl)
    where
      by_space : (o : Option Space) → get l space ≡ o → get l space ≡ Some (pages_of l space)
      by_space None is = let no = sym here ∙ ap is_some is in cc
      by_space (Some pages) is = is ∙ ap Some (sym (pages_there l space pages is))

  -- no page is passed over
  pub left_past : (from page : ℕ) → from ≤ page → ((q : ℕ) → from ≤ q → q < page → holding_at l space q ≡ None) → left_from l space from ≡ left_from l space page
  left_past from page le none = ap (insert l space) (high_part_past (pages_of l space) from page le (λ q ge lt. sym (page_is l space q) ∙ none q ge lt))

  -- all have left
  pub left_all : (end : ℕ) → ((q : ℕ) → is_some (get (pages_of l space) q) ≡ true → nat_lt q end ≡ true) → units (left_from l space end) ≡ units (remove l space)
  left_all end passed = same_units (left_from l space end) (remove l space) (empty_holdings l space (high_part (pages_of l space) end) (high_part_none (pages_of l space) end passed))

-- One more page leaves.
module _ (l : Ledger) (space page : ℕ) (x : Holding) (at_page : holding_at l space page ≡ Some x) where
  abbrev rest : Space
  rest = high_part (pages_of l space) page

  abbrev now : Ledger
  now = left_from l space page

  left_less : left_from l space (page + 1) ≡ without_page now space page
  unfolding without_page
  left_less =
      ap (insert l space) (high_part_less (pages_of l space) page page x (sym (page_is l space page) ∙ at_page) (λ q _. one_further page q))
      ∙ sym (ap (λ (m : Space). insert now space (remove m page)) (pages_put l space rest space refl) ∙ insert_over l space rest (remove rest page))

  stays : holding_at now space page ≡ Some x
  stays =
      page_is now space page ∙ ap (λ (m : Space). get m page) (pages_put l space rest space refl) ∙ high_part_there (pages_of l space) page page (omega arith)
      ∙ sym (page_is l space page) ∙ at_page

  beside : (q r : ℕ) → (q ≡ space → ⊥) → holding_at now q r ≡ holding_at l q r
  beside q r other = page_is now q r ∙ ap (λ (m : Space). get m r) (pages_beside l space rest q other) ∙ sym (page_is l q r)

  -- what is left was there
  was : (q r : ℕ) (y : Holding) → holding_at now q r ≡ Some y → holding_at l q r ≡ Some y
  was q r y at = by_key q space
      (λ same. page_is l q r ∙ ap (λ (s : ℕ). get (pages_of l s) r) same
      ∙ behind (nat_lt r page) (get (pages_of l space) r)
      (sym (page_is now q r ∙ ap (λ (m : Space). get m r) (pages_put l space rest q same) ∙ high_part_at (pages_of l space) page r) ∙ at))
      (λ other. sym (beside q r other) ∙ at)
    where
      behind : (b : Bool) (o : Option Holding) → cond b None o ≡ Some y → o ≡ Some y
      behind true o e = cc
      behind false o e = e

  alone_left : AreOriginsApart l space → is_alone now space page ≡ is_alone l space page
  alone_left apart = same_test (is_alone now space page) (is_alone l space page) forth back
    where
      other_space : (q r : ℕ) (y : Holding) → (q ≡ space → r ≡ page → ⊥) → holding_at l q r ≡ Some y
          → nat_eq y.origin x.origin ≡ true → nat_eq x.origin 0 ≡ false → q ≡ space → ⊥
      other_space q r y differs at same some is =
          let origin : y.origin ≡ x.origin = grind (arith, nat_tests) in
          differs is (apart r page y x (ap (λ s. holding_at l s r) (sym is) ∙ at) at_page origin (ap (λ o. nat_eq o 0) origin ∙ some))

      forth : is_alone now space page ≡ true → is_alone l space page ≡ true
      forth h =
          let a = alone_apart now space page h in
          let same : a.holding ≡ x = some_is a.holding x (sym a.there ∙ stays) in
          let some : nat_eq x.origin 0 ≡ false = sym (ap (λ (y : Holding). nat_eq y.origin 0) same) ∙ a.not_zero in
          apart_alone l space page (record {
            holding = x;
            there = at_page;
            not_zero = some;
            others = λ q r y differs at. not_true (nat_eq y.origin x.origin) (λ e.
                let isnt = a.others q r y differs (beside q r (other_space q r y differs at e some) ∙ at) in
                let no = sym e ∙ ap (λ (z : Holding). nat_eq y.origin z.origin) (sym same) ∙ isnt in cc);
          })

      back : is_alone l space page ≡ true → is_alone now space page ≡ true
      back h =
          let a = alone_apart l space page h in
          apart_alone now space page (record {
            holding = a.holding;
            there = stays ∙ sym at_page ∙ a.there;
            not_zero = a.not_zero;
            others = λ q r y differs at. a.others q r y differs (was q r y at);
          })

  -- the units that go with it
  pub left_units : AreOriginsApart l space → units now ≡ units (left_from l space (page + 1)) + (frame_for (is_alone l space page) + class (length x.own))
  left_units apart =
      units_at now space page x stays
      ∙ ap (λ (k : Ledger). units k + (frame_for (is_alone now space page) + class (length x.own))) (sym left_less)
      ∙ ap (λ b. units (left_from l space (page + 1)) + (frame_for b + class (length x.own))) (alone_left apart)

-- The units of the other spaces and of the pages from one on.
pub record IsLeaving (v : State) (space units_kept from : ℕ) : Type 0 where
  pub sum : units_kept ≡ units (left_from (books v) space from)
  pub low : from ≤ PAGE_END
  pub few : units_kept ≤ limit_of v

pub leaving_none : (v : State) (space n : ℕ) → holds_space v space ≡ true → n ≡ units_of v → units_of v ≤ limit_of v → IsLeaving v space n 0
leaving_none v space n here is fits =
    let within : n ≤ limit_of v = omega (arith, is, fits) in record {
      sum = is ∙ ap units (sym (left_none (books v) space (books_spaces held_page v space ∙ here)));
      low = omega arith;
      few = within;
    }

frame_is : (b : Bool) → frame_for b ≡ (if b then FRAME_UNITS else 0)
unfolding frame_for
frame_is b = refl

module _ (v : State) (space n from page : ℕ) (apart : ArePagesApart v space) (h : IsLeaving v space n from) (next : IsNextPage v space from (Some page)) where
  p : HasPage v space page
  p = has_page v space page next.1

  had : holding_at (books v) space page ≡ Some (held_page v.zero_frame p.x)
  had = held_there v space page p.x p.there

  reached : units (left_from (books v) space from) ≡ units (left_from (books v) space page)
  reached = ap units (left_past (books v) space from page next.0 (λ q ge lt. books_page held_page v space q ∙ ap (option_map (held_page v.zero_frame)) (next.2 q ge lt)))

  one : units (left_from (books v) space page) ≡ units (left_from (books v) space (page + 1)) + page_units v space page
  one =
      let less = left_units (books v) space page (held_page v.zero_frame p.x) had (origins_apart v space apart) in
      let frame = frame_is (is_alone (books v) space page) in
      let segment = class_there v space page (held_page v.zero_frame p.x) had in
      omega (arith, less, frame, segment)

  -- they are among those that are there
  pub leaving_enough : page_units v space page ≤ n
  leaving_enough = let sum = h.sum in let past = reached in let less = one in omega (arith, sum, past, less)

  pub leaving_more : (m : ℕ) → m + page_units v space page ≡ n → page < PAGE_END → IsLeaving v space m (page + 1)
  leaving_more m is below =
      let so_far = h.sum in
      let most = h.few in
      let past = reached in
      let less = one in record {
        sum = omega (arith, so_far, past, less, is);
        low = omega (arith, below);
        few = omega (arith, most, is);
      }

-- A page on the zero frame without own lines takes no units with it.
zero_units : (v : State) (space page : ℕ) → holding_at (books v) space page ≡ Some zero_holding → page_units v space page ≡ 0
unfolding is_unused
zero_units v space page held =
    let frame : is_alone (books v) space page ≡ false = alone_is (books v) space page zero_holding held ∙ nothing_zero (without_page (books v) space page) in
    let segment = class_there v space page zero_holding held in
    ap (λ (b : Bool). (if b then FRAME_UNITS else 0) + class_at v space page) frame ∙ omega (arith, segment, class_none)
  where
    nothing_zero : (l : Ledger) → is_unused l 0 ≡ false
    nothing_zero l = refl

module _ (v : State) (space n from page : ℕ) (apart : ArePagesApart v space) (h : IsLeaving v space n from) (next : IsNextPage v space from (Some page)) where
  is_there : (k : ℕ) → holding_at (books v) space (page + k) ≡ Some zero_holding → IsNextPage v space (page + k) (Some (page + k))
  is_there k held = (omega arith, there (page_in v space (page + k)) (sym (books_page held_page v space (page + k)) ∙ held), λ q above below. absurd (omega (arith, above, below)))
    where
      there : (o : Option PageState) → option_map (held_page v.zero_frame) o ≡ Some zero_holding → IsSome o
      there None is = let no = ap is_some is in cc
      there (Some x) is = refl

  -- pages that do leave the units as they are
  pub leaving_zeros : (k : ℕ) → AreZeros v space page k → page + k ≤ PAGE_END → IsLeaving v space n (page + k)
  leaving_zeros zero zeros low =
      let sum = h.sum in
      let past = reached v space n from page apart h next in
      let start : page ≡ page + 0 = omega arith in record {
        sum = sum ∙ past ∙ ap (λ p. units (left_from (books v) space p)) start;
        low = low;
        few = h.few;
      }
  leaving_zeros (suc k) zeros low =
      let before = leaving_zeros k (λ i less. zeros i (omega (arith, less))) (omega (arith, low)) in
      let none = zero_units v space (page + k) (zeros k (omega arith)) in
      let one = leaving_more v space n (page + k) (page + k) apart before (is_there k (zeros k (omega arith))) n (omega (arith, none)) (omega (arith, low)) in
      subst (IsLeaving v space n) (omega arith) one

pub leaving_all : (v : State) (space n from : ℕ) → IsLeaving v space n from → IsNextPage v space from None → n ≡ event_units (Drop space) v
leaving_all v space n from h none = h.sum ∙ left_all (books v) space from (λ q some. walked_all v space from none q (in_state v space q some))

-- The units without a page, by its own lines and whether it is alone.
module _ (v : State) (space page n : ℕ) (own : List ℕ) (count segment : ℕ) (lines : option_map (λ (x : PageState). x.own) (page_in v space page) ≡ Some own)
    (count_is : count ≡ length own) (segment_is : segment ≡ class count) (enough : page_units v space page ≤ n) where
  same_class : class_at v space page ≡ segment
  same_class = class_is v space page own count lines count_is ∙ sym segment_is

  by_alone : (b : Bool) → is_alone (books v) space page ≡ b → page_units v space page ≡ (if b then FRAME_UNITS else 0) + segment
  by_alone b e = ap (λ (c : Bool). (if c then FRAME_UNITS else 0) + class_at v space page) e ∙ ap (λ k. (if b then FRAME_UNITS else 0) + k) same_class

  pub enough_for_segment : segment ≤ n
  enough_for_segment = let same = same_class in omega (arith, same, enough)

  pub enough_for_frame : is_alone (books v) space page ≡ true → FRAME_UNITS ≤ n - segment
  enough_for_frame alone = let is : page_units v space page ≡ FRAME_UNITS + segment = by_alone true alone in omega (arith, is, enough)

  pub sum_alone : is_alone (books v) space page ≡ true → n - segment - FRAME_UNITS + page_units v space page ≡ n
  sum_alone alone = let is : page_units v space page ≡ FRAME_UNITS + segment = by_alone true alone in omega (arith, is, enough)

  pub sum_shared : is_alone (books v) space page ≡ false → n - segment + page_units v space page ≡ n
  sum_shared shared = let is : page_units v space page ≡ 0 + segment = by_alone false shared in omega (arith, is, enough)

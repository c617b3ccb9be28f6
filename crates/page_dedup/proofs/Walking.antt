use Rattle.std.proofs.Common.{◌≡◌, ℕ, zero, suc, ◌+◌, ◌-◌, ◌*◌, ◌<◌, ◌≤◌, ◌⊎◌, inl, inr, Bool, true, false, cond, ◌&&◌, not, nat_le, List, [], ◌∷◌, length, Option, None, is_some, sym, ap, ◌∙◌, refl, arith}
use Rattle.std.specs.Prelude.{IsSome}
use Rattle.std.proofs.lemmas.Bool.Decides.{nat_tests}
use Rattle.sizes.specs.declared.TheConstants.{PAGE_END}
use Rattle.ovl_io.specs.Memory.{Memory}
use Rattle.ledger.specs.AloneLaws.{nowhere}
use Rattle.ledger.specs.Changes.{is_origin_here, own_of, rebased}
use Rattle.ledger.specs.Events.{Rebase, ledger_after}
use Rattle.ledger.specs.Ledger.{Holding, Ledger, holding_at, is_alone}
use Rattle.overlay_pages.specs.Changes.{units_of}
use Rattle.overlay_pages.specs.State.{State, books, memory_of}
use Rattle.overlay_memory.specs.PageLaws.{has_page, held_there}
use Rattle.overlay_memory.specs.Pieces.{KeepsAllElse}
use Rattle.overlay_memory.specs.Rebased.{CanRebase, HasRebased, apart_in, lines_apart}
use Rattle.overlay_memory.specs.StateMemory.{beside_both, beside_same}
use Rattle.page_dedup.specs.Deduplicated.{HasShared, can_share, lines_between, page_numbers, share_of, shares_from, shares_in, shares_of}
use Rattle.page_dedup.proofs.Marking.{absent_held}
use Rattle.space_maps.specs.Spaces.{page_in}

-- Whether a page can be put on that of the same number.

and_none : (a b : Bool) → (a && (false && b)) ≡ false
and_none true b = refl
and_none false b = refl

module _ (v : State) (s from page : ℕ) where
  abbrev shareable : Bool
  shareable = can_share (memory_of v s) (memory_of v from) s from (books v) page

  pub shares_absent : page_in v from page ≡ None → can_share (memory_of v s) (memory_of v from) s from (books v) page ≡ false
  unfolding can_share
  shares_absent none =
      ap (λ (o : Option Holding). is_some o && (is_alone (books v) s page && (not (is_origin_here (books v) s from page) && nat_le (length (lines_between (memory_of v s) (memory_of v from) from (books v) page)) 31)))
      (absent_held v from page none)

  pub shares_shared : is_alone (books v) s page ≡ false → can_share (memory_of v s) (memory_of v from) s from (books v) page ≡ false
  unfolding can_share
  shares_shared shared =
      ap (λ b. is_some (holding_at (books v) from page) && (b && (not (is_origin_here (books v) s from page) && nat_le (length (lines_between (memory_of v s) (memory_of v from) from (books v) page)) 31))) shared
      ∙ and_none (is_some (holding_at (books v) from page)) (not (is_origin_here (books v) s from page) && nat_le (length (lines_between (memory_of v s) (memory_of v from) from (books v) page)) 31)

  pub shares_here : is_origin_here (books v) s from page ≡ true → can_share (memory_of v s) (memory_of v from) s from (books v) page ≡ false
  unfolding can_share
  shares_here here =
      ap (λ b. is_some (holding_at (books v) from page) && (is_alone (books v) s page && (not b && nat_le (length (lines_between (memory_of v s) (memory_of v from) from (books v) page)) 31))) here
      ∙ none (is_some (holding_at (books v) from page)) (is_alone (books v) s page)
    where
      none : (a b : Bool) → (a && (b && false)) ≡ false
      none true true = refl
      none true false = refl
      none false b = refl

  pub shares_many : 31 < length (apart_in v s page from page) → can_share (memory_of v s) (memory_of v from) s from (books v) page ≡ false
  unfolding can_share lines_between apart_in
  shares_many many =
      ap (λ b. is_some (holding_at (books v) from page) && (is_alone (books v) s page && (not (is_origin_here (books v) s from page) && b))) (grind (arith, nat_tests))
      ∙ none (is_some (holding_at (books v) from page)) (is_alone (books v) s page) (not (is_origin_here (books v) s from page))
    where
      none : (a b c : Bool) → (a && (b && (c && false))) ≡ false
      none true true true = refl
      none true true false = refl
      none true false c = refl
      none false b c = refl

  pub shares_can : IsSome (page_in v from page) → CanRebase v s page from page → can_share (memory_of v s) (memory_of v from) s from (books v) page ≡ true
  unfolding can_share lines_between apart_in
  shares_can there can =
      let at = has_page v from page there in
      let few = can.few in
      let small : nat_le (length (lines_apart (own_of (books v) from page) (memory_of v s) page (memory_of v from) page)) 31 ≡ true = grind (arith, nat_tests) in
      let held : is_some (holding_at (books v) from page) ≡ true = ap is_some (held_there v from page at.x at.there) in
      (λ i. held i && (can.alone i && (not (can.away i) && small i)))

-- Pages that can't be are passed over.

module _ (mine theirs : Memory) (space from : ℕ) where
  skip : (l : Ledger) (j k at : ℕ) → ((i : ℕ) → at ≤ i → i < at + j → can_share mine theirs space from l i ≡ false)
      → shares_from mine theirs space from l at (j + k) ≡ shares_from mine theirs space from l (at + j) k
  skip l zero k at none =
      let less : zero + k ≡ k = omega arith in
      let here : at ≡ at + zero = omega arith in
      ap (shares_from mine theirs space from l at) less ∙ ap (λ n. shares_from mine theirs space from l n k) here
  skip l (suc j) k at none =
      let more : suc j + k ≡ suc (j + k) = omega arith in
      let here : at + 1 + j ≡ at + suc j = omega arith in
      ap (shares_from mine theirs space from l at) more
      ∙ ap (λ b. cond b ((at, at, lines_between mine theirs from l at)
      ∷ shares_from mine theirs space from (rebased space from l at at (lines_between mine theirs from l at)) (at + 1) (j + k)) (shares_from mine theirs space from l (at + 1) (j + k)))
      (none at (omega arith) (omega arith))
      ∙ skip l j k (at + 1) (λ i low high. none i (omega (arith, low)) (omega (arith, high)))
      ∙ ap (λ n. shares_from mine theirs space from l n k) here

  not_there : (l : Ledger) (i : ℕ) → holding_at l space i ≡ None → can_share mine theirs space from l i ≡ false
  unfolding can_share
  not_there l i absent =
      ap (λ b. is_some (holding_at l from i) && (b && (not (is_origin_here l space from i) && nat_le (length (lines_between mine theirs from l i)) 31))) (nowhere l space i absent)
      ∙ and_none (is_some (holding_at l from i)) (not (is_origin_here l space from i) && nat_le (length (lines_between mine theirs from l i)) 31)

  -- what is left at the next page that is there, and behind the last one
  record IsReached (l : Ledger) (at left page : ℕ) : Type 0 where
    more : ℕ
    more_is : page + suc more ≡ page_numbers
    same : shares_from mine theirs space from l at left ≡ shares_from mine theirs space from l page (suc more)

  page_numbers_is : page_numbers ≡ PAGE_END
  unfolding page_numbers
  page_numbers_is = refl

  split_at : (at page left : ℕ) → at ≤ page → at + left ≡ page_numbers → page < PAGE_END → (j : ℕ) × (k : ℕ) × (at + j ≡ page) × (left ≡ j + suc k)
  split_at at page left low is less =
      (page - at, left - (page - at) - 1, omega (arith, low), omega (arith, low, is, less, page_numbers_is))

  reached : (l : Ledger) (at left page : ℕ) → at + left ≡ page_numbers → at ≤ page → page < PAGE_END → ((q : ℕ) → at ≤ q → q < page → holding_at l space q ≡ None) → IsReached l at left page
  reached l at left page is low less between =
      let cut = split_at at page left low is less in record {
        more = cut.1;
        more_is = omega (arith, is, cut.2, cut.3);
        same = ap (shares_from mine theirs space from l at) cut.3
            ∙ skip l cut.0 (suc cut.1) at (λ i above below. not_there l i (between i above (omega (arith, below, cut.2))))
            ∙ ap (λ n. shares_from mine theirs space from l n (suc cut.1)) cut.2;
      }

  none_left : (l : Ledger) (at left : ℕ) → ((q : ℕ) → at ≤ q → holding_at l space q ≡ None) → shares_from mine theirs space from l at left ≡ []
  none_left l at left none =
      let same : left ≡ left + zero = omega arith in
      ap (shares_from mine theirs space from l at) same ∙ skip l left zero at (λ i above below. not_there l i (none i above))

-- So far.
pub record IsSharing (old now : State) (space from done at : ℕ) : Type 0 where
  pub left : ℕ
  pub left_is : at + left ≡ page_numbers
  pub memories : (q : ℕ) → memory_of now q ≡ memory_of old q
  pub rest : ledger_after (Rebase space from (shares_from (memory_of old space) (memory_of old from) space from (books now) at left)) (books now)
      ≡ ledger_after (share_of old space from) (books old)
  pub count : done + length (shares_from (memory_of old space) (memory_of old from) space from (books now) at left) ≡ length (shares_in old space from)
  pub units : units_of now + 8 * done ≤ units_of old
  pub beside : KeepsAllElse old now space
  pub few : done ≤ at

pub none_shared : (old : State) (space from : ℕ) → IsSharing old old space from 0 0
unfolding shares_of
none_shared old space from = record {
  left = page_numbers;
  left_is = omega arith;
  memories = λ q. refl;
  rest = refl;
  count = omega arith;
  units = omega arith;
  beside = beside_same old space;
  few = omega arith;
}

module _ (old now : State) (space from done at page : ℕ) (so : IsSharing old now space from done at) (low : at ≤ page) (less : page < PAGE_END)
    (between : (q : ℕ) → at ≤ q → q < page → page_in now space q ≡ None) where
  abbrev mine : Memory
  mine = memory_of old space

  abbrev theirs : Memory
  theirs = memory_of old from

  at_page : IsReached mine theirs space from (books now) at so.left page
  at_page = reached mine theirs space from (books now) at so.left page so.left_is low less (λ q above below. absent_held now space q (between q above below))

  abbrev lines : List ℕ
  lines = lines_between mine theirs from (books now) page

  abbrev rest_if : Bool → List (ℕ × ℕ × List ℕ)
  rest_if b = cond b ((page, page, lines) ∷ shares_from mine theirs space from (rebased space from (books now) page page lines) (page + 1) at_page.more)
      (shares_from mine theirs space from (books now) (page + 1) at_page.more)

  -- whether it can be, by the memories of before
  same_test : (b : Bool) → can_share (memory_of now space) (memory_of now from) space from (books now) page ≡ b → can_share mine theirs space from (books now) page ≡ b
  same_test b is = (λ i. can_share (sym (so.memories space) i) (sym (so.memories from) i) space from (books now) page) ∙ is

  left_as : (b : Bool) → can_share (memory_of now space) (memory_of now from) space from (books now) page ≡ b
      → shares_from mine theirs space from (books now) at so.left ≡ rest_if b
  left_as b is = at_page.same ∙ ap rest_if (same_test b is)

  -- it was passed over
  pub passed_over : can_share (memory_of now space) (memory_of now from) space from (books now) page ≡ false → IsSharing old now space from done (page + 1)
  passed_over cannot = record {
    left = at_page.more;
    left_is = omega (arith, at_page.more_is);
    memories = so.memories;
    rest = ap (λ p. ledger_after (Rebase space from p) (books now)) (sym (left_as false cannot)) ∙ so.rest;
    count = ap (λ (p : List (ℕ × ℕ × List ℕ)). done + length p) (sym (left_as false cannot)) ∙ so.count;
    units = so.units;
    beside = so.beside;
    few = omega (arith, so.few, low);
  }

  -- it was put there
  pub put_there : (new : State) → can_share (memory_of now space) (memory_of now from) space from (books now) page ≡ true → HasRebased now new space page from page
      → IsSharing old new space from (done + 1) (page + 1)
  unfolding lines_between apart_in
  put_there new can put = record {
    left = at_page.more;
    left_is = omega (arith, at_page.more_is);
    memories = λ q. put.memories q ∙ so.memories q;
    rest = ap (λ (l : Ledger). ledger_after (Rebase space from (shares_from mine theirs space from l (page + 1) at_page.more)) l) books_is
        ∙ ap (λ p. ledger_after (Rebase space from p) (books now)) (sym (left_as true can)) ∙ so.rest;
    count = omega (
      arith,
      ap (λ (l : Ledger). length (shares_from mine theirs space from l (page + 1) at_page.more)) books_is,
      ap (λ (p : List (ℕ × ℕ × List ℕ)). length p) (left_as true can),
      so.count,
    );
    units = omega (arith, put.units, so.units);
    beside = beside_both old now new space so.beside put.beside;
    few = omega (arith, so.few, low);
  }
    where
      apart : apart_in now space page from page ≡ lines_between mine theirs from (books now) page
      apart = λ i. lines_apart (own_of (books now) from page) (so.memories space i) page (so.memories from i) page

      books_is : books new ≡ rebased space from (books now) page page (lines_between mine theirs from (books now) page)
      books_is = put.ledger ∙ ap (rebased space from (books now) page page) apart

pub all_shared : (old now : State) (space from done at : ℕ) → IsSharing old now space from done at → ((q : ℕ) → at ≤ q → page_in now space q ≡ None) → HasShared old now space from done
all_shared old now space from done at so none =
    let empty_rest = none_left (memory_of old space) (memory_of old from) space from (books now) at so.left (λ q above. absent_held now space q (none q above)) in record {
      count_is = omega (arith, so.count, ap (λ (p : List (ℕ × ℕ × List ℕ)). length p) empty_rest);
      memories = so.memories;
      ledger = ap (λ p. ledger_after (Rebase space from p) (books now)) (sym empty_rest) ∙ so.rest;
      units = so.units;
      beside = so.beside;
    }

-- how many lines are told, where all are compared
pub told_exactly : (all : List ℕ) (told : ℕ) → (told ≡ length all) ⊎ (64 < told) → told ≤ 64 → (told ≡ length all) × (31 < length all → 31 < told)
told_exactly all told (inl same) few = (same, λ many. omega (arith, many, same))
told_exactly all told (inr more) few = absurd (omega (arith, more, few))

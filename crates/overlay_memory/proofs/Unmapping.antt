use Rattle.std.proofs.Common.{◌≡◌, ℕ, ◌+◌, ◌-◌, ◌<◌, ◌≤◌, Bool, true, false, nat_lt, Option, Some, None, sym, ap, subst, ◌∙◌, refl, arith}
use Rattle.std.specs.Prelude.{IsSome, is_some}
use Rattle.std.proofs.lemmas.Bool.Decides.{nat_tests}
use Rattle.std.specs.FinMap.{empty}
use Rattle.overlay_pages.specs.State.{PageState, State}
use Rattle.overlay_pages.specs.Calls.{AreMapped}
use Rattle.space_maps.specs.Laws.{after_cut, are_cut, cut_twice, there_space}
use Rattle.space_maps.specs.Spaces.{cut_pages, holds_space, page_in, space_in}

-- Pages that go one after the other, from one on, until so many are left.

pub record IsUnmapping (old now : State) (space from n at left : ℕ) : Type 0 where
  pub few : left ≤ n
  pub next : 0 < left → at ≡ from + (n - left)
  pub gone : now ≡ cut_pages old space from (n - left)

module _ (old : State) (s from n : ℕ) (mapped : AreMapped old s from n) where
  pub unmapping_none : IsUnmapping old old s from n from n
  unfolding cut_pages
  unmapping_none =
      let none : n - n ≡ 0 = omega arith in record {
        few = omega arith;
        next = λ some. omega (arith, none);
        gone = ap (cut_pages old s from) (sym none);
      }

  pub has_space : 0 < n → holds_space old s ≡ true
  has_space some = at (page_in old s (from + 0)) refl (mapped 0 some)
    where
      at : (o : Option PageState) → page_in old s (from + 0) ≡ o → IsSome (page_in old s (from + 0)) → holds_space old s ≡ true
      at None is there = let no = sym there ∙ ap is_some is in cc
      at (Some x) is there = there_space old s (from + 0) x is

  module _ (now : State) (at left : ℕ) (so_far : IsUnmapping old now s from n at left) (some : 0 < left) where
    here : holds_space old s ≡ true
    here = let few = so_far.few in has_space (omega (arith, few, some))

    pub still_there : holds_space now s ≡ true
    still_there = ap (λ w. holds_space w s) so_far.gone ∙ (are_cut (n - left) from old s here).keeps.there s ∙ here

    pub still_settled : (space_in old s).awaiting ≡ empty → (space_in now s).awaiting ≡ empty
    still_settled settled = ap (λ w. (space_in w s).awaiting) so_far.gone ∙ (are_cut (n - left) from old s here).keeps.awaiting s ∙ settled

    pub next_there : IsSome (page_in now s at)
    next_there =
        let few = so_far.few in
        subst (λ q. IsSome (page_in now s q)) (sym (so_far.next some))
        (ap (λ w. is_some (page_in w s (from + (n - left)))) so_far.gone
        ∙ ap is_some (after_cut (n - left) from old s here) ∙ mapped (n - left) (omega (arith, few, some)))

    pub unmapping_more : (next : State) (k : ℕ) → next ≡ cut_pages now s at k → k ≤ left → IsUnmapping old next s from n (at + k) (left - k)
    unmapping_more next k is fits =
        let few = so_far.few in
        let start = so_far.next some in
        let count : n - left + k ≡ n - (left - k) = omega (arith, few, fits) in record {
          few = omega (arith, few, fits);
          next = λ more. omega (arith, few, fits, start);
          gone = is ∙ ap (λ w. cut_pages w s at k) so_far.gone ∙ ap (λ q. cut_pages (cut_pages old s from (n - left)) s q k) start ∙ cut_twice k (n - left) from old s ∙ ap (cut_pages old s from) count;
        }

pub unmapped : (old now : State) (s from n at : ℕ) → IsUnmapping old now s from n at 0 → now ≡ cut_pages old s from n
unmapped old now s from n at so_far = let all : n - 0 ≡ n = omega arith in so_far.gone ∙ ap (cut_pages old s from) all

-- The pages from one on as far as they are there.

pub record IsGoing (v : State) (space from at : ℕ) : Type 0 where
  pub low : from ≤ at
  pub there : (q : ℕ) → from ≤ q → q < at → IsSome (page_in v space q)

pub going_none : (v : State) (s from : ℕ) → IsGoing v s from from
going_none v s from = record { low = omega arith; there = λ q above below. absurd (omega (arith, above, below)) }

pub going_on : (v : State) (s from at k : ℕ) → IsGoing v s from at → AreMapped v s at k → IsGoing v s from (at + k)
going_on v s from at k so_far mapped =
    let low = so_far.low in record {
      low = omega (arith, low);
      there = λ q above below. by_at q (nat_lt q at) refl above below;
    }
  where
    by_at : (q : ℕ) (b : Bool) → nat_lt q at ≡ b → from ≤ q → q < at + k → IsSome (page_in v s q)
    by_at q true e above below = let before : q < at = grind (arith, nat_tests) in so_far.there q above before
    by_at q false e above below =
        let after : at ≤ q = grind (arith, nat_tests) in
        let here : at + (q - at) ≡ q = omega (arith, after) in
        subst (λ r. IsSome (page_in v s r)) here (mapped (q - at) (omega (arith, after, below)))

use Rattle.std.specs.Prelude.{◌≡◌, ℕ, ◌+◌, ◌≤◌, ◌<◌, false, nat_le, nat_lt, List, length, Option, Some, refl}
use Rattle.std.proofs.Common.{ap, sym, ◌∙◌, arith}
use Rattle.std.proofs.lemmas.Bool.{cases_eq, cases_lt}
use Rattle.std.proofs.lemmas.Bool.Decides.{nat_tests}
use Rattle.std.specs.Option.{option_map}
use Rattle.ledger.specs.Changes.{has_own, is_large}
use Rattle.ledger.specs.LargeLaws.{NoneLarge}
use Rattle.ledger.specs.Ledger.{Ledger, holding_at}
use Rattle.ledger.specs.StoreLaws.{large_absent, large_there}
use Rattle.overlay_memory.specs.PageLaws.{own_is}
use Rattle.overlay_memory.specs.SmallLaws.{few_not_large, large_is}
use Rattle.overlay_pages.specs.State.{PageState, State, books}
use Rattle.space_ledger.specs.Calls.{IsNextOwn}
use Rattle.space_maps.specs.Options.{by_option, by_test}
use Rattle.space_maps.specs.Spaces.{page_in}

-- Pages with few own lines, looked at one after the other.

-- none below one is large
abbrev pub NoneLargeBelow : Ledger → ℕ → ℕ → Type 0
NoneLargeBelow ledger space end = (q : ℕ) → q < end → is_large ledger space q ≡ false

pub none_below : (ledger : Ledger) (space : ℕ) → NoneLargeBelow ledger space 0
none_below ledger space q low = absurd (omega (arith, low))

-- one without own lines isn't
bare_small : (ledger : Ledger) (space q : ℕ) → has_own ledger space q ≡ false → is_large ledger space q ≡ false
bare_small ledger space q none = by_option (holding_at ledger space q)
    (λ absent. large_absent ledger space q absent)
    (λ x there. large_there ledger space q x there ∙ at (length x.own) (sym (own_is ledger space q x there) ∙ none))
  where
    at : (n : ℕ) → nat_lt 0 n ≡ false → nat_le 32 n ≡ false
    at n e = few_not_large n (grind (arith, nat_tests))

pub one_more_small : (v : State) (space from page n : ℕ) (own : List ℕ) → NoneLargeBelow (books v) space from → IsNextOwn (books v) space from (Some page)
    → option_map (λ (x : PageState). x.own) (page_in v space page) ≡ Some own → n ≡ length own → n < 32 → NoneLargeBelow (books v) space (page + 1)
one_more_small v space from page n own below next is count few q low = by_test (nat_lt q from)
    (λ behind. below q (grind (arith, nat_tests)))
    (λ ahead. by_test (nat_lt q page)
    (λ between. bare_small (books v) space q (next.2 q (grind (arith, nat_tests)) (grind (arith, nat_tests))))
    (λ beyond.
    let same : q ≡ page = at beyond in
    ap (is_large (books v) space) same ∙ large_is v space page own n is count ∙ few_not_large n (omega (arith, few))))
  where
    at : nat_lt q page ≡ false → q ≡ page
    at e = let above : page ≤ q = grind (arith, nat_tests) in omega (arith, above, low)

pub all_small : (ledger : Ledger) (space from : ℕ) → NoneLargeBelow ledger space from → ((q : ℕ) → from ≤ q → has_own ledger space q ≡ false) → NoneLarge ledger space
all_small ledger space from below none q = by_test (nat_lt q from)
    (λ behind. below q (grind (arith, nat_tests)))
    (λ ahead. bare_small ledger space q (none q (grind (arith, nat_tests))))

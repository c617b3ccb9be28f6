use Rattle.std.specs.Prelude.{◌≡◌, ℕ, ◌+◌, ◌≤◌, ◌<◌, Bool, true, false, ◌||◌, nat_eq, nat_lt, Some, None, is_some, refl}
use Rattle.std.proofs.Common.{sym, ap, ◌∙◌, arith}
use Rattle.std.proofs.lemmas.Bool.Decides.{nat_tests}
use Rattle.overlay_pages.specs.State.{State}
use Rattle.overlay_pages.specs.Calls.{IsNextPage}
use Rattle.space_maps.specs.Spaces.{page_in}

-- Laws: the pages of a space, walked in ascending order.

-- after the last one, each page that is there is behind
pub walked_all : (v : State) (space from : ℕ) → IsNextPage v space from None → (r : ℕ) → is_some (page_in v space r) ≡ true → nat_lt r from ≡ true
walked_all v space from none r there = by_test (nat_lt r from) refl
  where
    by_test : (b : Bool) → nat_lt r from ≡ b → nat_lt r from ≡ true
    by_test true e = e
    by_test false e = let above : from ≤ r = grind (arith, nat_tests) in let no = sym there ∙ ap is_some (none r above) in cc

-- after the next one, it is behind, and no other than before
pub walked_one : (v : State) (space from page : ℕ) → IsNextPage v space from (Some page) → (r : ℕ) → is_some (page_in v space r) ≡ true
    → nat_lt r (page + 1) ≡ (nat_lt r from || nat_eq r page)
walked_one v space from page next r there = by_test (nat_lt r from) refl (nat_eq r page) refl (nat_lt r page) refl
  where
    low : from ≤ page
    low = next.0

    by_test : (b : Bool) → nat_lt r from ≡ b → (c : Bool) → nat_eq r page ≡ c → (d : Bool) → nat_lt r page ≡ d → nat_lt r (page + 1) ≡ (b || c)
    by_test true e c k d f = let le = low in grind (arith, nat_tests)
    by_test false e true k d f = grind (arith, nat_tests)
    by_test false e false k true f =
        let above : from ≤ r = grind (arith, nat_tests) in
        let below : r < page = grind (arith, nat_tests) in
        let no = sym there ∙ ap is_some (next.2 r above below) in cc
    by_test false e false k false f = grind (arith, nat_tests)

-- one page further
pub one_further : (page r : ℕ) → nat_lt r (page + 1) ≡ (nat_lt r page || nat_eq r page)
one_further page r = by_test (nat_lt r page) refl (nat_eq r page) refl
  where
    by_test : (b : Bool) → nat_lt r page ≡ b → (c : Bool) → nat_eq r page ≡ c → nat_lt r (page + 1) ≡ (b || c)
    by_test true e c f = grind (arith, nat_tests)
    by_test false e true f = grind (arith, nat_tests)
    by_test false e false f = grind (arith, nat_tests)

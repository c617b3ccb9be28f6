use Rattle.std.specs.Prelude.{◌≡◌, ℕ, ◌+◌, ◌≤◌, ◌<◌, Bool, true, false, ◌&&◌, ◌||◌, nat_eq, nat_lt, Some, None, refl}
use Rattle.std.proofs.Common.{sym, ap, ◌∙◌, arith}
use Rattle.std.proofs.lemmas.Bool.Decides.{nat_tests}
use Rattle.number_maps.specs.Keys.{by_key}
use Rattle.ovl_io.specs.Memory.{Page}
use Rattle.ledger.specs.Changes.{has_own}
use Rattle.space_maps.specs.Spaces.{page_in}
use Rattle.space_ledger.specs.Calls.{IsNextOwn}
use Rattle.overlay_pages.specs.State.{PageState, State, books}
use Rattle.overlay_memory.specs.PageLaws.{own_there}
use Rattle.overlay_memory.specs.Walked.{one_further}
use Rattle.promotion.specs.FateFolds.{arent_same, or_page}
use Rattle.promotion.specs.Altered.{HaveAltered, own_now, said_again, still, was_there}

-- The pages of a space with own lines, walked in ascending order.

-- none is behind at first
walked_none : (r : ℕ) → nat_lt r 0 ≡ false
walked_none r = grind (arith, nat_tests)

-- What is done to pages that pass a test, as far as the walk has come.
abbrev pub so_far : (ℕ → Bool) → ℕ → ℕ → Bool
so_far test from r = test r && nat_lt r from

-- at first nothing
pub at_first : (test : ℕ → Bool) (r : ℕ) → so_far test 0 r ≡ false
at_first test r = ap (λ b. test r && b) (walked_none r) ∙ none (test r)
  where
    none : (b : Bool) → (b && false) ≡ false
    none true = refl
    none false = refl

-- a page that isn't behind isn't done yet
pub not_yet : (test : ℕ → Bool) (from page : ℕ) → from ≤ page → so_far test from page ≡ false
not_yet test from page le = ap (λ b. test page && b) ahead ∙ none (test page)
  where
    ahead : nat_lt page from ≡ false
    ahead = grind (arith, nat_tests)

    none : (b : Bool) → (b && false) ≡ false
    none true = refl
    none false = refl

-- pages that fail the test are passed over
pub passed : (test : ℕ → Bool) (from page r : ℕ) → from ≤ page → (from ≤ r → r < page → test r ≡ false) → so_far test page r ≡ so_far test from r
passed test from page r le fails = by_test (nat_lt r from) refl (nat_lt r page) refl
  where
    by_test : (b : Bool) → nat_lt r from ≡ b → (c : Bool) → nat_lt r page ≡ c → so_far test page r ≡ so_far test from r
    by_test true e true f = ap (λ d. test r && d) (f ∙ sym e)
    by_test true e false f = let behind : r < from = grind (arith, nat_tests) in let no : page ≤ r = grind (arith, nat_tests) in absurd (omega (arith, behind, no, le))
    by_test false e true f =
        let above : from ≤ r = grind (arith, nat_tests) in
        let below : r < page = grind (arith, nat_tests) in
        let none = fails above below in ap (λ b. b && nat_lt r page) none ∙ sym (ap (λ b. b && nat_lt r from) none)
    by_test false e false f = ap (λ d. test r && d) (f ∙ sym e)

-- when all others fail it, all is done
pub passed_all : (test : ℕ → Bool) (from r : ℕ) → (from ≤ r → test r ≡ false) → test r ≡ so_far test from r
passed_all test from r fails = by_test (nat_lt r from) refl
  where
    all : (b : Bool) → b ≡ (b && true)
    all true = refl
    all false = refl

    by_test : (b : Bool) → nat_lt r from ≡ b → test r ≡ so_far test from r
    by_test true e = all (test r) ∙ sym (ap (λ d. test r && d) e)
    by_test false e = let above : from ≤ r = grind (arith, nat_tests) in let none = fails above in none ∙ sym (ap (λ b. b && nat_lt r from) none)

module _ (test : ℕ → Bool) (page r : ℕ) where
  pub next_done : test page ≡ true → so_far test (page + 1) r ≡ or_page (so_far test page) page r
  next_done passes = ap (λ b. test r && b) (one_further page r) ∙ by_key r page
      (λ same. ap (λ b. b && (nat_lt r page || nat_eq r page)) (ap test same ∙ passes) ∙ joined (nat_lt r page) (nat_eq r page)
      ∙ sym (ap (λ b. (b && nat_lt r page) || nat_eq r page) (ap test same ∙ passes)))
      (λ other. ap (λ b. test r && (nat_lt r page || b)) (arent_same r page other) ∙ apart (test r) (nat_lt r page) ∙ sym (ap (λ b. (test r && nat_lt r page) || b) (arent_same r page other)))
    where
      joined : (b c : Bool) → (true && (b || c)) ≡ ((true && b) || c)
      joined b c = refl

      apart : (b c : Bool) → (b && (c || false)) ≡ ((b && c) || false)
      apart true true = refl
      apart true false = refl
      apart false c = refl

  pub next_kept : test page ≡ false → so_far test (page + 1) r ≡ so_far test page r
  next_kept fails = passed test page (page + 1) r (omega arith) (λ le lt. ap test (only le lt) ∙ fails)
    where
      only : page ≤ r → r < page + 1 → r ≡ page
      only le lt = omega (arith, le, lt)

-- The walk has come to a page: it wasn't altered yet, so it is what it was.
pub record ComesTo (to : PageState → Page) (test a : ℕ → Bool) (old now : State) (space page : ℕ) : Type 0 where
  pub reached : HaveAltered to (so_far test page) a old now space
  pub unaltered : so_far test page page ≡ false
  pub x : PageState
  pub had : page_in old space page ≡ Some x
  pub at : page_in now space page ≡ Some x

-- The walk goes from one page with own lines to the next: those between fail the test.
module _ (to : PageState → Page) (test a : ℕ → Bool) (old now : State) (space from : ℕ) (h : HaveAltered to (so_far test from) a old now space)
    (bare_fails : (q : ℕ) → has_own (books old) space q ≡ false → test q ≡ false) where
  fails_now : (q : ℕ) (x : PageState) → page_in old space q ≡ Some x → from ≤ q → has_own (books now) space q ≡ false → test q ≡ false
  fails_now q x had le bare =
      bare_fails q (sym (own_now old now space q x had (still to (so_far test from) a old now space q x h had (not_yet test from q le))) ∙ bare)

  come_to : (page : ℕ) → IsNextOwn (books now) space from (Some page) → HaveAltered to (so_far test page) a old now space
  come_to page next =
      said_again to (so_far test from) (so_far test page) a old now space h
      (λ r x had. passed test from page r next.0 (λ le lt. fails_now r x had le (next.2 r le lt)))

  pub comes_to : (page : ℕ) → IsNextOwn (books now) space from (Some page) → ComesTo to test a old now space page
  comes_to page next =
      let reached = come_to page next in
      let was = was_there to (so_far test page) a old now space page reached (own_there now space page next.1) in
      let unaltered = not_yet test page page (omega arith) in record {
        reached = reached;
        unaltered = unaltered;
        x = was.x;
        had = was.had;
        at = still to (so_far test page) a old now space page was.x reached was.had unaltered;
      }

  pub come_past : IsNextOwn (books now) space from None → HaveAltered to test a old now space
  come_past none =
      said_again to (so_far test from) test a old now space h (λ r x had. passed_all test from r (λ le. fails_now r x had le (none r le)))

use Rattle.std.specs.Prelude.{◌≡◌, ℕ, zero, suc, ◌==◌, Bool, true, false, ◌||◌, nat_eq, List, [], ◌∷◌, length, Option, Some, None, is_some, refl}
use Rattle.std.proofs.Common.{sym, ap, ◌∙◌, arith}
use Rattle.std.proofs.lemmas.List.{length-append}
use Rattle.std.specs.List.{list_any, sum_by}
use Rattle.std.specs.Option.{option_map, option_map_or}
use Rattle.std.specs.FinMap.{empty, get, insert, remove}
use Rattle.number_maps.specs.Keys.{by_key, get_same, get_other, removed_same, removed_other}
use Rattle.ledger.specs.Ledger.{Holding, Space, Ledger, all_holdings, holding_at, pages_of, without_page}
use Rattle.ledger.specs.Units.{class, own_lines, tally, units, units_of}
use Rattle.ledger.specs.Alike.{AreAlike, have_one_origin}
use Rattle.ledger.specs.PlaceLaws.{page_cut, page_is, pages_put, pages_beside, pages_dropped, pages_kept, put_again, gone_here, gone_other, by_place, no_page}
use Rattle.ledger.specs.UnitLaws.{frame_for, units_at, lines_at}
use Rattle.ledger.specs.AloneLaws.{HasSuchPage, are, arent, page_that, spaces_without}
use Rattle.ledger.specs.AlikeLaws.{IsPair, alike_alone, alike_altered, pair_of}

-- Pages and spaces taken away, put in and copied on both sides, and the units of alike ledgers.

-- what a place has, or nothing
seen : Bool → Ledger → ℕ → ℕ → Option Holding
seen true l s p = None
seen false l s p = holding_at l s p

-- a place is empty on both sides, or has what one place has on either side
record IsFrom (a b c d : Ledger) (s p : ℕ) : Type 0 where
  lost : Bool
  space : ℕ
  page : ℕ
  left : holding_at c s p ≡ seen lost a space page
  right : holding_at d s p ≡ seen lost b space page

none_left : {T : Type 0} (f : Option Holding → T) (a b : Ledger) → ((s p : ℕ) → f (holding_at a s p) ≡ f (holding_at b s p)) → (e : Bool) (s p : ℕ)
    → f (seen e a s p) ≡ f (seen e b s p)
unfolding seen
none_left f a b same true s p = refl
none_left f a b same false s p = same s p

two_left : (a b : Ledger) → AreAlike a b → (e f : Bool) (s p q r : ℕ) → have_one_origin (seen e a s p) (seen f a q r) ≡ have_one_origin (seen e b s p) (seen f b q r)
unfolding seen
two_left a b alike true f s p q r = refl
two_left a b alike false false s p q r = alike.shared s p q r
two_left a b alike false true s p q r = with_none (holding_at a s p) ∙ sym (with_none (holding_at b s p))
  where
    with_none : (o : Option Holding) → have_one_origin o None ≡ false
    with_none None = refl
    with_none (Some x) = refl

-- ledgers whose places come from those of alike ones are alike
alike_from : (a b c d : Ledger) → AreAlike a b → ((s : ℕ) → is_some (get c s) ≡ is_some (get d s)) → ((s p : ℕ) → IsFrom a b c d s p) → AreAlike c d
alike_from a b c d alike spaces from = record {
  spaces = spaces;
  own = λ s p. by_test (option_map (λ holding. holding.own)) alike.own s p;
  zero_at = λ s p. by_test (λ o. option_map_or (λ holding. holding.origin == 0) o false) alike.zero_at s p;
  shared = λ s p q r.
      let x = from s p in
      let y = from q r in
      (λ i. have_one_origin (x.left i) (y.left i)) ∙ two_left a b alike x.lost y.lost x.space x.page y.space y.page ∙ (λ i. have_one_origin (sym x.right i) (sym y.right i));
}
  where
    by_test : {T : Type 0} (f : Option Holding → T) → ((s p : ℕ) → f (holding_at a s p) ≡ f (holding_at b s p)) → (s p : ℕ) → f (holding_at c s p) ≡ f (holding_at d s p)
    by_test f same s p = let x = from s p in ap f x.left ∙ none_left f a b same x.lost x.space x.page ∙ ap f (sym x.right)

-- a page taken away
pub alike_gone : (a b : Ledger) → AreAlike a b → (space page : ℕ) → AreAlike (without_page a space page) (without_page b space page)
unfolding seen
alike_gone a b alike space page =
    alike_from a b _ _ alike
    (λ s. spaces_without a space page s ∙ ap (λ c. nat_eq s space || c) (alike.spaces s) ∙ sym (spaces_without b space page s))
    (λ s p. by_place space page s p
    (λ ss pp. record { lost = true; space = s; page = p; left = gone_here a space page s p ss pp; right = gone_here b space page s p ss pp })
    (λ e. record { lost = false; space = s; page = p; left = gone_other a space page s p e; right = gone_other b space page s p e }))

-- a space with the pages of another, or without pages
at_put : (l : Ledger) (space : ℕ) (pages : Space) (s p : ℕ) → s ≡ space → holding_at (insert l space pages) s p ≡ get pages p
at_put l space pages s p same = page_is (insert l space pages) s p ∙ ap (λ (m : Space). get m p) (pages_put l space pages s same)

at_beside : (l : Ledger) (space : ℕ) (pages : Space) (s p : ℕ) → (s ≡ space → ⊥) → holding_at (insert l space pages) s p ≡ holding_at l s p
at_beside l space pages s p other = page_is (insert l space pages) s p ∙ ap (λ (m : Space). get m p) (pages_beside l space pages s other) ∙ sym (page_is l s p)

spaces_put : (l : Ledger) (space : ℕ) (pages : Space) (s : ℕ) → is_some (get (insert l space pages) s) ≡ (nat_eq s space || is_some (get l s))
spaces_put l space pages s = by_key s space
    (λ same. ap is_some (get_same l space s pages same) ∙ ap (λ b. b || is_some (get l s)) (sym (are s space same)))
    (λ other. ap is_some (get_other l space s pages other) ∙ ap (λ b. b || is_some (get l s)) (sym (arent s space other)))

pub alike_copied : (a b : Ledger) → AreAlike a b → (from to : ℕ) → AreAlike (insert a to (pages_of a from)) (insert b to (pages_of b from))
unfolding seen
alike_copied a b alike from to =
    alike_from a b _ _ alike
    (λ s. spaces_put a to (pages_of a from) s ∙ ap (λ c. nat_eq s to || c) (alike.spaces s) ∙ sym (spaces_put b to (pages_of b from) s))
    (λ s p. by_key s to
    (λ same. record {
      lost = false;
      space = from;
      page = p;
      left = at_put a to (pages_of a from) s p same ∙ sym (page_is a from p);
      right = at_put b to (pages_of b from) s p same ∙ sym (page_is b from p);
    })
    (λ other. record { lost = false; space = s; page = p; left = at_beside a to (pages_of a from) s p other; right = at_beside b to (pages_of b from) s p other }))

pub alike_emptied : (a b : Ledger) → AreAlike a b → (space : ℕ) → AreAlike (insert a space empty) (insert b space empty)
unfolding seen
alike_emptied a b alike space =
    alike_from a b _ _ alike
    (λ s. spaces_put a space empty s ∙ ap (λ c. nat_eq s space || c) (alike.spaces s) ∙ sym (spaces_put b space empty s))
    (λ s p. by_key s space
    (λ same. record { lost = true; space = s; page = p; left = at_put a space empty s p same ∙ no_page p; right = at_put b space empty s p same ∙ no_page p })
    (λ other. record { lost = false; space = s; page = p; left = at_beside a space empty s p other; right = at_beside b space empty s p other }))

-- a space taken away
pub alike_dropped : (a b : Ledger) → AreAlike a b → (space : ℕ) → AreAlike (remove a space) (remove b space)
unfolding seen
alike_dropped a b alike space =
    alike_from a b _ _ alike
    (λ s. by_key s space
    (λ same. ap is_some (removed_same a space s same) ∙ sym (ap is_some (removed_same b space s same)))
    (λ other. ap is_some (removed_other a space s other) ∙ alike.spaces s ∙ sym (ap is_some (removed_other b space s other))))
    (λ s p. by_key s space
    (λ same. record { lost = true; space = s; page = p; left = at_dropped a s p same; right = at_dropped b s p same })
    (λ other. record { lost = false; space = s; page = p; left = at_kept a s p other; right = at_kept b s p other }))
  where
    at_dropped : (l : Ledger) (s p : ℕ) → s ≡ space → holding_at (remove l space) s p ≡ None
    at_dropped l s p same = page_is (remove l space) s p ∙ ap (λ (m : Space). get m p) (pages_dropped l space s same) ∙ no_page p

    at_kept : (l : Ledger) (s p : ℕ) → (s ≡ space → ⊥) → holding_at (remove l space) s p ≡ holding_at l s p
    at_kept l s p other = page_is (remove l space) s p ∙ ap (λ (m : Space). get m p) (pages_kept l space s other) ∙ sym (page_is l s p)

-- The units of alike ledgers are equal: page by page.

pub pages_less : (l : Ledger) (space page : ℕ) (x : Holding) → holding_at l space page ≡ Some x → length (all_holdings l) ≡ suc (length (all_holdings (without_page l space page)))
pages_less l space page x there =
    let cut = page_cut l space page in
    let whole = ap (λ (l : Ledger). length (all_holdings l)) (sym (put_again l space page x there)) ∙ ap length (cut.put_in x) ∙ length-append cut.front (x ∷ cut.back) in
    let rest = ap length cut.gone ∙ length-append cut.front cut.back in
    omega (arith, whole, rest)

record SameCounts (a b : Ledger) : Type 0 where
  units_same : units a ≡ units b
  lines_same : own_lines a ≡ own_lines b

pub some_page : (l : Ledger) (xs : List Holding) → all_holdings l ≡ xs → (xs ≡ [] → ⊥) → HasSuchPage l (λ x. true)
some_page l [] is some = absurd (some refl)
some_page l (x ∷ xs) is some = page_that l (λ x. true) (ap (list_any (λ (x : Holding). true)) is)

unit_of : (a b : Ledger) → all_holdings a ≡ [] → all_holdings b ≡ [] → units a ≡ units b
unfolding units
unit_of a b ax by = ap units_of (ax ∙ sym by)

lines_of : (a b : Ledger) → all_holdings a ≡ [] → all_holdings b ≡ [] → own_lines a ≡ own_lines b
unfolding own_lines tally
lines_of a b ax by = ap (sum_by (λ holding. length holding.own)) (ax ∙ sym by)

counts : (n : ℕ) (a b : Ledger) → length (all_holdings a) ≡ n → AreAlike a b → SameCounts a b
counts zero a b is alike = none (all_holdings a) refl (all_holdings b) refl
  where
    none : (xs : List Holding) → all_holdings a ≡ xs → (ys : List Holding) → all_holdings b ≡ ys → SameCounts a b
    none [] ax [] by = record { units_same = unit_of a b ax by; lines_same = lines_of a b ax by }
    none (x ∷ xs) ax ys by = let long = sym is ∙ ap length ax in absurd (omega (arith, long))
    none [] ax (y ∷ ys) by =
        let found : HasSuchPage b (λ x. true) = some_page b (y ∷ ys) by (λ e. let long = ap length e in absurd (omega (arith, long))) in
        let back : IsPair b a found.space found.page found.holding = pair_of b a found.space found.page found.holding (alike_altered a b alike) found.there in
        let less = pages_less a found.space found.page back.other back.there in
        absurd (omega (arith, less, is))
counts (suc n) a b is alike =
    let found : HasSuchPage a (λ x. true) = some_page a (all_holdings a) refl (λ e. let short = ap length e in absurd (omega (arith, short, is))) in
    let s = found.space in
    let p = found.page in
    let pair : IsPair a b s p found.holding = pair_of a b s p found.holding alike found.there in
    let less = pages_less a s p found.holding found.there in
    let rest : SameCounts (without_page a s p) (without_page b s p) = counts n (without_page a s p) (without_page b s p) (omega (arith, less, is)) (alike_gone a b alike s p) in
    let at_a = units_at a s p found.holding found.there in
    let at_b = units_at b s p pair.other pair.there in
    let frames = ap frame_for (alike_alone a b alike s p) in
    let classes = ap (λ l. class (length l)) pair.own_same in
    let lengths = ap length pair.own_same in
    let lines_a = lines_at a s p found.holding found.there in
    let lines_b = lines_at b s p pair.other pair.there in
    let units_rest = rest.units_same in
    let lines_rest = rest.lines_same in record {
      units_same = omega (arith, at_a, at_b, frames, classes, units_rest);
      lines_same = omega (arith, lines_a, lines_b, lengths, lines_rest);
    }

pub units_alike : (a b : Ledger) → AreAlike a b → units a ≡ units b
units_alike a b alike = (counts (length (all_holdings a)) a b refl alike).units_same

pub lines_alike : (a b : Ledger) → AreAlike a b → own_lines a ≡ own_lines b
lines_alike a b alike = (counts (length (all_holdings a)) a b refl alike).lines_same

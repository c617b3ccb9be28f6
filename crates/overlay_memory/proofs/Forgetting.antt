use Rattle.std.proofs.Common.{◌≡◌, ℕ, zero, suc, ◌+◌, ◌<◌, ◌≤◌, ◌⊎◌, inl, inr, true, false, Bool, cond, nat_eq, List, [], ◌∷◌, length, get_or, replicate, Option, None, Some, Bor, sym, ap, subst, ◌∙◌, refl, arith}
use Rattle.std.specs.Prelude.{slice_set, IfSome}
use Rattle.std.specs.List.{All}
use Rattle.std.proofs.lemmas.Bool.{cases_lt}
use Rattle.std.proofs.lemmas.Bool.Decides.{nat_tests}
use Rattle.std.proofs.lemmas.List.{get_or-map, get_or-set_other, get_or-set_same, length-replicate, length-set, map-set}
use Rattle.std.proofs.lemmas.List.Elements.{All-replicate}
use Rattle.number_maps.specs.Keys.{by_key}
use Rattle.overlay_memory.specs.Epochs.{AreKept, Seen, known_at, known_first, known_in, known_pages, nothing_known, nothing_put, place_of, with_page}
use Rattle.overlay_memory.specs.declared.epochs.Known.{Known}
use Rattle.overlay_memory.specs.declared.epochs.KnownPage.{KnownPage}
use Rattle.overlay_memory.specs.declared.epochs.TheConstants.{SEEN_PAGES}
use Rattle.overlay_pages.specs.declared.spots.TheConstants.{NO_PAGE}
use Rattle.translation_cache.specs.declared.TheConstants.{SETS}

-- What is known of pages that were found, in each epoch.

-- each of many that are alike
pub all_alike : {A : Type 0} (x : A) (n set : ℕ) → get_or (replicate n x) set x ≡ x
all_alike x zero set = refl
all_alike x (suc n) zero = refl
all_alike x (suc n) (suc set) = all_alike x n set

-- nothing, where none was put in it
none_put : (n : ℕ) (places : List Known) → ((k : ℕ) (d : Known) → k < length places → nat_eq (get_or places k d).epoch n ≡ false)
    → known_pages n places ≡ replicate (length places) nothing_known
unfolding known_in
none_put n [] apart = refl
none_put n (known ∷ rest) apart = λ i. cond (apart 0 known (omega arith) i) known.page nothing_known ∷ none_put n rest (λ k d less. apart (suc k) d (omega (arith, less))) i

-- as where it begins
pub none_later : (epoch n : ℕ) (places : List Known) → epoch < n → length places ≡ SEEN_PAGES + 1 → All (λ (known : Known). known.epoch ≤ epoch) places
    → known_pages n places ≡ replicate (SEEN_PAGES + 1) nothing_known
none_later epoch n places less count past =
    none_put n places (λ k d inside. let before : (get_or places k d).epoch ≤ epoch = past k d inside in grind (arith, nat_tests)) ∙ ap (λ m. replicate m nothing_known) count

-- and in the first one, where nothing was put yet
nothing_first : (n : ℕ) → known_pages 0 (replicate n nothing_put) ≡ replicate n nothing_known
unfolding known_in
nothing_first zero = refl
nothing_first (suc n) = λ i. nothing_known ∷ nothing_first n i

pub none_first : (places : List Known) (n : ℕ) → places ≡ replicate n nothing_put → n ≡ SEEN_PAGES + 1 → known_pages 0 places ≡ replicate (SEEN_PAGES + 1) nothing_known
none_first places n is count = ap (known_pages 0) is ∙ nothing_first n ∙ ap (λ m. replicate m nothing_known) count

-- where no page is at the front of a list
pub kept_apart : (epoch : ℕ) (places : List Known) (heads : List ℕ) → length places ≡ SEEN_PAGES + 1 → All (λ (known : Known). known.epoch ≤ epoch) places
    → get_or places SEEN_PAGES nothing_put ≡ nothing_put → heads ≡ replicate SETS SEEN_PAGES → AreKept epoch places heads
kept_apart epoch places heads count past behind none = record {
  count = count;
  past = past;
  last = behind;
  inside = λ set place at. let last : SEEN_PAGES ≡ place = sym (all_alike SEEN_PAGES SETS set) ∙ sym (ap (λ l. get_or l set SEEN_PAGES) none) ∙ at in omega (arith, last);
  count_heads = ap length none ∙ length-replicate SETS SEEN_PAGES;
  current = λ set place at low.
      let last : SEEN_PAGES ≡ place = sym (all_alike SEEN_PAGES SETS set) ∙ sym (ap (λ l. get_or l set SEEN_PAGES) none) ∙ at in absurd (omega (arith, last, low));
}

-- places at which the same was put are
pub known_alike : (places : List Known) (n : ℕ) (page : KnownPage) → places ≡ replicate n (record { page = page; epoch = 0 }) → page ≡ nothing_known → places ≡ replicate n nothing_put
known_alike places n page is none = is ∙ ap (λ k. replicate n (record { page = k; epoch = 0 })) none

pub kept_first : (places : List Known) (heads : List ℕ) → places ≡ replicate (SEEN_PAGES + 1) nothing_put → heads ≡ replicate SETS SEEN_PAGES → AreKept 0 places heads
kept_first places heads is none =
    kept_apart 0 places heads (ap length is ∙ length-replicate (SEEN_PAGES + 1) nothing_put)
    (subst (All (λ (known : Known). known.epoch ≤ 0)) (sym is) (All-replicate (λ (known : Known). known.epoch ≤ 0) (SEEN_PAGES + 1) nothing_put (omega arith)))
    (ap (λ l. get_or l SEEN_PAGES nothing_put) is ∙ all_alike nothing_put (SEEN_PAGES + 1) SEEN_PAGES) none

-- what was put in it
pub page_known : (epoch : ℕ) (places : List Known) (place : ℕ) (known : Known) → place < length places → get_or places place known ≡ known → known.epoch ≡ epoch
    → get_or (known_pages epoch places) place nothing_known ≡ known.page
unfolding known_in
page_known epoch places place known inside is same =
    let now : nat_eq known.epoch epoch ≡ true = grind (arith, nat_tests) in
    get_or-map (known_in epoch) places place known nothing_known inside ∙ ap (known_in epoch) is ∙ ap (λ b. cond b known.page nothing_known) now

-- what is known was
pub known_now : (epoch : ℕ) (places : List Known) (place : ℕ) (d : Known) → place < length places
    → (get_or (known_pages epoch places) place nothing_known).found.page < NO_PAGE → (get_or places place d).epoch ≡ epoch
unfolding known_in
known_now epoch places place d inside low = by_test (nat_eq known.epoch epoch) refl
  where
    known : Known
    known = get_or places place d

    there : get_or (known_pages epoch places) place nothing_known ≡ cond (nat_eq known.epoch epoch) known.page nothing_known
    there = get_or-map (known_in epoch) places place d nothing_known inside

    by_test : (b : Bool) → nat_eq known.epoch epoch ≡ b → known.epoch ≡ epoch
    by_test true now = grind (arith, nat_tests)
    by_test false past =
        let none : (get_or (known_pages epoch places) place nothing_known).found.page ≡ NO_PAGE = ap (λ (k : KnownPage). k.found.page) (there ∙ ap (λ b. cond b known.page nothing_known) past) in
        absurd (omega (arith, none, low))

pub put_known : (epoch : ℕ) (places : List Known) (place : ℕ) (page : KnownPage)
    → known_pages epoch (slice_set places place (record { page = page; epoch = epoch })) ≡ slice_set (known_pages epoch places) place page
unfolding known_in
put_known epoch places place page =
    let now : nat_eq epoch epoch ≡ true = grind (arith, nat_tests) in
    map-set (known_in epoch) places place (record { page = page; epoch = epoch }) ∙ ap (λ b. slice_set (known_pages epoch places) place (cond b page nothing_known)) now

-- the page at the front of a list may be one that was put in this epoch
pub kept_front : (epoch : ℕ) (places : List Known) (heads : List ℕ) (set place : ℕ) → AreKept epoch places heads → set < SETS → place < SEEN_PAGES
    → (get_or places place nothing_put).epoch ≡ epoch → AreKept epoch places (slice_set heads set place)
kept_front epoch places heads set place kept inside low_place now = record {
  count = kept.count;
  past = kept.past;
  last = kept.last;
  inside = λ other at is. by_key other set
      (λ same.
      let here : place ≡ at =
      sym (get_or-set_same heads set place SEEN_PAGES (omega (arith, inside, kept.count_heads))) ∙ ap (λ n. get_or (slice_set heads set place) n SEEN_PAGES) (sym same) ∙ is in
      omega (arith, here, low_place))
      (λ apart. kept.inside other at (sym (get_or-set_other heads set other place SEEN_PAGES apart) ∙ is));
  count_heads = length-set heads set place ∙ kept.count_heads;
  current = λ other at is low. by_key other set
      (λ same.
      let here : place ≡ at =
      sym (get_or-set_same heads set place SEEN_PAGES (omega (arith, inside, kept.count_heads))) ∙ ap (λ n. get_or (slice_set heads set place) n SEEN_PAGES) (sym same) ∙ is in
      subst (λ n. (get_or places n nothing_put).epoch ≡ epoch) here now)
      (λ apart. kept.current other at (sym (get_or-set_other heads set other place SEEN_PAGES apart) ∙ is) low);
}

-- an element of a list, whatever stands for none
pub same_inside : {A : Type 0} (l : List A) (k : ℕ) (d e : A) → k < length l → get_or l k d ≡ get_or l k e
same_inside [] k d e less = absurd (omega (arith, less))
same_inside (x ∷ l) zero d e less = refl
same_inside (x ∷ l) (suc k) d e less = same_inside l k d e (omega (arith, less))

-- a place of a list is one of those that there are, and what stands there is known
pub head_inside : (epoch : ℕ) (places : List Known) (heads : List ℕ) (set place : ℕ) → AreKept epoch places heads → set < SETS → get_or heads set 0 ≡ place → place < length places
head_inside epoch places heads set place kept inside head =
    let within = kept.inside set place (same_inside heads set SEEN_PAGES 0 (omega (arith, inside, kept.count_heads)) ∙ head) in omega (arith, within, kept.count)

pub head_known : (epoch : ℕ) (places : List Known) (heads : List ℕ) (set place : ℕ) (known : Known) → AreKept epoch places heads → set < SETS
    → get_or heads set 0 ≡ place → known ≡ get_or places place known → get_or (known_pages epoch places) place nothing_known ≡ known.page
unfolding known_in
head_known epoch places heads set place known kept inside head at = by_key place SEEN_PAGES behind before
  where
    within : place < length places
    within = head_inside epoch places heads set place kept inside head

    there : known ≡ get_or places place nothing_put
    there = at ∙ same_inside places place known nothing_put within

    behind : place ≡ SEEN_PAGES → get_or (known_pages epoch places) place nothing_known ≡ known.page
    behind last =
        let none : known ≡ nothing_put = there ∙ ap (λ n. get_or places n nothing_put) last ∙ kept.last in
        get_or-map (known_in epoch) places place nothing_put nothing_known within ∙ ap (known_in epoch) (sym there ∙ none) ∙ alike (nat_eq 0 epoch)
        ∙ sym (ap (λ (k : Known). k.page) none)
      where
        alike : (b : Bool) → cond b nothing_known nothing_known ≡ nothing_known
        alike true = refl
        alike false = refl

    before : (place ≡ SEEN_PAGES → ⊥) → get_or (known_pages epoch places) place nothing_known ≡ known.page
    before apart =
        let head_is = same_inside heads set SEEN_PAGES 0 (omega (arith, inside, kept.count_heads)) ∙ head in
        let few = kept.inside set place head_is in
        page_known epoch places place known within (sym at)
        (ap (λ (k : Known). k.epoch) there ∙ kept.current set place head_is (least few apart))
      where
        least : place ≤ SEEN_PAGES → (place ≡ SEEN_PAGES → ⊥) → place < SEEN_PAGES
        least few other = by_less (cases_lt place SEEN_PAGES)
          where
            by_less : (place < SEEN_PAGES) ⊎ (SEEN_PAGES ≤ place) → place < SEEN_PAGES
            by_less (inl less) = less
            by_less (inr most) = absurd (other (omega (arith, few, most)))

-- A page that is known is that of a number and a space.
pub same_known : (seen : Seen) (known : KnownPage) (s p : ℕ) (result : Option (Bor KnownPage)) → known_at seen s p ≡ known
    → IfSome result (λ k. (k.now.found.space ≡ s) × (k.now.found.page ≡ p) × (known ≡ k.now))
    → IfSome result (λ k. (k.now.found.space ≡ s) × (k.now.found.page ≡ p) × (known_at seen s p ≡ k.now))
same_known seen known s p None is same = same
same_known seen known s p (Some k) is same = (same.0, same.1, is ∙ same.2)

pub same_front : (seen : Seen) (known : KnownPage) (s p : ℕ) (result : Option (Bor KnownPage)) → known_first seen p ≡ known
    → IfSome result (λ k. (k.now.found.space ≡ s) × (k.now.found.page ≡ p) × (known ≡ k.now))
    → IfSome result (λ k. (k.now.found.space ≡ s) × (k.now.found.page ≡ p) × (known_first seen p ≡ k.now))
same_front seen known s p None is same = same
same_front seen known s p (Some k) is same = (same.0, same.1, is ∙ same.2)

-- What is known of pages and of lists is what is known.
abbrev pub seen_of : List KnownPage → List ℕ → Seen
seen_of pages heads = record { pages = pages; heads = heads }

pub both : (pages more : List KnownPage) (heads others : List ℕ) → pages ≡ more → heads ≡ others → seen_of pages heads ≡ seen_of more others
both pages more heads others same alike = λ i. record { pages = same i; heads = alike i }

-- something is known of a page that is known
pub known_put : (epoch : ℕ) (places : List Known) (heads : List ℕ) (seen : Seen) (s p place line from : ℕ) (known : Known) (f : ℕ → KnownPage → KnownPage)
    → seen_of (known_pages epoch places) heads ≡ seen → place ≡ place_of s p → place < length places → known ≡ get_or places place known
    → (known_at seen s p).found.page < NO_PAGE → from ≡ line
    → seen_of (known_pages epoch (slice_set places place (record { page = f from known.page; epoch = known.epoch }))) heads ≡ with_page s p (f line (known_at seen s p)) seen
known_put epoch places heads seen s p place line from known f view place_is inside at low from_is =
    let here : (get_or (known_pages epoch places) place nothing_known).found.page < NO_PAGE =
    subst (λ n. (get_or (known_pages epoch places) n nothing_known).found.page < NO_PAGE) (sym place_is)
    (subst (λ (v : Seen). (known_at v s p).found.page < NO_PAGE) (sym view) low) in
    let now : known.epoch ≡ epoch = ap (λ (k : Known). k.epoch) at ∙ known_now epoch places place known inside here in
    let same : known.page ≡ known_at seen s p =
    sym (page_known epoch places place known inside (sym at) now) ∙ ap (λ n. get_or (known_pages epoch places) n nothing_known) place_is
    ∙ ap (λ (v : Seen). known_at v s p) view in
    both _ _ _ _
    (ap (λ n. known_pages epoch (slice_set places place (record { page = f from known.page; epoch = n }))) now
    ∙ put_known epoch places place (f from known.page)
    ∙ ap (λ n. slice_set (known_pages epoch places) n (f from known.page)) place_is
    ∙ ap (λ n. slice_set (known_pages epoch places) (place_of s p) (f n known.page)) from_is
    ∙ ap (λ k. slice_set (known_pages epoch places) (place_of s p) (f line k)) same
    ∙ ap (λ (v : Seen). slice_set v.pages (place_of s p) (f line (known_at seen s p))) view)
    (ap (λ (v : Seen). v.heads) view)

use Rattle.std.proofs.Common.{◌≡◌, ℕ, ◌+◌, ◌-◌, ◌*◌, ◌<◌, ◌≤◌, zero, suc, Bool, true, false, cond, ◌||◌, List, [], ◌∷◌, ◌++◌, length, map, take, get_or, sym, ap, subst, ◌∙◌, refl, arith, Option, Some, None}
use Rattle.std.specs.List.{filter, list_any, range_with_len}
use Rattle.std.specs.Option.{option_map}
use Rattle.std.specs.Ordering.{nat_cmp, is_eq}
use Rattle.std.specs.FinMap.{get, get-empty, len, len-empty}
use Rattle.std.proofs.lemmas.Bool.Decides.{nat_tests}
use Rattle.std.proofs.lemmas.List.{append-nil, append_assoc, get_or-map, length-map, length-take-le, take_more}
use Rattle.number_maps.specs.Keys.{differs}
use Rattle.elf_loader.specs.Accepted.{file_refusal}
use Rattle.elf_loader.specs.Fields.{loads_of}
use Rattle.elf_loader.specs.Image.{image_page, image_pages, is_stored, listed_page, page_numbers, perms_in, touches_memory}
use Rattle.elf_loader.specs.TakenLaws.{few_pages, kept_numbers, low_page}
use Rattle.elf_loader.specs.declared.image.ImagePage.{ImagePage}
use Rattle.ovl_io.specs.declared.perms.Perms.{Perms}
use Rattle.ledger.specs.AlikeLaws.{alike_itself}
use Rattle.ledger.specs.AlikeUnits.{units_alike}
use Rattle.ledger.specs.Ledger.{holding_at}
use Rattle.overlay_pages.specs.Changes.{AreAbsent, limit_of, units_of, with_zeros}
use Rattle.overlay_pages.specs.State.{PageState, SpaceState, State, books, held_page, memory_of, seen_page}
use Rattle.overlay_memory.specs.StateMemory.{memory_at}
use Rattle.space_maps.specs.Books.{books_page, books_spaces}
use Rattle.space_maps.specs.Laws.{page_of}
use Rattle.space_maps.specs.Spaces.{bare_space, holds_space, page_in, space_in}
use Rattle.machine_core.specs.Load.{stack_page, stack_pages, stored_pages, zero_content}
use Rattle.machine_core.specs.Loading.{AreZeroPages, HasAdded, HasImage, HasStack, HasOpened, IsReady, is_one_of, none_listed, listed_at}
use Rattle.machine_core.proofs.Adding.{added_none, unstored_page, zeros_added}
use Rattle.machine_core.proofs.Marks.{units_so_far}

-- What is known of the pages of a file that is taken.

-- an image has at most 65,536 pages
pub few_items : (file : List ℕ) (items : List ImagePage) → file_refusal file ≡ None → items ≡ map (listed_page file) (image_pages file) → length items ≤ 65536
few_items file items taken same = omega (arith, ap length same, length-map (image_pages file) (listed_page file), few_pages file taken)

-- what stands at a place among the pages of an image
pub page_at : (file : List ℕ) (items : List ImagePage) (i : ℕ) (d : ImagePage) → items ≡ map (listed_page file) (image_pages file) → i < length items
    → (i < length (image_pages file)) × (get_or items i d ≡ listed_page file (get_or (image_pages file) i 0))
page_at file items i d same below =
    let within : i < length (image_pages file) = omega (arith, ap length same, length-map (image_pages file) (listed_page file)) in
    (within, ap (λ ps. get_or ps i d) same ∙ get_or-map (listed_page file) (image_pages file) i 0 d within)

-- numbers below all of a range, or above them, aren't among them
pub none_below : (q a n : ℕ) → q < a → is_one_of (range_with_len a n) q ≡ false
none_below q a zero low = refl
none_below q a (suc n) low =
    ap (λ b. b || is_one_of (range_with_len (a + 1) n) q) (differs q a (λ same. omega (arith, same))) ∙ none_below q (a + 1) n (omega arith)

pub none_above : (q a n : ℕ) → a + n ≤ q → is_one_of (range_with_len a n) q ≡ false
none_above q a zero high = refl
none_above q a (suc n) high =
    ap (λ b. b || is_one_of (range_with_len (a + 1) n) q) (differs q a (λ same. omega (arith, same))) ∙ none_above q (a + 1) n (omega arith)

pub range_more : (a n : ℕ) → range_with_len a (n + 1) ≡ range_with_len a n ++ (a + n) ∷ []
range_more a zero = let same : a ≡ a + zero = omega arith in ap (λ k. k ∷ []) same
range_more a (suc n) =
    let more : suc n + 1 ≡ suc (n + 1) = omega arith in
    let end : a + 1 + n ≡ a + suc n = omega arith in
    ap (range_with_len a) more ∙ ap (λ ks. a ∷ ks) (range_more (a + 1) n) ∙ ap (λ k. a ∷ range_with_len (a + 1) n ++ k ∷ []) end

-- what a filter keeps of a range: none is less than its start, and each is above those before it
low_step : (a i : ℕ) (b : Bool) (rest : List ℕ) → ((j : ℕ) → j < length rest → a + 1 ≤ get_or rest j 0)
    → i < length (cond b (a ∷ rest) rest) → a ≤ get_or (cond b (a ∷ rest) rest) i 0
low_step a zero true rest low h = omega arith
low_step a (suc j) true rest low h = omega (arith, low j (omega arith))
low_step a j false rest low h = omega (arith, low j h)

low_among : (test : ℕ → Bool) (a n i : ℕ) → i < length (filter test (range_with_len a n)) → a ≤ get_or (filter test (range_with_len a n)) i 0
low_among test a zero i below = absurd (omega arith)
low_among test a (suc n) i below = low_step a i (test a) (filter test (range_with_len (a + 1) n)) (low_among test (a + 1) n) below

first_step : (a i : ℕ) (b : Bool) (rest : List ℕ) → ((j : ℕ) → j < length rest → a + 1 ≤ get_or rest j 0)
    → ((j : ℕ) → j < length rest → is_one_of (take j rest) (get_or rest j 0) ≡ false)
    → i < length (cond b (a ∷ rest) rest) → is_one_of (take i (cond b (a ∷ rest) rest)) (get_or (cond b (a ∷ rest) rest) i 0) ≡ false
first_step a zero true rest low first h = refl
first_step a (suc j) true rest low first h =
    let within : j < length rest = omega arith in
    ap (λ b. b || is_one_of (take j rest) (get_or rest j 0)) (differs (get_or rest j 0) a (λ same. omega (arith, low j within, same))) ∙ first j within
first_step a j false rest low first h = first j h

first_of_its_number : (test : ℕ → Bool) (a n i : ℕ) → i < length (filter test (range_with_len a n))
    → is_one_of (take i (filter test (range_with_len a n))) (get_or (filter test (range_with_len a n)) i 0) ≡ false
first_of_its_number test a zero i below = absurd (omega arith)
first_of_its_number test a (suc n) i below =
    first_step a i (test a) (filter test (range_with_len (a + 1) n)) (low_among test (a + 1) n) (first_of_its_number test (a + 1) n) below

pub not_before : (file : List ℕ) (i : ℕ) → i < length (image_pages file) → is_one_of (take i (image_pages file)) (get_or (image_pages file) i 0) ≡ false
not_before file i below =
    subst (λ ps. i < length ps → is_one_of (take i ps) (get_or ps i 0) ≡ false) (sym (kept_numbers file))
    (first_of_its_number (λ page. list_any (touches_memory page) (loads_of file)) 0 page_numbers i) below

-- A space without a page.

module _ (s : State) (p : ℕ) (bare : space_in s p ≡ bare_space) where
  pub bare_page : (q : ℕ) → page_in s p q ≡ None
  bare_page q = page_of s p q ∙ ap (λ (x : SpaceState). get x.pages q) bare ∙ get-empty nat_cmp q

  pub bare_count : len (space_in s p).pages ≡ 0
  bare_count = ap (λ (x : SpaceState). len x.pages) bare ∙ len-empty nat_cmp PageState

  pub bare_holding : (q : ℕ) → holding_at (books s) p q ≡ None
  bare_holding q = books_page held_page s p q ∙ ap (option_map (held_page s.zero_frame)) (bare_page q)

-- a page that the memory lacks isn't there, and the other way round
pub not_seen : (s : State) (p q : ℕ) → get (memory_of s p) q ≡ None → page_in s p q ≡ None
not_seen s p q absent = lacks (page_in s p q) (sym (memory_at s p q) ∙ absent)
  where
    lacks : (o : Option PageState) → option_map seen_page o ≡ None → o ≡ None
    lacks None h = refl
    lacks (Some x) h = cc

pub isnt_seen : (s : State) (p q : ℕ) → page_in s p q ≡ None → get (memory_of s p) q ≡ None
isnt_seen s p q absent = memory_at s p q ∙ ap (option_map seen_page) absent

-- the next page of an image may be added
module _ (file : List ℕ) (p : ℕ) (before now : State) (i : ℕ) (taken : file_refusal file ≡ None) (there : holds_space before p ≡ true) (bare : space_in before p ≡ bare_space)
    (below : i < length (image_pages file)) (so_far : HasAdded before now p (image_page file) (is_stored file) (take i (image_pages file))) where
  pub next_ready : IsReady now p (get_or (image_pages file) i 0)
  next_ready =
      let page = get_or (image_pages file) i 0 in
      let few = few_pages file taken in
      let count = length-take-le i (image_pages file) (omega (arith, below)) in
      record {
        there = so_far.rest.there;
        none_awaits = so_far.rest.none_awaits;
        absent = not_seen now p page (so_far.memory page
            ∙ ap (λ (b : Bool). cond b (Some (image_page file page)) (get (memory_of before p) page)) (not_before file i below)
            ∙ isnt_seen before p page (bare_page before p bare page));
        low = omega (arith, low_page file i taken below);
        few = omega (arith, so_far.count, bare_count before p bare, count, below, few);
      }

  pub next_fits : units_of before + 16 * stored_pages file ≤ limit_of before → is_stored file (get_or (image_pages file) i 0) ≡ true
      → units_of now + 16 ≤ limit_of now
  next_fits fits stored =
      let so = units_so_far p file (books before) i (books_spaces held_page before p ∙ there) (bare_holding before p bare) below stored in
      let same = units_alike _ _ (so_far.ledger (books before) (alike_itself (books before))) in
      let limit = ap (λ n. 16 * n) so_far.rest.frames in
      omega (arith, so, same, limit, fits)

-- numbers of which none is among more aren't among the first of those
among_fewer : (xs : List ℕ) (i k q : ℕ) → is_one_of (take (i + k) xs) q ≡ false → is_one_of (take i xs) q ≡ false
among_fewer xs zero k q h = refl
among_fewer [] (suc i) k q h = refl
among_fewer (x ∷ xs) (suc i) k q h =
    let more : suc i + k ≡ suc (i + k) = omega arith in
    both (is_eq (nat_cmp q x)) (is_one_of (take (i + k) xs) q) (is_one_of (take i xs) q) (sym (ap (λ n. is_one_of (take n (x ∷ xs)) q) more) ∙ h) (among_fewer xs i k q)
  where
    both : (b c d : Bool) → (b || c) ≡ false → (c ≡ false → d ≡ false) → (b || d) ≡ false
    both true c d h on = cc
    both false c d h on = on h

-- numbers of a list that go up by one
take_run : (xs : List ℕ) (i from n : ℕ) → i + n ≤ length xs → ((k : ℕ) → k < n → get_or xs (i + k) 0 ≡ from + k)
    → take (i + n) xs ≡ take i xs ++ range_with_len from n
take_run xs i from zero fits up =
    let none : i + 0 ≡ i = omega arith in ap (λ k. take k xs) none ∙ sym (append-nil (take i xs))
take_run xs i from (suc n) fits up =
    let more : i + suc n ≡ i + n + 1 = omega arith in
    let last : suc n ≡ n + 1 = omega arith in
    ap (λ k. take k xs) more ∙ take_more xs (i + n) 0 (omega (arith, fits))
    ∙ ap (λ (l : List ℕ). l ++ get_or xs (i + n) 0 ∷ []) (take_run xs i from n (omega (arith, fits)) (λ k below. up k (omega (arith, below))))
    ∙ ap (λ k. (take i xs ++ range_with_len from n) ++ k ∷ []) (up n (omega arith))
    ∙ append_assoc (take i xs) (range_with_len from n) ((from + n) ∷ [])
    ∙ ap (λ (l : List ℕ). take i xs ++ l) (sym (ap (range_with_len from) last ∙ range_more from n))

-- The next zeros of an image.

module _ (file : List ℕ) (p : ℕ) (before now : State) (items : List ImagePage) (at n : ℕ) (taken : file_refusal file ≡ None) (there : holds_space before p ≡ true)
    (bare : space_in before p ≡ bare_space) (same : items ≡ map (listed_page file) (image_pages file))
    (so_far : HasAdded before now p (image_page file) (is_stored file) (take at (image_pages file))) (zeros : AreZeroPages items at n) where
  abbrev first : ImagePage
  first = listed_at items at

  abbrev pages : List ℕ
  pages = image_pages file

  as_many : length items ≡ length pages
  as_many = ap length same ∙ length-map (image_pages file) (listed_page file)

  its_page : (k : ℕ) → k < n → listed_page file (get_or pages (at + k) 0) ≡ record { page = first.page + k; perms = first.perms; stored = false }
  its_page k below = sym (page_at file items (at + k) none_listed same (let fits = zeros.within in omega (arith, below, fits))).1 ∙ zeros.each k below

  goes_up : (k : ℕ) → k < n → get_or pages (at + k) 0 ≡ first.page + k
  goes_up k below = ap (λ (x : ImagePage). x.page) (its_page k below)

  free : (k : ℕ) → k < n → page_in now p (first.page + k) ≡ None
  free k below =
      let q = first.page + k in
      let fits = zeros.within in
      let before_it = subst (λ page. is_one_of (take (at + k) pages) page ≡ false) (goes_up k below) (not_before file (at + k) (omega (arith, below, fits, as_many))) in
      not_seen now p q (so_far.memory q
      ∙ ap (λ (b : Bool). cond b (Some (image_page file q)) (get (memory_of before p) q)) (among_fewer pages at k q before_it)
      ∙ isnt_seen before p q (bare_page before p bare q))

  pub zeros_absent : AreAbsent now p first.page n
  zeros_absent q inside =
      let low : first.page ≤ q = grind (arith, nat_tests) in
      let high : q < first.page + n = grind (arith, nat_tests) in
      let here : first.page + (q - first.page) ≡ q = omega (arith, low) in
      sym (ap (page_in now p) here) ∙ free (q - first.page) (omega (arith, low, high))

  pub zeros_low : 0 < n → first.page + n ≤ 67108864
  zeros_low some =
      let fits = zeros.within in
      let last = goes_up (n - 1) (omega (arith, some)) in
      let low = low_page file (at + (n - 1)) taken (omega (arith, some, fits, as_many)) in omega (arith, last, low, some)

  pub zeros_within : at + n ≤ length pages
  zeros_within = let fits = zeros.within in omega (arith, fits, as_many)

  pub zeros_few : len (space_in now p).pages + n ≤ 131072
  zeros_few =
      let fits = zeros.within in
      let few = few_pages file taken in
      let count = length-take-le at pages (omega (arith, fits, as_many)) in
      omega (arith, so_far.count, bare_count before p bare, count, fits, as_many, few)

  pub zeros_more : (new : State) → new ≡ with_zeros now p first.page n (record { perms = first.perms; frame = now.zero_frame })
      → HasAdded before new p (image_page file) (is_stored file) (take (at + n) pages)
  zeros_more new is =
      let fits = zeros.within in
      subst (HasAdded before new p (image_page file) (is_stored file)) (sym (take_run pages at first.page n (omega (arith, fits, as_many)) goes_up))
      (zeros_added before p (image_page file) (is_stored file) first.perms n now new (take at pages) first.page so_far is
      (λ k below. unstored_page file (first.page + k) first.perms.0 (unstored k below) (may k below)) unstored free)
    where
      unstored : (k : ℕ) → k < n → is_stored file (first.page + k) ≡ false
      unstored k below = sym (ap (is_stored file) (goes_up k below)) ∙ ap (λ (x : ImagePage). x.stored) (its_page k below)

      may : (k : ℕ) → k < n → perms_in (loads_of file) (first.page + k) ≡ first.perms.0
      may k below = sym (ap (perms_in (loads_of file)) (goes_up k below)) ∙ ap (λ (x : ImagePage). x.perms.0) (its_page k below)

-- The stack.

module _ (p : ℕ) (before new : State) (there : HasOpened p before before) (absent : (q : ℕ) → 67108848 ≤ q → page_in before p q ≡ None) where
  pub stack_added : (perms : Perms) → perms.0 ≡ 6 → new ≡ with_zeros before p 67108848 16 (record { perms = perms; frame = before.zero_frame }) → HasStack p before new
  unfolding stack_pages
  stack_added perms may is =
      zeros_added before p (λ page. stack_page) (λ page. false) perms 16 before new [] 67108848 (added_none p before (λ page. stack_page) (λ page. false) there) is
      (λ k below. ap zero_content (sym may)) (λ k below. refl) (λ k below. absent (67108848 + k) (omega arith))

-- no page of the stack is among those of an image
pub above_all : (q m : ℕ) (ps : List ℕ) → ((i : ℕ) → i < length ps → get_or ps i 0 < m) → m ≤ q → is_one_of ps q ≡ false
above_all q m [] low above = refl
above_all q m (p ∷ ps) low above =
    ap (λ b. b || is_one_of ps q) (differs q p (λ same. omega (arith, same, above, low 0 (omega arith))))
    ∙ above_all q m ps (λ i below. low (suc i) (omega (arith, below))) above

module _ (file : List ℕ) (p : ℕ) (before now : State) (taken : file_refusal file ≡ None) (bare : space_in before p ≡ bare_space) (image : HasImage file p before now) where
  pub stack_absent : (q : ℕ) → 67108848 ≤ q → page_in now p q ≡ None
  stack_absent q above =
      not_seen now p q (image.memory q
      ∙ ap (λ (b : Bool). cond b (Some (image_page file q)) (get (memory_of before p) q)) (above_all q 67108848 (image_pages file) (λ i below. low_page file i taken below) above)
      ∙ isnt_seen before p q (bare_page before p bare q))

  pub image_few : len (space_in now p).pages ≤ 65536
  image_few = omega (arith, image.count, bare_count before p bare, few_pages file taken)

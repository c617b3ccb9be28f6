use Rattle.std.proofs.Common.{◌≡◌, ℕ, ◌+◌, ◌*◌, ◌<◌, ◌≤◌, zero, suc, Bool, true, false, cond, List, [], ◌∷◌, ◌++◌, length, map, take, drop, get_or, sym, ap, subst, ◌∙◌, refl, arith, None}
use Rattle.std.specs.List.{filter, fold, list_any, range_with_len}
use Rattle.std.proofs.lemmas.List.{map-append, take-append-drop, take_more}
use Rattle.std.proofs.Math.Seq.{drop-cons}
use Rattle.elf_loader.specs.declared.image.ImagePage.{ImagePage}
use Rattle.elf_loader.specs.Accepted.{file_refusal}
use Rattle.elf_loader.specs.Fields.{loads_of}
use Rattle.elf_loader.specs.Image.{image_pages, is_stored, page_numbers, touches_memory}
use Rattle.elf_loader.specs.TakenLaws.{kept_numbers, low_page}
use Rattle.sizes.specs.declared.TheConstants.{STACK_PAGE}
use Rattle.std.specs.FinMap.{empty, get, insert}
use Rattle.std.specs.Option.{is_some}
use Rattle.number_maps.specs.Values.{remove_absent}
use Rattle.ledger.specs.Ledger.{Ledger, Space, all_holdings, holding_at, is_unused, with_page}
use Rattle.ledger.specs.AloneLaws.{are, not_true, unused_parts, without_absent}
use Rattle.ledger.specs.Changes.{without_own}
use Rattle.ledger.specs.ClassLaws.{class_none}
use Rattle.ledger.specs.OriginLaws.{new_is_unused}
use Rattle.ledger.specs.Origins.{new_origin}
use Rattle.ledger.specs.PlaceLaws.{no_page, page_is, pages_put, put_other}
use Rattle.ledger.specs.TallyLaws.{empty_holdings, same_units}
use Rattle.ledger.specs.UnitLaws.{frame_for, units_new}
use Rattle.ledger.specs.Units.{units}
use Rattle.number_maps.specs.Keys.{get_same}
use Rattle.machine_core.specs.Load.{load_pages, loaded_ledger, stack_pages, stored_count, stored_pages}
use Rattle.machine_core.specs.Loading.{one_loaded}
use Rattle.ascending_numbers.specs.Rising.{Rises, lower}

-- How many pages are stored.

pub count_append : (xs ys : List Bool) → stored_count (xs ++ ys) ≡ stored_count xs + stored_count ys
count_append [] ys = omega arith
count_append (x ∷ xs) ys = omega (arith, count_append xs ys)

pub count_more : (pages : List ImagePage) (i : ℕ) (d : ImagePage) {b : Bool} → i < length pages → (get_or pages i d).stored ≡ b
    → stored_count (map (λ page. page.stored) (take (i + 1) pages)) ≡ stored_count (map (λ page. page.stored) (take i pages)) + cond b 1 0
count_more pages i d {b = b} below is =
    let page = get_or pages i d in
    ap (λ ps. stored_count (map (λ (page : ImagePage). page.stored) ps)) (take_more pages i d below)
    ∙ ap stored_count (map-append (λ (page : ImagePage). page.stored) (take i pages) (page ∷ []))
    ∙ count_append (map (λ (page : ImagePage). page.stored) (take i pages)) (page.stored ∷ [])
    ∙ ap (λ c. stored_count (map (λ (page : ImagePage). page.stored) (take i pages)) + (cond c 1 0 + 0)) is
    ∙ last b
  where
    last : (c : Bool) → stored_count (map (λ (page : ImagePage). page.stored) (take i pages)) + (cond c 1 0 + 0) ≡ stored_count (map (λ (page : ImagePage). page.stored) (take i pages)) + cond c 1 0
    last true = omega arith
    last false = omega arith

-- Numbers that rise.

pub rises_range : (k n : ℕ) → Rises k (range_with_len k n)
rises_range k zero = tt
rises_range k (suc n) = let next : k + 1 ≡ suc k = omega arith in (omega arith, subst (λ m. Rises m (range_with_len (k + 1) n)) next (rises_range (k + 1) n))

pub rises_filter : (test : ℕ → Bool) (k : ℕ) (xs : List ℕ) → Rises k xs → Rises k (filter test xs)
rises_filter test k [] h = tt
rises_filter test k (x ∷ xs) h = by_test (test x) (rises_filter test (suc x) xs h.1)
  where
    by_test : (b : Bool) → Rises (suc x) (filter test xs) → Rises k (cond b (x ∷ filter test xs) (filter test xs))
    by_test true rest = (h.0, rest)
    by_test false rest = lower k (suc x) _ (omega (arith, h.0)) rest

pub rises_take : (k i : ℕ) (xs : List ℕ) → Rises k xs → Rises k (take i xs)
rises_take k zero [] h = tt
rises_take k zero (x ∷ xs) h = tt
rises_take k (suc i) [] h = tt
rises_take k (suc i) (x ∷ xs) h = (h.0, rises_take (suc x) i xs h.1)

pub rises_append : (k m : ℕ) (xs ys : List ℕ) → k ≤ m → Rises k xs → ((i : ℕ) → i < length xs → get_or xs i 0 < m) → Rises m ys → Rises k (xs ++ ys)
rises_append k m [] ys le h below more = lower k m ys le more
rises_append k m (x ∷ xs) ys le h below more =
    (h.0, rises_append (suc x) m xs ys (omega (arith, below 0 (omega arith))) h.1 (λ i less. below (suc i) (omega (arith, less))) more)

pub image_rises : (file : List ℕ) → Rises 0 (image_pages file)
image_rises file =
    subst (Rises 0) (sym (kept_numbers file)) (rises_filter (λ page. list_any (touches_memory page) (loads_of file)) 0 (range_with_len 0 page_numbers) (rises_range 0 page_numbers))

pub stack_rises : Rises STACK_PAGE stack_pages
unfolding stack_pages
stack_rises = rises_range 67108848 16

-- The units of a ledger with pages that weren't there.

zero_used : (ledger : Ledger) → is_unused ledger 0 ≡ false
zero_used ledger = not_true _ (λ unused. let parts = unused_parts ledger 0 unused in let same = are 0 0 refl in let no : true ≡ false = sym same ∙ parts.0 in cc)

frame_true : (b : Bool) → b ≡ true → frame_for b ≡ 16
unfolding frame_for
frame_true true h = refl
frame_true false h = cc

frame_false : (b : Bool) → b ≡ false → frame_for b ≡ 0
unfolding frame_for
frame_false false h = refl
frame_false true h = cc

one_rise : (p : ℕ) (ledger : Ledger) (page : ℕ) (mark : Bool) → is_some (get ledger p) ≡ true → holding_at ledger p page ≡ None
    → units (one_loaded p ledger (page, mark)) ≡ units ledger + 16 * cond mark 1 0
one_rise p ledger page true there absent =
    let new = units_new ledger p page (without_own (new_origin ledger)) (without_absent ledger p page there absent) in
    let frame = frame_true (is_unused ledger (new_origin ledger)) (new_is_unused ledger) in
    omega (arith, new, frame, class_none)
one_rise p ledger page false there absent =
    let new = units_new ledger p page (without_own 0) (without_absent ledger p page there absent) in
    let frame = frame_false (is_unused ledger 0) (zero_used ledger) in
    omega (arith, new, frame, class_none)

still_there : (p : ℕ) (ledger : Ledger) (page : ℕ × Bool) → is_some (get (one_loaded p ledger page) p) ≡ true
unfolding with_page
still_there p ledger page = ap is_some (get_same ledger p p _ refl)

pub units_loaded : (p k : ℕ) (pages : List (ℕ × Bool)) (ledger : Ledger) → Rises k (map (λ e. e.0) pages) → is_some (get ledger p) ≡ true
    → ((q : ℕ) → k ≤ q → holding_at ledger p q ≡ None)
    → units (fold (one_loaded p) ledger pages) ≡ units ledger + 16 * stored_count (map (λ e. e.1) pages)
units_loaded p k [] ledger rises there absent = omega arith
units_loaded p k (page ∷ pages) ledger rises there absent =
    let one = one_rise p ledger page.0 page.1 there (absent page.0 rises.0) in
    let rest = units_loaded p (suc page.0) pages (one_loaded p ledger page) rises.1 (still_there p ledger page)
    (λ q above. put_other ledger p page.0 _ p q (λ s same. absurd (omega (arith, above, same))) ∙ absent q (omega (arith, above, rises.0))) in
    omega (arith, one, rest)

-- the marks of pages by number
pub firsts : (mark : ℕ → Bool) (ps : List ℕ) → map (λ (e : ℕ × Bool). e.0) (map (λ q. (q, mark q)) ps) ≡ ps
firsts mark [] = refl
firsts mark (p ∷ ps) = ap (λ (xs : List ℕ). p ∷ xs) (firsts mark ps)

pub seconds : (mark : ℕ → Bool) (ps : List ℕ) → map (λ (e : ℕ × Bool). e.1) (map (λ q. (q, mark q)) ps) ≡ map mark ps
seconds mark [] = refl
seconds mark (p ∷ ps) = ap (λ (xs : List Bool). mark p ∷ xs) (seconds mark ps)

none_stored : (ps : List ℕ) → stored_count (map (λ p. false) ps) ≡ 0
none_stored [] = refl
none_stored (p ∷ ps) = omega (arith, none_stored ps)

-- those of a whole load
pub units_after_load : (p : ℕ) (file : List ℕ) (ledger : Ledger) → file_refusal file ≡ None → get ledger p ≡ None
    → units (loaded_ledger p file ledger) ≡ units ledger + 16 * stored_pages file
unfolding loaded_ledger load_pages stored_pages
units_after_load p file ledger taken absent =
    let start : Ledger = insert ledger p empty in
    let images = image_pages file in
    let pages : List (ℕ × Bool) = map (λ q. (q, is_stored file q)) images ++ map (λ q. (q, false)) stack_pages in
    let numbers : map (λ (e : ℕ × Bool). e.0) pages ≡ images ++ stack_pages =
    map-append (λ (e : ℕ × Bool). e.0) (map (λ q. (q, is_stored file q)) images) (map (λ q. (q, false)) stack_pages)
    ∙ ap (λ xs. xs ++ map (λ (e : ℕ × Bool). e.0) (map (λ q. (q, false)) stack_pages)) (firsts (is_stored file) images)
    ∙ ap (λ xs. images ++ xs) (firsts (λ q. false) stack_pages) in
    let marks : stored_count (map (λ (e : ℕ × Bool). e.1) pages) ≡ stored_count (map (is_stored file) images) =
    ap stored_count (map-append (λ (e : ℕ × Bool). e.1) (map (λ q. (q, is_stored file q)) images) (map (λ q. (q, false)) stack_pages))
    ∙ count_append (map (λ (e : ℕ × Bool). e.1) (map (λ q. (q, is_stored file q)) images)) (map (λ (e : ℕ × Bool). e.1) (map (λ q. (q, false)) stack_pages))
    ∙ ap (λ xs. stored_count xs + stored_count (map (λ (e : ℕ × Bool). e.1) (map (λ q. (q, false)) stack_pages))) (seconds (is_stored file) images)
    ∙ ap (λ xs. stored_count (map (is_stored file) images) + stored_count xs) (seconds (λ q. false) stack_pages)
    ∙ omega (arith, none_stored stack_pages) in
    let rises = subst (Rises 0) (sym numbers) (rises_append 0 STACK_PAGE images stack_pages (omega arith) (image_rises file) (λ i below. low_page file i taken below) stack_rises) in
    let all = units_loaded p 0 pages start rises (ap is_some (get_same ledger p p empty refl))
    (λ q low. page_is start p q ∙ ap (λ (m : Space). get m q) (pages_put ledger p empty p refl) ∙ no_page q) in
    let same = same_units start ledger (empty_holdings ledger p empty refl ∙ ap all_holdings (remove_absent ledger p absent)) in
    omega (arith, all, same, marks)

-- those of the first pages of an image, where one more is stored
pub units_so_far : (p : ℕ) (file : List ℕ) (ledger : Ledger) (i : ℕ) → is_some (get ledger p) ≡ true → ((q : ℕ) → holding_at ledger p q ≡ None)
    → i < length (image_pages file) → is_stored file (get_or (image_pages file) i 0) ≡ true
    → units (fold (one_loaded p) ledger (map (λ q. (q, is_stored file q)) (take i (image_pages file)))) + 16 ≤ units ledger + 16 * stored_pages file
unfolding stored_pages
units_so_far p file ledger i there absent below stored =
    let images = image_pages file in
    let first = take i images in
    let page = get_or images i 0 in
    let rises = subst (Rises 0) (sym (firsts (is_stored file) first)) (rises_take 0 i images (image_rises file)) in
    let some = units_loaded p 0 (map (λ q. (q, is_stored file q)) first) ledger rises there (λ q low. absent q) in
    let marks = ap stored_count (seconds (is_stored file) first) in
    let cut : images ≡ first ++ (page ∷ drop (i + 1) images) =
    sym (take-append-drop i images) ∙ ap (λ xs. first ++ xs) (drop-cons images i 0 below ∙ (let next : suc i ≡ i + 1 = omega arith in ap (λ n. page ∷ drop n images) next)) in
    let all : stored_count (map (is_stored file) images) ≡ stored_count (map (is_stored file) first) + (cond (is_stored file page) 1 0 + stored_count (map (is_stored file) (drop (i + 1) images))) =
    ap (λ xs. stored_count (map (is_stored file) xs)) cut
    ∙ ap stored_count (map-append (is_stored file) first (page ∷ drop (i + 1) images))
    ∙ count_append (map (is_stored file) first) (map (is_stored file) (page ∷ drop (i + 1) images)) in
    let one : ◌≡◌ {A = ℕ} (cond (is_stored file page) 1 0) 1 = ap (λ b. cond b 1 0) stored in
    omega (arith, some, marks, all, one)

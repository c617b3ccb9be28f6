use Rattle.std.proofs.Common.{◌≡◌, ℕ, zero, suc, ◌+◌, ◌-◌, ◌<◌, ◌≤◌, ◌&&◌, ◌||◌, ◌⊎◌, inl, inr, Bool, true, false, cond, sym, ap, subst, ◌∙◌, refl, arith, Option, Some, None, List, [], ◌∷◌, ◌++◌, eqb-true, append-nil}
use Rattle.std.specs.Prelude.{IsTrue, length, map, nat_eq, not}
use Rattle.std.specs.Option.{is_some, option_map, option_map_or}
use Rattle.std.specs.List.{AllByRecursion, filter, fold, list_any}
use Rattle.std.specs.Int.RustNames.{bit_and, bit_or}
use Rattle.std.specs.Ordering.{is_eq, nat_cmp}
use Rattle.std.specs.Cmp.{nat_cmp_total}
use Rattle.std.specs.FinMap.{FinMap, empty, from_entries, get, get-empty, get-from_entries, insert, len, len-empty, len-insert, len-remove, remove}
use Rattle.std.specs.FinMap.Entries.{find}
use Rattle.std.proofs.lemmas.Bool.{and_parts, cases_lt}
use Rattle.std.proofs.lemmas.Bool.Decides.{nat_tests}
use Rattle.std.proofs.lemmas.List.{length-append, length-map}
use Rattle.std.proofs.lemmas.List.FromFn.{length-range_with_len}
use Rattle.std.proofs.lemmas.Nat.{and_le_r}
use Rattle.number_maps.specs.Keys.{alike, by_key, get_other, get_same, removed_other, removed_same}
use Rattle.number_maps.specs.Views.{get_viewed, len_viewed, viewed, viewed_empty}
use Rattle.sizes.specs.declared.TheConstants.{MOST_IMAGE_PAGES, MOST_SPACE_PAGES, STACK_PAGE, STACK_PAGES}
use Rattle.ovl_io.specs.declared.perms.Perms.{Perms}
use Rattle.ovl_io.specs.Memory.{Memory, Page}
use Rattle.ovl_io.specs.Permissions.{permits, readable, writable}
use Rattle.elf_loader.specs.Accepted.{file_refusal}
use Rattle.elf_loader.specs.Fields.{loads_of}
use Rattle.elf_loader.specs.Image.{image_page, image_pages, perms_of as segment_perms, touches_memory}
use Rattle.elf_loader.specs.TakenLaws.{few_pages}
use Rattle.elf_loader.specs.declared.header.ProgramHeader.{ProgramHeader}
use Rattle.overlay_pages.specs.State.{PageState, SpaceState, memory_of, seen_page}
use Rattle.space_maps.specs.Laws.{space_absent}
use Rattle.space_maps.specs.Spaces.{space_in}
use Rattle.delta_image.specs.declared.delta.Delta.{Delta}
use Rattle.delta_image.specs.declared.delta.DeltaPage.{DeltaPage}
use Rattle.delta_image.specs.Applied.{applied, applied_page}
use Rattle.delta_image.specs.Fine.{Ascend, IsPlain, are_perms}
use Rattle.delta_spaces.specs.Gathered.{HasFitPages}
use Rattle.machine_core.specs.declared.process.Process as declared
use Rattle.machine_core.specs.Load.{image_memory, stack_page, stack_pages, zero_content}
use Rattle.machine_core.specs.Machine.{Machine, Wholes, spaces_of, whole_in, wholes}
use Rattle.machine_core.specs.Process.{Process}
use Rattle.script_text.specs.Given.{IsPerms}
use Rattle.command_core.specs.Copies.{IsCopied}
use Rattle.command_core.specs.ProcessChanges.{pages_gone, pages_mapped}
use Rattle.command_core.specs.Sessions.{HaveFitPages}
use Rattle.machine_core.specs.PermsLaws.{HaveSamePerms, memory_same, memory_shown}

-- Pages as an image may have them: how many there are, and that in the permissions of each W comes with R.

perms_seen : Memory → FinMap nat_cmp ℕ
perms_seen m = viewed (λ q (page : Page). page.perms) m

module _ (m n : Memory) (same : HaveSamePerms m n) where
  seen_same : perms_seen n ≡ perms_seen m
  unfolding perms_seen
  seen_same = alike _ _ (λ q. get_viewed (λ q (page : Page). page.perms) n q ∙ same q ∙ sym (get_viewed (λ q (page : Page). page.perms) m q))

  count_same : len n ≡ len m
  unfolding perms_seen
  count_same =
      sym (len_viewed (λ q (page : Page). page.perms) n) ∙ ap (λ (v : FinMap nat_cmp ℕ). len v) seen_same ∙ len_viewed (λ q (page : Page). page.perms) m

  pub fit_same : HasFitPages m → HasFitPages n
  fit_same fit = record {
    few = subst (λ k. k ≤ MOST_SPACE_PAGES) (sym count_same) fit.few;
    perms = λ q page there. by_page q page there (get m q) refl;
  }
    where
      by_page : (q : ℕ) (page : Page) → get n q ≡ Some page → (o : Option Page) → get m q ≡ o → IsTrue (are_perms page.perms)
      by_page q page there None none =
          let both : Some page.perms ≡ None = sym (ap (option_map (λ (page : Page). page.perms)) there) ∙ same q ∙ ap (option_map (λ (page : Page). page.perms)) none in cc
      by_page q page there (Some x) is =
          let both : ◌≡◌ {A = Option ℕ} (Some page.perms) (Some x.perms) = sym (ap (option_map (λ (page : Page). page.perms)) there) ∙ same q ∙ ap (option_map (λ (page : Page). page.perms)) is in
          let perms : page.perms ≡ x.perms = ap (λ (o : Option ℕ). option_map_or (λ k. k) o 0) both in
          subst (λ p. IsTrue (are_perms p)) (sym perms) (fit.perms q x is)

pub fit_empty : HasFitPages empty
fit_empty = record {
  few = omega (arith, len-empty nat_cmp Page);
  perms = λ q page there. let both : None ≡ Some page = sym (get-empty nat_cmp q) ∙ there in cc;
}

-- a space that isn't there has no pages
pub fit_absent : (machine : Machine) (p : ℕ) → get (spaces_of machine).spaces p ≡ None → HasFitPages (memory_of (spaces_of machine) p)
unfolding memory_of
fit_absent machine p absent =
    subst HasFitPages
    (sym (ap (λ (s : SpaceState). viewed (λ _ (x : PageState). seen_page x) s.pages) (space_absent (spaces_of machine) p absent)
    ∙ viewed_empty (λ _ (x : PageState). seen_page x)))
    fit_empty

module _ (old new : Machine) where
  pub fit_where_same : (p : ℕ) → space_in (spaces_of new) p ≡ space_in (spaces_of old) p → HaveFitPages old → HasFitPages (memory_of (spaces_of new) p)
  fit_where_same p same fit = subst HasFitPages (sym (memory_same (spaces_of new) (spaces_of old) p same)) (fit p)

  -- where all spaces but one are as they were
  pub fit_but : (p : ℕ) → ((q : ℕ) → (q ≡ p → ⊥) → space_in (spaces_of new) q ≡ space_in (spaces_of old) q) → HasFitPages (memory_of (spaces_of new) p)
      → HaveFitPages old → HaveFitPages new
  fit_but p others here fit q = by_key q p
      (λ same. subst (λ n. HasFitPages (memory_of (spaces_of new) n)) (sym same) here)
      (λ other. fit_where_same q (others q other) fit)

-- Pages that are put and taken away, with room for k more.

record HaveRoom (k : ℕ) (m : Memory) : Type 0 where
  few : len m + k ≤ MOST_SPACE_PAGES
  perms : (q : ℕ) (page : Page) → get m q ≡ Some page → IsTrue (are_perms page.perms)

has_fit : (m : Memory) → HaveRoom 0 m → HasFitPages m
has_fit m room = record { few = omega (arith, room.few); perms = room.perms }

some_page : (x y : Page) → ◌≡◌ {A = Option Page} (Some x) (Some y) → x ≡ y
some_page x y same = ap (λ (o : Option Page). option_map_or (λ p. p) o x) same

one_more : (n : ℕ) (some : Bool) → cond some n (n + 1) ≤ n + 1
one_more n true = omega arith
one_more n false = omega arith

room_put : (k : ℕ) (m : Memory) (q : ℕ) (page : Page) → IsTrue (are_perms page.perms) → HaveRoom (suc k) m → HaveRoom k (insert m q page)
room_put k m q page perms room = record {
  few = omega (arith, room.few, len-insert nat_cmp_total m q page, one_more (len m) (is_some (get m q)));
  perms = λ r x there. by_key r q
      (λ same. subst (λ (y : Page). IsTrue (are_perms y.perms)) (some_page page x (sym (get_same m q r page same) ∙ there)) perms)
      (λ other. room.perms r x (sym (get_other m q r page other) ∙ there));
}

pub fit_mapped : (perms : ℕ) → IsTrue (are_perms perms) → (from n : ℕ) (m : Memory) → HasFitPages m → len m + n ≤ MOST_SPACE_PAGES
    → HasFitPages (pages_mapped perms from n m)
fit_mapped perms fine from n m fit few =
    has_fit _ (each n from m (record { few = few; perms = fit.perms }))
  where
    each : (n from : ℕ) (m : Memory) → HaveRoom n m → HaveRoom 0 (pages_mapped perms from n m)
    each zero from m room = room
    each (suc n) from m room = each n (from + 1) (insert m from (zero_content perms)) (room_put n m from (zero_content perms) fine room)

one_less : (n : ℕ) (some : Bool) → cond some (n - 1) n ≤ n
one_less n true = omega arith
one_less n false = omega arith

fit_removed : (m : Memory) (q : ℕ) → HasFitPages m → HasFitPages (remove m q)
fit_removed m q fit = record {
  few = omega (arith, fit.few, len-remove nat_cmp_total m q, one_less (len m) (is_some (get m q)));
  perms = λ r x there. by_key r q
      (λ same. let both : None ≡ Some x = sym (removed_same m q r same) ∙ there in cc)
      (λ other. fit.perms r x (sym (removed_other m q r other) ∙ there));
}

pub fit_gone : (from n : ℕ) (m : Memory) → HasFitPages m → HasFitPages (pages_gone from n m)
fit_gone from zero m fit = fit
fit_gone from (suc n) m fit = fit_gone (from + 1) n (remove m from) (fit_removed m from fit)

-- A file's pages, and the stack.

-- what holds of each number below one
below : (ℕ → Bool) → ℕ → Bool
below test zero = true
below test (suc n) = test n && below test n

last_or_below : (test : ℕ → Bool) (n k : ℕ) → test n ≡ true → (k < n → test k ≡ true) → k < suc n → (k < n) ⊎ (n ≤ k) → test k ≡ true
last_or_below test n k here others low (inl below_it) = others below_it
last_or_below test n k here others low (inr above) = let same : k ≡ n = omega (arith, low, above) in ap test same ∙ here

below_at : (test : ℕ → Bool) (n k : ℕ) → below test n ≡ true → k < n → test k ≡ true
unfolding below
below_at test zero k all low = absurd (omega (arith, low))
below_at test (suc n) k all low =
    let parts = and_parts (test n) (below test n) all in
    last_or_below test n k parts.0 (below_at test n k parts.1) low (cases_lt k n)

-- what may be written may be read: so it is of the permissions of a segment, and of two that are joined
made_readable : ℕ → ℕ
made_readable bits = cond (permits bits writable) (bit_or bits readable) bits

segment_table : below (λ bits. are_perms (made_readable bits)) 8 ≡ true
unfolding below made_readable
segment_table = refl

are_joined : ℕ → ℕ → Bool
are_joined a b = not (are_perms a) || (not (are_perms b) || are_perms (bit_or a b))

joined_table : below (λ a. below (are_joined a) 8) 8 ≡ true
unfolding below are_joined
joined_table = refl

are_low : (a : ℕ) → are_perms a ≡ true → a < 8
are_low a fine = grind (arith, nat_tests)

given_joined : (x y z : Bool) → x ≡ true → y ≡ true → (not x || (not y || z)) ≡ true → z ≡ true
given_joined true true z one two h = h
given_joined true false z one two h = cc
given_joined false y z one two h = cc

joined_fine : (a b : ℕ) → are_perms a ≡ true → are_perms b ≡ true → are_perms (bit_or a b) ≡ true
unfolding are_joined
joined_fine a b fine fine_too =
    given_joined (are_perms a) (are_perms b) (are_perms (bit_or a b)) fine fine_too
    (below_at (are_joined a) 8 b (below_at (λ a. below (are_joined a) 8) 8 a joined_table (are_low a fine)) (are_low b fine_too))

segment_fine : (header : ProgramHeader) → are_perms (segment_perms header) ≡ true
unfolding made_readable
segment_fine header =
    let small : bit_and header.flags 7 < 8 = omega (arith, and_le_r header.flags 7) in
    below_at (λ bits. are_perms (made_readable bits)) 8 (bit_and header.flags 7) segment_table small

union_fine : (headers : List ProgramHeader) (perms : ℕ) → are_perms perms ≡ true → are_perms (fold (λ perms header. bit_or perms (segment_perms header)) perms headers) ≡ true
union_fine [] perms fine = fine
union_fine (header ∷ headers) perms fine =
    union_fine headers (bit_or perms (segment_perms header)) (joined_fine perms (segment_perms header) fine (segment_fine header))

page_fine : (file : List ℕ) (page : ℕ) → are_perms (image_page file page).perms ≡ true
page_fine file page = union_fine (filter (touches_memory page) (loads_of file)) 0 refl

abbrev IsFineEntry : ℕ × Page → Type 0
IsFineEntry e = are_perms e.1.perms ≡ true

fine_pages : (view : ℕ → Page) → ((page : ℕ) → are_perms (view page).perms ≡ true) → (pages : List ℕ) (rest : List (ℕ × Page)) → AllByRecursion IsFineEntry rest
    → AllByRecursion IsFineEntry (map (λ page. (page, view page)) pages ++ rest)
fine_pages view each [] rest all = all
fine_pages view each (page ∷ pages) rest all = (each page, fine_pages view each pages rest all)

fine_found : (es : List (ℕ × Page)) (q : ℕ) (page : Page) → AllByRecursion IsFineEntry es → find nat_cmp q es ≡ Some page → are_perms page.perms ≡ true
fine_found [] q page all found = cc
fine_found (e ∷ es) q page all found = by_test (is_eq (nat_cmp q e.0)) (fine_found es q page all.1) found
  where
    by_test : (b : Bool) → (find nat_cmp q es ≡ Some page → are_perms page.perms ≡ true) → cond b (Some e.1) (find nat_cmp q es) ≡ Some page
        → are_perms page.perms ≡ true
    by_test true rest same = subst (λ (x : Page). are_perms x.perms ≡ true) (some_page e.1 page same) all.0
    by_test false rest is = rest is

few_entries : (es : List (ℕ × Page)) → len (from_entries {R = nat_cmp} es) ≤ length es
few_entries [] = omega (arith, len-empty nat_cmp Page)
few_entries (e ∷ es) =
    let m : Memory = from_entries es in
    omega (arith, len-insert nat_cmp_total m e.0 e.1, one_more (len m) (is_some (get m e.0)), few_entries es)

stack_count : length stack_pages ≡ STACK_PAGES
unfolding stack_pages
stack_count = length-range_with_len STACK_PAGE STACK_PAGES

room_for_all : MOST_IMAGE_PAGES + STACK_PAGES ≤ MOST_SPACE_PAGES
room_for_all = omega arith

pub fit_loaded : (file : List ℕ) → file_refusal file ≡ None → HasFitPages (image_memory file)
fit_loaded file taken =
    let image = map (λ page. (page, image_page file page)) (image_pages file) in
    let stack = map (λ page. (page, stack_page)) stack_pages in
    let all = fine_pages (image_page file) (page_fine file) (image_pages file) stack
    (subst (AllByRecursion IsFineEntry) (append-nil stack) (fine_pages (λ page. stack_page) (λ page. refl) stack_pages [] tt)) in
    let counted = length-append image stack ∙ ap (λ n. n + length stack) (length-map (image_pages file) (λ page. (page, image_page file page)))
    ∙ ap (λ n. length (image_pages file) + n) (length-map stack_pages (λ page. (page, stack_page))) in
    record {
      few = omega (arith, few_entries (image ++ stack), counted, few_pages file taken, stack_count, room_for_all);
      perms = λ q page there. fine_found (image ++ stack) q page all (sym (get-from_entries nat_cmp_total (image ++ stack) q) ∙ there);
    }

-- the permissions of the form
pub given_fine : (perms : Perms) → IsPerms perms → IsTrue (are_perms perms.0)
given_fine perms given = by_list (4 ∷ 6 ∷ 1 ∷ 5 ∷ 7 ∷ []) (refl, (refl, (refl, (refl, (refl, tt))))) given
  where
    by_list : (ps : List ℕ) → AllByRecursion (λ p. are_perms p ≡ true) ps → list_any (nat_eq perms.0) ps ≡ true → IsTrue (are_perms perms.0)
    by_list [] all has = cc
    by_list (p ∷ ps) all has = by_test (nat_eq perms.0 p) refl (by_list ps all.1) has
      where
        by_test : (b : Bool) → nat_eq perms.0 p ≡ b → (list_any (nat_eq perms.0) ps ≡ true → IsTrue (are_perms perms.0)) → (b || list_any (nat_eq perms.0) ps) ≡ true
            → IsTrue (are_perms perms.0)
        by_test true same rest h = ap are_perms (eqb-true perms.0 p same) ∙ all.0
        by_test false same rest h = rest h

-- a space that was made as a copy has the pages of that one
pub copied_fit : (flushes : Option ℕ) (from to : ℕ) (process : declared.Process) (old new : Machine) → IsCopied flushes from to process old new → HaveFitPages old
    → HasFitPages (memory_of (spaces_of new) to)
copied_fit flushes from to process old new copied fit =
    let whole : Process = whole_in (spaces_of old) from process in
    subst HasFitPages
    (memory_shown new to whole (ap (λ (w : Wholes). get w.processes to) copied.after ∙ get_same (wholes old).processes to to whole refl)) (fit from)

-- a delta's pages, where it may be encoded
fine_given : (base : Memory) (from : ℕ) (pages : List DeltaPage) → Ascend IsPlain from pages
    → AllByRecursion IsFineEntry (map (λ page. (page.page, applied_page base page)) pages)
fine_given base from [] ascend = tt
fine_given base from (page ∷ pages) ascend = (ascend.1.perms, fine_given base (page.page + 1) pages ascend.2)

pub fit_applied : (delta : Delta) (base : Memory) → length delta.pages ≤ MOST_SPACE_PAGES → Ascend IsPlain 0 delta.pages → HasFitPages (applied delta base)
fit_applied delta base few ascend =
    let es = map (λ page. (page.page, applied_page base page)) delta.pages in
    record {
      few = omega (arith, few, few_entries es, length-map {B = ℕ × Page} delta.pages (λ page. (page.page, applied_page base page)));
      perms = λ q page there. fine_found es q page (fine_given base 0 delta.pages ascend) (sym (get-from_entries nat_cmp_total es q) ∙ there);
    }

-- how many pages a space has, as its memory shows them
pub few_pages_in : (machine : Machine) (p : ℕ) → HasFitPages (memory_of (spaces_of machine) p) → len (space_in (spaces_of machine) p).pages ≤ MOST_SPACE_PAGES
unfolding memory_of
few_pages_in machine p fit =
    subst (λ n. n ≤ MOST_SPACE_PAGES) (len_viewed (λ _ (x : PageState). seen_page x) (space_in (spaces_of machine) p).pages) fit.few

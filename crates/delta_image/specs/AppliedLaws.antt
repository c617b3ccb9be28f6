use Rattle.std.proofs.Common.{◌≡◌, ℕ, zero, suc, ◌+◌, ◌*◌, ◌<◌, ◌≤◌, ◌⊎◌, inl, inr, Bool, true, false, not, cond, List, [], ◌∷◌, ◌++◌, map, length, take, drop, refl, sym, ap, subst, ◌∙◌, arith}
use Rattle.std.specs.Prelude.{◌&&◌, ◌||◌, nat_eq, IsTrue, T, Some, is_some}
use Rattle.std.specs.FinMap.{entries, entries_sorted, get, get-entries, get-from_entries}
use Rattle.std.specs.FinMap.Entries.{below_all, find, is_sorted}
use Rattle.std.specs.List.{AllByRecursion}
use Rattle.std.specs.Ordering.{nat_cmp, is_eq, is_lt}
use Rattle.std.specs.declared.cmp.Ordering.TheVariants.{Equal, Greater}
use Rattle.std.specs.Cmp.{nat_cmp_is, nat_cmp_total}
use Rattle.std.specs.Bool.{Decides}
use Rattle.std.specs.Str.{bytes_eq}
use Rattle.std.proofs.Math.Seq.{take-add}
use Rattle.std.proofs.lemmas.Bool.{cases_order, eqb-true, lt-ltb}
use Rattle.std.proofs.lemmas.List.{length-map, length-take-le, length-drop, take_all}
use Rattle.std.proofs.lemmas.Slice.Eq.{bytes_eq-Decides}
use Rattle.number_maps.specs.Keys.{alike, differs, tied, ties}
use Rattle.sizes.specs.declared.TheConstants.{MOST_SPACE_PAGES, PAGE_BYTES, PAGE_END, PAGE_LINES}
use Rattle.overlay_bits.specs.Lines.{Rise, has_line}
use Rattle.overlay_bits.specs.Below.{has_below, rise_bounds}
use Rattle.overlay_bits.specs.Laws.{are_where}
use Rattle.ovl_io.specs.Memory.{Memory, Page}
use Rattle.ovl_io.specs.PageBytes.{IsMemory}
use Rattle.ovl_io.specs.declared.process_state.ProcessState.{ProcessState}
use Rattle.rv_execute.specs.Registers.{Registers}
use Rattle.delta_image.specs.Line.{IsLine, numbers_of}
use Rattle.delta_image.specs.Fine.{AreRegisters, Ascend, IsFine, IsPage, IsState, are_perms}
use Rattle.delta_image.specs.Applied.{applied, applied_bytes, applied_page, base_bytes, different_lines, gathered, gathered_lines, gathered_page, given_or, joined, line_in}

-- Laws of deltas and memories.

-- Bytes are their lines, one behind the other.

pub joined_same : (f g : ℕ → List ℕ) (n : ℕ) → ((i : ℕ) → i < n → f i ≡ g i) → joined f n ≡ joined g n
unfolding joined
joined_same f g zero same = refl
joined_same f g (suc n) same = λ i. joined_same f g n (λ k lt. same k (omega (arith, lt))) i ++ same n (omega arith) i

pub joined_lines : (bytes : List ℕ) (n : ℕ) → joined (line_in bytes) n ≡ take (64 * n) bytes
unfolding joined
joined_lines bytes zero = refl
joined_lines bytes (suc n) =
    let e : 64 * n + 64 ≡ 64 * suc n = omega arith in
    ap (λ xs. xs ++ line_in bytes n) (joined_lines bytes n) ∙ sym (take-add (64 * n) 64 bytes) ∙ ap (λ k. take k bytes) e

-- The lines that differ.

given_at : (f : ℕ → List ℕ) (numbers bytes : List ℕ) (i : ℕ) → given_or (map (λ k. (k, f k)) numbers) bytes i ≡ cond (has_line numbers i) (f i) bytes
given_at f [] bytes i = refl
given_at f (x ∷ xs) bytes i = at (nat_eq x i) refl (given_at f xs bytes i)
  where
    at : (b : Bool) → nat_eq x i ≡ b → given_or (map (λ k. (k, f k)) xs) bytes i ≡ cond (has_line xs i) (f i) bytes
        → cond b (f x) (given_or (map (λ k. (k, f k)) xs) bytes i) ≡ cond (b || has_line xs i) (f i) bytes
    at true is rest = ap f (eqb-true x i is)
    at false is rest = rest

line_back : (bytes base : List ℕ) (i : ℕ) → i < PAGE_LINES → given_or (gathered_lines bytes base) (line_in base i) i ≡ line_in bytes i
line_back bytes base i lt =
    given_at (line_in bytes) (different_lines bytes base) (line_in base i) i
    ∙ ap (λ (b : Bool). cond b (line_in bytes i) (line_in base i)) member
    ∙ at (bytes_eq (line_in bytes i) (line_in base i)) (bytes_eq-Decides (line_in bytes i) (line_in base i))
  where
    member : has_line (different_lines bytes base) i ≡ not (bytes_eq (line_in bytes i) (line_in base i))
    member = has_below (λ k. not (bytes_eq (line_in bytes k) (line_in base k))) 64 i ∙ (λ j. lt-ltb i 64 lt j && not (bytes_eq (line_in bytes i) (line_in base i)))

    at : (b : Bool) → Decides b (line_in bytes i ≡ line_in base i) → cond (not b) (line_in bytes i) (line_in base i) ≡ line_in bytes i
    at true same = sym (same.0 refl)
    at false differ = refl

pub bytes_back : (bytes base : List ℕ) → length bytes ≡ PAGE_BYTES → applied_bytes (gathered_lines bytes base) base ≡ bytes
bytes_back bytes base whole =
    joined_same (λ i. given_or (gathered_lines bytes base) (line_in base i) i) (line_in bytes) 64 (line_back bytes base)
    ∙ joined_lines bytes 64 ∙ take_all 4096 bytes (omega (arith, whole))

page_back : (base : Memory) (number : ℕ) (page : Page) → length page.bytes ≡ PAGE_BYTES → applied_page base (gathered_page base number page) ≡ page
page_back base number page whole = λ i. record { perms = page.perms; bytes = bytes_back page.bytes (base_bytes base number) whole i }

-- The delta of a memory over a base makes that memory of the base.

find_back : (base : Memory) (q : ℕ) (es : List (ℕ × Page)) → ((page : Page) → find nat_cmp q es ≡ Some page → length page.bytes ≡ PAGE_BYTES)
    → find nat_cmp q (map (λ page. (page.page, applied_page base page)) (map (λ entry. gathered_page base entry.0 entry.1) es)) ≡ find nat_cmp q es
find_back base q [] whole = refl
find_back base q (e ∷ es) whole = at (is_eq (nat_cmp q e.0)) refl (find_back base q es)
  where
    made : List (ℕ × Page)
    made = map (λ page. (page.page, applied_page base page)) (map (λ entry. gathered_page base entry.0 entry.1) es)

    at : (b : Bool) → is_eq (nat_cmp q e.0) ≡ b
        → (((page : Page) → find nat_cmp q es ≡ Some page → length page.bytes ≡ PAGE_BYTES) → find nat_cmp q made ≡ find nat_cmp q es)
        → cond b (Some (applied_page base (gathered_page base e.0 e.1))) (find nat_cmp q made) ≡ cond b (Some e.1) (find nat_cmp q es)
    at true is rest = ap Some (page_back base e.0 e.1 (whole e.1 (ap (λ (b : Bool). cond b (Some e.1) (find nat_cmp q es)) is)))
    at false is rest = rest (λ page found. whole page (ap (λ (b : Bool). cond b (Some e.1) (find nat_cmp q es)) is ∙ found))

pub applied_gathered : (state : ProcessState) (regs : Registers) (memory base : Memory) → IsMemory memory
    → applied (gathered state regs memory base) base ≡ memory
applied_gathered state regs memory base are =
    alike _ _ (λ q. get-from_entries nat_cmp_total _ q
    ∙ find_back base q (entries memory) (λ page found. are.whole q page (get-entries memory q ∙ found))
    ∙ sym (get-entries memory q))

-- It is fine where state, registers and memory are those of a process.

less : (a b : ℕ) → T (is_lt (nat_cmp a b)) → a < b
less a b h = at (cases_order a b)
  where
    at : (a ≡ b) ⊎ ((a < b) ⊎ (b < a)) → a < b
    at (inl same) = absurd (subst (λ o. T (is_lt o)) (sym (nat_cmp_is a b Equal same)) h)
    at (inr (inl lt)) = lt
    at (inr (inr more)) = absurd (subst (λ o. T (is_lt o)) (sym (nat_cmp_is a b Greater more)) h)

both : (a b : Bool) → T (a && b) → T a × T b
both true b h = (tt, h)
both false b h = absurd h

above : (k : ℕ) (es : List (ℕ × Page)) → T (below_all nat_cmp k es) → AllByRecursion (λ e. k + 1 ≤ e.0) es
above k [] h = tt
above k (e ∷ es) h = let parts = both (is_lt (nat_cmp k e.0)) (below_all nat_cmp k es) h in (omega (arith, less k e.0 parts.0), above k es parts.1)

found_above : (from q : ℕ) (page : Page) (es : List (ℕ × Page)) → AllByRecursion (λ e. from ≤ e.0) es → find nat_cmp q es ≡ Some page → from ≤ q
found_above from q page [] all found = let none = ap is_some found in absurd cc
found_above from q page (e ∷ es) all found = at (is_eq (nat_cmp q e.0)) refl (found_above from q page es all.1)
  where
    at : (b : Bool) → is_eq (nat_cmp q e.0) ≡ b → (find nat_cmp q es ≡ Some page → from ≤ q) → from ≤ q
    at true is rest = let same = tied q e.0 is in omega (arith, same, all.0)
    at false is rest = rest (sym (ap (λ (b : Bool). cond b (Some e.1) (find nat_cmp q es)) is) ∙ found)

ascend : (base : Memory) (from : ℕ) (es : List (ℕ × Page)) → T (is_sorted nat_cmp es) → AllByRecursion (λ e. from ≤ e.0) es
    → ((q : ℕ) (page : Page) → find nat_cmp q es ≡ Some page → IsPage (gathered_page base q page))
    → Ascend IsPage from (map (λ entry. gathered_page base entry.0 entry.1) es)
ascend base from [] sorted all each = tt
ascend base from (e ∷ es) sorted all each =
    let parts = both (below_all nat_cmp e.0 es) (is_sorted nat_cmp es) sorted in
    let behind = above e.0 es parts.0 in
    let here = ap (λ (b : Bool). cond b (Some e.1) (find nat_cmp e.0 es)) (ties e.0 e.0 refl) in (
      all.0,
      each e.0 e.1 here,
      ascend base (e.0 + 1) es parts.1 behind (λ q page found.
          let other = differs q e.0 (λ same. omega (arith, same, found_above (e.0 + 1) q page es behind found)) in
          each q page (ap (λ (b : Bool). cond b (Some e.1) (find nat_cmp q es)) other ∙ found)),
    )

-- a line has the bytes of a line
pub line_long : (bytes : List ℕ) (i : ℕ) → length bytes ≡ PAGE_BYTES → i < PAGE_LINES → length (line_in bytes i) ≡ 64
line_long bytes i whole lt = length-take-le 64 (drop (64 * i) bytes) (omega (arith, length-drop (64 * i) bytes, whole, lt))

all_lines : (bytes : List ℕ) (numbers : List ℕ) (from : ℕ) → length bytes ≡ PAGE_BYTES → Rise from numbers PAGE_LINES
    → AllByRecursion IsLine (map (λ i. (i, line_in bytes i)) numbers)
all_lines bytes [] from whole rise = tt
all_lines bytes (x ∷ xs) from whole rise = (line_long bytes x whole (omega (arith, rise_bounds (x + 1) xs 64 rise.1)), all_lines bytes xs (x + 1) whole rise.1)

pub lines_whole : (bytes base : List ℕ) → length bytes ≡ PAGE_BYTES → AllByRecursion IsLine (gathered_lines bytes base)
lines_whole bytes base whole =
    all_lines bytes (different_lines bytes base) 0 whole (are_where (λ i. not (bytes_eq (line_in bytes i) (line_in base i)))).rise

numbers_back : (f : ℕ → List ℕ) (numbers : List ℕ) → numbers_of (map (λ i. (i, f i)) numbers) ≡ numbers
numbers_back f [] = refl
numbers_back f (x ∷ xs) = λ i. x ∷ numbers_back f xs i

page_fine : (base : Memory) (number : ℕ) (page : Page) → number < PAGE_END → IsTrue (are_perms page.perms) → length page.bytes ≡ PAGE_BYTES
    → IsPage (gathered_page base number page)
page_fine base number page low may whole =
    let numbers = different_lines page.bytes (base_bytes base number) in
    let rise = (are_where (λ i. not (bytes_eq (line_in page.bytes i) (line_in (base_bytes base number) i)))).rise in (
      record { low = low; perms = may; rise = subst (λ xs. Rise 0 xs PAGE_LINES) (sym (numbers_back (line_in page.bytes) numbers)) rise },
      all_lines page.bytes numbers 0 whole rise,
    )

-- pages of a memory as an image may have them
pub gathered_ascend : (memory base : Memory) → IsMemory memory → ((number : ℕ) (page : Page) → get memory number ≡ Some page → IsTrue (are_perms page.perms))
    → Ascend IsPage 0 (map (λ entry. gathered_page base entry.0 entry.1) (entries memory))
gathered_ascend memory base whole may =
    ascend base 0 (entries memory) (entries_sorted memory) (from_zero (entries memory)) (λ q page found.
    let there = get-entries memory q ∙ found in
    page_fine base q page (whole.low q page there) (may q page there) (whole.whole q page there))
  where
    from_zero : (es : List (ℕ × Page)) → AllByRecursion (λ e. 0 ≤ e.0) es
    from_zero [] = tt
    from_zero (e ∷ es) = (omega arith, from_zero es)

pub gathered_fine : (state : ProcessState) (regs : Registers) (memory base : Memory) → IsState state → AreRegisters regs → IsMemory memory
    → length (entries memory) ≤ MOST_SPACE_PAGES → ((number : ℕ) (page : Page) → get memory number ≡ Some page → IsTrue (are_perms page.perms))
    → IsFine (gathered state regs memory base)
gathered_fine state regs memory base is are whole few may = record {
  state = is;
  regs = are;
  few = omega (arith, few, length-map (entries memory) (λ (entry : ℕ × Page). gathered_page base entry.0 entry.1));
  pages = gathered_ascend memory base whole may;
}

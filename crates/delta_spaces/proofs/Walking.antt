use Rattle.std.specs.Prelude.{◌≡◌, ℕ, zero, suc, ◌+◌, ◌*◌, ◌<◌, ◌≤◌, true, false, not, IfSome, List, [], ◌∷◌, ◌++◌, length, map, Option, Some, None, is_some, IsSome, refl}
use Rattle.std.proofs.Common.{sym, ap, subst, ◌∙◌, arith}
use Rattle.std.proofs.lemmas.List.{length-map, map-append, nil_from_length}
use Rattle.std.specs.List.{AllByRecursion}
use Rattle.std.specs.Option.{option_map}
use Rattle.std.specs.Ordering.{nat_cmp}
use Rattle.std.specs.declared.cmp.Ordering.TheVariants.{Greater}
use Rattle.std.specs.Cmp.{nat_cmp_is, nat_cmp_total}
use Rattle.std.specs.FinMap.{empty, entries, entries-insert, get, len, len-empty, len-entries}
use Rattle.std.specs.FinMap.Entries.{by_order, put}
use Rattle.sizes.specs.declared.TheConstants.{PAGE_END, PAGE_LINES}
use Rattle.ovl_io.specs.Memory.{Memory, Page}
use Rattle.overlay_pages.specs.State.{PageState, State, books, memory_of, seen_page}
use Rattle.overlay_pages.specs.Calls.{AreZeros, IsNextPage, zero_holding}
use Rattle.overlay_pages.specs.View.{MemoryView, state_of}
use Rattle.ledger.specs.Ledger.{Holding, holding_at}
use Rattle.overlay_bits.specs.Below.{below_none}
use Rattle.delta_spaces.proofs.Looked.{same_bytes}
use Rattle.overlay_memory.specs.PageLaws.{has_page, some_is, there_of}
use Rattle.overlay_memory.specs.StateMemory.{memory_at}
use Rattle.overlay_memory.specs.Walked.{walked_all, walked_one}
use Rattle.space_maps.specs.Options.{map_some}
use Rattle.space_maps.specs.Spaces.{page_in, space_in}
use Rattle.fork_checkpoint.specs.Parts.{low_part, low_part_all, low_part_more, low_part_none, low_part_past}
use Rattle.delta_image.specs.declared.delta.DeltaPage.{DeltaPage}
use Rattle.std.specs.Str.{bytes_eq}
use Rattle.number_maps.specs.Views.{len_viewed}
use Rattle.overlay_bits.specs.Laws.{are_where}
use Rattle.overlay_bits.specs.Lines.{has_line, lines_where}
use Rattle.overlay_pages.specs.Lines.{bytes_in_lines}
use Rattle.delta_image.specs.Applied.{base_bytes, different_lines, gathered_lines, gathered_page, line_in}
use Rattle.delta_image.specs.Line.{Line}
use Rattle.ovl_io.specs.declared.perms.Perms.{Perms}
use Rattle.delta_image.specs.LengthLaws.{line_count}
use Rattle.delta_spaces.specs.Gathered.{AreEntriesBelow, IsGatheredPage, IsWalking, differs, gathered_pages, pages_until}
use Rattle.delta_spaces.proofs.Lines.{bytes_there, one_zero, same_beside}

-- The pages of a space, gathered one after the other.

-- an entry behind all others
put_last : {X : Type 0} (k : ℕ) (x : X) (es : List (ℕ × X)) → AllByRecursion (λ e. e.0 < k) es → put nat_cmp k x es ≡ es ++ (k, x) ∷ []
put_last k x [] below = refl
put_last {X = X} k x (e ∷ es) below =
    ap (λ o. by_order o ((k, x) ∷ (e ∷ es)) ((e.0, x) ∷ es) (e ∷ put nat_cmp k x es)) (sym (nat_cmp_is k e.0 Greater below.0))
    ∙ ap (λ (l : List (ℕ × X)). e ∷ l) (put_last k x es below.1)

all_lower : {X : Type 0} (from to : ℕ) (es : List (ℕ × X)) → from ≤ to → AllByRecursion (λ e. e.0 < from) es → AllByRecursion (λ e. e.0 < to) es
all_lower from to [] le below = tt
all_lower from to (e ∷ es) le below = (omega (arith, below.0, le), all_lower from to es le below.1)

all_behind : {X : Type 0} (to : ℕ) (es : List (ℕ × X)) (e : ℕ × X) → AllByRecursion (λ e. e.0 < to) es → e.0 < to → AllByRecursion (λ e. e.0 < to) (es ++ e ∷ [])
all_behind to [] e below low = (low, tt)
all_behind to (d ∷ es) e below low = (below.0, all_behind to es e below.1 low)

no_entries : entries (empty {X = Page} {R = nat_cmp}) ≡ []
no_entries = nil_from_length _ (sym (len-entries (empty {X = Page} {R = nat_cmp})) ∙ len-empty nat_cmp Page)

pub none_below : (memory : Memory) → AreEntriesBelow memory 0
none_below memory = subst (AllByRecursion (λ (e : ℕ × Page). e.0 < 0)) (sym (ap entries (low_part_none memory) ∙ no_entries)) tt

pub until_none : (memory base : Memory) → pages_until memory base 0 ≡ []
until_none memory base = ap (map (λ (e : ℕ × Page). gathered_page base e.0 e.1)) (ap entries (low_part_none memory) ∙ no_entries)

memory_some : (v : State) (space page : ℕ) → is_some (get (memory_of v space) page) ≡ is_some (page_in v space page)
memory_some v space page = ap is_some (memory_at v space page) ∙ map_some seen_page (page_in v space page)

module _ (v : State) (space from page : ℕ) (next : IsNextPage v space from (Some page)) (below : AreEntriesBelow (memory_of v space) from) (base : Memory) where
  abbrev memory : Memory
  memory = memory_of v space

  there : is_some (get memory page) ≡ true
  there = memory_some v space page ∙ next.1

  one_more : (x : Page) → get memory page ≡ Some x → entries (low_part memory (page + 1)) ≡ entries (low_part memory from) ++ (page, x) ∷ []
  one_more x at =
      ap entries (low_part_more memory from page x at (λ q some. walked_one v space from page next q (sym (memory_some v space q) ∙ some)))
      ∙ entries-insert nat_cmp_total (low_part memory from) page x
      ∙ put_last page x (entries (low_part memory from)) (all_lower from page (entries (low_part memory from)) next.0 below)

  by_page : {P : Type 0} → ((x : Page) → get memory page ≡ Some x → P) → P
  by_page {P} go = at (get memory page) refl
    where
      at : (o : Option Page) → get memory page ≡ o → P
      at None is = let no = sym there ∙ ap is_some is in absurd cc
      at (Some x) is = go x is

  pub below_more : AreEntriesBelow memory (page + 1)
  below_more = by_page (λ x at.
      subst (AllByRecursion (λ (e : ℕ × Page). e.0 < page + 1)) (sym (one_more x at))
      (all_behind (page + 1) (entries (low_part memory from)) (page, x) (all_lower from (page + 1) (entries (low_part memory from)) (omega (arith, next.0)) below) (omega arith)))

  pub until_more : (made : DeltaPage) → IsGatheredPage memory base page made → pages_until memory base (page + 1) ≡ pages_until memory base from ++ made ∷ []
  until_more made is = by_page (λ x at.
      ap (map (λ (e : ℕ × Page). gathered_page base e.0 e.1)) (one_more x at)
      ∙ map-append (λ (e : ℕ × Page). gathered_page base e.0 e.1) (entries (low_part memory from)) ((page, x) ∷ [])
      ∙ ap (λ (p : DeltaPage). pages_until memory base from ++ p ∷ []) (sym (subst (λ (o : Option Page). IfSome o (λ y. made ≡ gathered_page base page y)) at is)))

pub until_all : (v : State) (space from : ℕ) (base : Memory) → IsNextPage v space from None → pages_until (memory_of v space) base from ≡ gathered_pages (memory_of v space) base
until_all v space from base none =
    ap (λ (m : Memory). gathered_pages m base) (low_part_all (memory_of v space) from (λ q some. walked_all v space from none q (sym (memory_some v space q) ∙ some)))

-- The same with what is told of them.

pub walking_none : (memory base : Memory) → IsWalking memory base [] 0
walking_none memory base = record { pages_are = sym (until_none memory base); below = none_below memory; low = omega arith }

pub walking_more : (v : State) (space from page : ℕ) (base : Memory) (pages new : List DeltaPage) (made : DeltaPage) → IsNextPage v space from (Some page) → page < PAGE_END
    → IsWalking (memory_of v space) base pages from → IsGatheredPage (memory_of v space) base page made → new ≡ pages ++ made ∷ [] → IsWalking (memory_of v space) base new (page + 1)
walking_more v space from page base pages new made next low so is new_is = record {
  pages_are = new_is ∙ ap (λ (ps : List DeltaPage). ps ++ made ∷ []) so.pages_are ∙ sym (until_more v space from page next so.below base made is);
  below = below_more v space from page next so.below base;
  low = omega (arith, low);
}

pub walking_all : (v : State) (space from : ℕ) (base : Memory) (pages : List DeltaPage) → IsWalking (memory_of v space) base pages from → IsNextPage v space from None
    → pages ≡ gathered_pages (memory_of v space) base
walking_all v space from base pages so none = so.pages_are ∙ until_all v space from base none

-- How many lines that is.

count_append : (front back : List DeltaPage) → line_count (front ++ back) ≡ line_count front + line_count back
count_append [] back = omega arith
count_append (p ∷ front) back = let rest = count_append front back in omega (arith, rest)

pub record IsMeasuring (memory base : Memory) (lines from : ℕ) : Type 0 where
  pub lines_are : lines ≡ line_count (pages_until memory base from)
  pub below : AreEntriesBelow memory from
  pub low : from ≤ PAGE_END
  pub few : lines ≤ PAGE_LINES * from

pub measuring_none : (memory base : Memory) → IsMeasuring memory base 0 0
measuring_none memory base = record { lines_are = sym (ap line_count (until_none memory base)); below = none_below memory; low = omega arith; few = omega arith }

-- a page that is there, as it is gathered
pub made_there : (v : State) (space page : ℕ) (base : Memory) (x : PageState) → page_in v space page ≡ Some x
    → IsGatheredPage (memory_of v space) base page (gathered_page base page (seen_page x))
made_there v space page base x there =
    subst (λ (o : Option Page). IfSome o (λ y. gathered_page base page (seen_page x) ≡ gathered_page base page y)) (sym (memory_at v space page ∙ ap (option_map seen_page) there)) refl

pub measuring_more : (v : State) (space from page : ℕ) (base : Memory) (lines new count : ℕ) (numbers : List ℕ) → IsNextPage v space from (Some page) → page < PAGE_END
    → IsMeasuring (memory_of v space) base lines from → numbers ≡ lines_where (differs (memory_of v space) base page) → count ≡ length numbers → count ≤ PAGE_LINES → new ≡ lines + count
    → IsMeasuring (memory_of v space) base new (page + 1)
measuring_more v space from page base lines new count numbers next low so numbers_are is most sum =
    let p = has_page v space page next.1 in
    let made = gathered_page base page (seen_page p.x) in
    let more = ap line_count (until_more v space from page next so.below base made (made_there v space page base p.x p.there)) in
    let split = count_append (pages_until (memory_of v space) base from) (made ∷ []) in
    let one = length-map {B = ℕ × List ℕ} (different_lines (bytes_in_lines p.x.lines) (base_bytes base page)) (λ i. (i, line_in (bytes_in_lines p.x.lines) i)) in
    let same = ap (λ (bytes : List ℕ). length (different_lines bytes (base_bytes base page))) (sym (bytes_there v space page p.x p.there)) in
    let given = ap (λ (l : List ℕ). length l) numbers_are in
    let lines_are = so.lines_are in
    let few = so.few in
    let ahead = next.0 in record {
      lines_are = omega (arith, more, split, one, same, given, lines_are, is, sum);
      below = below_more v space from page next so.below base;
      low = omega (arith, low);
      few = omega (arith, few, sum, most, ahead);
    }

pub measuring_all : (v : State) (space from : ℕ) (base : Memory) (lines : ℕ) → IsMeasuring (memory_of v space) base lines from → IsNextPage v space from None
    → lines ≡ line_count (gathered_pages (memory_of v space) base)
measuring_all v space from base lines so none = so.lines_are ∙ ap line_count (until_all v space from base none)

-- at most 64 a page
gathered_few : (m : Memory) (base : Memory) (es : List (ℕ × Page)) → line_count (map (λ (e : ℕ × Page). gathered_page base e.0 e.1) es) ≤ PAGE_LINES * length es
gathered_few m base [] = omega arith
gathered_few m base (e ∷ es) =
    let rest = gathered_few m base es in
    let one = length-map {B = ℕ × List ℕ} (different_lines e.1.bytes (base_bytes base e.0)) (λ i. (i, line_in e.1.bytes i)) in
    let few = (are_where (λ i. not (bytes_eq (line_in e.1.bytes i) (line_in (base_bytes base e.0) i)))).few in
    omega (arith, rest, one, few)

pub measuring_few : (v : State) (space from : ℕ) (base : Memory) (lines : ℕ) → IsMeasuring (memory_of v space) base lines from → IsNextPage v space from None
    → lines ≤ PAGE_LINES * len (space_in v space).pages
unfolding memory_of
measuring_few v space from base lines so none =
    let all = measuring_all v space from base lines so none in
    let few = gathered_few (memory_of v space) base (entries (memory_of v space)) in
    let count = len-entries (memory_of v space) in
    let seen = len_viewed (λ _ (x : PageState). seen_page x) (space_in v space).pages in
    omega (arith, all, few, count, seen)

-- A page that is gathered.

pub gathered_made : (v : State) (space page : ℕ) (base : Memory) (perms : Perms) (lines : List Line) (numbers : List ℕ)
    → option_map (λ (x : PageState). x.entry.perms) (page_in v space page) ≡ Some perms
    → lines ≡ map (λ i. (i, line_in (base_bytes (memory_of v space) page) i)) numbers → numbers ≡ lines_where (differs (memory_of v space) base page)
    → IsGatheredPage (memory_of v space) base page (record { page = page; perms = perms; lines = lines })
gathered_made v space page base perms lines numbers perms_are lines_are numbers_are = by_page (page_in v space page) refl
  where
    by_page : (o : Option PageState) → page_in v space page ≡ o → IsGatheredPage (memory_of v space) base page (record { page = page; perms = perms; lines = lines })
    by_page None is = let no = sym (ap is_some perms_are) ∙ ap (λ (o : Option PageState). is_some (option_map (λ (x : PageState). x.entry.perms) o)) is in absurd cc
    by_page (Some x) is =
        let perms_is : x.entry.perms ≡ perms = some_is x.entry.perms perms (sym (ap (option_map (λ (x : PageState). x.entry.perms)) is) ∙ perms_are) in
        let all = lines_are ∙ ap (map (λ i. (i, line_in (base_bytes (memory_of v space) page) i))) numbers_are
        ∙ ap (λ bytes. gathered_lines bytes (base_bytes base page)) (bytes_there v space page x is) in
        subst (λ (o : Option Page). IfSome o (λ y. ◌≡◌ {A = DeltaPage} (record { page = page; perms = perms; lines = lines }) (gathered_page base page y)))
        (sym (memory_at v space page ∙ ap (option_map seen_page) is)) (λ i. record { page = page; perms = sym perms_is i; lines = all i })

-- Pages on the zero frame without own lines, in both spaces.

below_past : (v : State) (space from page : ℕ) → IsNextPage v space from (Some page) → low_part (memory_of v space) from ≡ low_part (memory_of v space) page
below_past v space from page next =
    low_part_past (memory_of v space) from page next.0 (λ q le lt. memory_at v space q ∙ ap (option_map seen_page) (next.2 q le lt))

pub walking_past : (v : State) (space from page : ℕ) (base : Memory) (pages : List DeltaPage) → IsNextPage v space from (Some page) → page < PAGE_END
    → IsWalking (memory_of v space) base pages from → IsWalking (memory_of v space) base pages page
walking_past v space from page base pages next low so = record {
  pages_are = so.pages_are ∙ ap (λ (m : Memory). gathered_pages m base) (below_past v space from page next);
  below = subst (AllByRecursion (λ (e : ℕ × Page). e.0 < page)) (ap entries (below_past v space from page next))
      (all_lower from page (entries (low_part (memory_of v space) from)) next.0 so.below);
  low = omega (arith, low);
}

pub measuring_past : (v : State) (space from page : ℕ) (base : Memory) (lines : ℕ) → IsNextPage v space from (Some page) → page < PAGE_END
    → IsMeasuring (memory_of v space) base lines from → IsMeasuring (memory_of v space) base lines page
measuring_past v space from page base lines next low so =
    let few = so.few in
    let ahead = next.0 in record {
      lines_are = so.lines_are ∙ ap (λ (m : Memory). line_count (gathered_pages m base)) (below_past v space from page next);
      below = subst (AllByRecursion (λ (e : ℕ × Page). e.0 < page)) (ap entries (below_past v space from page next))
          (all_lower from page (entries (low_part (memory_of v space) from)) next.0 so.below);
      low = omega (arith, low);
      few = omega (arith, few, ahead);
    }

-- a page that is there is the next one from itself on
pub next_itself : (v : State) (space page : ℕ) → IsSome (page_in v space page) → IsNextPage v space page (Some page)
next_itself v space page there = (omega arith, there, λ q le lt. absurd (omega (arith, le, lt)))

module _ (m : MemoryView) (saved base page : ℕ) (zeros : holding_at (books (state_of m)) saved page ≡ Some zero_holding) (others : holding_at (books (state_of m)) base page ≡ Some zero_holding) where
  pub zero_there : IsSome (page_in (state_of m) saved page)
  zero_there = ap is_some (there_of (state_of m) saved page zero_holding zeros).there

  none_apart : (line : ℕ) → line < PAGE_LINES → differs (memory_of (state_of m) saved) (memory_of (state_of m) base) page line ≡ false
  none_apart line low =
      let a = there_of (state_of m) saved page zero_holding zeros in
      let b = there_of (state_of m) base page zero_holding others in
      let frames = one_zero (state_of m).zero_frame a.page.entry.frame b.page.entry.frame (sym (ap (λ (h : Holding). h.origin) a.held)) (sym (ap (λ (h : Holding). h.origin) b.held)) in
      same_bytes _ _ (same_beside m saved base page a.page b.page a.there b.there frames line low
      (ap (λ (h : Holding). has_line h.own line) (sym a.held)) (ap (λ (h : Holding). has_line h.own line) (sym b.held)))

  pub no_lines : [] ≡ lines_where (differs (memory_of (state_of m) saved) (memory_of (state_of m) base) page)
  no_lines = sym (below_none (differs (memory_of (state_of m) saved) (memory_of (state_of m) base) page) PAGE_LINES none_apart)

  pub zero_made : (perms : Perms) → option_map (λ (x : PageState). x.entry.perms) (page_in (state_of m) saved page) ≡ Some perms
      → IsGatheredPage (memory_of (state_of m) saved) (memory_of (state_of m) base) page (record { page = page; perms = perms; lines = [] })
  zero_made perms perms_are = gathered_made (state_of m) saved page (memory_of (state_of m) base) perms [] [] perms_are refl no_lines

pub measuring_zeros : (m : MemoryView) (saved base page lines : ℕ) (n : ℕ) → AreZeros (state_of m) saved page n → AreZeros (state_of m) base page n → page + n ≤ PAGE_END
    → IsMeasuring (memory_of (state_of m) saved) (memory_of (state_of m) base) lines page → IsMeasuring (memory_of (state_of m) saved) (memory_of (state_of m) base) lines (page + n)
measuring_zeros m saved base page lines zero zeros others low so =
    let start : page ≡ page + 0 = omega arith in subst (IsMeasuring (memory_of (state_of m) saved) (memory_of (state_of m) base) lines) start so
measuring_zeros m saved base page lines (suc n) zeros others low so =
    let before = measuring_zeros m saved base page lines n (λ i lt. zeros i (omega (arith, lt))) (λ i lt. others i (omega (arith, lt))) (omega (arith, low)) so in
    let at_saved = zeros n (omega arith) in
    let at_base = others n (omega arith) in
    let one = measuring_more (state_of m) saved (page + n) (page + n) (memory_of (state_of m) base) lines lines 0 []
    (next_itself (state_of m) saved (page + n) (zero_there m saved base (page + n) at_saved at_base)) (omega (arith, low)) before (no_lines m saved base (page + n) at_saved at_base) refl
    (omega arith) (omega arith) in
    subst (IsMeasuring (memory_of (state_of m) saved) (memory_of (state_of m) base) lines) (omega arith) one

pub zeros_more : (m : MemoryView) (saved base page n i number : ℕ) (perms : Perms) (lines : List Line) (pages new : List DeltaPage) → AreZeros (state_of m) saved page n
    → AreZeros (state_of m) base page n → i < n → page + n ≤ PAGE_END → number ≡ page + i
    → option_map (λ (x : PageState). x.entry.perms) (page_in (state_of m) saved number) ≡ Some perms → lines ≡ []
    → IsWalking (memory_of (state_of m) saved) (memory_of (state_of m) base) pages (page + i) → new ≡ pages ++ record { page = number; perms = perms; lines = lines } ∷ []
    → IsWalking (memory_of (state_of m) saved) (memory_of (state_of m) base) new (page + (i + 1))
zeros_more m saved base page n i number perms lines pages new zeros others lt low is perms_are none so new_is =
    let at_saved = zeros i lt in
    let at_base = others i lt in
    let here = next_itself (state_of m) saved (page + i) (zero_there m saved base (page + i) at_saved at_base) in
    let made = zero_made m saved base (page + i) at_saved at_base perms (ap (λ q. option_map (λ (x : PageState). x.entry.perms) (page_in (state_of m) saved q)) (sym is) ∙ perms_are) in
    subst (IsWalking (memory_of (state_of m) saved) (memory_of (state_of m) base) new) (omega arith)
    (walking_more (state_of m) saved (page + i) (page + i) (memory_of (state_of m) base) pages new (record { page = page + i; perms = perms; lines = [] }) here (omega (arith, lt, low)) so made
    (new_is ∙ ap (λ q. pages ++ record { page = q; perms = perms; lines = lines } ∷ []) is ∙ ap (λ (ls : List Line). pages ++ record { page = page + i; perms = perms; lines = ls } ∷ []) none))

pub zeros_there : (m : MemoryView) (saved base page n i number : ℕ) → AreZeros (state_of m) saved page n → AreZeros (state_of m) base page n → i < n → number ≡ page + i
    → IsSome (page_in (state_of m) saved number)
zeros_there m saved base page n i number zeros others lt is =
    subst (λ q. IsSome (page_in (state_of m) saved q)) (sym is) (zero_there m saved base (page + i) (zeros i lt) (others i lt))

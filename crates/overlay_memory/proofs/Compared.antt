use Rattle.std.proofs.Common.{◌≡◌, ℕ, zero, suc, ◌+◌, ◌<◌, ◌≤◌, ◌⊎◌, inl, inr, Bool, true, false, cond, ◌&&◌, ◌||◌, not, nat_eq, nat_lt, List, [], ◌∷◌, ◌++◌, length, Option, Some, sym, ap, ◌∙◌, refl, arith, true≢false}
use Rattle.std.proofs.lemmas.Bool.{cases_lt}
use Rattle.std.proofs.lemmas.Bool.Decides.{nat_tests}
use Rattle.std.proofs.lemmas.List.{length-append, take_all}
use lib.Pointwise.{pointwise}
use Rattle.std.specs.Cmp.Lexicographic.{same_text}
use Rattle.std.specs.Option.{option_map}
use Rattle.sizes.specs.declared.TheConstants.{LINE_BYTES, PAGE_LINES}
use Rattle.ovl_io.specs.Memory.{Memory, bytes_at}
use Rattle.overlay_bits.specs.Below.{below_same, has_below}
use Rattle.overlay_bits.specs.Laws.{are_where, is_where, where_with}
use Rattle.overlay_bits.specs.Laws as laws
use Rattle.overlay_bits.specs.Lines.{AreLines, below, has_line, lines_where, with_line}
use Rattle.overlay_pages.specs.Lines.{line_in_page}
use Rattle.overlay_pages.specs.SpotLaws.{found_at, found_page}
use Rattle.overlay_pages.specs.Spots.{IsFoundAt, IsFoundPage}
use Rattle.ledger.specs.Changes.{own_of}
use Rattle.ledger.specs.RebaseLaws.{own_there}
use Rattle.overlay_pages.specs.State.{PageState, State, books, held_page, memory_of}
use Rattle.overlay_pages.specs.View.{MemoryView, page_state, state_of}
use Rattle.overlay_pages.specs.ViewLaws.{state_page_there}
use Rattle.overlay_pages.specs.declared.spots.FoundPage.{FoundPage}
use Rattle.overlay_pages.specs.declared.spots.FoundLine.{FoundLine}
use Rattle.overlay_memory.specs.Access.{line_address}
use Rattle.overlay_memory.specs.PageLaws.{held_there, some_is}
use Rattle.overlay_memory.specs.Rebased.{AreAlikeBut, TellsApart, apart_in, is_apart, is_same_line, lines_apart}
use Rattle.overlay_memory.proofs.Pieced.{read_piece}
use Rattle.space_ledger.specs.View.{PageView, lines_of}
use Rattle.space_maps.specs.Spaces.{page_in}

-- Pages that are compared line by line.

-- What stands in a line that was found.
pub record HasLine (v : State) (s p line : ℕ) (bytes : List ℕ) : Type 0 where
  pub in_memory : bytes ≡ bytes_at (memory_of v s) (line_address p line) LINE_BYTES
  pub in_page : (x : PageState) → page_in v s p ≡ Some x → line_in_page x.lines line ≡ bytes

pub has_line_there : (view : MemoryView) (s p line : ℕ) (found : FoundLine) (bytes : List ℕ) → IsFoundAt view s p line found → line < PAGE_LINES
    → option_map (λ (x : PageState). line_in_page x.lines found.line) (page_in (state_of view) found.space found.page) ≡ Some bytes → length bytes ≡ LINE_BYTES
    → HasLine (state_of view) s p line bytes
has_line_there view s p line found bytes it low value whole =
    let x = found_page view s p line found it in
    let here : option_map (λ (y : PageState). line_in_page y.lines line) (page_in (state_of view) s p) ≡ Some bytes =
    found_at view s p line found it (λ q r i. option_map (λ (y : PageState). line_in_page y.lines i) (page_in (state_of view) q r) ≡ Some bytes) value in
    record {
      in_memory = sym (take_all LINE_BYTES bytes (omega (arith, whole)))
          ∙ read_piece (state_of view) s p line 0 LINE_BYTES (line_address p line) x.0 bytes x.1 here whole low (omega arith) (omega arith);
      in_page = λ y there. some_is _ _ (sym (ap (option_map (λ (y : PageState). line_in_page y.lines line)) there) ∙ here);
    }

pub told_same : (v : State) (s p from other line : ℕ) (a b : List ℕ) (r : Bool) → HasLine v s p line a → HasLine v from other line b → r ≡ pointwise nat_eq a b
    → r ≡ is_same_line (memory_of v s) p (memory_of v from) other line
unfolding is_same_line
told_same v s p from other line a b r one two told = told ∙ (λ i. pointwise nat_eq (one.in_memory i) (two.in_memory i))

pub seen_same : (v : State) (s p from other line : ℕ) (a b : List ℕ) (r : Bool) → HasLine v s p line a → HasLine v from other line b → r ≡ pointwise nat_eq a b
    → r ≡ true → (x y : PageState) → page_in v s p ≡ Some x → page_in v from other ≡ Some y → line_in_page x.lines line ≡ line_in_page y.lines line
seen_same v s p from other line a b r one two told same x y at_x at_y = one.in_page x at_x ∙ same_text a b (sym same ∙ told) ∙ sym (two.in_page y at_y)

-- Sets of lines by a test.

same_where : (t u : ℕ → Bool) → ((i : ℕ) → i < PAGE_LINES → t i ≡ u i) → lines_where t ≡ lines_where u
same_where t u same = below_same t u PAGE_LINES same

fewer_below : (t u : ℕ → Bool) → ((i : ℕ) → t i ≡ true → u i ≡ true) → (k : ℕ) → length (below t k) ≤ length (below u k)
unfolding below
fewer_below t u within zero = omega arith
fewer_below t u within (suc i) = at (t i) (u i) refl refl (fewer_below t u within i)
  where
    at : (b c : Bool) → t i ≡ b → u i ≡ c → length (below t i) ≤ length (below u i)
        → length (below t i ++ cond b (i ∷ []) []) ≤ length (below u i ++ cond c (i ∷ []) [])
    at true true e h rest = omega (arith, rest, length-append (below t i) (i ∷ []), length-append (below u i) (i ∷ []))
    at true false e h rest = absurd (true≢false (sym (within i e) ∙ h))
    at false true e h rest = omega (arith, rest, length-append (below t i) [], length-append (below u i) (i ∷ []))
    at false false e h rest = omega (arith, rest, length-append (below t i) [], length-append (below u i) [])

fewer_where : (t u : ℕ → Bool) → ((i : ℕ) → t i ≡ true → u i ≡ true) → length (lines_where t) ≤ length (lines_where u)
fewer_where t u within = fewer_below t u within PAGE_LINES

-- So far: own lines, and those below one that differ.
pub so_far : List ℕ → (ℕ → Bool) → ℕ → ℕ → Bool
so_far own t at i = has_line own i || (nat_lt i at && t i)

pub record IsComparing (own told : List ℕ) (m : Memory) (page : ℕ) (n : Memory) (other at : ℕ) (x y : Option PageState) : Type 0 where
  pub told_is : told ≡ lines_where (so_far own (λ i. not (is_same_line m page n other i)) at)
  pub alike : (a b : PageState) → x ≡ Some a → y ≡ Some b → (i : ℕ) → i < at → has_line told i ≡ false → line_in_page a.lines i ≡ line_in_page b.lines i

module _ (own : List ℕ) (m : Memory) (page : ℕ) (n : Memory) (other : ℕ) (x y : Option PageState) where
  t : ℕ → Bool
  t i = not (is_same_line m page n other i)

  pub none_compared : AreLines own → IsComparing own own m page n other 0 x y
  unfolding so_far t
  none_compared are = record {
    told_is = is_where own are ∙ same_where (has_line own) (so_far own t 0) (λ i low. nothing (has_line own i) (t i) i);
    alike = λ a b at_a at_b i less. absurd (omega (arith, less));
  }
    where
      nothing : (b c : Bool) (i : ℕ) → b ≡ (b || (nat_lt i 0 && c))
      nothing true c i = refl
      nothing false c i = sym (none (nat_lt i 0) (grind (arith, nat_tests)) c)
        where
          none : (d : Bool) → d ≡ false → (c : Bool) → (d && c) ≡ false
          none true e c = cc
          none false e c = refl

  -- a line more
  module _ (told : List ℕ) (at : ℕ) (so : IsComparing own told m page n other at x y) (low : at < PAGE_LINES) where
    split : (i : ℕ) → (i < at) ⊎ (at ≤ i)
    split i = cases_lt i at

    pub one_alike : is_same_line m page n other at ≡ true → ((a b : PageState) → x ≡ Some a → y ≡ Some b → line_in_page a.lines at ≡ line_in_page b.lines at)
        → IsComparing own told m page n other (at + 1) x y
    unfolding so_far t
    one_alike same seen = record {
      told_is = so.told_is ∙ same_where (so_far own t at) (so_far own t (at + 1)) (λ i below. further i (nat_lt i at) refl (nat_lt i (at + 1)) refl);
      alike = λ a b at_a at_b i less absent. elim (split i) [
        | inl before ↦ so.alike a b at_a at_b i before absent
        | inr here ↦ let is : i ≡ at = omega (arith, less, here) in ap (λ k. line_in_page a.lines k) is ∙ seen a b at_a at_b ∙ ap (λ k. line_in_page b.lines k) (sym is)
      ];
    }
      where
        further : (i : ℕ) (b : Bool) → nat_lt i at ≡ b → (c : Bool) → nat_lt i (at + 1) ≡ c → (has_line own i || (b && t i)) ≡ (has_line own i || (c && t i))
        further i true e true h = refl
        further i false e false h = refl
        further i true e false h = absurd (grind (arith, nat_tests))
        further i false e true h =
            let is : i ≡ at = grind (arith, nat_tests) in
            let lacks : t i ≡ false = ap t is ∙ ap not same in ap (λ d. has_line own i || d) (sym lacks)

    pub one_apart : is_same_line m page n other at ≡ false → IsComparing own (with_line told at) m page n other (at + 1) x y
    unfolding so_far t
    one_apart differs = record {
      told_is = ap (λ l. with_line l at) so.told_is ∙ sym (where_with (so_far own t at) at low)
          ∙ same_where (λ i. nat_eq at i || so_far own t at i) (so_far own t (at + 1)) (λ i below. further i (nat_eq at i) refl (nat_lt i at) refl (nat_lt i (at + 1)) refl);
      alike = λ a b at_a at_b i less absent. elim (split i) [
        | inl before ↦ so.alike a b at_a at_b i before (lacked i absent)
        | inr here ↦ let is : i ≡ at = omega (arith, less, here) in absurd (true≢false (sym (there i is) ∙ absent))
      ];
    }
      where
        swap : (a b : Bool) → (a || true) ≡ true
        swap true b = refl
        swap false b = refl

        further : (i : ℕ) (a : Bool) → nat_eq at i ≡ a → (b : Bool) → nat_lt i at ≡ b → (c : Bool) → nat_lt i (at + 1) ≡ c
            → (a || (has_line own i || (b && t i))) ≡ (has_line own i || (c && t i))
        further i true d b e c h =
            let is : i ≡ at = grind (arith, nat_tests) in
            let has : t i ≡ true = ap t is ∙ ap not differs in
            let over : c ≡ true = sym h ∙ grind (arith, nat_tests) in
            sym (swap (has_line own i) true) ∙ (λ j. has_line own i || (sym over j && sym has j))
        further i false d true e true h = refl
        further i false d false e false h = refl
        further i false d true e false h = absurd (grind (arith, nat_tests))
        further i false d false e true h = absurd (grind (arith, nat_tests))

        lacked : (i : ℕ) → has_line (with_line told at) i ≡ false → has_line told i ≡ false
        lacked i absent = second (nat_eq at i) (has_line told i) (sym (laws.has_with told at i) ∙ absent)
          where
            second : (a b : Bool) → (a || b) ≡ false → b ≡ false
            second true b h = cc
            second false b h = h

        there : (i : ℕ) → i ≡ at → has_line (with_line told at) i ≡ true
        there i is = let same : nat_eq at i ≡ true = grind (arith, nat_tests) in laws.has_with told at i ∙ ap (λ b. b || has_line told i) same

  module _ (told : List ℕ) (at : ℕ) (so : IsComparing own told m page n other at x y) where
    -- there are as many in all
    pub all_more : (most : ℕ) → most < length told → TellsApart (lines_apart own m page n other) most told
    unfolding so_far t lines_apart is_apart
    all_more most more =
        let le = fewer_where (so_far own t at) (is_apart own m page n other) (λ i h. within (has_line own i) (nat_lt i at) (t i) h) in
        inr (more, omega (arith, more, le, ap length so.told_is))
      where
        within : (a b c : Bool) → (a || (b && c)) ≡ true → (a || c) ≡ true
        within true b c h = refl
        within false true c h = h
        within false false c h = cc

  -- all lines
  module _ (told : List ℕ) (at : ℕ) (so : IsComparing own told m page n other at x y) (all : at ≡ PAGE_LINES) where
    told_all : told ≡ lines_apart own m page n other
    unfolding so_far t lines_apart is_apart
    told_all = so.told_is ∙ same_where (so_far own t at) (is_apart own m page n other) (λ i low.
        let below : nat_lt i at ≡ true = grind (arith, nat_tests) in ap (λ b. has_line own i || (b && t i)) below)

    pub all_told : (most : ℕ) → TellsApart (lines_apart own m page n other) most told
    all_told most = inl told_all

    pub all_alike : (a b : PageState) → x ≡ Some a → y ≡ Some b → b.own ≡ own → AreAlikeBut told a b
    unfolding so_far t
    all_alike a b at_a at_b own_is line low absent = (
      ap (λ l. has_line l line) own_is ∙ first (has_line own line) _ (sym (inside line low) ∙ sym (ap (λ l. has_line l line) so.told_is) ∙ absent),
      so.alike a b at_a at_b line (omega (arith, low, all)) absent,
    )
      where
        inside : (i : ℕ) → i < PAGE_LINES → has_line (lines_where (so_far own t at)) i ≡ (has_line own i || (nat_lt i at && t i))
        inside i less = let low : nat_lt i PAGE_LINES ≡ true = grind (arith, nat_tests) in has_below (so_far own t at) PAGE_LINES i ∙ ap (λ b. b && so_far own t at i) low

        first : (a b : Bool) → (a || b) ≡ false → a ≡ false
        first true b h = h
        first false b h = refl

-- The own lines of a page that was found.

kept_own : (view : MemoryView) (x : PageView) → (page_state view.store x).own ≡ lines_of x.overlay
unfolding page_state
kept_own view x = refl

module _ (view : MemoryView) (page : FoundPage) (found : IsFoundPage view.table page) where
  there : page_in (state_of view) page.space page.page ≡ Some (page_state view.store found.x)
  there = state_page_there view page.space page.page found.x found.there

  pub found_own : (y : PageState) → page_in (state_of view) page.space page.page ≡ Some y → y.own ≡ page.own
  found_own y at = ap (λ (x : PageState). x.own) (some_is _ _ (sym at ∙ there)) ∙ kept_own view found.x ∙ found.own

  own_held : own_of (books (state_of view)) page.space page.page ≡ page.own
  own_held =
      own_there (books (state_of view)) page.space page.page (held_page (state_of view).zero_frame (page_state view.store found.x))
      (held_there (state_of view) page.space page.page (page_state view.store found.x) there)
      ∙ kept_own view found.x ∙ found.own

  pub apart_is : (s p : ℕ) → lines_apart page.own (memory_of (state_of view) s) p (memory_of (state_of view) page.space) page.page ≡ apart_in (state_of view) s p page.space page.page
  unfolding apart_in
  apart_is s p = ap (λ l. lines_apart l (memory_of (state_of view) s) p (memory_of (state_of view) page.space) page.page) (sym own_held)

use Rattle.std.proofs.Common.{◌≡◌, ℕ, zero, suc, ◌+◌, ◌*◌, ◌^◌, ◌<◌, ◌≤◌, true, false, List, [], ◌∷◌, ◌++◌, length, get_or, take, drop, refl, sym, ap, subst, ◌∙◌, arith, append_assoc, length-append}
use Rattle.std.specs.Int.{w32, w64, to_le_bytes}
use Rattle.std.specs.List.{AllByRecursion}
use Rattle.std.proofs.lemmas.Bool.{and_from, and_parts, both_ways, leb-true, le-leb, ltb-true, lt-ltb}
use Rattle.std.proofs.lemmas.List.{flat_map_more, length-map, take_more}
use Rattle.sizes.specs.declared.TheConstants.{PAGE_END, PAGE_LINES}
use Rattle.overlay_bits.specs.Kept.{has_bit, lines_of_word, word_back, word_of}
use Rattle.overlay_bits.specs.Lines.{Rise}
use Rattle.overlay_bits.specs.Below.{rise_bounds}
use Rattle.overlay_bits.specs.Laws.{are_rise, are_where}
use Rattle.delta_image.specs.declared.delta.DeltaPage.{DeltaPage}
use Rattle.delta_image.specs.Line.{Line, numbers_of}
use Rattle.delta_image.specs.Image.{head_part, lines_part, page_part, pages_part}
use Rattle.delta_image.specs.Fine.{Ascend, HasLines, IsPage, IsPlain, IsWord, are_perms}
use Rattle.delta_image.specs.Decoding.{AreLinesOf, IsPageFrom, is_number}
use Rattle.delta_image.specs.LengthLaws.{lines_length, page_length}
use Rattle.delta_image.specs.VectorLaws.{same_words, word_fits}
use Rattle.delta_image.proofs.Lines.{one_lines}
use Rattle.delta_image.proofs.Lists.{all_push}
use Rattle.delta_image.proofs.Numbers.{one32, one64}

-- The part of one page.

-- the vector of its lines, and what stands behind its number, its permissions and the vector
abbrev pub vector_of : DeltaPage → ℕ
vector_of page = word_of (numbers_of page.lines)

abbrev pub behind_number : DeltaPage → List ℕ → List ℕ
behind_number page s = page.perms.0 ∷ (to_le_bytes w64 (vector_of page) ++ (lines_part page.lines ++ s))

pub page_begins : (page : DeltaPage) (s : List ℕ) → page_part page ++ s ≡ to_le_bytes w32 page.page ++ behind_number page s
unfolding head_part
page_begins page s = refl

pub vector_fits : (page : DeltaPage) → IsPage page → IsWord (vector_of page)
vector_fits page is = word_fits (numbers_of page.lines) is.0.rise

-- what is known of a page whose part begins as bytes do
pub record IsHeadOf (number perms given : ℕ) (page : DeltaPage) (r s : List ℕ) : Type 0 where
  pub number_is : number ≡ page.page
  pub perms_is : perms ≡ page.perms.0
  pub given_is : given ≡ vector_of page
  pub rest_is : r ≡ lines_part page.lines ++ s

pub to_perms : (bytes : List ℕ) (number : ℕ) (r : List ℕ) (page : DeltaPage) (s : List ℕ) → (number < 2 ^ 32) × (bytes ≡ to_le_bytes w32 number ++ r)
    → IsPage page → bytes ≡ page_part page ++ s → (number ≡ page.page) × (r ≡ behind_number page s)
to_perms bytes number r page s begins is e =
    one32 number page.page r (behind_number page s) begins.0 (omega (arith, is.0.low)) (sym begins.1 ∙ e ∙ page_begins page s)

pub to_lines : (bytes : List ℕ) (number perms given : ℕ) (r r2 r3 : List ℕ) (page : DeltaPage) (s : List ℕ)
    → (number < 2 ^ 32) × (bytes ≡ to_le_bytes w32 number ++ r) → r ≡ perms ∷ r2 → IsWord given × (r2 ≡ to_le_bytes w64 given ++ r3) → IsPage page
    → bytes ≡ page_part page ++ s → IsHeadOf number perms given page r3 s
to_lines bytes number perms given r r2 r3 page s begins behind vector is e =
    let front = to_perms bytes number r page s begins is e in
    let next : perms ∷ r2 ≡ behind_number page s = sym behind ∙ front.1 in
    let last = one64 given (vector_of page) r3 (lines_part page.lines ++ s) vector.0 (vector_fits page is) (sym vector.1 ∙ ap (drop 1) next) in
    record { number_is = front.0; perms_is = cc next; given_is = last.0; rest_is = last.1 }

-- lines whose vector is given are those of the vector
pub lines_given : (given : ℕ) (page : DeltaPage) → IsWord given → IsPage page → given ≡ vector_of page → AreLinesOf given page.lines
lines_given given page wide is same = (
  same_words (numbers_of page.lines) (lines_of_word given) (are_rise (numbers_of page.lines) is.0.rise) (are_where (has_bit given))
      (sym same ∙ sym (word_back given wide)),
  is.1,
)

-- one part is of one page
pub one_page : (p q : DeltaPage) (r s : List ℕ) → IsPage p → IsPage q → page_part p ++ r ≡ page_part q ++ s → (p ≡ q) × (r ≡ s)
one_page p q r s one other e =
    let head = to_lines (page_part p ++ r) p.page p.perms.0 (vector_of p) (behind_number p r) (to_le_bytes w64 (vector_of p) ++ (lines_part p.lines ++ r))
    (lines_part p.lines ++ r) q s (omega (arith, one.0.low), page_begins p r) refl (vector_fits p one, refl) other e in
    let numbers = same_words (numbers_of p.lines) (numbers_of q.lines) (are_rise (numbers_of p.lines) one.0.rise) (are_rise (numbers_of q.lines) other.0.rise) head.given_is in
    let lines = one_lines p.lines q.lines r s one.1 other.1 numbers head.rest_is in
    (λ i. record { page = head.number_is i; perms = record { 0 = head.perms_is i }; lines = lines.0 i }, lines.1)

-- what passes the test of a number, and what doesn't
pub number_passes : (from page : ℕ) → is_number from page ≡ true → (from ≤ page) × (page < PAGE_END)
number_passes from page is = let parts = and_parts _ _ is in (leb-true from page parts.0, ltb-true page PAGE_END parts.1)

pub number_fails : (from page : ℕ) → is_number from page ≡ false → from ≤ page → page < PAGE_END → ⊥
number_fails from page not low high = both_ways _ not (and_from _ _ (le-leb from page low) (lt-ltb page PAGE_END high))

-- a page that was read
pub read_page : (from number perms given : ℕ) (page : DeltaPage) (bytes r1 r2 r3 rest : List ℕ) → is_number from number ≡ true → are_perms perms ≡ true
    → IsWord given → AreLinesOf given page.lines → page.page ≡ number → page.perms.0 ≡ perms
    → bytes ≡ to_le_bytes w32 number ++ r1 → r1 ≡ perms ∷ r2 → r2 ≡ to_le_bytes w64 given ++ r3 → r3 ≡ lines_part page.lines ++ rest
    → IsPageFrom from page × (bytes ≡ page_part page ++ rest)
read_page from number perms given page bytes r1 r2 r3 rest passes may wide are same_number same_perms one two three four =
    let bounds = number_passes from number passes in
    let vector : vector_of page ≡ given = ap word_of are.0 ∙ word_back given wide in
    let plain : IsPlain page =
    record {
      low = omega (arith, same_number, bounds.1);
      perms = ap are_perms same_perms ∙ may;
      rise = subst (λ xs. Rise 0 xs 64) (sym are.0) (are_where (has_bit given)).rise;
    } in (
      (omega (arith, same_number, bounds.0), (plain, are.1)),
      one ∙ ap (λ (t : List ℕ). to_le_bytes w32 number ++ t) (two ∙ ap (λ (t : List ℕ). perms ∷ t) (three ∙ ap (λ (t : List ℕ). to_le_bytes w64 given ++ t) four))
          ∙ sym (λ i. to_le_bytes w32 (same_number i) ++ (same_perms i ∷ (to_le_bytes w64 (vector i) ++ (lines_part page.lines ++ rest)))) ∙ sym (page_begins page rest),
    )

-- a page's head was put
pub head_put : (out one two three : List ℕ) (page : DeltaPage) (vector : ℕ) → one ≡ out ++ to_le_bytes w32 page.page → two ≡ one ++ page.perms.0 ∷ []
    → three ≡ two ++ to_le_bytes w64 vector → vector ≡ vector_of page → three ≡ out ++ head_part page
unfolding head_part
head_put out one two three page vector first second third same =
    third ∙ (λ i. second i ++ to_le_bytes w64 (same i))
    ∙ ap (λ (t : List ℕ). (t ++ page.perms.0 ∷ []) ++ to_le_bytes w64 (vector_of page)) first
    ∙ append_assoc (out ++ to_le_bytes w32 page.page) (page.perms.0 ∷ []) (to_le_bytes w64 (vector_of page))
    ∙ append_assoc out (to_le_bytes w32 page.page) (page.perms.0 ∷ to_le_bytes w64 (vector_of page))

-- Pages, one behind the other.

-- the number behind the last one
abbrev pub end_of : ℕ → List DeltaPage → ℕ
end_of from [] = from
end_of from (page ∷ pages) = end_of (page.page + 1) pages

-- each of them is so
pub ascend_at : (P : DeltaPage → Type 0) (from : ℕ) (pages : List DeltaPage) (i : ℕ) (d : DeltaPage) → Ascend P from pages → i < length pages → P (get_or pages i d)
ascend_at P from [] i d are lt = absurd (omega (arith, lt))
ascend_at P from (p ∷ ps) zero d are lt = are.1
ascend_at P from (p ∷ ps) (suc i) d are lt = ascend_at P (p.page + 1) ps i d are.2 (omega (arith, lt))

-- with the bytes of their lines
pub with_lines : (from : ℕ) (pages : List DeltaPage) → Ascend IsPlain from pages → AllByRecursion HasLines pages → Ascend IsPage from pages
with_lines from [] are whole = tt
with_lines from (p ∷ ps) are whole = (are.0, (are.1, whole.0), with_lines (p.page + 1) ps are.2 whole.1)

pub without_lines : (from : ℕ) (pages : List DeltaPage) → Ascend IsPage from pages → Ascend IsPlain from pages
without_lines from [] are = tt
without_lines from (p ∷ ps) are = (are.0, are.1.0, without_lines (p.page + 1) ps are.2)

-- one more page
pub pages_push : (from : ℕ) (pages : List DeltaPage) (page : DeltaPage) → Ascend IsPage from pages → end_of from pages ≤ page.page → IsPage page
    → Ascend IsPage from (pages ++ page ∷ []) × (end_of from (pages ++ page ∷ []) ≡ page.page + 1)
pages_push from [] page are le is = ((le, is, tt), refl)
pages_push from (q ∷ qs) page are le is =
    let rest = pages_push (q.page + 1) qs page are.2 le is in
    ((are.0, are.1, rest.0), rest.1)

-- behind the first page of two lists
behind_first : (p q : DeltaPage) (ps qs : List DeltaPage) (r s : List ℕ) → IsPage p → IsPage q → pages_part (p ∷ ps) ++ r ≡ pages_part (q ∷ qs) ++ s
    → (p ≡ q) × (pages_part ps ++ r ≡ pages_part qs ++ s)
behind_first p q ps qs r s one other e =
    one_page p q (pages_part ps ++ r) (pages_part qs ++ s) one other
    (sym (append_assoc (page_part p) (pages_part ps) r) ∙ e ∙ append_assoc (page_part q) (pages_part qs) s)

-- behind fewer pages than there are stands one
pub page_behind : (from : ℕ) (done pages : List DeltaPage) (r s : List ℕ) → Ascend IsPage from done → Ascend IsPage from pages → length done < length pages
    → pages_part done ++ r ≡ pages_part pages ++ s → (q : DeltaPage) × (t : List ℕ) × IsPageFrom (end_of from done) q × (r ≡ page_part q ++ t)
page_behind from done [] r s one other lt e = absurd (omega (arith, lt))
page_behind from [] (q ∷ qs) r s one other lt e = (q, pages_part qs ++ s, (other.0, other.1), e ∙ append_assoc (page_part q) (pages_part qs) s)
page_behind from (p ∷ ps) (q ∷ qs) r s one other lt e =
    let parts = behind_first p q ps qs r s one.1 other.1 e in
    let others = subst (λ (x : DeltaPage). Ascend IsPage (x.page + 1) qs) (sym parts.0) other.2 in
    page_behind (p.page + 1) ps qs r s one.2 others (omega (arith, lt)) parts.1

-- one part is of one list of so many pages
pub one_pages : (from : ℕ) (a b : List DeltaPage) (r s : List ℕ) → Ascend IsPage from a → Ascend IsPage from b → length a ≡ length b
    → pages_part a ++ r ≡ pages_part b ++ s → (a ≡ b) × (r ≡ s)
one_pages from [] [] r s one other same e = (refl, e)
one_pages from [] (q ∷ qs) r s one other same e = absurd (omega (arith, same))
one_pages from (p ∷ ps) [] r s one other same e = absurd (omega (arith, same))
one_pages from (p ∷ ps) (q ∷ qs) r s one other same e =
    let parts = behind_first p q ps qs r s one.1 other.1 e in
    let others = subst (λ (x : DeltaPage). Ascend IsPage (x.page + 1) qs) (sym parts.0) other.2 in
    let rest = one_pages (p.page + 1) ps qs r s one.2 others (omega (arith, same)) parts.1 in
    (λ i. parts.0 i ∷ rest.0 i, rest.1)

-- a page was read behind those before it
pub pages_more : (bytes : List ℕ) (pages : List DeltaPage) (page : DeltaPage) (rest after : List ℕ) → bytes ≡ pages_part pages ++ rest → rest ≡ page_part page ++ after
    → bytes ≡ pages_part (pages ++ page ∷ []) ++ after
pages_more bytes pages page rest after so_far next =
    so_far ∙ ap (λ (t : List ℕ). pages_part pages ++ t) next ∙ sym (append_assoc (pages_part pages) (page_part page) after)
    ∙ ap (λ (t : List ℕ). t ++ after) (flat_map_more page_part [] pages page)

-- The lengths of pages.

pub lines_few : (page : DeltaPage) → IsPlain page → length page.lines ≤ PAGE_LINES
lines_few page is = omega (arith, rise_bounds 0 (numbers_of page.lines) 64 is.rise, length-map page.lines (λ (l : Line). l.0))

-- how long the pages before one are, and that their lines have their bytes
pub record IsLength (n i : ℕ) (pages : List DeltaPage) : Type 0 where
  pub is : n ≡ length (pages_part pages)
  pub small : n ≤ 4109 * i
  pub whole : AllByRecursion HasLines pages

pub length_more : (pages : List DeltaPage) (i n m : ℕ) (d : DeltaPage) → i < length pages → Ascend IsPlain 0 pages → m ≡ length (page_part (get_or pages i d))
    → HasLines (get_or pages i d) → IsLength n i (take i pages) → IsLength (n + m) (i + 1) (take (i + 1) pages)
length_more pages i n m d lt are same whole h =
    let page = get_or pages i d in
    let next = take_more pages i d lt in
    let part = ap pages_part next ∙ sym (flat_map_more page_part [] (take i pages) page) in
    let joined = length-append (pages_part (take i pages)) (page_part page) in
    record {
      is = omega (arith, h.is, same, ap length part, joined);
      small = omega (arith, h.small, same, page_length page, lines_length page.lines whole, lines_few page (ascend_at IsPlain 0 pages i d are lt));
      whole = subst (AllByRecursion HasLines) (sym next) (all_push HasLines (take i pages) page h.whole whole);
    }

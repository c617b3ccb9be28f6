use Rattle.std.proofs.Common.{◌≡◌, ℕ, zero, suc, ◌+◌, ◌-◌, ◌*◌, ◌/◌, ◌<◌, ◌≤◌, Bool, true, false, ◌&&◌, nat_le, [], ◌∷◌, map, sym, ap, ◌∙◌, refl, arith}
use Rattle.std.specs.Prelude.{filter}
use Rattle.std.specs.List.{range_with_len}
use Rattle.std.proofs.lemmas.Bool.Decides.{nat_tests}
use Rattle.sizes.specs.declared.TheConstants.{LINE_BYTES, PAGE_BYTES, PAGE_LINES}
use Rattle.overlay_bits.specs.Lines.{lines_between}
use Rattle.overlay_bits.specs.Below.{below_filter, below_range, below_same, is_between}
use Rattle.ledger.specs.Touched.{lines_on_page, touched, touched_between}
use Rattle.overlay_memory.specs.Pieces.{lines_under}

-- Laws: what bytes touch that lie in one page, or in two.

-- the lines of bytes in one line
pub one_under : (at count line : ℕ) → 0 < count → LINE_BYTES * line ≤ at → at + count ≤ LINE_BYTES * line + LINE_BYTES → lines_under at count ≡ line ∷ []
one_under at count line some low high =
    let first : at / 64 ≡ line = omega (arith, some, low, high) in
    let one : (at + count - 1) / 64 + 1 - at / 64 ≡ 1 = omega (arith, some, low, high) in
    ap (λ a. range_with_len a ((at + count - 1) / 64 + 1 - at / 64)) first ∙ ap (range_with_len line) one

-- those of the first numbers that pass a test which says that they lie between two
filter_range : (test : ℕ → Bool) (first n k : ℕ) → first + n ≤ k → ((i : ℕ) → i < k → test i ≡ is_between first (first + n) i)
    → filter test (range_with_len 0 k) ≡ range_with_len first n
filter_range test first n k fits same =
    ap (filter test) (below_range 0 k k (omega arith)) ∙ below_filter test (is_between 0 (0 + k)) k
    ∙ below_same (λ i. is_between 0 (0 + k) i && test i) (is_between first (first + n)) k (λ i low. all (is_between 0 (0 + k) i) (test i) (is_in i low) ∙ same i low)
    ∙ sym (below_range first n k fits)
  where
    is_in : (i : ℕ) → i < k → is_between 0 (0 + k) i ≡ true
    is_in i low = grind (arith, nat_tests)

    all : (a b : Bool) → a ≡ true → (a && b) ≡ b
    all true b h = refl
    all false b h = cc

-- the lines of a page from one line of the whole memory to another one
on_page : (first last page from to : ℕ) → from ≤ to → to < PAGE_LINES
    → ((i : ℕ) → i < PAGE_LINES → (nat_le first (PAGE_LINES * page + i) && nat_le (PAGE_LINES * page + i) last) ≡ is_between from (to + 1) i)
    → lines_on_page first last page ≡ lines_between from (to + 1)
unfolding lines_on_page
on_page first last page from to order low same =
    let end : from + (to + 1 - from) ≡ to + 1 = omega (arith, order) in
    filter_range (λ line. nat_le first (PAGE_LINES * page + line) && nat_le (PAGE_LINES * page + line) last) from (to + 1 - from) PAGE_LINES (omega (arith, order, low))
    (λ i below. same i below ∙ ap (λ e. is_between from e i) (sym end))

-- tests on lines of the whole memory as tests on those of a page
both_ends : (first last page from to i : ℕ) → first ≡ 64 * page + from → last ≡ 64 * page + to
    → (nat_le first (64 * page + i) && nat_le (64 * page + i) last) ≡ is_between from (to + 1) i
both_ends first last page from to i a b = grind (arith, nat_tests)

from_one : (first last page from i : ℕ) → first ≡ 64 * page + from → 64 * page + 63 ≤ last → i < 64
    → (nat_le first (64 * page + i) && nat_le (64 * page + i) last) ≡ is_between from (63 + 1) i
from_one first last page from i a b low = grind (arith, nat_tests)

to_one : (first last page to i : ℕ) → first ≤ 64 * page → last ≡ 64 * page + to
    → (nat_le first (64 * page + i) && nat_le (64 * page + i) last) ≡ is_between 0 (to + 1) i
to_one first last page to i a b = grind (arith, nat_tests)

-- the lines of a page that lie under bytes of it alone, under bytes that go on behind it, and under bytes that began before it
on_one : (address last page at n : ℕ) → 0 < n → at + n ≤ PAGE_BYTES → address ≡ PAGE_BYTES * page + at → last + 1 ≡ address + n
    → lines_on_page (address / LINE_BYTES) (last / LINE_BYTES) page ≡ lines_under at n
on_one address last page at n some fits is end =
    on_page (address / 64) (last / 64) page (at / 64) ((at + n - 1) / 64) (omega (arith, some)) (omega (arith, some, fits))
    (λ i low. both_ends (address / 64) (last / 64) page (at / 64) ((at + n - 1) / 64) i (omega (arith, is)) (omega (arith, some, is, end)))

on_front : (address last page at n : ℕ) → 0 < n → at + n ≡ PAGE_BYTES → address ≡ PAGE_BYTES * page + at → address + n ≤ last
    → lines_on_page (address / LINE_BYTES) (last / LINE_BYTES) page ≡ lines_under at n
on_front address last page at n some whole is further =
    let back : 63 ≡ (at + n - 1) / 64 = omega (arith, whole) in
    on_page (address / 64) (last / 64) page (at / 64) 63 (omega (arith, whole, some)) (omega arith)
    (λ i low. from_one (address / 64) (last / 64) page (at / 64) i (omega (arith, is)) (omega (arith, is, whole, further)) low)
    ∙ ap (λ m. lines_between (at / 64) (m + 1)) back

on_back : (address last page n : ℕ) → 0 < n → n ≤ PAGE_BYTES → address ≤ PAGE_BYTES * page → last + 1 ≡ PAGE_BYTES * page + n
    → lines_on_page (address / LINE_BYTES) (last / LINE_BYTES) page ≡ lines_under 0 n
on_back address last page n some few before end =
    on_page (address / 64) (last / 64) page 0 ((0 + n - 1) / 64) (omega arith) (omega (arith, some, few))
    (λ i low. to_one (address / 64) (last / 64) page ((0 + n - 1) / 64) i (omega (arith, before)) (omega (arith, some, end)))

-- one page, and two
pages_one : (address last page : ℕ) → address / PAGE_BYTES ≡ page → last / PAGE_BYTES ≡ page
    → touched_between address last ≡ (page, lines_on_page (address / LINE_BYTES) (last / LINE_BYTES) page) ∷ []
unfolding touched_between
pages_one address last page here there =
    let one : last / 4096 + 1 - address / 4096 ≡ 1 = omega (arith, here, there) in
    ap (map (λ q. (q, lines_on_page (address / 64) (last / 64) q)))
    (ap (λ q. range_with_len q (last / 4096 + 1 - address / 4096)) here ∙ ap (range_with_len page) one)

pages_two : (address last page : ℕ) → address / PAGE_BYTES ≡ page → last / PAGE_BYTES ≡ page + 1
    → touched_between address last
    ≡ (page, lines_on_page (address / LINE_BYTES) (last / LINE_BYTES) page) ∷ ((page + 1, lines_on_page (address / LINE_BYTES) (last / LINE_BYTES) (page + 1)) ∷ [])
unfolding touched_between
pages_two address last page here there =
    let two : last / 4096 + 1 - address / 4096 ≡ 2 = omega (arith, here, there) in
    ap (map (λ q. (q, lines_on_page (address / 64) (last / 64) q)))
    (ap (λ q. range_with_len q (last / 4096 + 1 - address / 4096)) here ∙ ap (range_with_len page) two)

touched_some : (address c : ℕ) → touched address (suc c) ≡ touched_between address (address + c)
unfolding touched
touched_some address c = refl

-- bytes of one page
pub touched_one : (address n page at : ℕ) → 0 < n → address ≡ PAGE_BYTES * page + at → at + n ≤ PAGE_BYTES
    → touched address n ≡ (page, lines_under at n) ∷ []
touched_one address zero page at some is fits = absurd (omega (arith, some))
touched_one address (suc c) page at some is fits =
    touched_some address c ∙ pages_one address (address + c) page (omega (arith, is, fits)) (omega (arith, is, fits))
    ∙ ap (λ l. (page, l) ∷ []) (on_one address (address + c) page at (suc c) some fits is (omega arith))

-- bytes of two pages, of which the first has as many as `front`
pub touched_two : (address n front page at : ℕ) → address ≡ PAGE_BYTES * page + at → at + front ≡ PAGE_BYTES → 0 < front → front < n → n ≤ PAGE_BYTES
    → touched address n ≡ (page, lines_under at front) ∷ ((page + 1, lines_under 0 (n - front)) ∷ [])
touched_two address zero front page at is whole some over few = absurd (omega (arith, over))
touched_two address (suc c) front page at is whole some over few =
    touched_some address c ∙ pages_two address (address + c) page (omega (arith, is, whole, some)) (omega (arith, is, whole, some, over, few))
    ∙ ap (λ l. (page, l) ∷ ((page + 1, lines_on_page (address / 64) ((address + c) / 64) (page + 1)) ∷ []))
    (on_front address (address + c) page at front some whole is (omega (arith, over)))
    ∙ ap (λ l. (page, lines_under at front) ∷ ((page + 1, l) ∷ []))
    (on_back address (address + c) (page + 1) (suc c - front) (omega (arith, over)) (omega (arith, few)) (omega (arith, is, whole)) (omega (arith, is, whole, over)))

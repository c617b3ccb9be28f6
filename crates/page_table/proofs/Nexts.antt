use Rattle.std.proofs.Common.{◌≡◌, ℕ, suc, ◌+◌, ◌-◌, ◌*◌, ◌/◌, ◌%◌, ◌^◌, ◌<◌, ◌≤◌, ◌⊎◌, inl, inr, Bool, true, false, cond, Option, Some, None, nat_lt, subst, sym, ap, ◌∙◌, refl, arith}
use Rattle.std.proofs.lemmas.Bool.{cases_lt}
use Rattle.std.proofs.lemmas.Bool.Decides.{nat_tests}
use Rattle.std.specs.FinMap.{get}
use Rattle.number_maps.specs.Rows.{IsNextOne}
use Rattle.page_table.specs.declared.run.PageRun.{PageRun}
use Rattle.page_table.specs.Table.{Pages}
use Rattle.page_table.specs.Run.{IsRunFrom, IsNextRun}
use Rattle.page_table.specs.Nodes.{Links, child_at, look, node_at, page_end, pages_by, slot, slot_in}
use Rattle.page_table.specs.Kept.{IsChildFrom, IsRest, NoChild, moved_run}
use Rattle.page_table.specs.Next.{IsUpTo, NoneFrom}
use Rattle.page_table.proofs.Trees.{slot_has, slot_none}
use Rattle.page_table.proofs.Slots.{get_by}

-- What lies between two pages: nothing, where a node has no child.

-- above digits without a child there is no node
pub bare_level : (links : Links) (level front node d next above : ℕ) → node_at links level front ≡ Some node → NoChild links node d next
    → next ≤ 512 → front * 512 + d ≤ above → above < front * 512 + next → node_at links (suc level) above ≡ None
bare_level links level front node d next above at none most le lt =
    let same : above / 512 ≡ front = omega (arith, le, lt, most) in
    let last : above % 512 ≡ above - front * 512 = omega (arith, le, lt, most) in
    ap (λ (k : ℕ). child_at links (node_at links level k) (above % 512)) same
    ∙ ap (λ (o : Option ℕ). child_at links o (above % 512)) at
    ∙ ap (λ (k : ℕ). get links (slot node k)) last
    ∙ none (above - front * 512) (omega (arith, le)) (omega (arith, le, lt))

pub bare_on : (links : Links) (level above : ℕ) → node_at links level (above / 512) ≡ None → node_at links (suc level) above ≡ None
bare_on links level above none = ap (λ (o : Option ℕ). child_at links o (above % 512)) none

pub bare_page : (links : Links) (leaves : Pages) (page : ℕ) → node_at links 3 (page / 512) ≡ None → get (pages_by links leaves) page ≡ None
bare_page links leaves page none =
    get_by links leaves page ∙ by (nat_lt page page_end)
  where
    by : (b : Bool) → look (get leaves) (cond b (slot_in (node_at links 3 (page / 512)) (page % 512)) None) ≡ None
    by true = ap (λ (o : Option ℕ). look (get leaves) (slot_in o (page % 512))) none
    by false = refl

pub high_page : (links : Links) (leaves : Pages) (page : ℕ) → 2 ^ 36 ≤ page → get (pages_by links leaves) page ≡ None
high_page links leaves page high = get_by links leaves page ∙ ap (look (get leaves)) (slot_none links page high)

-- nothing is there from a page to another, and from that to a third
pub none_more : (pages : Pages) (from mid to : ℕ) → NoneFrom pages from mid → NoneFrom pages mid to → NoneFrom pages from to
none_more pages from mid to first second q le lt = by (cases_lt q mid)
  where
    by : (q < mid) ⊎ (mid ≤ q) → get pages q ≡ None
    by (inl less) = first q le less
    by (inr more) = second q more lt

pub run_later : (pages : Pages) (from mid : ℕ) (run : PageRun) → from ≤ mid → NoneFrom pages from mid → IsRunFrom pages mid run → IsRunFrom pages from run
run_later pages from mid run le none next = record {
  from = omega (arith, le, next.from);
  some = next.some;
  none = none_more pages from mid run.page none next.none;
  has = next.has;
  low = next.low;
  fits = next.fits;
}

-- pages between digits of a node at which it has no child

gap_first : (links : Links) (leaves : Pages) (d next : ℕ) → NoChild links 0 d next → next ≤ 512
    → NoneFrom (pages_by links leaves) (d * 512 * 512 * 512) (next * 512 * 512 * 512)
gap_first links leaves d next none most q from to =
    bare_page links leaves q (bare_on links 2 (q / 512) (bare_on links 1 (q / 512 / 512)
    (bare_level links 0 0 0 d next (q / 512 / 512 / 512) refl none most (omega (arith, from)) (omega (arith, to)))))

gap_second : (links : Links) (leaves : Pages) (front node d next : ℕ) → node_at links 1 front ≡ Some node → NoChild links node d next → next ≤ 512
    → NoneFrom (pages_by links leaves) ((front * 512 + d) * 512 * 512) ((front * 512 + next) * 512 * 512)
gap_second links leaves front node d next at none most q from to =
    bare_page links leaves q (bare_on links 2 (q / 512)
    (bare_level links 1 front node d next (q / 512 / 512) at none most (omega (arith, from)) (omega (arith, to))))

gap_third : (links : Links) (leaves : Pages) (front node d next : ℕ) → node_at links 2 front ≡ Some node → NoChild links node d next → next ≤ 512
    → NoneFrom (pages_by links leaves) ((front * 512 + d) * 512) ((front * 512 + next) * 512)
gap_third links leaves front node d next at none most q from to =
    bare_page links leaves q (bare_level links 2 front node d next (q / 512) at none most (omega (arith, from)) (omega (arith, to)))

-- the node of a level for the digits of a child
pub node_on : (links : Links) (level front node d child above : ℕ) → node_at links level front ≡ Some node → get links (slot node d) ≡ Some child
    → d < 512 → above ≡ front * 512 + d → node_at links (suc level) above ≡ Some child
node_on links level front node d child above at has low is =
    let same : above / 512 ≡ front = omega (arith, low, is) in
    let last : above % 512 ≡ d = omega (arith, low, is) in
    ap (λ (k : ℕ). child_at links (node_at links level k) (above % 512)) same
    ∙ ap (λ (o : Option ℕ). child_at links o (above % 512)) at
    ∙ ap (λ (k : ℕ). get links (slot node k)) last ∙ has

-- nothing is there from a page on to the later of it and another, where nothing is there up to the other
none_to : (pages : Pages) (page other from : ℕ) → NoneFrom pages page other → (from ≡ page) ⊎ (from ≡ other) → NoneFrom pages page from
none_to pages page other from none (inl is) q le lt = absurd (omega (arith, is, le, lt))
none_to pages page other from none (inr is) q le lt = none q le (omega (arith, is, lt))

-- What is true of a page and its digits when a node is looked through from a digit on: nothing is there up to the digit.

-- up to the next child, or to the end
pub third_next : (links : Links) (leaves : Pages) (page node digit next : ℕ) → node_at links 2 (page / 512 / 512) ≡ Some node
    → NoneFrom (pages_by links leaves) page ((page / 512 / 512 * 512 + digit) * 512) → NoChild links node digit next → next ≤ 512
    → NoneFrom (pages_by links leaves) page ((page / 512 / 512 * 512 + next) * 512)
third_next links leaves page node digit next at so_far none most =
    none_more (pages_by links leaves) page ((page / 512 / 512 * 512 + digit) * 512) ((page / 512 / 512 * 512 + next) * 512) so_far
    (gap_third links leaves (page / 512 / 512) node digit next at none most)

pub second_next : (links : Links) (leaves : Pages) (page node digit next : ℕ) → node_at links 1 (page / 512 / 512 / 512) ≡ Some node
    → NoneFrom (pages_by links leaves) page ((page / 512 / 512 / 512 * 512 + digit) * 512 * 512) → NoChild links node digit next → next ≤ 512
    → NoneFrom (pages_by links leaves) page ((page / 512 / 512 / 512 * 512 + next) * 512 * 512)
second_next links leaves page node digit next at so_far none most =
    none_more (pages_by links leaves) page ((page / 512 / 512 / 512 * 512 + digit) * 512 * 512) ((page / 512 / 512 / 512 * 512 + next) * 512 * 512)
    so_far (gap_second links leaves (page / 512 / 512 / 512) node digit next at none most)

pub first_next : (links : Links) (leaves : Pages) (page digit next : ℕ)
    → NoneFrom (pages_by links leaves) page (digit * 512 * 512 * 512) → NoChild links 0 digit next → next ≤ 512
    → NoneFrom (pages_by links leaves) page (next * 512 * 512 * 512)
first_next links leaves page digit next so_far none most =
    none_more (pages_by links leaves) page (digit * 512 * 512 * 512) (next * 512 * 512 * 512) so_far (gap_first links leaves digit next none most)

-- A child, and the page from which on it is looked through: it has the digits of the child.
pub record IsFrom (page other from : ℕ) : Type 0 where
  pub first : page ≤ from
  pub second : other ≤ from
  pub one : (from ≡ page) ⊎ (from ≡ other)

third_digits : (page d from : ℕ) → page / 512 % 512 ≤ d → d < 512 → IsFrom page ((page / 512 / 512 * 512 + d) * 512) from
    → from / 512 ≡ page / 512 / 512 * 512 + d
third_digits page d from le low is = by is.one
  where
    by : (from ≡ page) ⊎ (from ≡ (page / 512 / 512 * 512 + d) * 512) → from / 512 ≡ page / 512 / 512 * 512 + d
    by (inl same) = omega (arith, same, le, is.second)
    by (inr same) = omega (arith, same)

second_digits : (page d from : ℕ) → page / 512 / 512 % 512 ≤ d → d < 512 → IsFrom page ((page / 512 / 512 / 512 * 512 + d) * 512 * 512) from
    → from / 512 / 512 ≡ page / 512 / 512 / 512 * 512 + d
second_digits page d from le low is = by is.one
  where
    by : (from ≡ page) ⊎ (from ≡ (page / 512 / 512 / 512 * 512 + d) * 512 * 512) → from / 512 / 512 ≡ page / 512 / 512 / 512 * 512 + d
    by (inl same) = omega (arith, same, le, is.second)
    by (inr same) = omega (arith, same)

first_digits : (page d from : ℕ) → page / 512 / 512 / 512 ≤ d → IsFrom page (d * 512 * 512 * 512) from → from / 512 / 512 / 512 ≡ d
first_digits page d from le is = by is.one
  where
    by : (from ≡ page) ⊎ (from ≡ d * 512 * 512 * 512) → from / 512 / 512 / 512 ≡ d
    by (inl same) = omega (arith, same, le, is.second)
    by (inr same) = omega (arith, same)

-- the child is the node of those digits
pub third_child : (links : Links) (page node d child from : ℕ) → node_at links 2 (page / 512 / 512) ≡ Some node → get links (slot node d) ≡ Some child
    → page / 512 % 512 ≤ d → d < 512 → IsFrom page ((page / 512 / 512 * 512 + d) * 512) from → node_at links 3 (from / 512) ≡ Some child
third_child links page node d child from at has le low is =
    node_on links 2 (page / 512 / 512) node d child (from / 512) at has low (third_digits page d from le low is)

pub second_child : (links : Links) (page node d child from : ℕ) → node_at links 1 (page / 512 / 512 / 512) ≡ Some node
    → get links (slot node d) ≡ Some child → page / 512 / 512 % 512 ≤ d → d < 512
    → IsFrom page ((page / 512 / 512 / 512 * 512 + d) * 512 * 512) from → node_at links 2 (from / 512 / 512) ≡ Some child
second_child links page node d child from at has le low is =
    node_on links 1 (page / 512 / 512 / 512) node d child (from / 512 / 512) at has low (second_digits page d from le low is)

pub first_child : (links : Links) (page d child from : ℕ) → get links (slot 0 d) ≡ Some child → page / 512 / 512 / 512 ≤ d → d < 512
    → IsFrom page (d * 512 * 512 * 512) from → node_at links 1 (from / 512 / 512 / 512) ≡ Some child
first_child links page d child from has le low is =
    node_on links 0 0 0 d child (from / 512 / 512 / 512) refl has low (omega (arith, first_digits page d from le is))

-- the page is a number that a table has
pub third_low : (page d from : ℕ) → page < 2 ^ 36 → page / 512 % 512 ≤ d → d < 512 → IsFrom page ((page / 512 / 512 * 512 + d) * 512) from → from < 2 ^ 36
third_low page d from low le lt is = let digits = third_digits page d from le lt is in omega (arith, digits, low, lt)

pub second_low : (page d from : ℕ) → page < 2 ^ 36 → page / 512 / 512 % 512 ≤ d → d < 512
    → IsFrom page ((page / 512 / 512 / 512 * 512 + d) * 512 * 512) from → from < 2 ^ 36
second_low page d from low le lt is = let digits = second_digits page d from le lt is in omega (arith, digits, low, lt)

pub first_low : (page d from : ℕ) → page / 512 / 512 / 512 ≤ d → d < 512 → IsFrom page (d * 512 * 512 * 512) from → from < 2 ^ 36
first_low page d from le lt is = let digits = first_digits page d from le is in omega (arith, digits, lt)

-- what was found in the child is what is found from the page on
pub found_later : (pages : Pages) (page other from : ℕ) (run : PageRun) → NoneFrom pages page other → IsFrom page other from
    → IsRunFrom pages from run → IsRunFrom pages page run
found_later pages page other from run none is next = run_later pages page from run is.first (none_to pages page other from none is.one) next

-- and where nothing was, nothing is there up to the next digit
pub third_past : (pages : Pages) (page d from : ℕ) → page / 512 % 512 ≤ d → d < 512
    → NoneFrom pages page ((page / 512 / 512 * 512 + d) * 512) → IsFrom page ((page / 512 / 512 * 512 + d) * 512) from
    → NoneFrom pages from ((from / 512 + 1) * 512) → NoneFrom pages page ((page / 512 / 512 * 512 + (d + 1)) * 512)
third_past pages page d from le lt none is here =
    let digits = third_digits page d from le lt is in
    let same : (from / 512 + 1) * 512 ≡ (page / 512 / 512 * 512 + (d + 1)) * 512 = omega (arith, digits) in
    none_more pages page from ((page / 512 / 512 * 512 + (d + 1)) * 512) (none_to pages page ((page / 512 / 512 * 512 + d) * 512) from none is.one)
    (subst (NoneFrom pages from) same here)

pub second_past : (pages : Pages) (page d from : ℕ) → page / 512 / 512 % 512 ≤ d → d < 512
    → NoneFrom pages page ((page / 512 / 512 / 512 * 512 + d) * 512 * 512) → IsFrom page ((page / 512 / 512 / 512 * 512 + d) * 512 * 512) from
    → NoneFrom pages from ((from / 512 / 512 + 1) * 512 * 512) → NoneFrom pages page ((page / 512 / 512 / 512 * 512 + (d + 1)) * 512 * 512)
second_past pages page d from le lt none is here =
    let digits = second_digits page d from le lt is in
    let same : (from / 512 / 512 + 1) * 512 * 512 ≡ (page / 512 / 512 / 512 * 512 + (d + 1)) * 512 * 512 = omega (arith, digits) in
    none_more pages page from ((page / 512 / 512 / 512 * 512 + (d + 1)) * 512 * 512)
    (none_to pages page ((page / 512 / 512 / 512 * 512 + d) * 512 * 512) from none is.one) (subst (NoneFrom pages from) same here)

pub first_past : (pages : Pages) (page d from : ℕ) → page / 512 / 512 / 512 ≤ d
    → NoneFrom pages page (d * 512 * 512 * 512) → IsFrom page (d * 512 * 512 * 512) from
    → NoneFrom pages from ((from / 512 / 512 / 512 + 1) * 512 * 512 * 512) → NoneFrom pages page ((d + 1) * 512 * 512 * 512)
first_past pages page d from le none is here =
    let digits = first_digits page d from le is in
    let same : (from / 512 / 512 / 512 + 1) * 512 * 512 * 512 ≡ (d + 1) * 512 * 512 * 512 = omega (arith, digits) in
    none_more pages page from ((d + 1) * 512 * 512 * 512) (none_to pages page (d * 512 * 512 * 512) from none is.one)
    (subst (NoneFrom pages from) same here)

-- In a leaf.

-- what the pages of a leaf have
in_leaf : (links : Links) (leaves : Pages) (page leaf d : ℕ) → page < 2 ^ 36 → node_at links 3 (page / 512) ≡ Some leaf → d < 512
    → get (pages_by links leaves) (page / 512 * 512 + d) ≡ get leaves (slot leaf d)
in_leaf links leaves page leaf d low at lt =
    let q = page / 512 * 512 + d in
    let above : page / 512 ≡ q / 512 = omega (arith, lt) in
    let last : q % 512 ≡ d = omega (arith, lt) in
    get_by links leaves q
    ∙ ap (look (get leaves)) (slot_has links q leaf (omega (arith, low, lt)) (subst (λ (k : ℕ). node_at links 3 k ≡ Some leaf) above at))
    ∙ ap (λ (k : ℕ). get leaves (slot leaf k)) last

-- the pages from one on up to another of the leaf have nothing, where their slots haven't
none_in : (links : Links) (leaves : Pages) (page leaf end : ℕ) → page < 2 ^ 36 → node_at links 3 (page / 512) ≡ Some leaf → end ≤ 512
    → ((s : ℕ) → 512 * leaf + page % 512 ≤ s → s < 512 * leaf + end → get leaves s ≡ None)
    → (q : ℕ) → page ≤ q → q < page / 512 * 512 + end → get (pages_by links leaves) q ≡ None
none_in links leaves page leaf end low at le none q from to =
    let d = q - page / 512 * 512 in
    let on : page / 512 * 512 + d ≡ q = omega (arith, from) in
    ap (get (pages_by links leaves)) (sym on)
    ∙ in_leaf links leaves page leaf d low at (omega (arith, to, le))
    ∙ none (slot leaf d) (omega (arith, from)) (omega (arith, from, to))

shorter : (b : Bool) (n left : ℕ) → nat_lt n left ≡ b → (cond b n left ≤ n) × (cond b n left ≤ left)
shorter true n left is = let lt : n < left = grind (arith, nat_tests) in (omega arith, omega (arith, lt))
shorter false n left is = let le : left ≤ n = grind (arith, nat_tests) in (omega (arith, le), omega arith)

positive : (b : Bool) (n left : ℕ) → 0 < n → 0 < left → 0 < cond b n left
positive true n left a b = a
positive false n left a b = b

pub leaf_run : (links : Links) (leaves : Pages) (page leaf : ℕ) (run : PageRun) → page < 2 ^ 36 → node_at links 3 (page / 512) ≡ Some leaf
    → IsRest leaves (512 * leaf + page % 512) run → run.page < 512 * leaf + 512
    → IsRunFrom (pages_by links leaves) page (moved_run run (512 * leaf) (page / 512 * 512))
leaf_run links leaves page leaf run low at rest to =
    let left = 512 * leaf + 512 - run.page in
    let most = shorter (nat_lt run.n left) run.n left refl in
    record {
      from = omega (arith, rest.from);
      some = positive (nat_lt run.n left) run.n left rest.some (omega (arith, to));
      none = λ q le lt.
          none_in links leaves page leaf (run.page - 512 * leaf) low at (omega (arith, to))
          (λ s le lt. rest.none s le (omega (arith, lt, rest.from))) q le lt;
      has = λ i lt.
          let d = run.page - 512 * leaf + i in
          let on : page / 512 * 512 + d ≡ page / 512 * 512 + (run.page - 512 * leaf) + i = omega arith in
          let is : slot leaf d ≡ run.page + i = omega (arith, rest.from) in
          ap (get (pages_by links leaves)) (sym on)
          ∙ in_leaf links leaves page leaf d low at (omega (arith, rest.from, to, lt, most.1))
          ∙ ap (get leaves) is ∙ rest.has i (omega (arith, lt, most.0));
      low = omega (arith, rest.from, to, most.1, low);
      fits = λ rising. omega (arith, rest.fits rising, most.0);
    }

pub leaf_past : (links : Links) (leaves : Pages) (page leaf : ℕ) → page < 2 ^ 36 → node_at links 3 (page / 512) ≡ Some leaf
    → ((s : ℕ) → 512 * leaf + page % 512 ≤ s → s < 512 * leaf + 512 → get leaves s ≡ None)
    → NoneFrom (pages_by links leaves) page ((page / 512 + 1) * 512)
leaf_past links leaves page leaf low at none =
    let same : page / 512 * 512 + 512 ≡ (page / 512 + 1) * 512 = omega arith in
    subst (NoneFrom (pages_by links leaves) page) same (none_in links leaves page leaf 512 low at (omega arith) none)

-- Page after page.

-- no page of 2^36 or more is there
pub none_high : (links : Links) (leaves : Pages) (page : ℕ) → 2 ^ 36 ≤ page → IsNextRun (pages_by links leaves) page None
none_high links leaves page high q le = high_page links leaves q (omega (arith, high, le))

-- so the first pages below that, or none, are the first ones
pub next_first : (links : Links) (leaves : Pages) (page : ℕ) (found : Option PageRun) → IsUpTo (pages_by links leaves) page (2 ^ 36) found
    → IsNextRun (pages_by links leaves) page found
next_first links leaves page (Some run) is = is
next_first links leaves page None is =
    λ q le. none_more (pages_by links leaves) page (2 ^ 36) (q + 1) is (λ p from to. high_page links leaves p from) q le (omega arith)

-- What the next link from a slot on says of the next child of a node.

-- slots of a node are those of digits from one on, where they are behind its slot
as_slot : (node key : ℕ) → 512 * node ≤ key → key ≡ slot node (key - 512 * node)
as_slot node key le = omega (arith, le)

pub child_none : (links : Links) (node digit : ℕ) → IsNextOne links (slot node digit) None → NoChild links node digit 512
child_none links node digit none e le lt = none (slot node e) (omega (arith, le))

pub child_past : (links : Links) (node digit key child : ℕ) → IsNextOne links (slot node digit) (Some (key, child)) → 512 * node + 512 ≤ key
    → NoChild links node digit 512
child_past links node digit key child next past e le lt = next.2 (slot node e) (omega (arith, le)) (omega (arith, lt, past))

pub child_here : (links : Links) (node digit key child : ℕ) → IsNextOne links (slot node digit) (Some (key, child)) → key < 512 * node + 512
    → IsChildFrom links node digit (key - 512 * node, child)
child_here links node digit key child next low = record {
  from = omega (arith, next.0);
  low = omega (arith, low, next.0);
  none = λ e le lt. next.2 (slot node e) (omega (arith, le)) (omega (arith, lt, next.0));
  has = ap (get links) (sym (as_slot node key (omega (arith, next.0)))) ∙ next.1;
}

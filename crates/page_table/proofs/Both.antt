use Rattle.std.proofs.Common.{◌≡◌, ℕ, zero, suc, ◌+◌, ◌<◌, ◌≤◌, ◌⊎◌, inl, inr, Bool, true, false, cond, List, [], ◌∷◌, ◌++◌, length, get_or, Option, Some, None, subst, sym, ap, ◌∙◌, refl, arith}
use Rattle.std.proofs.lemmas.Bool.{cases_lt}
use Rattle.std.proofs.lemmas.List.{append-nil}
use Rattle.std.specs.Option.{is_some}
use Rattle.std.specs.List as list
use Rattle.std.specs.List.{AllZip}
use Rattle.std.specs.Cmp.{nat_cmp_total}
use Rattle.std.specs.Ordering.{nat_cmp, is_eq}
use Rattle.std.specs.FinMap.{empty, find, get, get-empty, get-from_entries, insert, len, len-insert}
use Rattle.number_maps.specs.Keys.{alike, by_key, get_same, get_other}
use Rattle.number_maps.specs.Rows.{map_of, key_at, RowsRise, IsAt, IsGap, IsNextOne}
use Rattle.number_maps.specs.RowLaws.{counted, got_at, got_gap, key_of, map_insert, never_falls, rise_insert}
use Rattle.page_table.specs.Nodes.{Links}
use Rattle.page_table.specs.Links.{AreApart, AreLinks, AreMerged, HasStep, IsFirst, IsStart, Linked, seen_links}

-- Links that are kept as two lists.

-- Links are gone over: those before a place lie before a slot.

abbrev pub AllBelow : List (ℕ × ℕ) → ℕ → ℕ → Type 0
AllBelow links key at = (j : ℕ) → j < at → key_at links j < key

abbrev pub AllAbove : List (ℕ × ℕ) → ℕ → ℕ → Type 0
AllAbove links key at = (j : ℕ) → at ≤ j → j < length links → key < key_at links j

pub below_here : (links : List (ℕ × ℕ)) (key at : ℕ) → RowsRise 0 links → at < length links → key_at links at < key → AllBelow links key (at + 1)
below_here links key at rise there lt j le = omega (arith, lt, never_falls 0 links j at rise (omega (arith, le)) there)

pub above_here : (links : List (ℕ × ℕ)) (key at : ℕ) → RowsRise 0 links → key < key_at links at → AllAbove links key at
above_here links key at rise lt j le there = omega (arith, lt, never_falls 0 links at j rise le there)

pub gap_here : (links : List (ℕ × ℕ)) (key low high : ℕ) → low ≡ high → high ≤ length links → AllBelow links key low → AllAbove links key high
    → IsGap links key low
gap_here links key low high same inside below above = record {
  inside = omega (arith, same, inside);
  before = below;
  behind = λ j le lt. above j (omega (arith, same, le)) lt;
}

-- Where links begin.

rises : (from : ℕ) (rows : List (ℕ × ℕ)) (i j : ℕ) → RowsRise from rows → i < j → j < length rows → key_at rows i < key_at rows j
rises from [] i j h lt there = absurd (omega (arith, there))
rises from (row ∷ rows) i zero h lt there = absurd (omega (arith, lt))
rises from (row ∷ []) zero (suc j) h lt there = absurd (omega (arith, there))
rises from (row ∷ (next ∷ rows)) zero (suc j) h lt there =
    omega (arith, h.1.0, never_falls (row.0 + 1) (next ∷ rows) 0 j h.1 (omega arith) (omega (arith, there)))
rises from (row ∷ rows) (suc i) (suc j) h lt there = rises (row.0 + 1) rows i j h.1 (omega (arith, lt)) (omega (arith, there))

pub start_at : (rows : List (ℕ × ℕ)) (key at : ℕ) → RowsRise 0 rows → IsAt rows key at → IsStart rows key at
start_at rows key at rise is = record {
  inside = omega (arith, is.there);
  before = λ j lt. omega (arith, rises 0 rows j at rise lt is.there, is.has);
  behind = λ j le there. omega (arith, never_falls 0 rows at j rise le there, is.has);
}

pub start_gap : (rows : List (ℕ × ℕ)) (key at : ℕ) → IsGap rows key at → IsStart rows key at
start_gap rows key at gap = record {
  inside = gap.inside;
  before = gap.before;
  behind = λ j le there. omega (arith, gap.behind j le there);
}

start_first : (rows : List (ℕ × ℕ)) → IsStart rows 0 0
start_first rows = record { inside = omega arith; before = λ j lt. absurd (omega (arith, lt)); behind = λ j le lt. omega arith }

-- slots from one on, before that of the link at its place, have none
gap_from : (rows : List (ℕ × ℕ)) (key at q : ℕ) → RowsRise 0 rows → IsStart rows key at → key ≤ q → (at < length rows → q < key_at rows at)
    → IsGap rows q at
gap_from rows key at q rise start le past = record {
  inside = start.inside;
  before = λ j lt. omega (arith, start.before j lt, le);
  behind = λ j from there. omega (arith, past (omega (arith, from, there)), never_falls 0 rows at j rise from there);
}

-- behind the link at a place, and where none up to a slot stands from a place on
start_past : (rows : List (ℕ × ℕ)) (at key : ℕ) → RowsRise 0 rows → at < length rows → key_at rows at ≡ key → IsStart rows (key + 1) (at + 1)
start_past rows at key rise there is = record {
  inside = omega (arith, there);
  before = λ j lt. omega (arith, never_falls 0 rows j at rise (omega (arith, lt)) there, is);
  behind = λ j le less. omega (arith, rises 0 rows at j rise (omega (arith, le)) less, is);
}

start_on : (rows : List (ℕ × ℕ)) (from at key : ℕ) → RowsRise 0 rows → IsStart rows from at → from ≤ key → (at < length rows → key < key_at rows at)
    → IsStart rows (key + 1) at
start_on rows from at key rise start le past = record {
  inside = start.inside;
  before = λ j lt. omega (arith, start.before j lt, le);
  behind = λ j to there. omega (arith, past (omega (arith, to, there)), never_falls 0 rows at j rise to there);
}

-- What two lists have.

abbrev either : Option ℕ → Option ℕ → Option ℕ
either None y = y
either (Some c) y = Some c

either_none : (x y : Option ℕ) → either x y ≡ None → (x ≡ None) × (y ≡ None)
either_none None y h = (refl, h)
either_none (Some c) y h = cc

either_left : (x : Option ℕ) → either x None ≡ x
either_left None = refl
either_left (Some c) = refl

none_by : (o : Option ℕ) → ((d : ℕ) → o ≡ Some d → ⊥) → o ≡ None
none_by None h = refl
none_by (Some d) h = absurd (h d refl)

find_both : (a b : List (ℕ × ℕ)) (q : ℕ) → find nat_cmp q (a ++ b) ≡ either (find nat_cmp q a) (find nat_cmp q b)
find_both [] b q = refl
find_both (row ∷ a) b q = by (is_eq (nat_cmp q row.0)) (find_both a b q)
  where
    by : (t : Bool) → find nat_cmp q (a ++ b) ≡ either (find nat_cmp q a) (find nat_cmp q b)
        → cond t (Some row.1) (find nat_cmp q (a ++ b)) ≡ either (cond t (Some row.1) (find nat_cmp q a)) (find nat_cmp q b)
    by true rest = refl
    by false rest = rest

got_both : (a b : List (ℕ × ℕ)) (q : ℕ) → get (map_of (a ++ b)) q ≡ either (get (map_of a) q) (get (map_of b) q)
got_both a b q =
    get-from_entries nat_cmp_total (a ++ b) q ∙ find_both a b q
    ∙ ap (λ (o : Option ℕ). either o (find nat_cmp q b)) (sym (get-from_entries nat_cmp_total a q))
    ∙ ap (λ (o : Option ℕ). either (get (map_of a) q) o) (sym (get-from_entries nat_cmp_total b q))

pub got_first : (a b : List (ℕ × ℕ)) (q c : ℕ) → get (map_of a) q ≡ Some c → get (map_of (a ++ b)) q ≡ Some c
got_first a b q c h = got_both a b q ∙ ap (λ (o : Option ℕ). either o (get (map_of b) q)) h

pub got_second : (a b : List (ℕ × ℕ)) (q : ℕ) (y : Option ℕ) → get (map_of a) q ≡ None → get (map_of b) q ≡ y → get (map_of (a ++ b)) q ≡ y
got_second a b q y h is = got_both a b q ∙ ap (λ (o : Option ℕ). either o (get (map_of b) q)) h ∙ is

-- the second list has it, or hasn't
pub got_later : (a b : List (ℕ × ℕ)) (q c : ℕ) → AreApart a b → get (map_of b) q ≡ Some c → get (map_of (a ++ b)) q ≡ Some c
got_later a b q c apart h = got_second a b q (Some c) (none_by (get (map_of a) q) (λ d is. apart q d c is h)) h

pub got_still : (a b : List (ℕ × ℕ)) (q : ℕ) (x : Option ℕ) → get (map_of b) q ≡ None → get (map_of a) q ≡ x → get (map_of (a ++ b)) q ≡ x
got_still a b q x none is = got_both a b q ∙ ap (λ (o : Option ℕ). either (get (map_of a) q) o) none ∙ either_left (get (map_of a) q) ∙ is

-- a row of the first list
pub got_row : (a b : List (ℕ × ℕ)) (q at : ℕ) → RowsRise 0 a → at < length a → (get_or a at (0, 0)).0 ≡ q
    → get (map_of (a ++ b)) q ≡ Some (get_or a at (0, 0)).1
got_row a b q at rise there is =
    got_first a b q (get_or a at (0, 0)).1 (got_at a q at (0, 0) rise (record { there = there; has = sym (key_of a at (0, 0) there) ∙ is }))

-- what is seen says it
pub got_seen : (l : Linked) (a b : List (ℕ × ℕ)) (room q : ℕ) (x : Option ℕ) → seen_links a b room ≡ l → get (map_of (a ++ b)) q ≡ x
    → x ≡ get l.children q
got_seen l a b room q x is h = sym h ∙ ap (λ (m : Linked). get m.children q) is

apart_swap : (a b : List (ℕ × ℕ)) → AreApart a b → AreApart b a
apart_swap a b apart k c d h g = apart k d c g h

-- the link of a slot is the first from the slot on
pub next_row : (l : Linked) (a b : List (ℕ × ℕ)) (room q at : ℕ) → seen_links a b room ≡ l → RowsRise 0 a → at < length a
    → (get_or a at (0, 0)).0 ≡ q → IsNextOne l.children q (Some (get_or a at (0, 0)))
next_row l a b room q at seen rise there is = (
  omega (arith, is),
  ap (get l.children) is ∙ sym (got_seen l a b room q (Some (get_or a at (0, 0)).1) seen (got_row a b q at rise there is)),
  λ p le lt. absurd (omega (arith, le, lt, is)),
)

-- How many there are.

first_free : (row : ℕ × ℕ) (rows : List (ℕ × ℕ)) (from : ℕ) → RowsRise from (row ∷ rows) → get (map_of rows) row.0 ≡ None
first_free row rows from rise =
    got_gap rows row.0 0 (record {
      inside = omega arith;
      before = λ j lt. absurd (omega (arith, lt));
      behind = λ j le there. rises from (row ∷ rows) 0 (suc j) rise (omega arith) (omega (arith, there));
    })

apart_rest : (row : ℕ × ℕ) (a b : List (ℕ × ℕ)) (from : ℕ) → RowsRise from (row ∷ a) → AreApart (row ∷ a) b → AreApart a b
apart_rest row a b from rise apart k c d h g = by_key k row.0
    (λ same. let none = sym h ∙ ap (get (map_of a)) same ∙ first_free row a from rise in cc)
    (λ other. apart k c d (get_other (map_of a) row.0 k row.1 other ∙ h) g)

pub len_both : (from : ℕ) (a b : List (ℕ × ℕ)) → RowsRise from a → RowsRise 0 b → AreApart a b → len (map_of (a ++ b)) ≡ length a + length b
len_both from [] b first second apart = let count = counted (map_of b) b refl second in omega (arith, count)
len_both from (row ∷ a) b first second apart =
    let free = got_second a b row.0 None (first_free row a from first)
    (none_by (get (map_of b) row.0) (λ d. apart row.0 row.1 d (get_same (map_of a) row.0 row.0 row.1 refl))) in
    len-insert nat_cmp_total (map_of (a ++ b)) row.0 row.1
    ∙ ap (λ (o : Option ℕ). cond (is_some o) (len (map_of (a ++ b))) (len (map_of (a ++ b)) + 1)) free
    ∙ one_more (len (map_of (a ++ b))) (length a) (length b) (len_both (row.0 + 1) a b first.1 second (apart_rest row a b from first apart))
  where
    one_more : (n x y : ℕ) → n ≡ x + y → n + 1 ≡ suc x + y
    one_more n x y h = omega (arith, h)

-- A link more among those that came last.

pub gap_free : (rows : List (ℕ × ℕ)) (key at : ℕ) → RowsRise 0 rows → IsStart rows key at → get (map_of rows) key ≡ None → IsGap rows key at
gap_free rows key at rise start free = record {
  inside = start.inside;
  before = start.before;
  behind = λ j le there. by j there (start.behind j le there) (cases_lt key (key_at rows j));
}
  where
    by : (j : ℕ) → j < length rows → key ≤ key_at rows j → (key < key_at rows j) ⊎ (key_at rows j ≤ key) → key < key_at rows j
    by j there le (inl lt) = lt
    by j there le (inr more) =
        let has : key_at rows j ≡ key = omega (arith, le, more) in
        let none = sym (got_at rows key j (0, 0) rise (record { there = there; has = has })) ∙ free in cc

pub seen_free : (l : Linked) (a b : List (ℕ × ℕ)) (room q : ℕ) → seen_links a b room ≡ l → get l.children q ≡ None
    → (get (map_of a) q ≡ None) × (get (map_of b) q ≡ None)
seen_free l a b room q is free =
    either_none (get (map_of a) q) (get (map_of b) q) (sym (got_both a b q) ∙ ap (λ (m : Linked). get m.children q) is ∙ free)

module _ (a b : List (ℕ × ℕ)) (key at child : ℕ) (gap : IsGap b key at) (free : get (map_of a) key ≡ None) where
  pub links_with : AreLinks a b → AreLinks a (list.insert b at (key, child))
  links_with links = record {
    rise = links.rise;
    rise_too = rise_insert 0 b key at child links.rise_too (omega arith) gap;
    apart = λ k c d h g. by_key k key
        (λ same. let none = sym h ∙ ap (get (map_of a)) same ∙ free in cc)
        (λ other. links.apart k c d h
        (sym (ap (λ (m : Links). get m k) (map_insert b key at child gap) ∙ get_other (map_of b) key k child other) ∙ g));
  }

  pub map_with : map_of (a ++ list.insert b at (key, child)) ≡ insert (map_of (a ++ b)) key child
  map_with = alike _ _ (λ q. by_key q key
      (λ same.
      got_second a (list.insert b at (key, child)) q (Some child) (ap (get (map_of a)) same ∙ free)
      (ap (λ (m : Links). get m q) (map_insert b key at child gap) ∙ get_same (map_of b) key q child same)
      ∙ sym (get_same (map_of (a ++ b)) key q child same))
      (λ other.
      got_both a (list.insert b at (key, child)) q
      ∙ ap (λ (o : Option ℕ). either (get (map_of a) q) o)
      (ap (λ (m : Links). get m q) (map_insert b key at child gap) ∙ get_other (map_of b) key q child other)
      ∙ sym (got_both a b q) ∙ sym (get_other (map_of (a ++ b)) key q child other)))

-- The next link of two lists, from a slot on.

first_key : (rows others : List (ℕ × ℕ)) (at other : ℕ) (link : ℕ × ℕ) → IsFirst rows others at other link → key_at rows at ≡ link.0
first_key rows others at other link first = sym (key_of rows at (0, 0) first.there) ∙ ap (λ (r : ℕ × ℕ). r.0) first.is

first_has : (rows others : List (ℕ × ℕ)) (at other : ℕ) (link : ℕ × ℕ) → RowsRise 0 rows → IsFirst rows others at other link
    → get (map_of rows) link.0 ≡ Some link.1
first_has rows others at other link rise first =
    got_at rows link.0 at (0, 0) rise (record { there = first.there; has = first_key rows others at other link first })
    ∙ ap (λ (r : ℕ × ℕ). Some r.1) first.is

sooner : (rows others : List (ℕ × ℕ)) (at other : ℕ) (link : ℕ × ℕ) → RowsRise 0 rows → RowsRise 0 others → AreApart rows others
    → IsFirst rows others at other link → other < length others → link.0 < key_at others other
sooner rows others at other link rise rise_too apart first there = by (cases_lt link.0 (key_at others other))
  where
    by : (link.0 < key_at others other) ⊎ (key_at others other ≤ link.0) → link.0 < key_at others other
    by (inl lt) = lt
    by (inr le) =
        let has : key_at others other ≡ link.0 = omega (arith, le, first.first there) in
        absurd (apart link.0 link.1 (get_or others other (0, 0)).1 (first_has rows others at other link rise first)
        (got_at others link.0 other (0, 0) rise_too (record { there = there; has = has })))

module _ (a b : List (ℕ × ℕ)) (links : AreLinks a b) (from at other : ℕ) (start : IsStart a from at) (start_too : IsStart b from other) where
  next_settled : (link : ℕ × ℕ) → IsFirst a b at other link → IsNextOne (map_of (a ++ b)) from (Some link)
  next_settled link first = (
    omega (arith, first_key a b at other link first, start.behind at (omega arith) first.there),
    got_first a b link.0 link.1 (first_has a b at other link links.rise first),
    λ q le lt.
        got_second a b q None
        (got_gap a q at (gap_from a from at q links.rise start le (λ _. omega (arith, lt, first_key a b at other link first))))
        (got_gap b q other (gap_from b from other q links.rise_too start_too le
        (λ there. omega (arith, lt, sooner a b at other link links.rise links.rise_too links.apart first there)))),
  )

  next_recent : (link : ℕ × ℕ) → IsFirst b a other at link → IsNextOne (map_of (a ++ b)) from (Some link)
  next_recent link first =
      let low : from ≤ link.0 = omega (arith, first_key b a other at link first, start_too.behind other (omega arith) first.there) in
      let before : at < length a → link.0 < key_at a at = λ there. sooner b a other at link links.rise_too links.rise (apart_swap a b links.apart) first there in (
        low,
        got_second a b link.0 (Some link.1) (got_gap a link.0 at (gap_from a from at link.0 links.rise start low before))
            (first_has b a other at link links.rise_too first),
        λ q le lt.
            got_second a b q None
            (got_gap a q at (gap_from a from at q links.rise start le (λ there. omega (arith, lt, before there))))
            (got_gap b q other (gap_from b from other q links.rise_too start_too le (λ _. omega (arith, lt, first_key b a other at link first)))),
      )

  pub next_link : (link : ℕ × ℕ) (next next_other : ℕ) → HasStep a b at other (Some (link, next, next_other))
      → IsNextOne (map_of (a ++ b)) from (Some link)
  next_link link next next_other (inl step) = next_settled link step.0
  next_link link next next_other (inr step) = next_recent link step.0

  pub next_none : HasStep a b at other None → IsNextOne (map_of (a ++ b)) from None
  next_none step q le =
      got_second a b q None (got_gap a q at (gap_from a from at q links.rise start le (λ there. absurd (omega (arith, there, step.0)))))
      (got_gap b q other (gap_from b from other q links.rise_too start_too le (λ there. absurd (omega (arith, there, step.1)))))

  -- behind it both lists begin
  starts : (link : ℕ × ℕ) (next next_other : ℕ) → HasStep a b at other (Some (link, next, next_other))
      → IsStart a (link.0 + 1) next × IsStart b (link.0 + 1) next_other
  starts link next next_other (inl step) =
      let low : from ≤ link.0 = (next_settled link step.0).0 in (
        subst (IsStart a (link.0 + 1)) (sym step.1) (start_past a at link.0 links.rise step.0.there (first_key a b at other link step.0)),
        subst (IsStart b (link.0 + 1)) (sym step.2) (start_on b from other link.0 links.rise_too start_too low
            (sooner a b at other link links.rise links.rise_too links.apart step.0)),
      )
  starts link next next_other (inr step) =
      let low : from ≤ link.0 = (next_recent link step.0).0 in (
        subst (IsStart a (link.0 + 1)) (sym step.1) (start_on a from at link.0 links.rise start low
            (sooner b a other at link links.rise_too links.rise (apart_swap a b links.apart) step.0)),
        subst (IsStart b (link.0 + 1)) (sym step.2) (start_past b other link.0 links.rise_too step.0.there (first_key b a other at link step.0)),
      )

-- One list of two: those before two places are in it.

pub record IsMergedTo (a b : List (ℕ × ℕ)) (at other : ℕ) (rows : List (ℕ × ℕ)) : Type 0 where
  pub from : ℕ
  pub first : IsStart a from at
  pub second : IsStart b from other
  pub rise : RowsRise 0 rows
  pub below : AllBelow rows from (length rows)
  pub same : (q : ℕ) → q < from → get (map_of rows) q ≡ get (map_of (a ++ b)) q

pub merged_none : (a b : List (ℕ × ℕ)) → IsMergedTo a b 0 0 []
merged_none a b = record {
  from = 0;
  first = start_first a;
  second = start_first b;
  rise = tt;
  below = λ j lt. absurd (omega (arith, lt));
  same = λ q lt. absurd (omega (arith, lt));
}

rise_push : (from : ℕ) (rows : List (ℕ × ℕ)) (link : ℕ × ℕ) → RowsRise from rows → AllBelow rows link.0 (length rows) → from ≤ link.0
    → RowsRise from (rows ++ link ∷ [])
rise_push from [] link rise below le = (le, tt)
rise_push from (row ∷ rows) link rise below le =
    let first = below 0 (omega arith) in
    (rise.0, rise_push (row.0 + 1) rows link rise.1 (λ j lt. below (suc j) (omega (arith, lt))) (omega (arith, first)))

below_push : (rows : List (ℕ × ℕ)) (link : ℕ × ℕ) → AllBelow rows link.0 (length rows)
    → AllBelow (rows ++ link ∷ []) (link.0 + 1) (length (rows ++ link ∷ []))
below_push [] link below zero lt = omega arith
below_push [] link below (suc j) lt = absurd (omega (arith, lt))
below_push (row ∷ rows) link below zero lt = let first = below 0 (omega arith) in omega (arith, first)
below_push (row ∷ rows) link below (suc j) lt = below_push rows link (λ i less. below (suc i) (omega (arith, less))) j (omega (arith, lt))

past_rows : (rows : List (ℕ × ℕ)) (from q : ℕ) → AllBelow rows from (length rows) → from ≤ q → get (map_of rows) q ≡ None
past_rows rows from q below le = got_gap rows q (length rows) (record {
  inside = omega arith;
  before = λ j lt. omega (arith, below j lt, le);
  behind = λ j to there. absurd (omega (arith, to, there));
})

one_other : (link : ℕ × ℕ) (q : ℕ) → (q ≡ link.0 → ⊥) → get (map_of (link ∷ [])) q ≡ None
one_other link q other = get_other (map_of []) link.0 q link.1 other ∙ get-empty {X = ℕ} nat_cmp q

module _ (a b rows : List (ℕ × ℕ)) (links : AreLinks a b) (at other : ℕ) (so_far : IsMergedTo a b at other rows) where
  merged_link : (link : ℕ × ℕ) (next next_other : ℕ) → HasStep a b at other (Some (link, next, next_other))
      → IsMergedTo a b next next_other (rows ++ link ∷ [])
  merged_link link next next_other step =
      let is_next = next_link a b links so_far.from at other so_far.first so_far.second link next next_other step in
      let begin = starts a b links so_far.from at other so_far.first so_far.second link next next_other step in
      let below : AllBelow rows link.0 (length rows) = λ j lt. omega (arith, so_far.below j lt, is_next.0) in
      record {
        from = link.0 + 1;
        first = begin.0;
        second = begin.1;
        rise = rise_push 0 rows link so_far.rise below (omega arith);
        below = below_push rows link below;
        same = λ q lt. by_key q link.0
            (λ is.
            got_second rows (link ∷ []) q (Some link.1) (past_rows rows so_far.from q so_far.below (omega (arith, is, is_next.0)))
            (get_same (map_of []) link.0 q link.1 is)
            ∙ sym (ap (get (map_of (a ++ b))) is ∙ is_next.1))
            (λ not. by q (one_other link q not) (omega (arith, lt, not)) is_next.2 (cases_lt q so_far.from));
      }
    where
      by : (q : ℕ) → get (map_of (link ∷ [])) q ≡ None → q < link.0
          → ((p : ℕ) → so_far.from ≤ p → p < link.0 → get (map_of (a ++ b)) p ≡ None)
          → (q < so_far.from) ⊎ (so_far.from ≤ q) → get (map_of (rows ++ link ∷ [])) q ≡ get (map_of (a ++ b)) q
      by q none less gap (inl lt) =
          got_both rows (link ∷ []) q ∙ ap (λ (o : Option ℕ). either (get (map_of rows) q) o) none ∙ either_left (get (map_of rows) q)
          ∙ so_far.same q lt
      by q none less gap (inr le) =
          got_second rows (link ∷ []) q None (past_rows rows so_far.from q so_far.below le) none ∙ sym (gap q le less)

  pub merged_more : (new : List (ℕ × ℕ)) (link : ℕ × ℕ) (next next_other : ℕ) → HasStep a b at other (Some (link, next, next_other))
      → new ≡ rows ++ link ∷ [] → IsMergedTo a b next next_other new
  merged_more new link next next_other step is = subst (IsMergedTo a b next next_other) (sym is) (merged_link link next next_other step)

  pub merged_all : HasStep a b at other None → AreMerged a b rows
  merged_all step = record {
    rise = so_far.rise;
    same = alike _ _ (λ q. by q (cases_lt q so_far.from));
  }
    where
      by : (q : ℕ) → (q < so_far.from) ⊎ (so_far.from ≤ q) → get (map_of rows) q ≡ get (map_of (a ++ b)) q
      by q (inl lt) = so_far.same q lt
      by q (inr le) =
          past_rows rows so_far.from q so_far.below le
          ∙ sym (next_none a b links so_far.from at other so_far.first so_far.second step q le)

-- No link is recent.

apart_none : (a : List (ℕ × ℕ)) → AreApart a []
apart_none a k c d h g = let none = sym g ∙ get-empty {X = ℕ} nat_cmp k in cc

pub links_settled : (a b rows recent : List (ℕ × ℕ)) → AreMerged a b rows → recent ≡ [] → AreLinks rows recent
links_settled a b rows recent merged none =
    subst (AreLinks rows) (sym none) (record { rise = merged.rise; rise_too = tt; apart = apart_none rows })

pub map_settled : (a b rows recent : List (ℕ × ℕ)) → AreMerged a b rows → recent ≡ [] → map_of (rows ++ recent) ≡ map_of (a ++ b)
map_settled a b rows recent merged none = ap (λ r. map_of (rows ++ r)) none ∙ ap map_of (append-nil rows) ∙ merged.same

pub links_none : (a b : List (ℕ × ℕ)) → a ≡ [] → b ≡ [] → AreLinks a b
links_none a b no_settled no_recent =
    subst (λ l. AreLinks l b) (sym no_settled) (subst (AreLinks []) (sym no_recent) (record { rise = tt; rise_too = tt; apart = apart_none [] }))

pub map_none : (a b : List (ℕ × ℕ)) → a ≡ [] → b ≡ [] → map_of (a ++ b) ≡ empty
map_none a b no_settled no_recent = ap (λ l. map_of (l ++ b)) no_settled ∙ ap map_of no_recent

-- A copy.

pub links_cloned : (links copies : List (ℕ × ℕ)) → AllZip (λ link copy. (copy.0 ≡ link.0) × (copy.1 ≡ link.1)) links copies → copies ≡ links
links_cloned [] [] each = refl
links_cloned [] (copy ∷ copies) each = absurd each
links_cloned (link ∷ links) [] each = absurd each
links_cloned (link ∷ links) (copy ∷ copies) each = λ i. (each.0.0 i, each.0.1 i) ∷ links_cloned links copies each.1 i

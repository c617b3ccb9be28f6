use Rattle.std.proofs.Common.{◌≡◌, ℕ, zero, suc, ◌+◌, ◌*◌, ◌/◌, ◌%◌, ◌^◌, ◌<◌, ◌≤◌, ◌⊎◌, inl, inr, Bool, true, false, cond, Option, Some, None, nat_lt, subst, sym, ap, ◌∙◌, refl, arith}
use Rattle.std.proofs.lemmas.Bool.Decides.{nat_tests}
use Rattle.std.specs.Option.{is_some, IsSome}
use Rattle.std.specs.Cmp.{nat_cmp_total}
use Rattle.std.specs.FinMap.{get, insert, len, len-insert}
use Rattle.number_maps.specs.Keys.{by_key, get_same, get_other}
use Rattle.page_table.specs.declared.entry.PageEntry.{PageEntry}
use Rattle.page_table.specs.Nodes.{Links, child_at, look, node_at, page_end, size, slot, slot_in, page_slot}
use Rattle.page_table.specs.Kept.{IsNodeOfPath, IsUpper, EndBy, HaveGrown, HasChild, HasLeaf, HaveLeaves, IsTree}

-- Nodes by their links: two paths never meet, and a new node changes no other path.

-- Numbers of slots.

same_node : (m n d e : ℕ) → d < 512 → e < 512 → slot m d ≡ slot n e → m ≡ n
same_node m n d e dl el h = omega (arith, h, dl, el)

same_digit : (m n d e : ℕ) → d < 512 → e < 512 → slot m d ≡ slot n e → d ≡ e
same_digit m n d e dl el h = omega (arith, h, dl, el)

pub digit_low : (p : ℕ) → p % 512 < 512
digit_low p = omega arith

same_page : (p q : ℕ) → p / 512 ≡ q / 512 → p % 512 ≡ q % 512 → p ≡ q
same_page p q a d = omega (arith, a, d)

above_low : (p n : ℕ) → p < 512 * n → p / 512 < n
above_low p n h = omega (arith, h)

-- Two paths never meet.

abbrev Once : Links → Type 0
Once links = (j k c : ℕ) → get links j ≡ Some c → get links k ≡ Some c → j ≡ k

once_below : (links : Links) (once : Once links) (level a b n : ℕ)
    → ((m : ℕ) → node_at links level (a / 512) ≡ Some m → node_at links level (b / 512) ≡ Some m → a / 512 ≡ b / 512)
    → (p q : Option ℕ) → node_at links level (a / 512) ≡ p → node_at links level (b / 512) ≡ q
    → child_at links p (a % 512) ≡ Some n → child_at links q (b % 512) ≡ Some n → a ≡ b
once_below links once level a b n above None q hp hq ga gb = cc
once_below links once level a b n above (Some m) None hp hq ga gb = cc
once_below links once level a b n above (Some m) (Some k) hp hq ga gb =
    let keys = once (slot m (a % 512)) (slot k (b % 512)) n ga gb in
    let nodes = same_node m k (a % 512) (b % 512) (digit_low a) (digit_low b) keys in
    same_page a b (above m hp (hq ∙ ap (λ (i : ℕ). Some i) (sym nodes))) (same_digit m k (a % 512) (b % 512) (digit_low a) (digit_low b) keys)

once_at : (links : Links) → Once links → (level a b n : ℕ) → a < size level → b < size level → node_at links level a ≡ Some n
    → node_at links level b ≡ Some n → a ≡ b
once_at links once zero a b n la lb ha hb = omega (arith, la, lb)
once_at links once (suc level) a b n la lb ha hb =
    once_below links once level a b n
    (λ m hp hq. once_at links once level (a / 512) (b / 512) m (above_low a (size level) la) (above_low b (size level) lb) hp hq)
    (node_at links level (a / 512)) (node_at links level (b / 512)) refl refl ha hb

-- The slot of a page, taken apart.

end_is : page_end ≡ 2 ^ 36
unfolding page_end
end_is = refl

pub record IsSlot (links : Links) (page s leaf : ℕ) : Type 0 where
  pub low : page < 2 ^ 36
  pub at : node_at links 3 (page / 512) ≡ Some leaf
  pub is : s ≡ slot leaf (page % 512)

low_page : (page : ℕ) → nat_lt page page_end ≡ true → page < 2 ^ 36
low_page page h = let end = end_is in grind (arith, nat_tests)

page_low : (page : ℕ) → page < 2 ^ 36 → nat_lt page page_end ≡ true
page_low page h = let end = end_is in grind (arith, nat_tests)

pub page_high : (page : ℕ) → 2 ^ 36 ≤ page → nat_lt page page_end ≡ false
page_high page h = let end = end_is in grind (arith, nat_tests)

has_slot : (links : Links) (page s : ℕ) (b : Bool) (leaf : Option ℕ) → nat_lt page page_end ≡ b → node_at links 3 (page / 512) ≡ leaf
    → cond b (slot_in leaf (page % 512)) None ≡ Some s → (l : ℕ) × IsSlot links page s l
has_slot links page s false leaf low at h = cc
has_slot links page s true None low at h = cc
has_slot links page s true (Some leaf) low at h = (leaf, record { low = low_page page low; at = at; is = same s (slot leaf (page % 512)) h })
  where
    same : (a b : ℕ) → ◌≡◌ {A = Option ℕ} (Some b) (Some a) → a ≡ b
    same a b h = cc

pub slot_parts : (links : Links) (page s : ℕ) → page_slot links page ≡ Some s → (l : ℕ) × IsSlot links page s l
slot_parts links page s h = has_slot links page s (nat_lt page page_end) (node_at links 3 (page / 512)) refl refl h

pub slot_low : (links : Links) (page : ℕ) → page < 2 ^ 36 → page_slot links page ≡ slot_in (node_at links 3 (page / 512)) (page % 512)
slot_low links page low = ap (λ (b : Bool). cond b (slot_in (node_at links 3 (page / 512)) (page % 512)) None) (page_low page low)

pub slot_none : (links : Links) (page : ℕ) → 2 ^ 36 ≤ page → page_slot links page ≡ None
slot_none links page high = ap (λ (b : Bool). cond b (slot_in (node_at links 3 (page / 512)) (page % 512)) None) (page_high page high)

pub slot_has : (links : Links) (page leaf : ℕ) → page < 2 ^ 36 → node_at links 3 (page / 512) ≡ Some leaf → page_slot links page ≡ Some (slot leaf (page % 512))
slot_has links page leaf low at = slot_low links page low ∙ ap (λ (o : Option ℕ). slot_in o (page % 512)) at

-- two pages never have one slot
pub slot_once : (links : Links) → Once links → (p q s : ℕ) → page_slot links p ≡ Some s → page_slot links q ≡ Some s → p ≡ q
slot_once links once p q s hp hq =
    let a = slot_parts links p s hp in
    let b = slot_parts links q s hq in
    let keys : slot a.0 (p % 512) ≡ slot b.0 (q % 512) = sym a.1.is ∙ b.1.is in
    let nodes = same_node a.0 b.0 (p % 512) (q % 512) (digit_low p) (digit_low q) keys in
    same_page p q
    (once_at links once 3 (p / 512) (q / 512) a.0 (omega (arith, a.1.low)) (omega (arith, b.1.low)) a.1.at
    (b.1.at ∙ ap (λ (i : ℕ). Some i) (sym nodes)))
    (same_digit a.0 b.0 (p % 512) (q % 512) (digit_low p) (digit_low q) keys)

-- pages of one leaf have slots that lie one after the other
pub slot_near : (links : Links) (p i s : ℕ) → page_slot links p ≡ Some s → p % 512 + i < 512 → page_slot links (p + i) ≡ Some (s + i)
slot_near links p i s h near =
    let a = slot_parts links p s h in
    let above : (p + i) / 512 ≡ p / 512 = omega (arith, near) in
    let last : slot a.0 ((p + i) % 512) ≡ s + i = omega (arith, near, a.1.is) in
    slot_has links (p + i) a.0 (omega (arith, near, a.1.low)) (ap (λ (k : ℕ). node_at links 3 k) above ∙ a.1.at)
    ∙ ap (λ (k : ℕ). Some k) last

-- More links.

kept_below : (old new : Links) (d : ℕ) → ((k c : ℕ) → get old k ≡ Some c → get new k ≡ Some c) → (p q : Option ℕ) (n : ℕ)
    → ((m : ℕ) → p ≡ Some m → q ≡ Some m) → child_at old p d ≡ Some n → child_at new q d ≡ Some n
kept_below old new d kept None q n above h = cc
kept_below old new d kept (Some m) q n above h = ap (λ (o : Option ℕ). child_at new o d) (above m refl) ∙ kept (slot m d) n h

pub kept_at : (old new : Links) → ((k c : ℕ) → get old k ≡ Some c → get new k ≡ Some c) → (level a n : ℕ) → node_at old level a ≡ Some n
    → node_at new level a ≡ Some n
kept_at old new kept zero a n h = h
kept_at old new kept (suc level) a n h =
    kept_below old new (a % 512) kept (node_at old level (a / 512)) (node_at new level (a / 512)) n (λ m is. kept_at old new kept level (a / 512) m is) h

-- A new node, to which one link leads and from which none does.

record IsFresh (old new : Links) (fresh : ℕ) : Type 0 where
  kept : (k c : ℕ) → get old k ≡ Some c → get new k ≡ Some c
  only : (k c : ℕ) → get new k ≡ Some c → (c ≡ fresh) ⊎ (get old k ≡ Some c)
  ends : (k c : ℕ) → get new k ≡ Some c → k < 512 * fresh

new_below : (old new : Links) (fresh d : ℕ) → IsFresh old new fresh → (p q : Option ℕ) (n : ℕ)
    → ((m : ℕ) → q ≡ Some m → (m ≡ fresh) ⊎ (p ≡ Some m)) → child_at new q d ≡ Some n → (n ≡ fresh) ⊎ (child_at old p d ≡ Some n)
new_below old new fresh d is p None n above h = cc
new_below old new fresh d is p (Some m) n above h = by (above m refl)
  where
    by : (m ≡ fresh) ⊎ (p ≡ Some m) → (n ≡ fresh) ⊎ (child_at old p d ≡ Some n)
    by (inl same) = absurd (omega (arith, same, is.ends (slot m d) n h))
    by (inr there) = by_link (is.only (slot m d) n h)
      where
        by_link : (n ≡ fresh) ⊎ (get old (slot m d) ≡ Some n) → (n ≡ fresh) ⊎ (child_at old p d ≡ Some n)
        by_link (inl same) = inl same
        by_link (inr has) = inr (ap (λ (o : Option ℕ). child_at old o d) there ∙ has)

new_at : (old new : Links) (fresh : ℕ) → IsFresh old new fresh → (level a n : ℕ) → node_at new level a ≡ Some n
    → (n ≡ fresh) ⊎ (node_at old level a ≡ Some n)
new_at old new fresh is zero a n h = inr h
new_at old new fresh is (suc level) a n h =
    new_below old new fresh (a % 512) is (node_at old level (a / 512)) (node_at new level (a / 512)) n
    (λ m there. new_at old new fresh is level (a / 512) m there) h

same_look : (has : ℕ → Option PageEntry) (fresh d : ℕ) → EndBy has (512 * fresh) → (p q : Option ℕ)
    → ((m : ℕ) → p ≡ Some m → q ≡ Some m) → ((m : ℕ) → q ≡ Some m → (m ≡ fresh) ⊎ (p ≡ Some m)) → look has (slot_in q d) ≡ look has (slot_in p d)
same_look has fresh d ends (Some m) q kept new = ap (λ (o : Option ℕ). look has (slot_in o d)) (kept m refl)
same_look has fresh d ends None None kept new = refl
same_look has fresh d ends None (Some m) kept new = by (new m refl)
  where
    by : (m ≡ fresh) ⊎ (◌≡◌ {A = Option ℕ} None (Some m)) → has (slot m d) ≡ None
    by (inl same) = ends (slot m d) (omega (arith, same))
    by (inr absent) = cc

looks_same : (old new : Links) (fresh : ℕ) → IsFresh old new fresh → (has : ℕ → Option PageEntry) → EndBy has (512 * fresh) → (page : ℕ)
    → look has (page_slot new page) ≡ look has (page_slot old page)
looks_same old new fresh is has ends page = by (nat_lt page page_end)
  where
    by : (b : Bool) → look has (cond b (slot_in (node_at new 3 (page / 512)) (page % 512)) None)
        ≡ look has (cond b (slot_in (node_at old 3 (page / 512)) (page % 512)) None)
    by false = refl
    by true = same_look has fresh (page % 512) ends (node_at old 3 (page / 512)) (node_at new 3 (page / 512))
        (λ m h. kept_at old new is.kept 3 (page / 512) m h) (λ m h. new_at old new fresh is 3 (page / 512) m h)

-- One link more.

linked : (old : Links) (key fresh : ℕ) → get old key ≡ None → key < 512 * fresh
    → ((k c : ℕ) → get old k ≡ Some c → (k < 512 * fresh) × (c < fresh)) → IsFresh old (insert old key fresh) fresh
linked old key fresh free low below = record {
  kept = λ k c h. by_key k key
      (λ same. let none = sym h ∙ ap (get old) same ∙ free in cc)
      (λ other. get_other old key k fresh other ∙ h);
  only = λ k c h. by_key k key
      (λ same. inl (value c fresh (sym h ∙ get_same old key k fresh same)))
      (λ other. inr (sym (get_other old key k fresh other) ∙ h));
  ends = λ k c h. by_key k key
      (λ same. omega (arith, same, low))
      (λ other. (below k c (sym (get_other old key k fresh other) ∙ h)).0);
}
  where
    value : (a b : ℕ) → ◌≡◌ {A = Option ℕ} (Some a) (Some b) → a ≡ b
    value a b h = cc

linked_once : (old : Links) (key fresh : ℕ) → ((k c : ℕ) → get old k ≡ Some c → c < fresh) → Once old → Once (insert old key fresh)
linked_once old key fresh below once j k c hj hk = by_key j key
    (λ same. by_key k key
    (λ too. omega (arith, same, too))
    (λ other. absurd (omega (arith, mine j c same hj, below k c (theirs k c other hk)))))
    (λ other. by_key k key
    (λ too. absurd (omega (arith, mine k c too hk, below j c (theirs j c other hj))))
    (λ both. once j k c (theirs j c other hj) (theirs k c both hk)))
  where
    value : (a b : ℕ) → ◌≡◌ {A = Option ℕ} (Some a) (Some b) → a ≡ b
    value a b h = cc

    mine : (j c : ℕ) → j ≡ key → get (insert old key fresh) j ≡ Some c → c ≡ fresh
    mine j c same h = value c fresh (sym h ∙ get_same old key j fresh same)

    theirs : (j c : ℕ) → (j ≡ key → ⊥) → get (insert old key fresh) j ≡ Some c → get old j ≡ Some c
    theirs j c other h = sym (get_other old key j fresh other) ∙ h

linked_low : (old : Links) (key fresh : ℕ) → key < 512 * fresh → ((k c : ℕ) → get old k ≡ Some c → (k < 512 * fresh) × (c < fresh))
    → (k c : ℕ) → get (insert old key fresh) k ≡ Some c → (k < 512 * (fresh + 1)) × (c < fresh + 1)
linked_low old key fresh low below k c h = by_key k key
    (λ same.
    let is = value c fresh (sym h ∙ get_same old key k fresh same) in
    (omega (arith, same, low), omega (arith, is)))
    (λ other.
    let had = below k c (sym (get_other old key k fresh other) ∙ h) in
    (omega (arith, had.0), omega (arith, had.1)))
  where
    value : (a b : ℕ) → ◌≡◌ {A = Option ℕ} (Some a) (Some b) → a ≡ b
    value a b h = cc

kept_spot : (old new : Links) (node : ℕ) → ((k c : ℕ) → get old k ≡ Some c → get new k ≡ Some c) → IsNodeOfPath old node → IsNodeOfPath new node
kept_spot old new node kept spot = record {
  level = spot.level;
  above = spot.above;
  deep = spot.deep;
  low = spot.low;
  at = kept_at old new kept spot.level spot.above node spot.at;
}

fresh_spot : (old new : Links) (node d fresh : ℕ) → ((k c : ℕ) → get old k ≡ Some c → get new k ≡ Some c) → IsUpper old node → d < 512
    → get new (slot node d) ≡ Some fresh → IsNodeOfPath new fresh
fresh_spot old new node d fresh kept upper low has =
    let q = 512 * upper.above + d in
    let front : q / 512 ≡ upper.above = omega (arith, low) in
    let last : q % 512 ≡ d = omega (arith, low) in
    record {
      level = suc upper.level;
      above = q;
      deep = omega (arith, upper.deep);
      low = omega (arith, upper.low, low);
      at = ap (λ (k : ℕ). child_at new (node_at new upper.level k) (q % 512)) front
          ∙ ap (λ (o : Option ℕ). child_at new o (q % 512)) (kept_at old new kept upper.level upper.above node upper.at)
          ∙ ap (λ (k : ℕ). get new (slot node k)) last ∙ has;
    }

len_free : (m : Links) (k c : ℕ) → get m k ≡ None → len (insert m k c) ≡ len m + 1
len_free m k c free = len-insert nat_cmp_total m k c ∙ ap (λ (o : Option ℕ). cond (is_some o) (len m) (len m + 1)) free

pub grown : (old new : Links) (node d : ℕ) → IsTree old → IsUpper old node → d < 512 → slot node d < 512 * (len old + 1)
    → get old (slot node d) ≡ None → new ≡ insert old (slot node d) (len old + 1) → HaveGrown old new
grown old new node d tree upper digit low free is =
    let key = slot node d in
    let fresh = len old + 1 in
    let grew : len new ≡ len old + 1 = ap len is ∙ len_free old key fresh free in
    let fresh_one : IsFresh old new fresh =
    subst (λ (m : Links). IsFresh old m fresh) (sym is) (linked old key fresh free low tree.low) in
    record {
      tree = record {
        spots = λ c lt. by_key c fresh
            (λ same_node. subst (λ k. IsNodeOfPath new k) (sym same_node)
            (fresh_spot old new node d fresh fresh_one.kept upper digit
            (ap (λ (m : Links). get m key) is ∙ get_same old key key fresh refl)))
            (λ other. kept_spot old new c fresh_one.kept (tree.spots c (omega (arith, lt, grew, other))));
        low = λ k c h.
            let is_low = linked_low old key fresh low tree.low k c (ap (λ (m : Links). get m k) (sym is) ∙ h) in
            (omega (arith, is_low.0, grew), omega (arith, is_low.1, grew));
        once = subst Once (sym is) (linked_once old key fresh (λ k c h. (tree.low k c h).1) tree.once);
      };
      more = omega (arith, grew);
      kept = fresh_one.kept;
      same = looks_same old new fresh fresh_one;
    }

pub grown_none : (old : Links) → IsTree old → HaveGrown old old
grown_none old tree = record { tree = tree; more = omega arith; kept = λ k c h. h; same = λ has ends page. refl }

pub grown_more : (old mid new : Links) → HaveGrown old mid → HaveGrown mid new → HaveGrown old new
grown_more old mid new first second = record {
  tree = second.tree;
  more = omega (arith, first.more, second.more);
  kept = λ k c h. second.kept k c (first.kept k c h);
  same = λ has ends page.
      second.same has (λ s le. ends s (omega (arith, le, first.more))) page ∙ first.same has ends page;
}

-- A node has a child.

pub child_there : (old : Links) (node d child : ℕ) → IsTree old → get old (slot node d) ≡ Some child → HasChild old node d old child
child_there old node d child tree there = record {
  grown = grown_none old tree;
  there = there;
  low = (tree.low (slot node d) child there).1;
}

pub child_made : (old new : Links) (node d child : ℕ) → IsTree old → IsUpper old node → node < len old + 1 → d < 512
    → get old (slot node d) ≡ None → child ≡ len old + 1 → new ≡ insert old (slot node d) child → HasChild old node d new child
child_made old new node d child tree upper low dl free is made =
    let same : new ≡ insert old (slot node d) (len old + 1) = made ∙ ap (λ (c : ℕ). insert old (slot node d) c) is in
    let grew : len new ≡ len old + 1 = ap len made ∙ len_free old (slot node d) child free in
    record {
      grown = grown old new node d tree upper dl (omega (arith, low, dl)) free same;
      there = ap (λ (m : Links). get m (slot node d)) made ∙ get_same old (slot node d) (slot node d) child refl;
      low = omega (arith, is, grew);
    }

-- A path leads to a leaf.

some_kept : (p q : Option ℕ) → ((m : ℕ) → p ≡ Some m → q ≡ Some m) → IsSome p → IsSome q
some_kept None q kept h = cc
some_kept (Some m) q kept h = ap is_some (kept m refl)

pub leaf_kept : (old new : Links) (above : ℕ) → HaveGrown old new → IsSome (node_at old 3 above)
    → IsSome (node_at new 3 above)
leaf_kept old new above more h =
    some_kept (node_at old 3 above) (node_at new 3 above) (λ m is. kept_at old new more.kept 3 above m is) h

pub leaves_none : (old : Links) (from : ℕ) → IsTree old → HaveLeaves old from from old
leaves_none old from tree = record { grown = grown_none old tree; there = λ a le lt. absurd (omega (arith, le, lt)) }

pub leaves_more : (old mid new : Links) (from at : ℕ) → from ≤ at → HaveLeaves old from at mid → HasLeaf mid at new
    → HaveLeaves old from (at + 1) new
leaves_more old mid new from at le first second = record {
  grown = grown_more old mid new first.grown second.grown;
  there = λ a low lt. by_key a at
      (λ same. subst (λ k. IsSome (node_at new 3 k)) (sym same) second.there)
      (λ other. leaf_kept mid new a second.grown (first.there a low (omega (arith, lt, other))));
}

-- Nodes of a path that are no leaves.

pub upper_first : (links : Links) (d first : ℕ) → d < 512 → get links (slot 0 d) ≡ Some first → IsUpper links first
upper_first links d first low has =
    let last : d % 512 ≡ d = omega (arith, low) in
    record { level = 1; above = d; deep = omega arith; low = omega (arith, low); at = ap (λ (k : ℕ). get links (slot 0 k)) last ∙ has }

pub upper_second : (links : Links) (d e first second : ℕ) → d < 512 → e < 512 → get links (slot 0 d) ≡ Some first → get links (slot first e) ≡ Some second
    → IsUpper links second
upper_second links d e first second low low_too has next =
    let q = 512 * d + e in
    let front : q / 512 % 512 ≡ d = omega (arith, low, low_too) in
    let last : q % 512 ≡ e = omega (arith, low_too) in
    record {
      level = 2;
      above = q;
      deep = omega arith;
      low = omega (arith, low, low_too);
      at = ap (λ (k : ℕ). child_at links (get links (slot 0 k)) (q % 512)) front
          ∙ ap (λ (o : Option ℕ). child_at links o (q % 512)) has ∙ ap (λ (k : ℕ). get links (slot first k)) last ∙ next;
    }

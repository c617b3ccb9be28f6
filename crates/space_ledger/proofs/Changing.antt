use Rattle.space_ledger.proofs.Common.{◌≡◌, ℕ, ◌^◌, ◌≤◌, ◌<◌, ◌⊎◌, true, false, Some, is_some, IsSome, option_map, sym, ap, subst, ◌∙◌, arith, inl, inr, same_Some, get, insert, len, LAST_SPACE, PAGE_END}
use Rattle.space_ledger.proofs.Pages.{alike, by_key, get_other, get_same, viewed_same, holds, is_within, IsName, overlay_page, space_of, is_name, page_back, same_page, same_space, space_back, Entry}
use Rattle.space_ledger.proofs.Views.{by_test, map_alike, page_in, put_space, mapped, mapped_space, Inside, OverlaidSpace, LedgerView, IsLined, AreTables, IsShown, Overlays, plain, seen, seen_page}
use Rattle.overlay_address.specs.Names.{page_of as page_named}
use Rattle.overlay_mapping_table.specs.Table.{NamedEntries}
use Rattle.space_ledger.proofs.Seen.{Shows, found, frames_is, plain_at, space_seen, zero_is}

-- One space of the tables is changed, in a range of its pages, with their overlays: what is seen then, and that what is true is kept.

-- the tables with a space put in, and with other overlays
abbrev pub made : Inside → ℕ → OverlaidSpace → NamedEntries → Inside
made t s y new = record t { spaces = insert t.spaces s y; overlays = new }

-- the overlays beside those of the range are as they were
pub record AreBeside (t : Inside) (s from n : ℕ) (new : NamedEntries) : Type 0 where
  pub others : (m : ℕ) → (get new.entries m ≡ get t.overlays.entries m) ⊎ ((q : ℕ) × (is_within from n q ≡ true) × (m ≡ overlay_page s q))
  pub lined : (m : ℕ) (e : Entry) → get new.entries m ≡ Some e → IsLined e
  pub room : new.room ≡ t.overlays.room
  pub most : len new.entries ≤ new.room

-- what is seen of the space, the pages in the range, and those beside it
pub record IsChange (v : LedgerView) (s from n : ℕ) (x y : OverlaidSpace) (new : Overlays) (w : LedgerView) : Type 0 where
  pub is : w ≡ put_space v s (mapped_space (seen_page new s) y.table)
  pub inside : (q : ℕ) → is_within from n q ≡ true → IsShown new s y q × (IsSome (get new (overlay_page s q)) → IsSome (get y.table.pages q))
  pub beside : (q : ℕ) → is_within from n q ≡ false → (is_some (get y.table.pages q) ≡ is_some (get x.table.pages q)) × (IsSome (get y.table.pages q) → holds y.overlaid q ≡ holds x.overlaid q)

-- the space as it was, or one without a page where there was none
pub record WasAt (t : Inside) (s : ℕ) (x : OverlaidSpace) : Type 0 where
  pub number : s ≤ LAST_SPACE
  pub pages : (q : ℕ) → page_in (plain t) s q ≡ get x.table.pages q
  pub shown : (q : ℕ) → IsSome (get x.table.pages q) → IsShown t.overlays.entries s x q

module _ {t : Inside} {v : LedgerView} (show : Shows t v) {s from n : ℕ} {x y : OverlaidSpace} {new : NamedEntries} {w : LedgerView}
    (was : WasAt t s x) (over : AreBeside t s from n new) (change : IsChange v s from n x y new.entries w) where
  mine : s < 2 ^ 15
  mine = let low = was.number in omega (arith, low)

  still : (r q : ℕ) → r ≤ LAST_SPACE → q < PAGE_END → (r ≡ s → is_within from n q ≡ true → ⊥) → get new.entries (overlay_page r q) ≡ get t.overlays.entries (overlay_page r q)
  still r q lr lq differs = by (over.others (overlay_page r q))
    where
      by : (get new.entries (overlay_page r q) ≡ get t.overlays.entries (overlay_page r q)) ⊎ ((k : ℕ) × (is_within from n k ≡ true) × (overlay_page r q ≡ overlay_page s k))
          → get new.entries (overlay_page r q) ≡ get t.overlays.entries (overlay_page r q)
      by (inl same) = same
      by (inr (k, within, name)) =
          let low = (change.inside k within).0.0 in
          absurd (differs (same_space r q s k (omega (arith, lr)) (omega (arith, lq)) mine (omega (arith, low)) name)
          (ap (is_within from n) (same_page r q s k (omega (arith, lr)) (omega (arith, lq)) mine (omega (arith, low)) name) ∙ within))

  -- the pages of the space
  page_shown : (q : ℕ) → IsSome (get y.table.pages q) → IsShown new.entries s y q
  page_shown q some = by_test (is_within from n q) (λ within. (change.inside q within).0) (λ out.
      let same = change.beside q out in
      let own = was.shown q (sym same.0 ∙ some) in
      (own.0, same.1 some ∙ own.1 ∙ ap is_some (sym (still s q was.number own.0 (λ _ within. let no = sym within ∙ out in cc)))))

  -- each overlay is that of a page
  page_placed : (m : ℕ) → IsSome (get new.entries m) → IsName m × IsSome (page_in (plain (made t s y new)) (space_of m) (page_named m))
  page_placed m some = by (over.others m)
    where
      at_y : space_of m ≡ s → IsSome (get y.table.pages (page_named m)) → IsSome (page_in (plain (made t s y new)) (space_of m) (page_named m))
      at_y same there = ap is_some (plain_at (made t s y new) (space_of m) y (get_same t.spaces s (space_of m) y same) (page_named m)) ∙ there

      in_space : IsName m → space_of m ≡ s → IsSome (page_in (plain t) (space_of m) (page_named m)) → IsSome (get y.table.pages (page_named m))
      in_space name same there = by_test (is_within from n (page_named m))
          (λ within. (change.inside (page_named m) within).1 (ap (λ k. is_some (get new.entries k)) (sym (name ∙ ap (λ k. overlay_page k (page_named m)) same)) ∙ some))
          (λ out. (change.beside (page_named m) out).0 ∙ ap is_some (sym (was.pages (page_named m))) ∙ ap (λ k. is_some (page_in (plain t) k (page_named m))) (sym same) ∙ there)

      by : (get new.entries m ≡ get t.overlays.entries m) ⊎ ((q : ℕ) × (is_within from n q ≡ true) × (m ≡ overlay_page s q)) → IsName m × IsSome (page_in (plain (made t s y new)) (space_of m) (page_named m))
      by (inl is) =
          let old = show.own.placed m (sym (ap is_some is) ∙ some) in (
            old.0,
            by_key (space_of m) s
                (λ same. at_y same (in_space old.0 same old.1))
                (λ differs. let z = found t (space_of m) (page_named m) old.1 in
                ap is_some (plain_at (made t s y new) (space_of m) z.0 (get_other t.spaces s (space_of m) y differs ∙ z.1) (page_named m)) ∙ z.2),
          )
      by (inr (q, within, is)) =
          let low = (change.inside q within).0.0 in
          let name : IsName m = subst IsName (sym is) (is_name s q mine (omega (arith, low))) in
          let page = ap page_named is ∙ page_back s q mine (omega (arith, low)) in (
            name,
            at_y (ap space_of is ∙ space_back s q mine (omega (arith, low)))
                (ap (λ k. is_some (get y.table.pages k)) page ∙ (change.inside q within).1 (ap (λ k. is_some (get new.entries k)) (sym is) ∙ some)),
          )

  own_made : AreTables (made t s y new)
  own_made = record {
    numbers = λ r some. by_key r s (λ same. subst (λ k. k ≤ LAST_SPACE) (sym same) was.number) (λ d. show.own.numbers r (sym (ap is_some (get_other t.spaces s r y d)) ∙ some));
    pages = λ r q z there some. by_key r s
        (λ same. subst (λ k. IsShown new.entries k z q) (sym same)
        (subst (λ (k : OverlaidSpace). IsSome (get k.table.pages q) → IsShown new.entries s k q) (same_Some y z (sym (get_same t.spaces s r y same) ∙ there)) (page_shown q) some))
        (λ d.
        let at = sym (get_other t.spaces s r y d) ∙ there in
        let own = show.own.pages r q z at some in
        (own.0, own.1 ∙ ap is_some (sym (still r q (show.own.numbers r (ap is_some at)) own.0 (λ same _. d same)))));
    placed = page_placed;
    lined = over.lined;
    roomy = over.room ∙ show.own.roomy;
    most = over.most;
  }

  seen_made : seen (made t s y new) ≡ w
  unfolding seen mapped put_space
  seen_made = (λ i. record { spaces = all i; frames = sym (frames_is show.is show.own) i; zero_frame = sym (zero_is show.is show.own) i }) ∙ sym change.is
    where
      all : (seen (made t s y new)).spaces ≡ insert v.spaces s (mapped_space (seen_page new.entries s) y.table)
      all = alike _ _ (λ q. space_seen (made t s y new) q ∙ by_key q s
          (λ same. ap (option_map (λ (z : OverlaidSpace). mapped_space (seen_page new.entries q) z.table)) (get_same t.spaces s q y same)
          ∙ ap (λ k. Some (mapped_space (seen_page new.entries k) y.table)) same ∙ sym (get_same v.spaces s q (mapped_space (seen_page new.entries s) y.table) same))
          (λ d. ap (option_map (λ (z : OverlaidSpace). mapped_space (seen_page new.entries q) z.table)) (get_other t.spaces s q y d)
          ∙ map_alike _ _ (get t.spaces q) (λ z at. ap (λ m. record { pages = m; awaiting = z.table.awaiting; speculating = z.table.speculating })
          (viewed_same (seen_page new.entries q) (seen_page t.overlays.entries q) z.table.pages (λ p e is. ap (λ o. record { entry = e; overlay = o })
          (still q p (show.own.numbers q (ap is_some at)) (show.own.pages q p z at (ap is_some is)).0 (λ same _. d same)))))
          ∙ sym (space_seen t q) ∙ ap (λ (u : LedgerView). get u.spaces q) show.is ∙ sym (get_other v.spaces s q (mapped_space (seen_page new.entries s) y.table) d)))

  pub changed : Shows (made t s y new) w
  changed = record { is = seen_made; own = own_made }

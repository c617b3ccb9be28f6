use Rattle.std.proofs.Common.{◌≡◌, ℕ, zero, suc, ◌+◌, ◌<◌, ◌≤◌, Bool, true, false, cond, not, ◌&&◌, List, [], ◌∷◌, length, Option, Some, None, is_some, refl, sym, ap, subst, ◌∙◌, arith}
use Rattle.std.specs.Prelude.{IfSome, IsSome, nat_le}
use Rattle.std.proofs.lemmas.Bool.{and_parts}
use Rattle.std.proofs.lemmas.Bool.Decides.{nat_tests}
use Rattle.std.specs.Option.{option_map}
use Rattle.std.specs.FinMap.{get}
use Rattle.ledger.specs.Alike.{AreAlike}
use Rattle.ledger.specs.AlikeLaws.{alike_altered, alike_itself}
use Rattle.ledger.specs.AloneLaws.{arent, unused_without}
use Rattle.ledger.specs.Changes.{is_large, joined, settled, with_line, with_lines, without_own}
use Rattle.ledger.specs.ClassLaws.{class_many}
use Rattle.ledger.specs.Events.{Store, ledger_after}
use Rattle.ledger.specs.Ledger.{Ledger, is_alone, with_page}
use Rattle.ledger.specs.RowLaws.{settled_new}
use Rattle.ledger.specs.StoreLaws.{joined_alone, joined_there, large_there, store_joins, store_nothing, stored_new, stored_settles, units_joined, units_store}
use Rattle.ledger.specs.Units.{units}
use Rattle.overlay_pages.specs.State.{PageState, State, base_of, books, held_page, memory_of}
use Rattle.sizes.specs.declared.TheConstants.{PAGE_LINES}
use Rattle.overlay_bits.specs.Laws.{count_with}
use Rattle.overlay_bits.specs.Lines as bits
use Rattle.overlay_bits.specs.Lines.{AreLines, has_line}
use Rattle.ledger.specs.Ledger.{Holding, is_unused}
use Rattle.ledger.specs.PlaceLaws.{gone_over, put_here}
use Rattle.ledger.specs.UnitLaws.{alone_is}
use Rattle.space_ledger.specs.Joined.{joined_same, put_same}
use Rattle.overlay_memory.specs.CountLaws.{has_lines}
use Rattle.overlay_pages.specs.Changes.{Fits, HasCopyRoom, IsPlaced, copied, is_writable, limit_of, writes_frame}
use Rattle.overlay_memory.specs.PageLaws.{has_page, held_there}
use Rattle.overlay_memory.specs.Pieces.{ComesToBeLarge, KeepsAllElse, Settles, is_to_settle}
use Rattle.overlay_memory.specs.SmallLaws.{few_not_large, large_is}
use Rattle.overlay_memory.specs.StateMemory.{base_beside, beside_put, beside_same, memory_kept, writable_at}
use Rattle.overlay_memory.proofs.Bringing.{joined_books}
use Rattle.space_maps.specs.Books.{books_put_page}
use Rattle.space_maps.specs.Options.{by_test}
use Rattle.space_maps.specs.Laws.{page_put_beside, page_put_here}
use Rattle.space_maps.specs.Spaces.{page_in, space_in}
use Rattle.overlay_memory.specs.View.{AreTrue, cached_in, cached_page}
use Rattle.translation_cache.specs.Bare.{bare, bare_updated}
use Rattle.translation_cache.specs.Finding.{by_page, found_beside, found_updated}
use Rattle.translation_cache.specs.Formed.{IsFormed}
use Rattle.translation_cache.specs.Translations.{Translations, found, with_cached}
use Rattle.translation_cache.specs.declared.cached.Cached.{Cached}

-- A page that was stored to, and is settled where it is large.

-- one that was placed in a new frame with its lines
pub record IsPlacedAnew (old new : State) (s p : ℕ) : Type 0 where
  pub x : PageState
  pub there : page_in old s p ≡ Some x
  pub placed : IsPlaced old new s p (λ frame. copied frame x)

pub placed_anew : (old new : State) (s p : ℕ) → IsSome (page_in old s p) → IfSome (page_in old s p) (λ x. IsPlaced old new s p (λ frame. copied frame x)) → IsPlacedAnew old new s p
placed_anew old new s p some placed =
    let at = has_page old s p some in
    record { x = at.x; there = at.there; placed = subst (λ o. IfSome o (λ x. IsPlaced old new s p (λ frame. copied frame x))) at.there placed }

-- it is there then
pub anew_there : (old new : State) (s p : ℕ) → IsPlacedAnew old new s p → is_some (page_in new s p) ≡ true
anew_there old new s p anew =
    ap (λ v. is_some (page_in v s p)) anew.placed.placed ∙ ap is_some (page_put_here old s p (copied anew.placed.frame anew.x) s p refl refl)

-- What it leaves: the memory of the space, and all else but the page's frame.
pub record HasSettled (old new : State) (s p : ℕ) : Type 0 where
  pub memory : memory_of new s ≡ memory_of old s
  pub base : (space_in old s).speculating ≡ true → base_of new s ≡ base_of old s
  pub bases : (r : ℕ) → (r ≡ p → ⊥) → get (base_of new s) r ≡ get (base_of old s) r
  pub beside : KeepsAllElse old new s

-- the two ways
pub settle_ways : (P : State → Type 0) (old new : State) (s p : ℕ) → Settles old new s p → IsSome (page_in old s p) → (is_to_settle old s p ≡ false → P old)
    → (is_to_settle old s p ≡ true → IsPlacedAnew old new s p → P new) → P new
settle_ways P old new s p settles some still placed = by_test (is_to_settle old s p)
    (λ yes_. placed yes_ (placed_anew old new s p some (settles.placed yes_)))
    (λ no_. subst P (sym (settles.still no_)) (still no_))

pub settled_none : (v : State) (s p : ℕ) → HasSettled v v s p
settled_none v s p = record { memory = refl; base = λ on. refl; bases = λ r other. refl; beside = beside_same v s }

off_where : (v : State) (s p : ℕ) → is_to_settle v s p ≡ true → (space_in v s).speculating ≡ false
off_where v s p is = at (is_large (books v) s p) (space_in v s).speculating (not (is_alone (books v) s p)) is
  where
    at : (a b c : Bool) → (a && (not b && c)) ≡ true → b ≡ false
    at true false c h = refl
    at true true c h = cc
    at false b c h = cc

-- where it was placed in a new frame
anew_kept : (old new : State) (s p : ℕ) → (space_in old s).speculating ≡ false → IsPlacedAnew old new s p → HasSettled old new s p
anew_kept old new s p off anew =
    let y : PageState = copied anew.placed.frame anew.x in
    subst (λ v. HasSettled old v s p) (sym anew.placed.placed) (record {
      memory = memory_kept old s p y anew.x anew.there refl;
      base = λ on. cc;
      bases = λ r other. base_beside old s p y r other;
      beside = beside_put old s p y anew.x anew.there refl;
    })

pub has_settled : (old new : State) (s p : ℕ) → Settles old new s p → IsSome (page_in old s p) → HasSettled old new s p
has_settled old new s p settles some = settle_ways (λ v. HasSettled old v s p) old new s p settles some
    (λ no_. settled_none old s p)
    (λ yes_ anew. anew_kept old new s p (off_where old s p yes_) anew)

-- The ledger: that after the store, where its lines joined before.

record Apart (large speculating alone : Bool) : Type 0 where
  frame : (not speculating && alone) ≡ false
  shared : alone ≡ false
  is_large : (not speculating && large) ≡ true

-- a page that was placed
placed_books : (old new : State) (s p : ℕ) (anew : IsPlacedAnew old new s p) → books new ≡ with_page (books old) s p (without_own (anew.placed.frame + 1))
placed_books old new s p anew =
    ap books anew.placed.placed ∙ books_put_page held_page old s p (copied anew.placed.frame anew.x)
    ∙ ap (λ b. with_page (books old) s p (without_own (cond b 0 (anew.placed.frame + 1)))) (arent anew.placed.frame old.zero_frame anew.placed.fresh.other)

module _ (v : State) (s p : ℕ) (lines : List ℕ) (x : PageState) (there : page_in v s p ≡ Some x) where
  abbrev pub row : Ledger
  row = ledger_after (Store (space_in v s).speculating s ((p, lines) ∷ [])) (books v)

  in_frame : writes_frame v s p ≡ true → joined_books v s p lines ≡ books v
  in_frame frame = ap (λ b. cond b (books v) (joined (books v) s p lines)) frame

  in_overlay : writes_frame v s p ≡ false → joined_books v s p lines ≡ joined (books v) s p lines
  in_overlay apart = ap (λ b. cond b (books v) (joined (books v) s p lines)) apart

  -- its units are those with the lines joined
  pub row_units : units row ≡ units (joined_books v s p lines)
  row_units = by_test (writes_frame v s p)
      (λ frame. ap units (store_nothing (space_in v s).speculating (books v) s p lines frame ∙ sym (in_frame frame)))
      (λ apart.
      let at = held_there v s p x there in
      let stored = units_store (space_in v s).speculating (books v) s p lines (held_page v.zero_frame x) at apart in
      let joins = units_joined (books v) s p lines (held_page v.zero_frame x) at in
      let same = ap units (in_overlay apart) in
      omega (arith, stored, joins, same))

  pub settled_row : (c d : State) → books c ≡ joined_books v s p lines → (space_in c s).speculating ≡ (space_in v s).speculating → Settles c d s p
      → IsSome (page_in c s p) → AreAlike (books d) row
  settled_row c d ledger mark settles some = settle_ways (λ e. AreAlike (books e) row) c d s p settles some
      (λ no_. subst (AreAlike (books c)) (still no_) (alike_itself (books c)))
      (λ yes_ anew. placed yes_ anew)
    where
      alone : is_alone (books c) s p ≡ is_alone (books v) s p
      alone = by_test (writes_frame v s p)
          (λ frame. ap (λ l. is_alone l s p) (ledger ∙ in_frame frame))
          (λ apart. ap (λ l. is_alone l s p) (ledger ∙ in_overlay apart) ∙ joined_alone (books v) s p lines s p)

      -- whether it is settled, by the ledger before
      tests : is_to_settle c s p ≡ (is_large (books c) s p && (not (space_in v s).speculating && not (is_alone (books v) s p)))
      tests = ap (λ b. is_large (books c) s p && (not b && not (is_alone (books c) s p))) mark
          ∙ ap (λ b. is_large (books c) s p && (not (space_in v s).speculating && not b)) alone

      still : is_to_settle c s p ≡ false → books c ≡ row
      still no_ = by_test (writes_frame v s p)
          (λ frame. ledger ∙ in_frame frame ∙ sym (store_nothing (space_in v s).speculating (books v) s p lines frame))
          (λ apart.
          ledger ∙ in_overlay apart
          ∙ sym (store_joins (space_in v s).speculating (books v) s p lines apart
          (ap (λ l. not (space_in v s).speculating && is_large l s p) (sym (ledger ∙ in_overlay apart))
          ∙ small (is_large (books c) s p) (space_in v s).speculating (is_alone (books v) s p) apart (sym tests ∙ no_))))
        where
          small : (a b e : Bool) → (not b && e) ≡ false → (a && (not b && not e)) ≡ false → (not b && a) ≡ false
          small a true e h k = refl
          small true false true h k = cc
          small true false false h k = cc
          small false false e h k = refl

      placed : is_to_settle c s p ≡ true → IsPlacedAnew c d s p → AreAlike (books d) row
      placed yes_ anew =
          let is = apart_where (is_large (books c) s p) (space_in v s).speculating (is_alone (books v) s p) (sym tests ∙ yes_) in
          let apart : writes_frame v s p ≡ false = is.frame in
          let joins = ledger ∙ in_overlay apart in
          let settles_row : row ≡ settled (books v) (joined (books v) s p lines) s p =
          stored_settles (space_in v s).speculating (books v) (books v) s p lines apart
          (ap (λ l. not (space_in v s).speculating && is_large l s p) (sym joins) ∙ is.is_large) in
          subst (λ l. AreAlike l row) (sym (placed_books c d s p anew))
          (subst (AreAlike (with_page (books c) s p (without_own (anew.placed.frame + 1)))) (sym settles_row)
          (alike_altered _ _
          (settled_new (books v) (joined (books v) s p lines) (books c) (subst (AreAlike (joined (books v) s p lines)) (sym joins) (alike_itself _)) s p
          (held_page c.zero_frame anew.x) (anew.placed.frame + 1) (held_there c s p anew.x anew.there) is.shared
          (unused_without (books c) s p (anew.placed.frame + 1) anew.placed.fresh.unused))))
        where
          apart_where : (a b e : Bool) → (a && (not b && not e)) ≡ true → Apart a b e
          apart_where true false false h = record { frame = refl; shared = refl; is_large = refl }
          apart_where true false true h = cc
          apart_where true true e h = cc
          apart_where false b e h = cc

-- Where it isn't large, it stays.
pub settles_none : (v : State) (s p : ℕ) → is_large (books v) s p ≡ false → Settles v v s p
settles_none v s p small = record {
  still = λ _. refl;
  placed = λ is. let no = sym (ap (λ b. b && (not (space_in v s).speculating && not (is_alone (books v) s p))) small) ∙ is in cc;
}

-- So it does while its space is speculating.
pub settles_later : (v : State) (s p : ℕ) → (space_in v s).speculating ≡ true → Settles v v s p
settles_later v s p on = record { still = λ _. refl; placed = λ is. let off = off_where v s p is in cc }

-- Whether it is settled, by its own lines, the mark and the frame.

pub small_stays : (v : State) (s p n : ℕ) (own : List ℕ) → option_map (λ (x : PageState). x.own) (page_in v s p) ≡ Some own → n ≡ length own → n < 32
    → false ≡ is_to_settle v s p
small_stays v s p n own is count few =
    sym (ap (λ b. b && (not (space_in v s).speculating && not (is_alone (books v) s p))) (large_is v s p own n is count ∙ few_not_large n (omega (arith, few))))

pub speculating_stays : (v : State) (s p : ℕ) → (space_in v s).speculating ≡ true → false ≡ is_to_settle v s p
speculating_stays v s p on = at (is_large (books v) s p) ∙ sym (ap (λ b. is_large (books v) s p && (not b && not (is_alone (books v) s p))) on)
  where
    at : (a : Bool) → false ≡ (a && false)
    at true = refl
    at false = refl

pub by_alone : (v : State) (s p n : ℕ) (own : List ℕ) (alone : Bool) → option_map (λ (x : PageState). x.own) (page_in v s p) ≡ Some own → n ≡ length own → 32 ≤ n
    → (space_in v s).speculating ≡ false → alone ≡ is_alone (books v) s p → not alone ≡ is_to_settle v s p
by_alone v s p n own alone is count many off frame =
    sym (ap (λ b. b && (not (space_in v s).speculating && not (is_alone (books v) s p))) (large_is v s p own n is count ∙ large n many)
    ∙ ap (λ b. not b && not (is_alone (books v) s p)) off ∙ ap not (sym frame))
  where
    large : (n : ℕ) → 32 ≤ n → nat_le 32 n ≡ true
    large n many = grind (arith, nat_tests)

-- What it needs: it is overlaid and not alone, and its segment is as large as the frame that it gets.

large_lines : (v : State) (s p : ℕ) (x : PageState) → page_in v s p ≡ Some x → is_to_settle v s p ≡ true → 32 ≤ length x.own
large_lines v s p x there is = at (length x.own)
    (sym (large_there (books v) s p (held_page v.zero_frame x) (held_there v s p x there)) ∙ (and_parts (is_large (books v) s p) _ is).0)
  where
    at : (n : ℕ) → nat_le 32 n ≡ true → 32 ≤ n
    at n e = grind (arith, nat_tests)

pub settle_overlaid : (v : State) (s p : ℕ) → IsSome (page_in v s p) → is_to_settle v s p ≡ true → IfSome (page_in v s p) (λ x. 0 < length x.own)
settle_overlaid v s p some is =
    let at = has_page v s p some in
    subst (λ o. IfSome o (λ (x : PageState). 0 < length x.own)) (sym at.there) (omega (arith, large_lines v s p at.x at.there is))

pub settle_shared : (v : State) (s p : ℕ) → is_to_settle v s p ≡ true → is_alone (books v) s p ≡ false
settle_shared v s p is = at (is_large (books v) s p) (space_in v s).speculating (is_alone (books v) s p) is
  where
    at : (a b c : Bool) → (a && (not b && not c)) ≡ true → c ≡ false
    at true false false h = refl
    at true false true h = cc
    at true true c h = cc
    at false b c h = cc

pub settle_room : (v : State) (s p : ℕ) → Fits v → is_to_settle v s p ≡ true → HasCopyRoom v s p
settle_room v s p fits is x there =
    let full = class_many (length x.own) (large_lines v s p x there is) in omega (arith, full, fits)

-- What it comes to, and what the entry of the page holds then.

pub settles_so : (old new : State) (s p : ℕ) → is_to_settle old s p ≡ true → IfSome (page_in old s p) (λ x. IsPlaced old new s p (λ frame. copied frame x)) → Settles old new s p
settles_so old new s p is placed = record { still = λ no_. cc; placed = λ yes_. placed }

pub lists_replaced : (s p : ℕ) (c : Cached) (t u : Translations Cached) → u ≡ with_cached s p c t → bare u ≡ bare t
lists_replaced s p c t u is = ap bare is ∙ bare_updated (λ _. c) s p t

pub replaced_true : (old new : State) (s p : ℕ) → IsPlacedAnew old new s p → (t u : Translations Cached) (c : Cached) → IsFormed t → u ≡ with_cached s p c t
    → cached_in new s p ≡ Some c → AreTrue old t → AreTrue new u
replaced_true old new s p anew t u c formed is here entries q r held found_now = by_page s p q r
    (λ same.
    ap (λ n. cached_in new n r) same.0 ∙ ap (cached_in new s) same.1 ∙ here
    ∙ is_c (found s p t) (sym (ap (found s p) is ∙ found_updated (λ _. c) s p t formed) ∙ sym (ap (λ n. found n r u) same.0 ∙ ap (λ n. found s n u) same.1) ∙ found_now))
    (λ other.
    ap (option_map cached_page)
    (ap (λ v. page_in v q r) anew.placed.placed ∙ page_put_beside old s p (copied anew.placed.frame anew.x) q r (λ one two. other (one, two)))
    ∙ entries q r held (sym (ap (found q r) is ∙ found_beside (λ _. c) s p q r t formed other) ∙ found_now))
  where
    is_c : (o : Option Cached) → option_map (λ _. c) o ≡ Some held → Some c ≡ Some held
    is_c None none = let no = ap is_some none in cc
    is_c (Some x) same = same

-- A page that is settled first: bytes go into its frame then, and the ledger is that after the store.

pub comes_large : (v : State) (s p n m : ℕ) (own lines both : List ℕ) (alone : Bool) → option_map (λ (x : PageState). x.own) (page_in v s p) ≡ Some own → n ≡ length own
    → (n ≡ 0 → ⊥) → AreLines own × AreLines lines → both ≡ bits.with_lines own lines → m ≡ length both → 32 ≤ m → (space_in v s).speculating ≡ false
    → alone ≡ is_alone (books v) s p → not alone ≡ true → ComesToBeLarge v s p lines
comes_large v s p n m own lines both alone is count some are union size many off frame shared =
    let h = has_lines v s p own is in record {
      off = off;
      shared = sym frame ∙ wasnt alone shared;
      overlaid = subst (λ o. IfSome o (λ (x : PageState). 0 < length x.own)) (sym h.there) (subst (λ (l : List ℕ). 0 < length l) (sym h.own_is) (above n count some));
      many = subst (λ o. IfSome o (λ (x : PageState). 32 ≤ length (with_lines x.own lines))) (sym h.there)
          (subst (λ (l : List ℕ). 32 ≤ length (with_lines l lines)) (sym h.own_is)
          (subst (λ (l : List ℕ). 32 ≤ length l) (union ∙ joined_same own lines are.0 are.1) (omega (arith, size, many))));
    }
  where
    wasnt : (b : Bool) → not b ≡ true → b ≡ false
    wasnt true h = cc
    wasnt false h = refl

    above : (n : ℕ) → n ≡ length own → (n ≡ 0 → ⊥) → 0 < length own
    above zero count some = absurd (some refl)
    above (suc n) count some = omega (arith, count)

module _ (v c : State) (s p : ℕ) (lines : List ℕ) (is : ComesToBeLarge v s p lines) (anew : IsPlacedAnew v c s p) where
  pub first_settled : HasSettled v c s p
  first_settled = anew_kept v c s p is.off anew

  first_many : nat_le 32 (length (with_lines anew.x.own lines)) ≡ true
  first_many = at (length (with_lines anew.x.own lines)) (subst (λ o. IfSome o (λ (x : PageState). 32 ≤ length (with_lines x.own lines))) anew.there is.many)
    where
      at : (n : ℕ) → 32 ≤ n → nat_le 32 n ≡ true
      at n many = grind (arith, nat_tests)

  -- it is alone then
  first_frame : writes_frame c s p ≡ true
  first_frame =
      ap (λ b. not b && is_alone (books c) s p) (first_settled.beside.mark ∙ is.off)
      ∙ ap (λ (l : Ledger). is_alone l s p) (placed_books v c s p anew)
      ∙ alone_is (with_page (books v) s p y) s p y (put_here (books v) s p y s p refl refl)
      ∙ ap (λ (l : Ledger). is_unused l (anew.placed.frame + 1)) (gone_over (books v) s p y)
      ∙ unused_without (books v) s p (anew.placed.frame + 1) anew.placed.fresh.unused
    where
      y : Holding
      y = without_own (anew.placed.frame + 1)

  pub first_writable : (line : ℕ) → is_writable c s p line ≡ true
  first_writable line =
      writable_at c s p line (copied anew.placed.frame anew.x)
      (ap (λ w. page_in w s p) anew.placed.placed ∙ page_put_here v s p (copied anew.placed.frame anew.x) s p refl refl) ∙ first_frame

  pub first_row : AreAlike (books c) (ledger_after (Store (space_in v s).speculating s ((p, lines) ∷ [])) (books v))
  first_row =
      subst (λ l. AreAlike l (ledger_after (Store (space_in v s).speculating s ((p, lines) ∷ [])) (books v))) (sym (placed_books v c s p anew))
      (subst (λ b. AreAlike (with_page (books v) s p (without_own (anew.placed.frame + 1))) (ledger_after (Store b s ((p, lines) ∷ [])) (books v))) (sym is.off)
      (alike_altered _ _
      (stored_new (books v) (books v) (books v) (alike_itself (books v)) s p lines (held_page v.zero_frame anew.x) (anew.placed.frame + 1) (held_there v s p anew.x anew.there)
      is.shared first_many (unused_without (books v) s p (anew.placed.frame + 1) anew.placed.fresh.unused))))

-- there is room for it where there is for the store
pub first_room : (v : State) (s p : ℕ) (lines : List ℕ) → ComesToBeLarge v s p lines
    → units (ledger_after (Store (space_in v s).speculating s ((p, lines) ∷ [])) (books v)) ≤ limit_of v → HasCopyRoom v s p
first_room v s p lines is fits x there =
    let stored = units_store (space_in v s).speculating (books v) s p lines (held_page v.zero_frame x) (held_there v s p x there)
    (ap (λ b. not (space_in v s).speculating && b) is.shared ∙ none (space_in v s).speculating) in
    let full = class_many (length (with_lines x.own lines)) (subst (λ o. IfSome o (λ (x : PageState). 32 ≤ length (with_lines x.own lines))) there is.many) in
    omega (arith, stored, full, fits)
  where
    none : (b : Bool) → (not b && false) ≡ false
    none true = refl
    none false = refl

-- A page to which lines were joined isn't large where its own lines are few then.
pub joined_small : (v : State) (s p : ℕ) (lines : List ℕ) (x : PageState) → page_in v s p ≡ Some x → length x.own ≤ 31 → length (with_lines x.own lines) ≤ 31
    → is_large (joined_books v s p lines) s p ≡ false
joined_small v s p lines x there before after = by_test (writes_frame v s p)
    (λ frame.
    ap (λ l. is_large l s p) (in_frame v s p lines x there frame)
    ∙ large_there (books v) s p (held_page v.zero_frame x) (held_there v s p x there) ∙ few_not_large (length x.own) before)
    (λ apart.
    ap (λ l. is_large l s p) (in_overlay v s p lines x there apart ∙ joined_there (books v) s p lines (held_page v.zero_frame x) (held_there v s p x there))
    ∙ large_there (with_page (books v) s p y) s p y (put_here (books v) s p y s p refl refl) ∙ few_not_large (length (with_lines x.own lines)) after)
  where
    y : Holding
    y = record { origin = (held_page v.zero_frame x).origin; own = with_lines x.own lines }

-- one line more
pub joined_few : (own : List ℕ) (line : ℕ) → AreLines own → line < PAGE_LINES → length own < 31 → length (with_lines own (line ∷ [])) ≤ 31
unfolding with_lines
joined_few own line are low few =
    let one = ap length (sym (put_same own line are low)) ∙ count_with own line are low in by_line (has_line own line) one
  where
    by_line : (b : Bool) → length (with_line own line) ≡ length own + cond b 0 1 → length (with_line own line) ≤ 31
    by_line true one = omega (arith, one, few)
    by_line false one = omega (arith, one, few)

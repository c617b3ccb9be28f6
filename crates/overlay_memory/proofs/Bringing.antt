use Rattle.std.proofs.Common.{◌≡◌, ℕ, Bool, true, false, cond, not, ◌&&◌, List, [], ◌∷◌, Some, sym, ap, subst, ◌∙◌, refl}
use Rattle.overlay_bits.specs.Lines.{AreLines, has_line}
use Rattle.ledger.specs.Ledger.{Ledger, is_alone, with_page}
use Rattle.ledger.specs.Changes.{is_large, joined}
use Rattle.ledger.specs.Events.{Store, ledger_after}
use Rattle.ledger.specs.PlaceLaws.{put_again}
use Rattle.ledger.specs.StoreLaws.{joined_there, store_joins, store_nothing}
use Rattle.overlay_pages.specs.State.{PageState, State, base_of, books, held_page, memory_of}
use Rattle.overlay_pages.specs.Changes.{brought, is_writable, with_brought, writes_frame}
use Rattle.overlay_memory.specs.PageLaws.{held_there}
use Rattle.overlay_memory.specs.Pieces.{KeepsAllElse}
use Rattle.overlay_memory.specs.SmallLaws.{none_large}
use Rattle.overlay_memory.specs.View.{AreOverlaysSmall}
use Rattle.overlay_memory.proofs.Joining.{joined_has, with_own_line}
use Rattle.overlay_memory.specs.StateMemory.{alone_kept, base_kept, beside_put, beside_same, memory_kept, writable_at, writable_same, writes_same}
use Rattle.space_maps.specs.Books.{books_put_page}
use Rattle.space_maps.specs.Laws.{changed_there, page_put_beside, page_put_here}
use Rattle.space_maps.specs.Spaces.{page_in, put_page, space_in, altered_page}

-- Lines that join a page's own before they are written.

-- lines of pages joined their own, which is seen in the ledger alone
pub record HasBrought (old new : State) (space : ℕ) (after : Ledger) : Type 0 where
  pub memory : memory_of new space ≡ memory_of old space
  pub base : base_of new space ≡ base_of old space
  pub ledger : books new ≡ after
  pub beside : KeepsAllElse old new space

pub brought_none : (v : State) (s : ℕ) → HasBrought v v s (books v)
brought_none v s = record { memory = refl; base = refl; ledger = refl; beside = beside_same v s }

-- what is brought, where the frame is written and where it isn't
brings_nothing : (v : State) (s p : ℕ) (lines : List ℕ) → writes_frame v s p ≡ true → with_brought v s p lines ≡ v
unfolding with_brought
brings_nothing v s p lines frame = ap (λ b. cond b v (altered_page (brought lines) v s p)) frame

brings : (v : State) (s p : ℕ) (lines : List ℕ) (x : PageState) → page_in v s p ≡ Some x → writes_frame v s p ≡ false
    → with_brought v s p lines ≡ put_page v s p (brought lines x)
unfolding with_brought
brings v s p lines x there frame = ap (λ b. cond b v (altered_page (brought lines) v s p)) frame ∙ changed_there (brought lines) v s p x there

-- The ledger with lines joined: it stays where the frame is written.
abbrev pub joined_books : State → ℕ → ℕ → List ℕ → Ledger
joined_books v s p lines = cond (writes_frame v s p) (books v) (joined (books v) s p lines)

-- a page that is there, in a space of a mark
module _ (v : State) (s p : ℕ) (lines : List ℕ) (x : PageState) (there : page_in v s p ≡ Some x) where
  -- what holds of the state as it is, and of it with the page put, holds of it with the lines brought
  by_frame : (P : State → Type 0) → (writes_frame v s p ≡ true → P v) → (writes_frame v s p ≡ false → P (put_page v s p (brought lines x)))
      → P (with_brought v s p lines)
  by_frame P as_is put = at (writes_frame v s p) refl
    where
      at : (b : Bool) → writes_frame v s p ≡ b → P (with_brought v s p lines)
      at true frame = subst P (sym (brings_nothing v s p lines frame)) (as_is frame)
      at false frame = subst P (sym (brings v s p lines x there frame)) (put frame)

  pub brought_one : HasBrought v (with_brought v s p lines) s (joined_books v s p lines)
  brought_one = by_frame (λ new. HasBrought v new s (joined_books v s p lines))
      (λ frame. record { memory = refl; base = refl; ledger = sym (ap (λ b. cond b (books v) (joined (books v) s p lines)) frame); beside = beside_same v s })
      (λ frame. record {
        memory = memory_kept v s p (brought lines x) x there refl;
        base = base_kept v s p (brought lines x) x there refl;
        ledger =
            books_put_page held_page v s p (brought lines x)
            ∙ sym (ap (λ b. cond b (books v) (joined (books v) s p lines)) frame ∙ joined_there (books v) s p lines (held_page v.zero_frame x) (held_there v s p x there));
        beside = beside_put v s p (brought lines x) x there refl;
      })

  pub brought_alone : (q r : ℕ) → is_alone (books (with_brought v s p lines)) q r ≡ is_alone (books v) q r
  brought_alone q r = by_frame (λ new. is_alone (books new) q r ≡ is_alone (books v) q r) (λ frame. refl) (λ frame. alone_kept v s p (brought lines x) x there refl q r)

  pub brought_beside : (r : ℕ) → (r ≡ p → ⊥) → page_in (with_brought v s p lines) s r ≡ page_in v s r
  brought_beside r other =
      by_frame (λ new. page_in new s r ≡ page_in v s r) (λ frame. refl) (λ frame. page_put_beside v s p (brought lines x) s r (λ ss pp. other pp))

  pub brought_frames : (r : ℕ) → writes_frame (with_brought v s p lines) s r ≡ writes_frame v s r
  brought_frames r = writes_same v (with_brought v s p lines) s r brought_one.beside.mark (brought_alone s r)

  -- lines of other pages can be written as before
  pub brought_keeps : (r line : ℕ) → (r ≡ p → ⊥) → is_writable (with_brought v s p lines) s r line ≡ is_writable v s r line
  brought_keeps r line other = writable_same v (with_brought v s p lines) s r line (brought_beside r other) (brought_frames r)

  -- its own lines that were brought can be written
  pub brought_writable : (line : ℕ) → has_line lines line ≡ true → is_writable (with_brought v s p lines) s p line ≡ true
  brought_writable line has = by_frame (λ new. is_writable new s p line ≡ true)
      (λ frame. writable_at v s p line x there ∙ ap (cond (has_line x.own line) true) frame ∙ same (has_line x.own line))
      (λ frame.
      writable_at (put_page v s p (brought lines x)) s p line (brought lines x) (page_put_here v s p (brought lines x) s p refl refl)
      ∙ ap (λ (b : Bool). cond b true (writes_frame (put_page v s p (brought lines x)) s p)) (joined_has lines x.own line has))
    where
      same : (b : Bool) → cond b true true ≡ true
      same true = refl
      same false = refl

-- a line that can be written where it stands needs nothing, of a page that is small where the space isn't speculating
pub joins_nothing : (v : State) (s p line : ℕ) (x : PageState) → page_in v s p ≡ Some x → AreLines x.own → AreOverlaysSmall v → is_writable v s p line ≡ true
    → ledger_after (Store (space_in v s).speculating s ((p, line ∷ []) ∷ [])) (books v) ≡ books v
joins_nothing v s p line x there are small can = at (writes_frame v s p) refl
  where
    own_line : (a b : Bool) → b ≡ false → cond a true b ≡ true → a ≡ true
    own_line true b none is = refl
    own_line false b none is = sym none ∙ is

    stays : (b : Bool) → (space_in v s).speculating ≡ b → (not b && is_large (books v) s p) ≡ false
    stays true on = refl
    stays false off = none_large v s small off p

    at : (b : Bool) → writes_frame v s p ≡ b → ledger_after (Store (space_in v s).speculating s ((p, line ∷ []) ∷ [])) (books v) ≡ books v
    at true frame = store_nothing (space_in v s).speculating (books v) s p (line ∷ []) frame
    at false frame =
        let has = own_line (has_line x.own line) (writes_frame v s p) frame (sym (writable_at v s p line x there) ∙ can) in
        let joins = joined_there (books v) s p (line ∷ []) (held_page v.zero_frame x) (held_there v s p x there)
        ∙ ap (λ o. with_page (books v) s p (record { origin = (held_page v.zero_frame x).origin; own = o })) (with_own_line x.own line are has)
        ∙ put_again (books v) s p (held_page v.zero_frame x) (held_there v s p x there) in
        store_joins (space_in v s).speculating (books v) s p (line ∷ []) frame
        (ap (λ l. not (space_in v s).speculating && is_large l s p) joins ∙ stays (space_in v s).speculating refl) ∙ joins

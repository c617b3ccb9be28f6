use Rattle.overlay_pages.proofs.Common.{◌≡◌, ℕ, ◌+◌, ◌*◌, ◌<◌, ◌≤◌, ◌||◌, Bool, true, false, List, [], ◌∷◌, Option, Some, IsSome, is_some, length, refl, sym, ap, subst, ◌∙◌, arith, same_Some, option_map}
use Rattle.overlay_pages.proofs.Stores.{AreLines, has_append, has_line, has_next, with_there, Entry, frame_line, frame_inside, Store, units_in}
use Rattle.overlay_pages.proofs.Books.{changed_there, with_line, with_lines, class, class_le, longer, map_from, by_option, page_put_here, page_in, put_page, altered_page, put_same, LedgerView, PageView, frame_at, lines_of, overlay_at}
use Rattle.overlay_pages.proofs.Views.{page_lines, PageState, State, Fits, brought, limit_of, units_of, joins, IsJoined, MemoryView, line_seen, page_state, state_of, state_page_some, state_page_there, view_of}
use Rattle.overlay_bits.specs.Lines as bits
use Rattle.overlay_pages.proofs.Tables.{frame_of_page}
use Rattle.overlay_pages.proofs.Steps.{seen_outside, set_lines}
use Rattle.overlay_pages.proofs.Joining.{Has, page_with, sets_are, altered_still}
use Rattle.overlay_pages.proofs.Growing.{altered_limit, altered_twice, altered_units}

-- Lines are brought from the frame.

-- one by one
pub one_more : (lines : List ℕ) (line : ℕ) → with_lines lines (line ∷ []) ≡ with_line lines line
unfolding with_lines
one_more lines line = refl

one_then : (lines : List ℕ) (line : ℕ) (more : List ℕ) → with_lines lines (line ∷ more) ≡ with_lines (with_lines lines (line ∷ [])) more
unfolding with_lines
one_then lines line more = refl

or_true : (b : Bool) → (b || true) ≡ true
or_true true = refl
or_true false = refl

-- A line of a page, which is there already or isn't.
module _ (store : Store) (table : LedgerView) (s p line : ℕ) (is : IsJoined (view_of store table)) (there : IsSome (page_in table s p)) (low : line < 64) (o : Option Entry)
    (over : overlay_at table s p ≡ o) (own_line : Bool) (test : own_line ≡ has_line (lines_of o) line) where
  abbrev v : MemoryView
  v = view_of store table

  f : Has table s p o
  f = page_with table s p there o over

  at : page_in (state_of v) s p ≡ Some (page_state store f.x)
  at = state_page_there v s p f.x f.there

  are : AreLines (lines_of f.x.overlay)
  are = by_option f.x.overlay
      (λ e. subst (λ o. AreLines (lines_of o)) (sym e) Rattle.overlay_bits.specs.Laws.are_none)
      (λ e over. subst (λ o. AreLines (lines_of o)) (sym over) (sets_are store s p f.x e is.store (is.held s p f.x f.there) over))

  own : with_lines (lines_of f.x.overlay) (line ∷ []) ≡ bits.with_line (lines_of f.x.overlay) line
  own = one_more (lines_of f.x.overlay) line ∙ sym (put_same (lines_of f.x.overlay) line are low)

  has_it : has_line (lines_of f.x.overlay) line ≡ own_line
  has_it = ap (λ (o : Option Entry). has_line (lines_of o) line) f.is ∙ sym test

  -- where it is there nothing is brought
  pub brought_already : own_line ≡ true → state_of (view_of store table) ≡ altered_page (brought (line ∷ [])) (state_of (view_of store table)) s p
  unfolding page_state
  brought_already has =
      let still = own ∙ with_there (lines_of f.x.overlay) line are low (has_it ∙ has) in
      altered_still (brought (line ∷ [])) (state_of v) s p (page_state store f.x) at
      (λ i. record { entry = f.x.entry; own = still i; lines = page_lines (line_seen store f.x); base = page_lines (frame_line store f.x.entry.frame) })

  -- and where it isn't it comes as the frame has it, so what is seen stays
  module _ (absent : own_line ≡ false) (frame : ℕ) (bytes : List ℕ) (framed : frame_at table s p ≡ Some frame) (bytes_is : bytes ≡ frame_line store frame line) where
    brought_is : altered_page (joins line bytes) (state_of v) s p ≡ altered_page (brought (line ∷ [])) (state_of v) s p
    unfolding page_state
    brought_is =
        let frame_is : f.x.entry.frame ≡ frame = same_Some _ _ (sym (ap (option_map (λ (x : PageView). x.entry.frame)) f.there) ∙ framed) in
        let in_frame = seen_outside store f.x line (has_it ∙ absent) ∙ ap (λ n. frame_line store n line) frame_is ∙ sym bytes_is in
        let lines = sym (set_lines (line_seen store f.x) (line_seen store f.x) line bytes low in_frame (λ i below away. refl)) in
        changed_there (joins line bytes) (state_of v) s p (page_state store f.x) at
        ∙ ap (put_page (state_of v) s p) (λ i. record { entry = f.x.entry; own = sym own i; lines = lines i; base = page_lines (frame_line store f.x.entry.frame) })
        ∙ sym (changed_there (brought (line ∷ [])) (state_of v) s p (page_state store f.x) at)

    pub joins_fits : Fits (altered_page (brought (line ∷ [])) (state_of (view_of store table)) s p) → Fits (altered_page (joins line bytes) (state_of (view_of store table)) s p)
    joins_fits fits = subst Fits (sym brought_is) fits

    pub joins_state : (now : State) → now ≡ altered_page (joins line bytes) (state_of (view_of store table)) s p → now ≡ altered_page (brought (line ∷ [])) (state_of (view_of store table)) s p
    joins_state now now_is = now_is ∙ brought_is

-- So far: those that are left make of the page what all of them made of it at first.
pub record HasBrought (first now : MemoryView) (s p frame : ℕ) (lines rest : List ℕ) : Type 0 where
  pub joined : IsJoined now
  pub there : IsSome (page_in now.table s p)
  pub framed : frame_at now.table s p ≡ Some frame
  pub low : (i : ℕ) → has_line rest i ≡ true → i < 64
  pub state : altered_page (brought rest) (state_of now) s p ≡ altered_page (brought lines) (state_of first) s p

pub none_brought : (v : MemoryView) (s p frame : ℕ) (lines rest : List ℕ) → IsJoined v → IsSome (page_in v.table s p) → frame_at v.table s p ≡ Some frame → AreLines lines → rest ≡ lines
    → HasBrought v v s p frame lines rest
none_brought v s p frame lines rest is there framed are same =
    record { joined = is; there = there; framed = framed; low = λ i has. are.inside i (ap (λ l. has_line l i) (sym same) ∙ has); state = ap (λ l. altered_page (brought l) (state_of v) s p) same }

module _ (first now : MemoryView) (s p frame : ℕ) (lines rest : List ℕ) (so : HasBrought first now s p frame lines rest) where
  y : (x : PageState) × (page_in (state_of now) s p ≡ Some x)
  y = let f = page_with now.table s p so.there (overlay_at now.table s p) refl in (page_state now.store f.x, state_page_there now s p f.x f.there)

  pub all_brought : rest ≡ [] → state_of now ≡ altered_page (brought lines) (state_of first) s p
  unfolding with_lines
  all_brought none =
      altered_still (brought []) (state_of now) s p y.0 y.1 refl
      ∙ ap (λ l. altered_page (brought l) (state_of now) s p) (sym none) ∙ so.state

  module _ (line : ℕ) (more : List ℕ) (cut : rest ≡ line ∷ more) where
    all_is : altered_page (brought (line ∷ more)) (state_of now) s p ≡ altered_page (brought lines) (state_of first) s p
    all_is = ap (λ l. altered_page (brought l) (state_of now) s p) (sym cut) ∙ so.state

    pub next_low : line < 64
    next_low = so.low line (ap (λ l. has_line l line) cut ∙ has_next [] line more)

    pub next_fits : Fits (altered_page (brought lines) (state_of first) s p) → Fits (altered_page (brought (line ∷ [])) (state_of now) s p)
    next_fits fits =
        let one = altered_units (brought (line ∷ [])) (state_of now) s p y.0 y.1 refl in
        let all = altered_units (brought (line ∷ more)) (state_of now) s p y.0 y.1 refl in
        let own = ap (λ l. class (length l)) (one_then y.0.own line more) in
        let le = class_le (length (with_lines y.0.own (line ∷ []))) (length (with_lines (with_lines y.0.own (line ∷ [])) more)) (longer more (with_lines y.0.own (line ∷ []))) in
        let limits = altered_limit (brought (line ∷ [])) (state_of now) s p y.0 y.1 ∙ sym (altered_limit (brought (line ∷ more)) (state_of now) s p y.0 y.1) in
        omega (arith, fits, one, all, own, le, limits, ap units_of all_is, ap limit_of all_is)

    pub one_brought : (after : MemoryView) → IsJoined after → state_of after ≡ altered_page (brought (line ∷ [])) (state_of now) s p → HasBrought first after s p frame lines more
    one_brought after joined state =
        let frame_of = option_map (λ (x : PageState). x.entry.frame) in
        let own = one_then y.0.own line more in
        let page : page_in (state_of after) s p ≡ Some (brought (line ∷ []) y.0) =
        ap (λ st. page_in st s p) (state ∙ changed_there (brought (line ∷ [])) (state_of now) s p y.0 y.1) ∙ page_put_here (state_of now) s p (brought (line ∷ []) y.0) s p refl refl in
        record {
          joined = joined;
          there = sym (state_page_some after s p) ∙ ap is_some page;
          framed = sym (frame_of_page after s p) ∙ ap frame_of page ∙ sym (ap frame_of y.1) ∙ frame_of_page now s p ∙ so.framed;
          low = λ i has. so.low i (ap (λ l. has_line l i) cut ∙ has_append (line ∷ []) more i ∙ ap (λ b. has_line (line ∷ []) i || b) has ∙ or_true (has_line (line ∷ []) i));
          state = ap (λ st. altered_page (brought more) st s p) state ∙ altered_twice (brought more) (brought (line ∷ [])) (state_of now) s p y.0 y.1
              ∙ ap (put_page (state_of now) s p) (λ i. record { entry = y.0.entry; own = sym own i; lines = y.0.lines; base = y.0.base })
              ∙ sym (changed_there (brought (line ∷ more)) (state_of now) s p y.0 y.1) ∙ all_is;
        }

-- The frame of a page is one of the store's.
pub frame_in : (store : Store) (table : LedgerView) (s p frame : ℕ) → IsJoined (view_of store table) → frame_at table s p ≡ Some frame → 16 * frame + 16 ≤ units_in store.blocks
frame_in store table s p frame is framed = map_from (λ (x : PageView). x.entry.frame) (page_in table s p) frame framed
    (λ x e same. omega (arith, frame_inside store is.store x.entry.frame (is.held s p x e).frame, same))

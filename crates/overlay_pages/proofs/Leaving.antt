use Rattle.overlay_pages.proofs.Common.{◌≡◌, ℕ, ◌+◌, Bool, true, false, cond, Option, Some, None, is_some, length, refl, sym, ap, subst, ◌∙◌, arith, none-some, cases_cond, inl, inr, same_Some}
use Rattle.overlay_pages.proofs.Stores.{AreSettled, free_units, units_in, Entry, IsStore, Store, IsFrame, KeepsFrame, KeepsOtherFrames, KeepsSegments, block_of}
use Rattle.overlay_pages.proofs.Books.{holding_at, is_alone, is_unused, without_page, class, units, class_none, alone_is, frame_for, units_at, books_cut_page, books_there, keeps_page_cut, there_space, cut_page, holds_space, page_in, set_page, LedgerView, PageView, holding_of, ledger_of, lines_of, given_as, given_up, origin_of, by_test}
use Rattle.overlay_pages.proofs.Views.{IsJoined, MemoryView, state_of, view_of}
use Rattle.overlay_pages.proofs.Steps.{alone_other, frame_still, segment_still, segments_bare, stepped}
use Rattle.overlay_pages.proofs.Joining.{Has}

-- A page that goes, and with it its frame, where no page names it any more.

-- whether a page's frame is one that nothing names: then it is what is given up of the page
abbrev pub is_left : LedgerView → PageView → Bool
is_left table x = is_unused (ledger_of table) (origin_of table.zero_frame x.entry.frame)

pub is_given : (table : LedgerView) (x : PageView) → is_some (given_up table (Some x)) ≡ is_left table x
is_given table x = ap is_some (given_as table x) ∙ by_test (is_left table x)
    (λ is. ap (λ b. is_some (cond b (Some x.entry.frame) None)) is ∙ sym is)
    (λ is. ap (λ b. is_some (cond b (Some x.entry.frame) None)) is ∙ sym is)

pub which_given : (table : LedgerView) (x : PageView) (frame : ℕ) → given_up table (Some x) ≡ Some frame → x.entry.frame ≡ frame
which_given table x frame gone = elim (cases_cond (is_left table x) (Some x.entry.frame) None (Some frame) (sym gone ∙ given_as table x)) [
  | inl is ↦ sym (same_Some _ _ is)
  | inr none ↦ absurd (none-some frame (sym none))
]

-- what the store keeps, and how many units are free: those of the frame, if it was given up
pub record LeavesStore (old new : Store) (frame : ℕ) (given : Bool) : Type 0 where
  pub same : new.segments ≡ old.segments
  pub segments : KeepsSegments old new
  pub frames : (other : ℕ) → (given ≡ true → other ≡ frame → ⊥) → IsFrame old other → KeepsFrame old new other
  pub settled : AreSettled old.blocks → AreSettled new.blocks
  pub free : free_units new.blocks ≡ free_units old.blocks + frame_for given
  pub whole : units_in new.blocks ≡ units_in old.blocks
  pub store : IsStore new

pub leaves_none : (store : Store) (frame : ℕ) → IsStore store → LeavesStore store store frame false
unfolding frame_for
leaves_none store frame is = record {
  same = refl;
  segments = λ unit segment there. segment_still store (block_of unit segment);
  frames = λ other away f. frame_still store other f;
  settled = λ h. h;
  free = omega arith;
  whole = refl;
  store = is;
}

pub gives_frame : (old new : Store) (frame : ℕ) → new.segments ≡ old.segments → KeepsSegments old new → KeepsOtherFrames old frame new → (AreSettled old.blocks → AreSettled new.blocks)
    → free_units new.blocks ≡ free_units old.blocks + 16 → units_in new.blocks ≡ units_in old.blocks → IsStore new → LeavesStore old new frame true
unfolding frame_for
gives_frame old new frame same segments frames settled free whole store = record {
  same = same;
  segments = segments;
  frames = λ other away f. frames other (away refl) f;
  settled = settled;
  free = free;
  whole = whole;
  store = store;
}

pub left_out : (a : MemoryView) (store : Store) (table : LedgerView) (s p : ℕ) (x : PageView) (given : Bool) → IsJoined a → page_in a.table s p ≡ Some x → x.overlay ≡ None
    → table ≡ cut_page a.table s p → given ≡ is_left table x → LeavesStore a.store store x.entry.frame given
    → IsJoined (view_of store table) × (state_of (view_of store table) ≡ cut_page (state_of a) s p)
unfolding set_page
left_out a store table s p x given is there bare table_is given_is leaves =
    stepped a (view_of store table) s p (Some (record { entry = x.entry; overlay = None })) None is (record {
      there = space;
      low = (is.held s p x there).low;
      was = there ∙ (λ i. Some (record { entry = x.entry; overlay = bare i }));
      table_is = table_is;
      segments = segments_bare a.store store s p leaves.same leaves.segments (leaves.settled is.blocks) leaves.whole leaves.store;
      frames = λ frame f other. leaves.frames frame (λ gives same. alone_other a.table s p x there (alone ∙ gives) frame other same) f;
      frame = λ y h. absurd (none-some y h);
      count = omega (
        arith,
        is.count,
        leaves.free,
        leaves.whole,
        units_at (ledger_of a.table) s p (holding_of a.table.zero_frame x) held,
        ap units gone,
        ap frame_for alone,
        ap (λ (o : Option Entry). class (length (lines_of o))) bare,
        class_none,
      );
    })
  where
    space : holds_space a.table s ≡ true
    space = there_space a.table s p x there

    held : holding_at (ledger_of a.table) s p ≡ Some (holding_of a.table.zero_frame x)
    held = books_there holding_of a.table s p x there

    gone : ledger_of table ≡ without_page (ledger_of a.table) s p
    gone = ap ledger_of table_is ∙ books_cut_page holding_of a.table s p

    zero_same : table.zero_frame ≡ a.table.zero_frame
    zero_same = ap (λ (v : LedgerView). v.zero_frame) table_is ∙ (keeps_page_cut a.table s p space).zero_frame

    -- a frame that nothing names then was the page's alone
    alone : is_alone (ledger_of a.table) s p ≡ given
    alone =
        alone_is (ledger_of a.table) s p (holding_of a.table.zero_frame x) held ∙ (λ i. is_unused (sym gone i) (origin_of (sym zero_same i) x.entry.frame)) ∙ sym given_is

-- The ledger tells which frame was given up.
module _ (a : MemoryView) (table : LedgerView) (s p : ℕ) (freed : Option ℕ) (is : IsJoined a) (has : Has a.table s p None) (table_is : table ≡ cut_page a.table s p)
    (freed_is : freed ≡ given_up table (page_in a.table s p)) where
  freed_of : freed ≡ given_up table (Some has.x)
  freed_of = freed_is ∙ ap (given_up table) has.there

  pub freed_there : (frame : ℕ) → freed ≡ Some frame → IsFrame a.store frame
  freed_there frame gone = subst (IsFrame a.store) (which_given table has.x frame (sym freed_of ∙ gone)) (is.held s p has.x has.there).frame

  left : (store : Store) (given : Bool) → is_some freed ≡ given → LeavesStore a.store store has.x.entry.frame given
      → IsJoined (view_of store table) × (state_of (view_of store table) ≡ cut_page (state_of a) s p)
  left store given some leaves = left_out a store table s p has.x given is has.there has.is table_is (sym some ∙ ap is_some freed_of ∙ is_given table has.x) leaves

  pub went_some : (store : Store) (frame : ℕ) → freed ≡ Some frame → LeavesStore a.store store frame true
      → IsJoined (view_of store table) × (state_of (view_of store table) ≡ cut_page (state_of a) s p)
  went_some store frame gone leaves =
      left store true (ap is_some gone) (subst (λ f. LeavesStore a.store store f true) (sym (which_given table has.x frame (sym freed_of ∙ gone))) leaves)

  pub went_none : freed ≡ None → IsJoined (view_of a.store table) × (state_of (view_of a.store table) ≡ cut_page (state_of a) s p)
  went_none none = left a.store false (ap is_some none) (leaves_none a.store has.x.entry.frame is.store)

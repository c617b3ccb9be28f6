use Rattle.overlay_pages.proofs.Common.{◌≡◌, ℕ, ◌+◌, ◌<◌, true, false, IfSome, IsSome, IsTrue, List, Option, None, is_some, refl, option_and_then, sym, ap, subst, ◌∙◌, arith, nat_tests, empty, FRAME_UNITS, PAGE_END}
use Rattle.overlay_pages.proofs.Books.{is_within, PageEntry, Ledger, is_alone, keeps_page_put, page_put_here, holds_space, page_in, put_page, put_space, space_in, LedgerView, PageView, ledger_of, overlay_at, with_zero_pages}
use Rattle.overlay_pages.proofs.Views.{zero_page, State, IsPlaced, moved_to, units_of, whole_page, IsJoined, MemoryView, state_of, view_of, state_awaiting, state_books, state_holds, state_zero, PageState}
use Rattle.overlay_pages.proofs.Tables.{none_back}
use Rattle.overlay_pages.proofs.Zeros.{zeros_joined}
use Rattle.overlay_pages.proofs.Placed.{one_zero, one_zero_state, placed_before, placed_units, zero_shared}

-- A page is added: mapped first, and then placed.

pub only_one : (v : LedgerView) (s page q : ℕ) → IsTrue (is_within page 1 q) → page_in v s page ≡ None → page_in v s q ≡ None
only_one v s page q inside absent = let same : q ≡ page = grind (arith, nat_tests, inside) in ap (page_in v s) same ∙ absent

-- the page was mapped, and is ready to be placed
pub record IsReady (v : MemoryView) (table : LedgerView) (s p : ℕ) (entry : PageEntry) : Type 0 where
  pub joined : IsJoined (view_of v.store table)
  pub there : IsSome (page_in table s p)
  pub bare : overlay_at table s p ≡ None
  pub shared : is_alone (ledger_of table) s p ≡ false
  pub none_awaits : (space_in table s).awaiting ≡ empty
  pub state : state_of (view_of v.store table) ≡ put_page (state_of v) s p (whole_page entry zero_page)
  pub space : holds_space (state_of v) s ≡ true
  pub absent : page_in (state_of v) s p ≡ None
  pub zero_is : entry.frame ≡ (state_of v).zero_frame

pub ready : (v now : MemoryView) (table : LedgerView) (s p : ℕ) (entry : PageEntry) → v ≡ now → IsJoined v → holds_space (state_of now) s ≡ true → (space_in (state_of now) s).awaiting ≡ empty → p < PAGE_END
    → page_in (state_of now) s p ≡ None → entry.frame ≡ v.table.zero_frame → table ≡ with_zero_pages v.table s p 1 entry → IsReady v table s p entry
unfolding put_page put_space
ready v now table s p entry same is space settled low absent zero_is table_is =
    let none = none_back v s p (ap (λ (m : MemoryView). page_in (state_of m) s p) same ∙ absent) in
    let there = ap (λ (m : MemoryView). holds_space (state_of m) s) same ∙ space in
    let all = zeros_joined 1 p v.store v.table s entry is (sym (state_holds v s) ∙ there) (omega (arith, low)) (λ page from to. let one : page ≡ p = omega (arith, from, to) in ap (page_in v.table s) one ∙ none) zero_is in
    let x : PageView = record { entry = entry; overlay = None } in
    let at_table = ap (λ (t : LedgerView). page_in t s p) (table_is ∙ one_zero v.table s p entry) ∙ page_put_here v.table s p x s p refl refl in
    let state = ap (λ (t : LedgerView). state_of (view_of v.store t)) table_is ∙ all.1 ∙ one_zero_state (state_of v) s p entry in
    record {
      joined = subst (λ (t : LedgerView). IsJoined (view_of v.store t)) (sym table_is) all.0;
      there = ap is_some at_table;
      bare = ap (λ (o : Option PageView). option_and_then (λ (x : PageView). x.overlay) o) at_table;
      shared = ap (λ (l : Ledger). is_alone l s p) (sym (state_books (view_of v.store table)))
          ∙ zero_shared (state_of (view_of v.store table)) s p (whole_page entry zero_page) (ap (λ st. page_in st s p) state ∙ page_put_here (state_of v) s p (whole_page entry zero_page) s p refl refl)
          (zero_is ∙ sym (state_zero v) ∙ sym (ap (λ (st : State). st.zero_frame) state));
      none_awaits = sym (state_awaiting (view_of v.store table) s) ∙ ap (λ (st : State). (space_in st s).awaiting) state ∙ (keeps_page_put (state_of v) s p (whole_page entry zero_page) there).awaiting s
          ∙ ap (λ (m : MemoryView). (space_in (state_of m) s).awaiting) same ∙ settled;
      state = state;
      space = there;
      absent = ap (λ (m : MemoryView). page_in (state_of m) s p) same ∙ absent;
      zero_is = zero_is ∙ sym (state_zero v);
    }

-- and then it was
pub added : (v now new : MemoryView) (table : LedgerView) (s p : ℕ) (entry : PageEntry) (lines : List (List ℕ)) → v ≡ now → IsReady v table s p entry
    → IfSome (page_in (state_of (view_of v.store table)) s p) (λ x. IsPlaced (state_of (view_of v.store table)) (state_of new) s p (moved_to x lines))
    → IsPlaced (state_of now) (state_of new) s p (λ frame. whole_page (record { perms = entry.perms; frame = frame }) lines) × (units_of (state_of new) ≡ units_of (state_of now) + FRAME_UNITS)
added v now new table s p entry lines same so placed =
    let here = ap (λ st. page_in st s p) so.state ∙ page_put_here (state_of v) s p (whole_page entry zero_page) s p refl refl in
    let at : ℕ → PageState = λ frame. whole_page (record { perms = entry.perms; frame = frame }) lines in
    let mid = subst (λ st. IsPlaced st (state_of new) s p at) so.state (subst (λ o. IfSome o (λ x. IsPlaced (state_of (view_of v.store table)) (state_of new) s p (moved_to x lines))) here placed) in
    let all = placed_before (state_of v) s p entry so.space so.absent so.zero_is (state_of new) at mid in
    subst (λ (m : MemoryView). IsPlaced (state_of m) (state_of new) s p at × (units_of (state_of new) ≡ units_of (state_of m) + FRAME_UNITS)) same
    (all, placed_units (state_of v) s p entry so.space so.absent so.zero_is (state_of new) lines entry all)

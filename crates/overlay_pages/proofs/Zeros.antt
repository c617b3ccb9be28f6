use Rattle.overlay_pages.proofs.Common.{◌≡◌, ℕ, zero, suc, ◌+◌, ◌≤◌, ◌<◌, true, cond, [], None, refl, sym, ap, subst, ◌∙◌, arith, nat_tests, PAGE_END}
use Rattle.overlay_pages.proofs.Stores.{Store, IsFrame, frame_line}
use Rattle.overlay_pages.proofs.Books.{is_within, PageEntry, is_unused, frame_for, are, keeps_page_put, page_put_beside, holds_space, page_in, put_page, put_pages, LedgerView, PageView, ledger_of, origin_of, with_zero_pages}
use Rattle.overlay_pages.proofs.Views.{zero_line, zero_page, lines_same, whole_page, with_zeros, IsJoined, page_state, state_of, view_of}
use Rattle.overlay_pages.proofs.Coming.{came, place_for_bare}

-- Pages that are mapped on the zero frame.

-- the zero frame costs no units
zero_known : (v : LedgerView) (frame : ℕ) → frame ≡ v.zero_frame → frame_for (is_unused (ledger_of v) (origin_of v.zero_frame frame)) ≡ 0
unfolding frame_for is_unused
zero_known v frame same = ap (λ b. frame_for (is_unused (ledger_of v) (cond b 0 (frame + 1)))) (are frame v.zero_frame same)

-- the page is zero
zero_is : (st : Store) (v : LedgerView) (entry : PageEntry) → IsJoined (view_of st v) → entry.frame ≡ v.zero_frame → page_state st (record { entry = entry; overlay = None }) ≡ whole_page entry zero_page
unfolding page_state zero_page
zero_is st v entry is same =
    let lines = lines_same (frame_line st entry.frame) (λ _. zero_line) (λ i low. ap (λ f. frame_line st f i) same ∙ is.zeros i low) in
    λ i. record { entry = entry; own = []; lines = lines i; base = lines i }

zero_joined : (st : Store) (v : LedgerView) (s p : ℕ) (entry : PageEntry) → IsJoined (view_of st v) → holds_space v s ≡ true → p < PAGE_END → page_in v s p ≡ None → entry.frame ≡ v.zero_frame
    → IsJoined (view_of st (put_page v s p (record { entry = entry; overlay = None })))
    × (state_of (view_of st (put_page v s p (record { entry = entry; overlay = None }))) ≡ put_page (state_of (view_of st v)) s p (whole_page entry zero_page))
zero_joined st v s p entry is there low absent same =
    let x : PageView = record { entry = entry; overlay = None } in
    let one = came (view_of st v) st s p x is there low absent (subst (IsFrame st) (sym same) is.zero) (zero_known v entry.frame same) (place_for_bare (view_of st v) s p is) in
    (one.0, one.1 ∙ ap (put_page (state_of (view_of st v)) s p) (zero_is st v entry is same))

-- all of them
pub zeros_joined : (n from : ℕ) (st : Store) (v : LedgerView) (s : ℕ) (entry : PageEntry) → IsJoined (view_of st v) → holds_space v s ≡ true → from + n ≤ PAGE_END
    → ((page : ℕ) → from ≤ page → page < from + n → page_in v s page ≡ None) → entry.frame ≡ v.zero_frame
    → IsJoined (view_of st (with_zero_pages v s from n entry)) × (state_of (view_of st (with_zero_pages v s from n entry)) ≡ with_zeros (state_of (view_of st v)) s from n entry)
unfolding with_zero_pages with_zeros put_pages
zeros_joined zero from st v s entry is there low absent same = (is, refl)
zeros_joined (suc n) from st v s entry is there low absent same =
    let one = zero_joined st v s from entry is there (omega (arith, low)) (absent from (omega arith) (omega arith)) same in
    let next = put_page v s from (record { entry = entry; overlay = None }) in
    let keeps = keeps_page_put v s from (record { entry = entry; overlay = None }) there in
    let rest = zeros_joined n (from + 1) st next s entry one.0 (keeps.there s ∙ there) (omega (arith, low))
    (λ page above below. page_put_beside v s from (record { entry = entry; overlay = None }) s page (λ _ pp. absurd (omega (arith, above, pp))) ∙ absent page (omega (arith, above)) (omega (arith, below)))
    (same ∙ sym keeps.zero_frame) in
    (rest.0, rest.1 ∙ ap (λ t. put_pages t s (from + 1) n (whole_page entry zero_page)) one.1)

pub is_inside : (from n page : ℕ) → from ≤ page → page < from + n → is_within from n page ≡ true
is_inside from n page low high = grind (arith, nat_tests)

use Rattle.space_ledger.proofs.Common.{◌≡◌, ℕ, ◌+◌, ◌-◌, ◌≤◌, Bool, false, cond, nat_eq, not, ◌&&◌, List, [], ◌∷◌, length, Some, IsSome, get, option_map, option_and_then, sym, ap, subst, ◌∙◌, arith}
use Rattle.space_ledger.proofs.Pages.{AreLines}
use Rattle.space_ledger.proofs.Views.{AreOriginsApart, HasFramesApart, by_test, is_alone, class, units, map_from, with_lines, page_in, page_of, space_in, joined_same, Store, ledger_after, class_rises, store_nothing, two_rises, units_store, books_page, books_there, LedgerView, PageView, holding_of, ledger_of, lines_of, overlay_at}
use Rattle.overlay_bits.specs.Lines as bits
use Rattle.space_ledger.proofs.Seen.{some_is}
use Rattle.space_ledger.specs.ViewLaws.{frames_of}

-- By how much a store rises.

-- so the class doesn't fall
pub rises_by : (own lines : List ℕ) → AreLines own → AreLines lines → class (length own) ≤ class (length (bits.with_lines own lines))
rises_by own lines one other = subst (λ (l : List ℕ). class (length own) ≤ class (length l)) (sym (joined_same own lines one other)) (class_rises own lines)

-- What a page rises by.

pub record Rises (v : LedgerView) (s p : ℕ) (lines : List ℕ) (mark : Bool) (rise : ℕ) : Type 0 where
  pub one : units (ledger_after (Store mark s ((p, lines) ∷ [])) (ledger_of v)) ≡ units (ledger_of v) + rise
  pub both : (other : ℕ) (more : List ℕ) → (other ≡ p → ⊥)
      → units (ledger_after (Store mark s ((p, lines) ∷ ((other, more) ∷ []))) (ledger_of v)) ≡ units (ledger_after (Store mark s ((other, more) ∷ [])) (ledger_of v)) + rise

-- the pages of a space have origins of their own, but for 0, as they name frames of their own
origins_apart : (v : LedgerView) (s : ℕ) → HasFramesApart v.zero_frame (space_in v s) → AreOriginsApart (ledger_of v) s
origins_apart v s apart p q x y at_p at_q same some =
    map_from (holding_of v.zero_frame) (page_in v s p) x (sym (books_page holding_of v s p) ∙ at_p) (λ a there_a is_a.
    map_from (holding_of v.zero_frame) (page_in v s q) y (sym (books_page holding_of v s q) ∙ at_q) (λ b there_b is_b.
    let frames = frames_of v.zero_frame a.entry.frame b.entry.frame (ap (λ h. h.origin) is_a ∙ same ∙ sym (ap (λ h. h.origin) is_b)) (ap (λ h. nat_eq h.origin 0) is_a ∙ some) in
    (apart false false p q a.entry.frame (named p a there_a) (named q b there_b ∙ ap Some (sym frames.0)) frames.1).1))
  where
    named : (r : ℕ) (z : PageView) → page_in v s r ≡ Some z → option_map (λ (w : PageView). w.entry.frame) (get (space_in v s).pages r) ≡ Some z.entry.frame
    named r z there = ap (option_map (λ (w : PageView). w.entry.frame)) (sym (page_of v s r) ∙ there)

pub rises : (v : LedgerView) (s p : ℕ) (lines own : List ℕ) (mark alone : Bool) (rise : ℕ) → HasFramesApart v.zero_frame (space_in v s) → IsSome (page_in v s p) → own ≡ lines_of (overlay_at v s p) → alone ≡ is_alone (ledger_of v) s p
    → AreLines own → AreLines lines → rise ≡ cond (not mark && alone) 0 (class (length (bits.with_lines own lines)) - class (length own)) → Rises v s p lines mark rise
rises v s p lines own mark alone rise apart there own_is alone_is are_own are_lines rise_is =
    record {
      one = one;
      both = λ other more differs. let two = two_rises mark (ledger_of v) s p other lines more (origins_apart v s apart) differs in let first = one in omega (arith, two, first);
    }
  where
    x : (x : PageView) × (page_in v s p ≡ Some x)
    x = some_is (page_in v s p) there

    own_x : own ≡ (holding_of v.zero_frame x.0).own
    own_x = own_is ∙ ap (λ o. lines_of (option_and_then (λ (y : PageView). y.overlay) o)) x.1

    one : units (ledger_after (Store mark s ((p, lines) ∷ [])) (ledger_of v)) ≡ units (ledger_of v) + rise
    one = let rise_l : rise ≡ cond (not mark && is_alone (ledger_of v) s p) 0 (class (length (with_lines own lines)) - class (length own)) =
        rise_is ∙ ap (λ b. cond (not mark && b) 0 (class (length (bits.with_lines own lines)) - class (length own))) alone_is
        ∙ ap (λ (l : List ℕ). cond (not mark && is_alone (ledger_of v) s p) 0 (class (length l) - class (length own))) (joined_same own lines are_own are_lines) in
        by_test (not mark && is_alone (ledger_of v) s p)
        (λ yes. let same = ap units (store_nothing mark (ledger_of v) s p lines yes) in grind (arith, same, rise_l, yes))
        (λ no.
        let risen = units_store mark (ledger_of v) s p lines (holding_of v.zero_frame x.0) (books_there holding_of v s p x.0 x.1) no in
        let grows = class_rises own lines in
        let was = ap (λ (l : List ℕ). class (length l)) own_x in
        let now = ap (λ (l : List ℕ). class (length (with_lines l lines))) own_x in
        let by : rise ≡ class (length (with_lines own lines)) - class (length own) = grind (arith, rise_l, no) in
        omega (arith, risen, grows, was, now, by))

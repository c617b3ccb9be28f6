use Rattle.std.specs.Prelude.{◌≡◌, ℕ, ◌+◌, ◌&&◌, ◌||◌, Bool, true, false, cond, not, nat_eq, Option, Some, None, refl}
use Rattle.std.proofs.Common.{sym, ap, ◌∙◌, arith}
use Rattle.std.specs.Option.{option_map}
use Rattle.page_table.specs.declared.entry.PageEntry.{PageEntry}
use Rattle.space_maps.specs.Options.{map_from}
use Rattle.space_maps.specs.Spaces.{page_in}
use Rattle.ledger.specs.AloneLaws.{are, arent}
use Rattle.ledger.specs.Ledger.{Ledger, has_origin, is_unused}
use Rattle.space_ledger.specs.View.{LedgerView, PageView, frame_at, ledger_of, origin_of}
use Rattle.space_ledger.specs.Calls.{given_up}

-- The frame of an entry that was looked up, and whether one is unused.

pub entry_frame : (v : LedgerView) (s p : ℕ) (e : PageEntry) → Some e ≡ option_map (λ (x : PageView). x.entry) (page_in v s p) → frame_at v s p ≡ Some e.frame
entry_frame v s p e is = map_from (λ (x : PageView). x.entry) (page_in v s p) e (sym is)
    (λ x there same. ap (option_map (λ (y : PageView). y.entry.frame)) there ∙ ap (λ (k : PageEntry). Some k.frame) same)

-- a frame is unused where it isn't the zero frame, and no page has its origin
pub unused_is : (l : Ledger) (z f : ℕ) → is_unused l (origin_of z f) ≡ not (nat_eq f z || has_origin l (f + 1))
unfolding is_unused
unused_is l z f = at (nat_eq f z)
  where
    at : (b : Bool) → (not (nat_eq (cond b 0 (f + 1)) 0) && not (has_origin l (cond b 0 (f + 1)))) ≡ not (b || has_origin l (f + 1))
    at true = refl
    at false = ap (λ (c : Bool). not c && not (has_origin l (f + 1))) (arent (f + 1) 0 (λ e. omega (arith, e)))

-- pages of one origin that isn't 0 are on one frame, which isn't the zero frame
pub frames_of : (z f g : ℕ) → origin_of z f ≡ origin_of z g → nat_eq (origin_of z f) 0 ≡ false → (f ≡ g) × (f ≡ z → ⊥)
frames_of z f g = by_zero (nat_eq f z) refl (nat_eq g z) refl
  where
    by_zero : (b : Bool) → nat_eq f z ≡ b → (c : Bool) → nat_eq g z ≡ c → origin_of z f ≡ origin_of z g → nat_eq (origin_of z f) 0 ≡ false → (f ≡ g) × (f ≡ z → ⊥)
    by_zero true e c k same some = let no = sym (ap (λ d. nat_eq (cond d 0 (f + 1)) 0) e) ∙ some in cc
    by_zero false e true k same some =
        let no : f + 1 ≡ 0 = sym (ap (λ d. cond d 0 (f + 1)) e) ∙ same ∙ ap (λ d. cond d 0 (g + 1)) k in absurd (omega (arith, no))
    by_zero false e false k same some =
        let is : f + 1 ≡ g + 1 = sym (ap (λ d. cond d 0 (f + 1)) e) ∙ same ∙ ap (λ d. cond d 0 (g + 1)) k in
        (omega (arith, is), λ zero. let no = sym (are f z zero) ∙ e in cc)

-- what is given up of a page is its frame, where that is unused
pub given_as : (v : LedgerView) (x : PageView) → given_up v (Some x) ≡ cond (is_unused (ledger_of v) (origin_of v.zero_frame x.entry.frame)) (Some x.entry.frame) None
given_as v x =
    altered (nat_eq x.entry.frame v.zero_frame || has_origin (ledger_of v) (x.entry.frame + 1))
    ∙ ap (λ b. cond b (Some x.entry.frame) None) (sym (unused_is (ledger_of v) v.zero_frame x.entry.frame))
  where
    altered : (b : Bool) → ◌≡◌ {A = Option ℕ} (cond b None (Some x.entry.frame)) (cond (not b) (Some x.entry.frame) None)
    altered true = refl
    altered false = refl

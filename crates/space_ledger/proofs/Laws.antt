use Rattle.space_ledger.proofs.Common.{refl, ◌-◌, IsSome, get, ◌⊎◌, true, Bool, not, ◌&&◌, ◌==◌, ◌≡◌, ℕ, ◌+◌, ◌^◌, ◌≤◌, ◌<◌, false, List, Option, Some, is_some, length, nat_eq, option_map, sym, ap, subst, ◌∙◌, arith}
use Rattle.space_ledger.proofs.Pages.{PageRun, entry_at, Block, Entry, PageEntry, sharers_of}
use Rattle.space_ledger.proofs.Views.{frame_awaiting, space_in, IsBareRun, released_by, released_run, holds_space, there_space, is_alone, IsBooked, IsSound, LedgerView, PageView, cut_one, frame_at, has_own, ledger_of, origin_of, overlay_at, page_in}
use Rattle.ledger.specs.Ledger.{is_unused}
use Rattle.space_ledger.specs.View.{with_block, with_entry_at, with_frame, with_overlay}
use Rattle.ledger.specs.Units.{class}
use Rattle.ledger.specs.ClassLaws.{class_most}
use Rattle.space_ledger.specs.Frames.{frame_units}
use Rattle.space_ledger.specs.ViewLaws.{entry_frame}
use Rattle.space_ledger.proofs.LedgerCalls.{before_hold, before_share, shared_frame, before_release, alone_call, entry_inside, entry_is_frame, moved_call}
use Rattle.space_ledger.proofs.Booking.{eq_false, length_released, few_units}
use Rattle.space_ledger.proofs.Numbers.{entry_page, lines_fit, next_own, own_is, units_fit}
use Rattle.space_ledger.proofs.RunRemoved.{before_at, unused_call, zero_used}

-- What calls answer, in the shape of their clauses: `v` is what is held, and `w` what is seen.

pub own_call : (v w : LedgerView) → v ≡ w → IsSound v → (s p : ℕ) (o : Option Entry) → o ≡ overlay_at v s p → is_some o ≡ has_own (ledger_of w) s p
own_call v w same sound s p o is = ap is_some is ∙ own_is v sound s p ∙ ap (λ (m : LedgerView). has_own (ledger_of m) s p) same

module _ (v w : LedgerView) (counts : List ℕ) (u n : ℕ) (kept : IsBooked v counts u n) (same : v ≡ w) where
  pub unused_law : (f z count : ℕ) → f < w.frames → z ≡ v.zero_frame → nat_eq f z ≡ false → count ≡ sharers_of counts f → nat_eq count 0 ≡ is_unused (ledger_of w) (origin_of w.zero_frame f)
  unused_law f z count low zero_is other is =
      unused_call v counts u n kept f z count (subst (λ (m : LedgerView). f < m.frames) (sym same) low) zero_is (eq_false f z other) is
      ∙ ap (λ (m : LedgerView). is_unused (ledger_of m) (origin_of m.zero_frame f)) same

  pub inside_law : (s p : ℕ) (e : PageEntry) → Some e ≡ option_map (λ (x : PageView). x.entry) (page_in v s p) → e.frame < w.frames
  inside_law s p e is = subst (λ (m : LedgerView). e.frame < m.frames) same (entry_inside v counts u n kept s p e is)

  pub room_law : (s p : ℕ) (e : PageEntry) → Some e ≡ option_map (λ (x : PageView). x.entry) (page_in v s p) → e.frame < length counts
  room_law s p e is = subst (λ k. e.frame < k) (sym kept.books.room) (entry_inside v counts u n kept s p e is)

  pub moved_law : (s p : ℕ) (e : Entry) (to : Block) → Some e ≡ overlay_at v s p → with_overlay v s p (Some (record { bits = e.bits; block = to })) ≡ with_block w s p to
  moved_law s p e to is = (moved_call v counts u n kept s p e to is).is ∙ ap (λ (m : LedgerView). with_block m s p to) same

  pub home_law : (s p : ℕ) (e : PageEntry) → Some e ≡ option_map (λ (x : PageView). x.entry) (page_in v s p) → holds_space v s ≡ true
  home_law s p e is = there_space v s p _ (entry_page v s p e is).1

  pub held_law : (s p z f : ℕ) (e : PageEntry) (less : List ℕ) → IsSound v → z ≡ v.zero_frame → Some e ≡ option_map (λ (x : PageView). x.entry) (page_in v s p)
      → less ≡ released_by z counts e.frame → f < w.frames → (f ≡ z) ⊎ (sharers_of less f < 2 ^ 32 - 1)
  held_law s p z f e less sound zero_is is less_is low = (before_hold kept s p z _ e zero_is is less_is refl sound f (subst (λ (m : LedgerView). f < m.frames) (sym same) low))

  pub shared_law : (from to p z : ℕ) (e : PageEntry) → IsSound v → z ≡ v.zero_frame → IsSome (page_in w from p) → get (space_in v to).awaiting p ≡ Some e
      → frame_awaiting w to p ≡ frame_at w from p → (e.frame ≡ z) ⊎ (sharers_of counts e.frame < 2 ^ 32 - 1)
  shared_law from to p z e sound zero_is there waiting frames =
      let named = shared_frame v counts u n kept from to p e (ap (λ (m : LedgerView). is_some (page_in m from p)) same ∙ there) waiting
      (subst (λ (m : LedgerView). frame_awaiting m to p ≡ frame_at m from p) (sym same) frames) in
      (before_share v counts u n kept sound.few z e named.3 zero_is)

  pub released_law : (s z i : ℕ) (run : PageRun) → z ≡ v.zero_frame → holds_space w s ≡ true → IsBareRun w s run → i < run.n
      → ((entry_at run i).frame ≡ z) ⊎ (0 < sharers_of (released_run z counts run i) (entry_at run i).frame)
  released_law s z i run zero_is has bare low =
      subst (λ k. ((entry_at run i).frame ≡ k) ⊎ (0 < sharers_of (released_run k counts run i) (entry_at run i).frame)) (sym zero_is)
      (before_at v counts u n kept s run (ap (λ (m : LedgerView). holds_space m s) same ∙ has) (subst (λ (m : LedgerView). IsBareRun m s run) (sym same) bare) i low)

  pub alone_law : (s p z f : ℕ) (b : Bool) → b ≡ (not (f == z) && (sharers_of counts f == 1)) → z ≡ v.zero_frame → frame_at w s p ≡ Some f → b ≡ is_alone (ledger_of w) s p
  alone_law s p z f b is zero_is on =
      is ∙ alone_call v counts u n kept s p z f zero_is (ap (λ (m : LedgerView). frame_at m s p) same ∙ on)
      ∙ ap (λ (m : LedgerView). is_alone (ledger_of m) s p) same

pub zero_law : (v w : LedgerView) → v ≡ w → (f z : ℕ) → z ≡ v.zero_frame → f ≡ z → false ≡ is_unused (ledger_of w) (origin_of w.zero_frame f)
zero_law v w same f z zero_is on = zero_used v f z zero_is on ∙ ap (λ (m : LedgerView). is_unused (ledger_of m) (origin_of m.zero_frame f)) same

pub frame_law : (v w : LedgerView) → v ≡ w → (s p : ℕ) (e : PageEntry) → Some e ≡ option_map (λ (x : PageView). x.entry) (page_in v s p) → frame_at w s p ≡ Some e.frame
frame_law v w same s p e is = ap (λ (m : LedgerView). frame_at m s p) (sym same) ∙ entry_frame v s p e is

pub framed_law : (v w : LedgerView) → v ≡ w → (s p f : ℕ) (e : PageEntry) → Some e ≡ option_map (λ (x : PageView). x.entry) (page_in v s p)
    → with_entry_at v s p (record { perms = e.perms; frame = f }) ≡ with_frame w s p f
framed_law v w same s p f e is = entry_is_frame v s p f e is ∙ ap (λ (m : LedgerView). with_frame m s p f) same

-- that numbers don't overflow

pub units_law : (v : LedgerView) (counts : List ℕ) (u n : ℕ) → IsBooked v counts u n → IsSound v → u + 64 < 2 ^ 32
units_law v counts u n kept sound = units_fit v counts u n kept sound

pub lines_law : (v : LedgerView) (counts : List ℕ) (u n : ℕ) → IsBooked v counts u n → IsSound v → n + 64 < 2 ^ 32
lines_law v counts u n kept sound = lines_fit v counts u n kept sound

pub few_law : (z f k : ℕ) (counts : List ℕ) → k ≡ frame_units z counts f → k ≤ 16
few_law z f k counts is = let few = few_units z f counts in omega (arith, few, is)

pub class_law : (k lines : ℕ) → k ≡ class lines → k ≤ 16
class_law k lines is = let most = class_most lines in omega (arith, most, is)

pub ruleset fits = (units_law, lines_law, few_law, class_law)

pub ruleset kept = (next_own, own_call, unused_law, inside_law, room_law, moved_law, frame_law, framed_law, cut_one, alone_law, zero_law, home_law, before_release, held_law, length_released, shared_law, released_law)

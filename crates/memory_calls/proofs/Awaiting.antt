use Rattle.std.specs.Prelude.{◌≡◌, ℕ, Bool, List, Option, IfSome, IsSome, Some, None, Result, Ok, Err, OnOk, OnErr, refl, zero, suc, ◌+◌}
use Rattle.std.proofs.Common.{true≢false, ap, ◌∙◌, subst, sym}
use Rattle.std.specs.Option.{option_map_or}
use Rattle.std.specs.FinMap as map
use Rattle.number_maps.specs.Keys.{by_key, removed_same}
use Rattle.page_table.specs.declared.entry.PageEntry.{PageEntry}
use Rattle.overlay_pages.specs.Lines.{zero_page}
use Rattle.overlay_pages.specs.State.{PageState, SpaceState, State}
use Rattle.overlay_pages.specs.Changes.{IsPlaced, copied, whole_page, with_written, with_zeros, written}
use Rattle.overlay_pages.specs.Calls.{IsEmptyState}
use Rattle.overlay_pages.specs.View as seen
use Rattle.overlay_pages.specs.View.{MemoryView}
use Rattle.overlay_memory.specs.Access.{Places, Stores}
use Rattle.overlay_memory.specs.declared.error.MemoryError.{MemoryError}
use Rattle.overlay_memory.specs.declared.error.MemoryError.TheVariants.{Unmapped, Forbidden, Full}
use Rattle.overlay_memory.specs.declared.error.SpaceError.{SpaceError}
use Rattle.overlay_memory.specs.declared.error.SpaceError.TheVariants as refused
use Rattle.overlay_memory.specs.Pieces.{KeepsAllElse}
use Rattle.overlay_memory.specs.View.{NoneAwaits, TranslatedView, state_of}
use Rattle.page_dedup.specs.Deduplicated.{Deduplicates}
use Rattle.page_dedup.specs.declared.error.DedupError.{DedupError}
use Rattle.page_dedup.specs.declared.error.DedupError.TheVariants.{NotAlone, FrameHere, NotAlike}
use Rattle.space_ledger.specs.View.{LedgerView, with_zero_pages}
use Rattle.space_maps.specs.Laws.{space_absent, space_beside, space_left, space_put}
use Rattle.space_maps.specs.Options.{by_option}
use Rattle.space_maps.specs.Spaces.{SpaceOf, Spaces, cut_page, cut_pages, cut_space, bare_space, page_in, put_mark, put_page, put_space, space_in, altered_page, put_pages}
use Rattle.fork_checkpoint.specs.Copied.{Copies}

-- No page of any space awaits, and what calls do leaves it so.

abbrev pub NoPageAwaits : {P : Type 0} → Spaces P → Type 0
NoPageAwaits v = (q : ℕ) → NoneAwaits v q

pub none_awaits_as : (v w : State) → w ≡ v → NoPageAwaits v → NoPageAwaits w
none_awaits_as v w same settled q = ap (λ (x : State). (space_in x q).awaiting) same ∙ settled q

pub none_awaits_view : (v w : TranslatedView) → w ≡ v → NoPageAwaits (state_of v) → NoPageAwaits (state_of w)
none_awaits_view v w same = none_awaits_as (state_of v) (state_of w) (ap state_of same)

none_awaits_seen : (v w : MemoryView) → w ≡ v → NoPageAwaits (seen.state_of v) → NoPageAwaits (seen.state_of w)
none_awaits_seen v w same = none_awaits_as (seen.state_of v) (seen.state_of w) (ap seen.state_of same)

pub none_awaits_new : (frames : ℕ) (v : State) → IsEmptyState frames v → NoPageAwaits v
none_awaits_new frames v made q = ap (λ (x : SpaceState). x.awaiting) (space_absent v q (ap (λ m. map.get m q) made.spaces ∙ map.get-empty _ q))

pub none_awaits_put : {P : Type 0} (v : Spaces P) (s : ℕ) (x : SpaceOf P) → NoPageAwaits v → x.awaiting ≡ map.empty → NoPageAwaits (put_space v s x)
none_awaits_put v s x settled none q = by_key q s
    (λ same. ap (λ y. y.awaiting) (space_put v s x q same) ∙ none)
    (λ other. ap (λ y. y.awaiting) (space_beside v s x q other) ∙ settled q)

pub none_awaits_page : {P : Type 0} (v : Spaces P) (s p : ℕ) (x : P) → NoPageAwaits v → NoPageAwaits (put_page v s p x)
unfolding put_page
none_awaits_page v s p x settled = none_awaits_put v s _ settled (settled s)

pub none_awaits_altered : (f : PageState → PageState) (v : State) (s p : ℕ) → NoPageAwaits v → NoPageAwaits (altered_page f v s p)
unfolding altered_page
none_awaits_altered f v s p settled = by_page (page_in v s p)
  where
    by_page : (o : Option PageState) → NoPageAwaits (option_map_or (λ x. put_page v s p (f x)) o v)
    by_page None = settled
    by_page (Some x) = none_awaits_page v s p (f x) settled

pub none_awaits_written : (v : State) (s p line : ℕ) (bytes : List ℕ) → NoPageAwaits v → NoPageAwaits (with_written v s p line bytes)
unfolding with_written
none_awaits_written v s p line bytes settled = none_awaits_altered (written line bytes) v s p settled

none_awaits_zeros : {P : Type 0} (n from : ℕ) (v : Spaces P) (s : ℕ) (x : P) → NoPageAwaits v → NoPageAwaits (put_pages v s from n x)
unfolding put_pages
none_awaits_zeros zero from v s x settled = settled
none_awaits_zeros (suc n) from v s x settled = none_awaits_zeros n (from + 1) (put_page v s from x) s x (none_awaits_page v s from x settled)

pub none_awaits_beside : (v w : State) (s : ℕ) → (space_in w s).awaiting ≡ (space_in v s).awaiting → ((q : ℕ) → (q ≡ s → ⊥) → space_in w q ≡ space_in v q)
    → NoPageAwaits v → NoPageAwaits w
none_awaits_beside v w s awaiting others settled q = by_key q s
    (λ same. ap (λ n. (space_in w n).awaiting) same ∙ awaiting ∙ settled s)
    (λ other. ap (λ (y : SpaceState). y.awaiting) (others q other) ∙ settled q)

pub none_awaits_stores : (old new : MemoryView) (s address : ℕ) (bytes : List ℕ) (r : Result (Unit {0}) MemoryError) → Stores old new s address bytes r
    → NoPageAwaits (seen.state_of old) → NoPageAwaits (seen.state_of new)
none_awaits_stores old new s address bytes (Ok done) h = none_awaits_beside (seen.state_of old) (seen.state_of new) s h.1.awaiting h.1.others
none_awaits_stores old new s address bytes (Err (Unmapped at)) h = none_awaits_seen old new h.1
none_awaits_stores old new s address bytes (Err (Forbidden at)) h = none_awaits_seen old new h.1
none_awaits_stores old new s address bytes (Err (Full needed limit)) h = none_awaits_seen old new h.1.kept

pub none_awaits_places : (old new : MemoryView) (s p : ℕ) (entry : ℕ → PageEntry) (bytes : List ℕ) (r : Result (Unit {0}) SpaceError) → Places old new s p entry bytes r
    → NoPageAwaits (seen.state_of old) → NoPageAwaits (seen.state_of new)
none_awaits_places old new s p entry bytes (Ok done) h settled =
    none_awaits_as _ (seen.state_of new) h.0.placed (none_awaits_page (seen.state_of old) s p _ settled)
none_awaits_places old new s p entry bytes (Err (refused.Full needed limit)) h settled = none_awaits_seen old new h.kept settled
none_awaits_places old new s p entry bytes (Err refused.Memory) h settled = none_awaits_as (seen.state_of old) (seen.state_of new) h.1 settled

pub none_awaits_mapped : {E : Type 0} (old new : TranslatedView) (s from n : ℕ) (entry : PageEntry) (r : Result (Unit {0}) E)
    → OnOk r (state_of new ≡ with_zeros (state_of old) s from n entry) → OnErr r (new ≡ old) → NoPageAwaits (state_of old) → NoPageAwaits (state_of new)
unfolding with_zeros
none_awaits_mapped old new s from n entry (Ok done) mapped kept settled = none_awaits_as _ (state_of new) mapped (none_awaits_zeros n from (state_of old) s (whole_page entry zero_page) settled)
none_awaits_mapped old new s from n entry (Err e) mapped kept settled = none_awaits_view old new kept settled

pub none_awaits_added : {E : Type 0} (old new : TranslatedView) (s : ℕ) (r : Result (Unit {0}) E)
    → OnOk r (state_of new ≡ put_space (state_of old) s bare_space) → OnErr r (new ≡ old) → NoPageAwaits (state_of old) → NoPageAwaits (state_of new)
none_awaits_added old new s (Ok done) added kept settled = none_awaits_as _ (state_of new) added (none_awaits_put (state_of old) s bare_space settled refl)
none_awaits_added old new s (Err e) added kept settled = none_awaits_view old new kept settled

-- what a fork or a restore does
pub none_awaits_copies : (old new : TranslatedView) (from to : ℕ) (r : Result (Unit {0}) SpaceError) → Copies old new from to r → NoPageAwaits (state_of old) → NoPageAwaits (state_of new)
none_awaits_copies old new from to (Ok done) h settled = none_awaits_beside (state_of old) (state_of new) to (h.1.awaiting ∙ sym (settled to)) h.1.others settled
none_awaits_copies old new from to (Err (refused.Full needed limit)) h settled = none_awaits_view old new h.kept settled
none_awaits_copies old new from to (Err refused.Memory) h settled = none_awaits_as (state_of old) (state_of new) h.1 settled

-- what pages that are put on other pages leave
pub none_awaits_kept : (old new : State) (s : ℕ) → KeepsAllElse old new s → NoPageAwaits old → NoPageAwaits new
none_awaits_kept old new s kept = none_awaits_beside old new s kept.awaiting kept.others

pub none_awaits_put_on : (old new : TranslatedView) (s p from other : ℕ) (r : Result (Unit {0}) DedupError) → Deduplicates old new s p from other r
    → NoPageAwaits (state_of old) → NoPageAwaits (state_of new)
none_awaits_put_on old new s p from other (Ok done) h = none_awaits_kept (state_of old) (state_of new) s h.1.beside
none_awaits_put_on old new s p from other (Err NotAlone) h = none_awaits_view old new h.1
none_awaits_put_on old new s p from other (Err FrameHere) h = none_awaits_view old new h.2
none_awaits_put_on old new s p from other (Err (NotAlike lines)) h = none_awaits_view old new h.3

-- what pages that go leave
pub none_awaits_cut : (n from : ℕ) (v : State) (s : ℕ) → NoPageAwaits v → NoPageAwaits (cut_pages v s from n)
unfolding cut_pages cut_page
none_awaits_cut zero from v s settled = settled
none_awaits_cut (suc n) from v s settled = none_awaits_put (cut_pages v s from n) s _ (none_awaits_cut n from v s settled) (none_awaits_cut n from v s settled s)

-- what a mark, a space that goes, and a page that is copied leave
pub none_awaits_marked : (v : State) (s : ℕ) (on : Bool) → NoPageAwaits v → NoPageAwaits (put_mark v s on)
unfolding put_mark
none_awaits_marked v s on settled = none_awaits_put v s _ settled (settled s)

pub none_awaits_gone : (v : State) (s : ℕ) → NoPageAwaits v → NoPageAwaits (cut_space v s)
unfolding cut_space
none_awaits_gone v s settled q = by_key q s
    (λ same. ap (λ (x : SpaceState). x.awaiting) (space_absent (cut_space v s) q (removed_same v.spaces s q same)))
    (λ other. ap (λ (x : SpaceState). x.awaiting) (space_left v s q other) ∙ settled q)

pub none_awaits_copied : (old new : State) (s p : ℕ) → IfSome (page_in old s p) (λ x. IsPlaced old new s p (λ frame. copied frame x)) → IsSome (page_in old s p) → NoPageAwaits old → NoPageAwaits new
none_awaits_copied old new s p placed there settled = by_option (page_in old s p)
    (λ none. absurd (true≢false (sym (subst IsSome none there))))
    (λ x found. let h = subst (λ o. IfSome o (λ y. IsPlaced old new s p (λ frame. copied frame y))) found placed in
    none_awaits_as _ new h.placed (none_awaits_page old s p _ settled))

-- A ledger alone: with one space that has no page, and with zero pages of it.

pub none_awaits_begun : (v w : LedgerView) (s : ℕ) → v.spaces ≡ map.empty → w ≡ put_space v s bare_space → NoPageAwaits w
none_awaits_begun v w s none is q =
    ap (λ (x : LedgerView). (space_in x q).awaiting) is
    ∙ none_awaits_put v s bare_space (λ r. ap (λ y. y.awaiting) (space_absent v r (ap (λ m. map.get m r) none ∙ map.get-empty _ r))) refl q

pub none_awaits_zeroed : (v w : LedgerView) (s from n : ℕ) (entry : PageEntry) → w ≡ with_zero_pages v s from n entry → NoPageAwaits v → NoPageAwaits w
unfolding with_zero_pages
none_awaits_zeroed v w s from n entry is settled q =
    ap (λ (x : LedgerView). (space_in x q).awaiting) is ∙ none_awaits_zeros n from v s (record { entry = entry; overlay = None }) settled q

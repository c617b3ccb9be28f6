use Rattle.std.specs.Prelude.{◌≡◌, ℕ, zero, suc, ◌+◌, ◌/◌, nat_le, ◌&&◌, not, cond, ◌∷◌, length, Option, Some, None, is_some, refl}
use Rattle.std.proofs.Common.{sym, ap, subst, ◌∙◌}
use Rattle.std.specs.Option.{option_map}
use Rattle.std.specs.FinMap.{get}
use Rattle.sizes.specs.declared.TheConstants.{PAGE_BYTES}
use Rattle.ovl_io.specs.Memory.{Memory}
use Rattle.ledger.specs.Alike.{AreAlike}
use Rattle.ledger.specs.AlikeLaws.{alike_alone}
use Rattle.ledger.specs.Changes.{rebased}
use Rattle.ledger.specs.Ledger.{Holding, Ledger, holding_at}
use Rattle.ledger.specs.RebaseLaws.{alike_here, alike_own_of}
use Rattle.ledger.specs.RowLaws.{alike_rebased}
use Rattle.overlay_memory.specs.Rebased.{lines_apart}
use Rattle.page_dedup.specs.Deduplicated.{can_share, lines_between, page_numbers, shares_from, shares_of}
use Rattle.command_core.specs.State.{AreLikeStates, State, registry_of}
use Rattle.command_core.specs.Deduplication.{PagePair, dedup_all_by, dedup_all_row, dedup_by, dedup_row, memory_found, pair_in}

-- States that differ in the numbers of origins alone have the same rows.

-- what ledgers that are alike say of two pages
pair_same : (a b : Ledger) → AreAlike a b → (p page : ℕ) (mine : Memory) (q other : ℕ) (theirs : Memory)
    → pair_in a p page mine q other theirs ≡ pair_in b p page mine q other theirs
pair_same a b alike p page mine q other theirs = λ i. record {
  alone = alike_alone a b alike p page i;
  here = alike_here a b alike p q other i;
  apart = lines_apart (alike_own_of a b alike q other i) mine page theirs other;
}

-- the pages that can be put on others, by ledgers that are alike
module _ (mine theirs : Memory) (p q : ℕ) where
  apart_same : (a b : Ledger) → AreAlike a b → (page : ℕ) → lines_between mine theirs q a page ≡ lines_between mine theirs q b page
  unfolding lines_between
  apart_same a b alike page = ap (λ own. lines_apart own mine page theirs page) (alike_own_of a b alike q page)

  there_same : (a b : Ledger) → AreAlike a b → (page : ℕ) → is_some (holding_at a q page) ≡ is_some (holding_at b q page)
  there_same a b alike page = mapped (holding_at a q page) ∙ ap is_some (alike.own q page) ∙ sym (mapped (holding_at b q page))
    where
      mapped : (o : Option Holding) → is_some o ≡ is_some (option_map (λ (holding : Holding). holding.own) o)
      mapped None = refl
      mapped (Some x) = refl

  can_same : (a b : Ledger) → AreAlike a b → (page : ℕ) → can_share mine theirs p q a page ≡ can_share mine theirs p q b page
  unfolding can_share
  can_same a b alike page = λ i.
      there_same a b alike page i
      && (alike_alone a b alike p page i && (not (alike_here a b alike p q page i) && nat_le (length (apart_same a b alike page i)) 31))

  shares_same_from : (n page : ℕ) (a b : Ledger) → AreAlike a b → shares_from mine theirs p q a page n ≡ shares_from mine theirs p q b page n
  shares_same_from zero page a b alike = refl
  shares_same_from (suc n) page a b alike =
      let lines = lines_between mine theirs q a page in
      let put = subst (λ ls. AreAlike (rebased p q a page page lines) (rebased p q b page page ls)) (apart_same a b alike page)
      (alike_rebased a b alike p q page page lines) in
      let rest = shares_same_from n (page + 1) _ _ put in
      let others = shares_same_from n (page + 1) a b alike in
      λ i. cond (can_same a b alike page i) ((page, page, apart_same a b alike page i) ∷ rest i) (others i)

  shares_same : (a b : Ledger) → AreAlike a b → shares_of mine theirs p q a ≡ shares_of mine theirs p q b
  unfolding shares_of
  shares_same a b alike = shares_same_from page_numbers 0 a b alike

module _ (a b : State) (like : AreLikeStates a b) where
  pub dedup_same : (p address q other : ℕ) → dedup_row p address q other a ≡ dedup_row p address q other b
  dedup_same p address q other =
      let ledgers = pair_same a.wholes.ledger b.wholes.ledger like.wholes.ledger p (address / PAGE_BYTES) (memory_found (get a.wholes.processes p)) q
      (other / PAGE_BYTES) (memory_found (get a.wholes.processes q)) in
      ap (λ (pair : PagePair). dedup_by p address q other (get a.wholes.processes p) (get a.wholes.processes q) pair (registry_of a)) ledgers
      ∙ (λ i.
      let mine = get (like.wholes.processes i) p in
      let theirs = get (like.wholes.processes i) q in
      dedup_by p address q other mine theirs
      (pair_in b.wholes.ledger p (address / PAGE_BYTES) (memory_found mine) q (other / PAGE_BYTES) (memory_found theirs))
      (record { processes = like.wholes.processes i; checkpoints = like.checkpoints i; breakpoints = like.breakpoints i }))

  pub dedup_all_same : (p q : ℕ) → dedup_all_row p q a ≡ dedup_all_row p q b
  dedup_all_same p q =
      ap (λ pages. dedup_all_by p q (get a.wholes.processes p) (get a.wholes.processes q) pages (registry_of a))
      (shares_same (memory_found (get a.wholes.processes p)) (memory_found (get a.wholes.processes q)) p q a.wholes.ledger b.wholes.ledger like.wholes.ledger)
      ∙ (λ i.
      let mine = get (like.wholes.processes i) p in
      let theirs = get (like.wholes.processes i) q in
      dedup_all_by p q mine theirs (shares_of (memory_found mine) (memory_found theirs) p q b.wholes.ledger)
      (record { processes = like.wholes.processes i; checkpoints = like.checkpoints i; breakpoints = like.breakpoints i }))

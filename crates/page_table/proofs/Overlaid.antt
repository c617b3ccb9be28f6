use Rattle.std.proofs.Common.{inl, inr, ◌⊎◌, ◌<◌, ◌≡◌, ℕ, ◌+◌, ◌≤◌, Bool, true, false, cond, List, Option, Some, None, subst, sym, ap, ◌∙◌, refl, arith}
use Rattle.std.specs.Option.{is_some, IsSome}
use Rattle.std.specs.Ordering.{nat_cmp}
use Rattle.std.specs.FinMap.{empty, get, insert, len, len-empty}
use Rattle.number_maps.specs.Keys.{by_key, get_other, get_same}
use Rattle.page_set.specs.Sets.{AreChunks, AreTakenOut, Chunks, LieInFew, Members, chunks_in, holds}
use Rattle.page_set.specs.Laws.{are_none, few_counted, few_more, few_within, holds_none}
use Rattle.page_table.specs.declared.entry.PageEntry.{PageEntry}
use Rattle.page_table.specs.declared.run.PageRun.{PageRun}
use Rattle.page_table.specs.Table.{Pages, IsMapped, IsUnmapped, is_within}
use Rattle.page_table.specs.Nodes.{Links, Table, pages_by}
use Rattle.page_table.specs.Kept.{AreOverlaid, run_pages, seen_table}
use Rattle.page_table.proofs.Pages.{within_from, within_to}

-- Which pages are overlaid, and what the calls make of it.

-- what is kept says it of the table that is seen
pub overlaid_seen : {overlaid : Chunks} (table : Table) (links : Links) (runs : List PageRun) (set : Members)
    → seen_table links runs overlaid ≡ table → AreOverlaid (pages_by links (run_pages runs)) set → AreOverlaid table.pages set
overlaid_seen table links runs set is = subst (λ (t : Table). AreOverlaid t.pages set) is

pub overlaid_none : (pages : Pages) (set : Members) → pages ≡ empty → set.chunks ≡ empty → AreOverlaid pages set
overlaid_none pages set bare none = record {
  are = are_none set.chunks none;
  there = λ page held. let no = sym held ∙ holds_none set.chunks none page in cc;
  roomy = let no = ap len bare ∙ len-empty nat_cmp PageEntry in few_counted pages set.room (omega (arith, no));
}

module _ (old new : Pages) (set later : Members) (own : AreOverlaid old set) where
  pub overlaid_mapped : (from n count : ℕ) (entry : PageEntry) → IsMapped old from n entry new → later.chunks ≡ set.chunks → AreChunks later.chunks
      → len new ≡ count → (count ≤ later.room) ⊎ (set.room + chunks_in from n ≤ later.room) → AreOverlaid new later
  overlaid_mapped from n count entry mapped same are counted room = record {
    are = are;
    there = λ page held.
        ap is_some (mapped page) ∙ some (is_within from n page) (get old page) (own.there page (ap (λ (m : Chunks). holds m page) (sym same) ∙ held));
    roomy = roomy room;
  }
    where
      some : (b : Bool) (o : Option PageEntry) → IsSome o → IsSome (cond b (Some entry) o)
      some true o there = refl
      some false o there = there

      inside : (page : ℕ) (b : Bool) → is_within from n page ≡ b → IsSome (get new page) → IsSome (get old page) ⊎ ((from ≤ page) × (page < from + n))
      inside page true is there = inr (within_from from n page is, within_to from n page is)
      inside page false is there = inl (ap is_some (sym (mapped page ∙ ap (λ (b : Bool). cond b (Some entry) (get old page)) is)) ∙ there)

      roomy : (count ≤ later.room) ⊎ (set.room + chunks_in from n ≤ later.room) → LieInFew new later.room
      roomy (inl all) = few_counted new later.room (omega (arith, counted, all))
      roomy (inr more) =
          few_within new new (set.room + chunks_in from n) later.room (λ q there. there) more
          (few_more old new from n set.room (λ q there. inside q (is_within from n q) refl there) own.roomy)

  pub overlaid_unmapped : (from n : ℕ) → IsUnmapped old from n new → AreTakenOut set.chunks from n later.chunks → AreChunks later.chunks → later.room ≡ set.room
      → AreOverlaid new later
  overlaid_unmapped from n unmapped cut are room = record {
    are = are;
    there = λ page held. ap is_some (unmapped page) ∙ some page (is_within from n page) (sym (cut page) ∙ held);
    roomy = few_within old new set.room later.room (λ page there. had page (is_within from n page) (sym (ap is_some (unmapped page)) ∙ there))
        (omega (arith, room)) own.roomy;
  }
    where
      some : (page : ℕ) (b : Bool) → cond b false (holds set.chunks page) ≡ true → IsSome (cond b None (get old page))
      some page true held = cc
      some page false held = own.there page held

      had : (page : ℕ) (b : Bool) → IsSome (cond b None (get old page)) → IsSome (get old page)
      had page true there = cc
      had page false there = there

-- a page with another entry
pub overlaid_set : (old new : Pages) (set : Members) (page : ℕ) (e : PageEntry) → AreOverlaid old set → IsSome (get old page) → new ≡ insert old page e
    → AreOverlaid new set
overlaid_set old new set page e own before is = record {
  are = own.are;
  there = λ q held. ap (λ (m : Pages). is_some (get m q)) is ∙ by_key q page
      (λ same. ap is_some (get_same old page q e same))
      (λ other. ap is_some (get_other old page q e other) ∙ own.there q held);
  roomy = few_within old new set.room set.room (λ q there. by_key q page
      (λ same. ap (λ k. is_some (get old k)) same ∙ before)
      (λ other. sym (ap is_some (get_other old page q e other)) ∙ sym (ap (λ (m : Pages). is_some (get m q)) is) ∙ there))
      (omega arith) own.roomy;
}

-- equal links and runs, and equal chunks
pub overlaid_copy : (links old : Links) (runs was : List PageRun) (set later : Members) (count : ℕ) → links ≡ old → runs ≡ was → later.chunks ≡ set.chunks
    → len (pages_by old (run_pages was)) ≡ count → (count ≤ later.room) ⊎ (set.room ≤ later.room)
    → AreOverlaid (pages_by old (run_pages was)) set → AreOverlaid (pages_by links (run_pages runs)) later
overlaid_copy links old runs was set later count same also chunks counted room own =
    subst (λ l. AreOverlaid (pages_by l (run_pages runs)) later) (sym same)
    (subst (λ (r : List PageRun). AreOverlaid (pages_by old (run_pages r)) later) (sym also) (record {
      are = subst AreChunks (sym chunks) own.are;
      there = λ page held. own.there page (ap (λ (m : Chunks). holds m page) (sym chunks) ∙ held);
      roomy = roomy room;
    }))
  where
    pages : Pages
    pages = pages_by old (run_pages was)

    roomy : (count ≤ later.room) ⊎ (set.room ≤ later.room) → LieInFew pages later.room
    roomy (inl all) = few_counted pages later.room (omega (arith, counted, all))
    roomy (inr more) = few_within pages pages set.room later.room (λ q there. there) more own.roomy

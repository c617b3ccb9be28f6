use Rattle.std.proofs.Common.{◌≡◌, None, Some, false, refl, sym, ◌∙◌}
use Rattle.ledger.specs.Changes.{is_origin_here}
use Rattle.overlay_memory.specs.FoundLaws.{alone_at, of_found, to_found}
use Rattle.overlay_memory.specs.Rebased.{CanCompare, RebasesAlike}
use Rattle.overlay_memory.specs.View.{state_of}
use Rattle.overlay_pages.specs.State.{books}
use Rattle.space_maps.specs.Spaces.{space_in}
use Rattle.page_dedup.proofs.Walking.{told_exactly}
use Rattle.page_dedup.proofs.sharing.deduplicate.Goals as goal

pub returns-then-not-is_alone-clause-deduplicates : goal.returns-then-not-is_alone-clause-deduplicates
returns-then-not-is_alone-clause-deduplicates c = (sym (alone_at c.args.mem.now.pages c.find_page-found.result c.args.space c.args.page c.find_page-found.ensures.found c.requires.settled c.is_alone.result c.is_alone.ensures) ∙ c.if-not-is_alone.true, refl)

pub is_frame_here-requires-clause-theirs : goal.is_frame_here-requires-clause-theirs
is_frame_here-requires-clause-theirs c = c.find_page-theirs.ensures.found.is

pub is_frame_here-requires-clause-settled : goal.is_frame_here-requires-clause-settled
is_frame_here-requires-clause-settled c =
    to_found c.args.mem.now.pages c.find_page-found.result c.find_page-theirs.result c.args.space c.args.page c.args.from c.args.other c.find_page-found.ensures.found c.find_page-theirs.ensures.found
    (λ s p f o. (space_in (state_of c.args.mem.now) f).speculating ≡ false) c.requires.settled_from

pub returns-then-is_frame_here-clause-deduplicates : goal.returns-then-is_frame_here-clause-deduplicates
returns-then-is_frame_here-clause-deduplicates c = (
  sym (alone_at c.args.mem.now.pages c.find_page-found.result c.args.space c.args.page c.find_page-found.ensures.found c.requires.settled c.is_alone.result c.is_alone.ensures) ∙ c.if-not-is_alone.false,
  (sym (of_found c.args.mem.now.pages c.find_page-found.result c.find_page-theirs.result c.args.space c.args.page c.args.from c.args.other c.find_page-found.ensures.found c.find_page-theirs.ensures.found
      (λ s p f o. c.is_frame_here.result ≡ is_origin_here (books (state_of c.args.mem.now)) c.args.space f o) c.is_frame_here.ensures) ∙ c.if-is_frame_here.true),
  refl,
)

pub rebase_found-requires-clause-asked : goal.rebase_found-requires-clause-asked
rebase_found-requires-clause-asked c =
    to_found c.args.mem.now.pages c.find_page-found.result c.find_page-theirs.result c.args.space c.args.page c.args.from c.args.other c.find_page-found.ensures.found c.find_page-theirs.ensures.found
    (CanCompare (state_of c.args.mem.now)) (record {
      settled = c.requires.settled;
      settled_from = c.requires.settled_from;
      none_awaits = c.requires.none_awaits;
      apart = record {
        alone = sym (alone_at c.args.mem.now.pages c.find_page-found.result c.args.space c.args.page c.find_page-found.ensures.found c.requires.settled c.is_alone.result c.is_alone.ensures) ∙ c.if-not-is_alone.false;
        away = (sym (of_found c.args.mem.now.pages c.find_page-found.result c.find_page-theirs.result c.args.space c.args.page c.args.from c.args.other c.find_page-found.ensures.found c.find_page-theirs.ensures.found
            (λ s p f o. c.is_frame_here.result ≡ is_origin_here (books (state_of c.args.mem.now)) c.args.space f o) c.is_frame_here.ensures) ∙ c.if-is_frame_here.false);
      };
    })

pub returns-in-Some-clause-deduplicates : goal.returns-in-Some-clause-deduplicates
returns-in-Some-clause-deduplicates c =
    let r = of_found c.args.mem.now.pages c.find_page-found.result c.find_page-theirs.result c.args.space c.args.page c.args.from c.args.other c.find_page-found.ensures.found c.find_page-theirs.ensures.found
    (λ s p f o. RebasesAlike c.args.mem.now c.rebase_found.new.self s p f o 64 (Some c.in-Some.lines)) c.in-Some.ensures in
    let n = told_exactly _ c.in-Some.lines r.1 r.2 in (
      record {
        alone = sym (alone_at c.args.mem.now.pages c.find_page-found.result c.args.space c.args.page c.find_page-found.ensures.found c.requires.settled c.is_alone.result c.is_alone.ensures) ∙ c.if-not-is_alone.false;
        away = (sym (of_found c.args.mem.now.pages c.find_page-found.result c.find_page-theirs.result c.args.space c.args.page c.args.from c.args.other c.find_page-found.ensures.found c.find_page-theirs.ensures.found
            (λ s p f o. c.is_frame_here.result ≡ is_origin_here (books (state_of c.args.mem.now)) c.args.space f o) c.is_frame_here.ensures) ∙ c.if-is_frame_here.false);
      },
      n.0,
      n.1 r.0,
      r.3,
    )

pub returns-in-None-clause-deduplicates : goal.returns-in-None-clause-deduplicates
returns-in-None-clause-deduplicates c =
    let r = of_found c.args.mem.now.pages c.find_page-found.result c.find_page-theirs.result c.args.space c.args.page c.args.from c.args.other c.find_page-found.ensures.found c.find_page-theirs.ensures.found
    (λ s p f o. RebasesAlike c.args.mem.now c.rebase_found.new.self s p f o 64 None) c.in-None.ensures in
    (r.0, r.1)

pub returns-in-None-clause-translations : goal.returns-in-None-clause-translations
returns-in-None-clause-translations c =
    (of_found c.args.mem.now.pages c.find_page-found.result c.find_page-theirs.result c.args.space c.args.page c.args.from c.args.other c.find_page-found.ensures.found c.find_page-theirs.ensures.found
    (λ s p f o. RebasesAlike c.args.mem.now c.rebase_found.new.self s p f o 64 None) c.in-None.ensures).2

use Rattle.overlay_pages.proofs.Common.{◌≡◌, ℕ, ◌+◌, ◌^◌, ◌<◌, ◌≤◌, ◌||◌, ◌++◌, ◌∷◌, Bool, true, false, cond, nat_eq, List, [], Option, Some, None, length, refl, true≢false, sym, ap, subst, ◌∙◌, arith, none-some, nat_tests, get_or}
use Rattle.overlay_pages.proofs.Stores.{AreSettled, HasRoom, free_units, units_in, Block, AreLines, has_line, has_append, with_line, overlay_page, Entry, IsStore, capacity_of, Store, IsSegment, frame_line, line_in, lines_at, lines_with, BeginsSegment, HasLinesNow, Inserts, KeepsFrames, KeepsOtherSegments, lines_there, refilled}
use Rattle.overlay_pages.proofs.Books.{class, class_none, by_test, altered_page, LedgerView, PageView, lines_of, with_overlay}
use Rattle.overlay_pages.proofs.Views.{page_lines, line_at, lines_same, line_in_page, by_rank, given_page, limit_of, units_of, IsJoined, IsLaid, MemoryView, line_seen, page_state, state_of, view_of, state_page_there}
use Rattle.overlay_bits.specs.Laws.{front_lacks, next_inside, with_next}
use Rattle.std.proofs.Common.{append_assoc}
use Rattle.std.proofs.lemmas.List.{append-nil, length-append}
use Rattle.overlay_pages.proofs.Steps.{seen_bare, seen_inside, seen_outside}
use Rattle.overlay_pages.proofs.Overlaying.{overlays, segments_some}
use Rattle.overlay_pages.proofs.Joining.{Has, altered_still, frames_twice, others_twice, segment_beside, unit_low}
use Rattle.overlay_pages.proofs.Growing.{free_is, has_room}
use Rattle.overlay_pages.proofs.Kept.{by_place_of}

-- An overlay of lines that are given.

-- So far: the segment has the first of them.
pub record IsFilling (first now : Store) (owner : ℕ) (block : Block) (bits rest : List ℕ) (at : ℕ) (given : ℕ → List ℕ) : Type 0 where
  pub done : List ℕ
  pub cut : bits ≡ done ++ rest
  pub at_is : at ≡ length done
  pub are : AreLines bits
  pub laid : IsLaid first now owner block done given

pub none_filled : (old began : Store) (owner order : ℕ) (block : Block) (bits rest : List ℕ) (given : ℕ → List ℕ) → AreLines bits → rest ≡ bits → BeginsSegment old began owner order [] block
    → IsFilling old began owner block bits rest 0 given
none_filled old began owner order block bits rest given are same b = record {
  done = [];
  cut = sym same;
  at_is = refl;
  are = are;
  laid = record {
    fresh = b.fresh;
    there = b.there;
    elsewhere = segment_beside old block.unit began.segments _ b.segments;
    kept = λ unit segment _ there. b.others unit segment there;
    frames = b.frames;
    lines = λ i low has. absurd (true≢false (sym has));
    free = b.free;
    whole = b.units;
    settled = b.settled;
    store = b.store;
  };
}

module _ (first now : Store) (owner : ℕ) (block : Block) (bits rest : List ℕ) (at : ℕ) (given : ℕ → List ℕ) (so : IsFilling first now owner block bits rest at given) where
  pub all_filled : rest ≡ [] → IsLaid first now owner block bits given
  all_filled none = subst (λ l. IsLaid first now owner block l given) (sym (so.cut ∙ ap (λ l. so.done ++ l) none ∙ append-nil so.done)) so.laid

  module _ (line : ℕ) (more : List ℕ) (steps : rest ≡ line ∷ more) where
    are_cut : AreLines (so.done ++ line ∷ more)
    are_cut = subst AreLines (so.cut ∙ ap (λ l. so.done ++ l) steps) so.are

    set_is : lines_at now block.unit ≡ so.done
    set_is = lines_there now block.unit _ so.laid.there

    pub fill_there : IsSegment now block
    fill_there = record { segment = record { owner = owner; order = block.order; bits = so.done }; there = so.laid.there; order = refl }

    pub fill_fits_kept : (most : ℕ) → length bits ≤ most → at < most
    fill_fits_kept most few = omega (arith, few, so.at_is, ap length (so.cut ∙ ap (λ l. so.done ++ l) steps), length-append so.done (line ∷ more))

    -- its place among those that were kept
    pub fill_given : (kept : List (List ℕ)) → line_in_page kept at ≡ by_rank bits kept line
    fill_given kept = ap (line_in_page kept) so.at_is ∙ by_place_of bits so.done line more kept so.are (so.cut ∙ ap (λ l. so.done ++ l) steps)

    pub fill_low : line < 64
    fill_low = next_inside so.done line more are_cut

    pub fill_absent : has_line (lines_at now block.unit) line ≡ false
    fill_absent = ap (λ l. has_line l line) set_is ∙ front_lacks so.done line more are_cut

    pub fill_fits : length bits ≤ capacity_of block.order → length (lines_at now block.unit) < capacity_of block.order
    fill_fits fits = omega (arith, fits, ap length set_is, ap length (so.cut ∙ ap (λ l. so.done ++ l) steps), length-append so.done (line ∷ more))

    pub one_filled : (new : Store) (bytes : List ℕ) → bytes ≡ given line → Inserts now new block line bytes → HasLinesNow now new block (lines_with now block line)
        → KeepsOtherSegments now block.unit new → KeepsFrames now new → IsStore new → IsFilling first new owner block bits more (at + 1) given
    one_filled new bytes bytes_is inserts lines kept frames store = record {
      done = so.done ++ line ∷ [];
      cut = so.cut ∙ ap (λ l. so.done ++ l) steps ∙ sym (append_assoc so.done (line ∷ []) more);
      at_is = omega (arith, so.at_is, length-append so.done (line ∷ []));
      are = so.are;
      laid = record {
        fresh = so.laid.fresh;
        there = ap (λ l. get_or l block.unit None) lines.segments
            ∙ refilled now.segments block.unit (record { owner = owner; order = block.order; bits = so.done }) (lines_with now block line) so.laid.there (unit_low now so.laid.store block.unit _ so.laid.there)
            ∙ ap (λ l. Some (record { owner = owner; order = block.order; bits = l })) (ap (λ l. with_line l line) set_is ∙ with_next so.done line more are_cut);
        elsewhere = λ unit away. segment_beside now block.unit new.segments _ lines.segments unit away ∙ so.laid.elsewhere unit away;
        kept = others_twice first now new block.unit so.laid.kept kept;
        frames = frames_twice first now new so.laid.frames frames;
        lines = λ i low has. by_test (has_line so.done i)
            (λ old. inserts.lines i (ap (λ l. has_line l i) set_is ∙ old) ∙ so.laid.lines i low old)
            (λ lacks.
            let same : line ≡ i = here i (sym (has_append so.done (line ∷ []) i) ∙ has) lacks in
            ap (line_in new block) (sym same) ∙ inserts.here ∙ bytes_is ∙ ap given same);
        free = ap (λ b. free_units b + 2 ^ block.order) lines.blocks ∙ so.laid.free;
        whole = ap units_in lines.blocks ∙ so.laid.whole;
        settled = λ h. subst AreSettled (sym lines.blocks) (so.laid.settled h);
        store = store;
      };
    }
      where
        last : (b : Bool) → (b || false) ≡ true → b ≡ true
        last true h = refl
        last false h = h

        here : (i : ℕ) → (has_line so.done i || has_line (line ∷ []) i) ≡ true → has_line so.done i ≡ false → line ≡ i
        here i has lacks =
            let one = last (nat_eq line i) (sym (ap (λ b. b || has_line (line ∷ []) i) lacks) ∙ has) in grind (arith, nat_tests)

-- A page gets it.
module _ (old : MemoryView) (store : Store) (table : LedgerView) (s p : ℕ) (block : Block) (bits : List ℕ) (given : ℕ → List ℕ) (is : IsJoined old) (has : Has old.table s p None)
    (some : 0 < length bits) (size : 2 ^ block.order ≡ class (length bits)) (so : IsLaid old.store store (overlay_page s p) block bits given)
    (table_is : table ≡ with_overlay old.table s p (Some (record { bits = bits; block = block }))) where
  abbrev overlay : Entry
  overlay = record { bits = bits; block = block }

  abbrev page : PageView
  page = record { entry = has.x.entry; overlay = Some overlay }

  each : (i : ℕ) → i < 64 → line_seen store page i ≡ cond (has_line bits i) (given i) (line_in_page (page_lines (frame_line old.store has.x.entry.frame)) i)
  each i low = by_test (has_line bits i)
      (λ own. seen_inside store page overlay i refl own ∙ so.lines i low own
      ∙ sym (ap (λ b. cond b (given i) (line_in_page (page_lines (frame_line old.store has.x.entry.frame)) i)) own))
      (λ lacks. seen_outside store page i lacks ∙ (so.frames has.x.entry.frame (is.held s p has.x has.there).frame).lines i low
      ∙ sym (line_at (frame_line old.store has.x.entry.frame) i low)
      ∙ sym (ap (λ b. cond b (given i) (line_in_page (page_lines (frame_line old.store has.x.entry.frame)) i)) lacks))

  page_given : page_state store page ≡ given_page bits given (page_state old.store has.x)
  unfolding page_state
  page_given =
      let lines = lines_same (line_seen store page) _ each in
      let base = lines_same (frame_line store has.x.entry.frame) (frame_line old.store has.x.entry.frame) (so.frames has.x.entry.frame (is.held s p has.x has.there).frame).lines in
      λ i. record { entry = has.x.entry; own = bits; lines = lines i; base = base i }

  pub lines_given : IsJoined (view_of store table) × (state_of (view_of store table) ≡ altered_page (given_page bits given) (state_of old) s p)
  lines_given =
      overlays old (view_of store table) s p has.x (Some overlay) is (record {
        there = has.there;
        table_is = table_is;
        segments = segments_some old.store store s p has.x.overlay overlay (λ g over. absurd (none-some g (sym has.is ∙ over))) (λ _. so.fresh) so.there so.elsewhere so.kept
            some size (so.settled is.blocks) so.whole so.store;
        frames = so.frames;
        free = omega (arith, so.free, size, class_none, ap (λ (o : Option Entry). class (length (lines_of o))) has.is);
      }) (given_page bits given) page_given

-- none are given
pub none_given : (v : MemoryView) (s p : ℕ) (given : ℕ → List ℕ) → Has v.table s p None → state_of v ≡ altered_page (given_page [] given) (state_of v) s p
unfolding page_state
none_given v s p given has =
    let lines = lines_same (λ i. line_in_page (page_lines (frame_line v.store has.x.entry.frame)) i) (frame_line v.store has.x.entry.frame) (λ i low. line_at (frame_line v.store has.x.entry.frame) i low)
    ∙ sym (seen_bare v.store has.x has.is) in
    altered_still (given_page [] given) (state_of v) s p (page_state v.store has.x) (state_page_there v s p has.x has.there)
    (λ i. record { entry = has.x.entry; own = lines_of (sym has.is i); lines = lines i; base = page_lines (frame_line v.store has.x.entry.frame) })

-- there is room for it
pub given_room : (v : MemoryView) (n order : ℕ) → IsJoined v → order ≤ 4 → 2 ^ order ≡ class n → units_of (state_of v) + class n ≤ limit_of (state_of v) → HasRoom v.store.blocks order
given_room v n order is low size fits = has_room v is order low (omega (arith, free_is v is, size, fits))

use Rattle.overlay_pages.proofs.Common.{◌≡◌, ℕ, ◌+◌, ◌<◌, ◌≤◌, ◌++◌, ◌∷◌, ◌⊎◌, inl, inr, true, cond, List, [], Some, length, get_or, slice_set, sym, ap, subst, ◌∙◌, arith, cases_eq, get_or-set_other, get_or-set_same, same_Some, option_map}
use Rattle.std.proofs.Math.Seq.{get_or-append_seam}
use Rattle.std.proofs.lemmas.List.{append-nil, length-append, length-set}
use Rattle.overlay_bits.specs.Laws.{lines_at, rank_of_next}
use Rattle.overlay_bits.specs.Lines.{lines_before, lines_behind, rank_of}
use Rattle.overlay_pages.proofs.Stores.{AreLines}
use Rattle.overlay_pages.proofs.Books.{page_in}
use Rattle.overlay_pages.proofs.Views.{AreKept, FoundLine, PageState, State, by_rank, line_in_page}

-- Lines of a page that stand one behind the other.

-- the line that a set has at a place has that rank
pub at_rank : (bits front : List ℕ) (line : ℕ) (rest : List ℕ) → AreLines bits → bits ≡ front ++ line ∷ rest → rank_of bits line ≡ length front
at_rank bits front line rest are cut =
    ap (λ l. rank_of l line) cut ∙ rank_of_next front line rest (subst AreLines cut are)

pub by_place_of : (bits front : List ℕ) (line : ℕ) (rest : List ℕ) (kept : List (List ℕ)) → AreLines bits → bits ≡ front ++ line ∷ rest
    → line_in_page kept (length front) ≡ by_rank bits kept line
by_place_of bits front line rest kept are cut = ap (line_in_page kept) (sym (at_rank bits front line rest are cut))

-- So far: the first of them do.
pub record IsKeeping (state : State) (s p : ℕ) (bits rest : List ℕ) (at most : ℕ) (kept : List (List ℕ)) : Type 0 where
  pub done : List ℕ
  pub cut : bits ≡ done ++ rest
  pub are : AreLines bits
  pub at_is : at ≡ length done
  pub few : length bits ≤ most
  pub long : length kept ≡ most
  pub same : (x : PageState) → page_in state s p ≡ Some x → (k : ℕ) → k < at → line_in_page kept k ≡ line_in_page x.lines (get_or bits k 0)

pub none_kept : (state : State) (s p : ℕ) (bits rest : List ℕ) (most : ℕ) (kept : List (List ℕ)) → AreLines bits → rest ≡ bits → length bits ≤ most → length kept ≡ most
    → IsKeeping state s p bits rest 0 most kept
none_kept state s p bits rest most kept are same few long =
    record { done = []; cut = sym same; are = are; at_is = Rattle.overlay_pages.proofs.Common.refl; few = few; long = long; same = λ x there k less. absurd (omega (arith, less)) }

module _ (state : State) (s p : ℕ) (bits rest : List ℕ) (at most : ℕ) (kept : List (List ℕ)) (so : IsKeeping state s p bits rest at most kept) where
  module _ (line : ℕ) (more : List ℕ) (steps : rest ≡ line ∷ more) where
    cut_at : bits ≡ so.done ++ line ∷ more
    cut_at = so.cut ∙ ap (λ l. so.done ++ l) steps

    pub keep_low : line < 64
    keep_low = Rattle.overlay_bits.specs.Laws.next_inside so.done line more (subst AreLines cut_at so.are)

    pub keep_fits : at < most
    keep_fits = omega (arith, so.few, ap length cut_at, length-append so.done (line ∷ more), so.at_is)

    here : get_or bits at 0 ≡ line
    here = ap (λ n. get_or bits n 0) so.at_is ∙ ap (λ l. get_or l (length so.done) 0) cut_at ∙ get_or-append_seam so.done line more 0

    pub one_kept : (found : FoundLine) (bytes : List ℕ) → found.space ≡ s → found.page ≡ p → found.line ≡ line
        → option_map (λ (x : PageState). line_in_page x.lines found.line) (page_in state found.space found.page) ≡ Some bytes
        → IsKeeping state s p bits more (at + 1) most (slice_set kept at bytes)
    one_kept found bytes ss pp ll value = record {
      done = so.done ++ line ∷ [];
      cut = cut_at ∙ sym (Rattle.std.proofs.Common.append_assoc so.done (line ∷ []) more);
      are = so.are;
      at_is = omega (arith, so.at_is, length-append so.done (line ∷ []));
      few = so.few;
      long = length-set kept at bytes ∙ so.long;
      same = λ x there k less. each x there k less (cases_eq k at);
    }
      where
        each : (x : PageState) → page_in state s p ≡ Some x → (k : ℕ) → k < at + 1 → (k ≡ at) ⊎ (k ≡ at → ⊥)
            → line_in_page (slice_set kept at bytes) k ≡ line_in_page x.lines (get_or bits k 0)
        each x there k less (inl same) =
            ap (line_in_page (slice_set kept at bytes)) same ∙ get_or-set_same kept at bytes [] (omega (arith, keep_fits, so.long))
            ∙ same_Some _ _ (sym value ∙ (λ i. option_map (λ (y : PageState). line_in_page y.lines (ll i)) (page_in state (ss i) (pp i))) ∙ ap (option_map (λ (y : PageState). line_in_page y.lines line)) there)
            ∙ ap (line_in_page x.lines) (sym (ap (λ n. get_or bits n 0) same ∙ here))
        each x there k less (inr other) = get_or-set_other kept at k bytes [] other ∙ so.same x there k (omega (arith, less, other))

  pub all_kept : rest ≡ [] → AreKept state s p bits kept
  all_kept none = λ x there i low has.
      let split : bits ≡ lines_before bits i ++ i ∷ lines_behind bits i =
      lines_at bits i so.are low ∙ ap (λ b. lines_before bits i ++ (cond b (i ∷ []) [] ++ lines_behind bits i)) has in
      let all : bits ≡ so.done = so.cut ∙ ap (λ l. so.done ++ l) none ∙ append-nil so.done in
      let place : get_or bits (rank_of bits i) 0 ≡ i = ap (λ l. get_or l (rank_of bits i) 0) split ∙ get_or-append_seam (lines_before bits i) i (lines_behind bits i) 0 in
      so.same x there (rank_of bits i) (omega (arith, so.at_is, ap length all, ap length split, length-append (lines_before bits i) (i ∷ lines_behind bits i)))
      ∙ ap (line_in_page x.lines) place

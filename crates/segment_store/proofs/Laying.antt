use Rattle.std.proofs.Common.{◌≡◌, ℕ, ◌+◌, ◌*◌, ◌^◌, ◌<◌, ◌≤◌, true, false, ◌||◌, nat_eq, ◌⊎◌, inl, inr, List, [], ◌∷◌, ◌++◌, append-nil, length, set, sym, ap, subst, refl, ◌∙◌, arith, append_assoc, true≢false, pow_pos}
use Rattle.std.proofs.lemmas.Bool.{cases_eq, cases_order}
use Rattle.std.proofs.lemmas.Bool.Decides.{nat_tests}
use Rattle.std.proofs.lemmas.List.{length-append}
use Rattle.line_store.specs.Lines.{line_of}
use Rattle.unit_map.specs.declared.block.Block.{Block}
use Rattle.overlay_bits.specs.Lines.{AreLines, has_line, rank_of, with_line}
use Rattle.overlay_bits.specs.Laws.{are_front, are_with, front_lacks, has_with, next_inside, rank_of_next, with_next}
use Rattle.segment_store.specs.Pointers.{ArePointers, IsLowestFree, capacity_of, free_bit, free_word, slot_of}
use Rattle.segment_store.specs.Store.{place_in}
use Rattle.segment_store.specs.Places.{HasBlock, HasLaid, LaysLines, Reserves}
use Rattle.segment_store.specs.Laws.{lies_in}
use Rattle.segment_store.proofs.Filling.{PutsLine, capacity_low, pointers_after, puts_line, some_slot}
use Rattle.segment_store.proofs.Lifting.{has_more}
use Rattle.segment_store.proofs.Pointing.{lowest_in}

-- Segments that are laid from scratch.

pub none_laid : (scratch : ℕ) (block : Block) (bits rest : List ℕ) (lines : List (List ℕ)) → rest ≡ bits → (block.order < 4 → ArePointers (capacity_of block.order) [] (line_of lines (4 * block.unit)))
    → HasLaid scratch block bits [] rest lines lines
none_laid scratch block bits rest lines e pointers = record {
  whole = sym e;
  laid = record {
    size = refl;
    outside = λ at n. refl;
    lines = λ line has. absurd (true≢false (sym has));
    pointers = pointers;
    slots = λ h line has. absurd (true≢false (sym has));
  };
  low = λ h slot one le. absurd (omega (arith, one, le));
  high = λ h slot one le. (pointers h).free slot (omega (arith, one)) le (λ line has. absurd (true≢false (sym has)));
}

-- what is known of the next line
pub record IsNextLaid (block : Block) (front : List ℕ) (line : ℕ) (mid : List (List ℕ)) : Type 0 where
  pub low : line < 64
  pub within : HasBlock mid block
  pub set : AreLines front
  pub absent : has_line front line ≡ false
  pub free : block.order < 4 → 0 < free_word (line_of mid (4 * block.unit))

pub next_laid : (scratch : ℕ) (block : Block) (bits front : List ℕ) (line : ℕ) (rest : List ℕ) (old mid : List (List ℕ)) → AreLines bits → HasBlock old block → length bits ≤ capacity_of block.order
    → (left : List ℕ) → left ≡ line ∷ rest → HasLaid scratch block bits front left old mid → IsNextLaid block front line mid
next_laid scratch block bits front line rest old mid are within room left next found =
    let h = subst (λ l. HasLaid scratch block bits front l old mid) next found in
    let whole = subst AreLines h.whole are in
    record {
      low = next_inside front line rest whole;
      within = record { order = within.order; inside = omega (arith, within.inside, h.laid.size); few = omega (arith, within.few, h.laid.size) };
      set = are_front front (line ∷ rest) whole;
      absent = front_lacks front line rest whole;
      free = λ less. some_slot mid block front less (h.laid.pointers less) (omega (arith, room, ap length h.whole, length-append front (line ∷ rest)));
    }

-- where the next line comes
pub record IsReserved (block : Block) (line : ℕ) (old mid : List (List ℕ)) : Type 0 where
  pub from : 4 * block.unit ≤ place_in mid block.unit block.order line
  pub to : place_in mid block.unit block.order line < 4 * (block.unit + 2 ^ block.order)

pub reserved : (block : Block) (front : List ℕ) (line : ℕ) (old mid : List (List ℕ)) → (block.order < 4 → ArePointers (capacity_of block.order) front (line_of old (4 * block.unit))) → IsNextLaid block front line old
    → Reserves old mid block line → IsReserved block line old mid
reserved block front line old mid pointers next reserves =
    let lies = lies_in mid block.unit block.order (with_line front line) line next.within.order (are_with front line next.set next.low)
    (λ less. pointers_after old mid block front line next.set next.low next.absent reserves less (pointers less)) here in
    record { from = lies.from; to = lies.to }
  where
    here : has_line (with_line front line) line ≡ true
    here = has_with front line line ∙ (let e : nat_eq line line ≡ true = grind (arith, nat_tests) in ap (λ b. b || has_line front line) e)

pub one_laid : (scratch : ℕ) (block : Block) (bits front : List ℕ) (line : ℕ) (rest : List ℕ) (old was mid new : List (List ℕ)) (at : ℕ)
    → AreLines bits → HasBlock old block → length bits ≤ capacity_of block.order → 4 * (block.unit + 2 ^ block.order) ≤ scratch
    → (left : List ℕ) → left ≡ line ∷ rest → HasLaid scratch block bits front left old was
    → Reserves was mid block line → at ≡ place_in mid block.unit block.order line → new ≡ set mid at (line_of mid (scratch + line))
    → HasLaid scratch block bits (front ++ line ∷ []) rest old new
one_laid scratch block bits front line rest old was mid new at are within room before left next found reserves place e = record {
  whole = h.whole ∙ sym (append_assoc front (line ∷ []) rest);
  laid = record {
    size = puts.outside.size ∙ h.laid.size;
    outside = λ x out. puts.outside.outside x (by_end x out) ∙ h.laid.outside x out;
    lines = λ i has. each i (has_more front line rest whole i has);
    pointers = λ less. subst (λ b. ArePointers (capacity_of block.order) b (line_of new (4 * block.unit))) (with_next front line rest whole) (puts.pointers less);
    slots = λ less i has. slot_of_each less i (has_more front line rest whole i has);
  };
  low = λ less s one le. low_bit less s one (omega (arith, le, length-append front (line ∷ []))) (cases_eq s (slot less));
  high = λ less s more le. high_bit less s (omega (arith, more, length-append front (line ∷ []))) le;
}
  where
    h : HasLaid scratch block bits front (line ∷ rest) old was
    h = subst (λ l. HasLaid scratch block bits front l old was) next found

    whole : AreLines (front ++ line ∷ rest)
    whole = subst AreLines h.whole are

    known : IsNextLaid block front line was
    known = next_laid scratch block bits front line rest old was are within room left next found

    puts : PutsLine was new block front line (line_of mid (scratch + line))
    puts = puts_line was mid new block front line at (line_of mid (scratch + line)) known.within known.set h.laid.pointers known.low known.absent reserves place e

    by_end : (x : ℕ) → (x < 4 * block.unit) ⊎ (4 * (block.unit + 2 ^ block.order) ≤ x) → (x < 4 * block.unit) ⊎ (4 * block.unit + 4 * 2 ^ block.order ≤ x)
    by_end x (inl a) = inl a
    by_end x (inr a) = inr (omega (arith, a))

    -- scratch is as it was
    scratch_same : line_of mid (scratch + line) ≡ line_of old (scratch + line)
    scratch_same = reserves.others (scratch + line) (λ less s. omega (arith, before, s, pow_pos block.order)) ∙ h.laid.outside (scratch + line) (inr (omega (arith, before)))

    each : (i : ℕ) → (i ≡ line) ⊎ (has_line front i ≡ true) → line_of new (place_in new block.unit block.order i) ≡ line_of old (scratch + i)
    each i (inl s) = ap (λ i. line_of new (place_in new block.unit block.order i)) s ∙ puts.here ∙ scratch_same ∙ ap (λ i. line_of old (scratch + i)) (sym s)
    each i (inr has) = puts.lines i has ∙ h.laid.lines i has

    slot : block.order < 4 → ℕ
    slot less = slot_of (line_of new (4 * block.unit)) line

    count : length front < length bits
    count = omega (arith, ap length h.whole, length-append front (line ∷ rest))

    -- the lowest free slot is the next one
    is_next : (less : block.order < 4) → slot_of (line_of new (4 * block.unit)) line ≡ length front + 1
    is_next less = by_order_of (cases_order (slot_of (line_of new (4 * block.unit)) line) (length front + 1))
      where
        lowest : IsLowestFree (line_of was (4 * block.unit)) (slot_of (line_of new (4 * block.unit)) line)
        lowest = puts.lowest less

        by_order_of : (slot_of (line_of new (4 * block.unit)) line ≡ length front + 1) ⊎ ((slot_of (line_of new (4 * block.unit)) line < length front + 1) ⊎ (length front + 1 < slot_of (line_of new (4 * block.unit)) line))
            → slot_of (line_of new (4 * block.unit)) line ≡ length front + 1
        by_order_of (inl s) = s
        by_order_of (inr (inl low)) =
            let range = lowest_in (capacity_of block.order) front (line_of was (4 * block.unit)) _ (h.laid.pointers less) lowest in
            absurd (omega (arith, lowest.free, h.low less _ range.0 (omega (arith, low))))
        by_order_of (inr (inr high)) =
            absurd (omega (arith, lowest.lowest (length front + 1) high, h.high less (length front + 1) (omega arith) (omega (arith, count, room))))

    slot_of_each : (less : block.order < 4) (i : ℕ) → (i ≡ line) ⊎ (has_line front i ≡ true) → slot_of (line_of new (4 * block.unit)) i ≡ rank_of bits i + 1
    slot_of_each less i (inl s) =
        ap (slot_of (line_of new (4 * block.unit))) s ∙ is_next less
        ∙ ap (λ n. n + 1) (sym (rank_of_next front line rest whole) ∙ ap (λ b. rank_of b line) (sym h.whole) ∙ ap (rank_of bits) (sym s))
    slot_of_each less i (inr has) =
        (puts.taken less).others i (known.set.inside i has) (λ s. true≢false (sym has ∙ ap (has_line front) s ∙ known.absent)) ∙ h.laid.slots less i has

    low_bit : (less : block.order < 4) (s : ℕ) → 1 ≤ s → s ≤ length front + 1 → (s ≡ slot less) ⊎ (s ≡ slot less → ⊥) → free_bit (line_of new (4 * block.unit)) s ≡ 0
    low_bit less s one le (inl same) = ap (free_bit (line_of new (4 * block.unit))) same ∙ (puts.taken less).taken
    low_bit less s one le (inr n) =
        (puts.taken less).free s (omega (arith, le, count, room, capacity_low block.order less)) n
        ∙ h.low less s one (omega (arith, le, is_next less, n))

    high_bit : (less : block.order < 4) (s : ℕ) → length front + 1 < s → s ≤ capacity_of block.order → free_bit (line_of new (4 * block.unit)) s ≡ 1
    high_bit less s more le =
        (puts.taken less).free s (omega (arith, le, capacity_low block.order less)) (λ same. absurd (omega (arith, same, is_next less, more)))
        ∙ h.high less s (omega (arith, more)) le

pub all_laid : (scratch : ℕ) (block : Block) (bits front rest : List ℕ) (old new : List (List ℕ)) → HasLaid scratch block bits front rest old new → rest ≡ [] → LaysLines scratch block bits bits old new
all_laid scratch block bits front rest old new h e =
    subst (λ b. LaysLines scratch block bits b old new) (sym (h.whole ∙ ap (λ r. front ++ r) e ∙ append-nil front)) h.laid

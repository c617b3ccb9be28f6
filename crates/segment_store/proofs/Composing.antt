use Rattle.std.proofs.Common.{◌≡◌, ℕ, ◌+◌, ◌-◌, ◌*◌, ◌^◌, ◌<◌, ◌≤◌, Bool, true, false, cond, ◌||◌, nat_eq, ◌⊎◌, inl, inr, List, [], ◌∷◌, ◌++◌, append-nil, length, get_or, set, None, sym, ap, ap₂, subst, refl, ◌∙◌, arith, append_assoc, true≢false}
use Rattle.std.proofs.lemmas.Bool.{cases_eq}
use Rattle.std.proofs.lemmas.Bool.Decides.{nat_tests}
use Rattle.std.proofs.lemmas.List.{get_or-set_same, get_or-set_other, length-set}
use Rattle.line_store.specs.Lines.{line_of, with_put}
use Rattle.unit_map.specs.Pieces.{ArePieces, IsPiece, taken_at, units_in}
use Rattle.unit_map.specs.declared.block.Block.{Block}
use Rattle.overlay_bits.specs.Lines.{AreLines, has_line}
use Rattle.overlay_bits.specs.Laws.{has_next, has_with, next_inside, with_next}
use Rattle.line_store.specs.LineLaws.{put_in, put_out}
use Rattle.segment_store.specs.Store.{Store, IsFrame, IsSegment, composed_line, frame_line, line_in, segment_at}
use Rattle.segment_store.specs.Places.{CopiesPage, HasLaidOver, IsApartFrom, LaysOver, LiftsLines}
use Rattle.segment_store.specs.Kept.{IsStore}
use Rattle.segment_store.specs.Changes.{FillsFrame, KeepsLinesOutside}
use Rattle.segment_store.specs.Laws.{Alters, frame_inside, frame_range, frame_stays, next_store, scratch_stays, segment_range, segments_stay, some_none}

-- Lines of scratch are laid over a page.

pub none_over : (scratch first : ℕ) (bits rest : List ℕ) (lines : List (List ℕ)) → rest ≡ bits → HasLaidOver scratch first bits [] rest lines lines
none_over scratch first bits rest lines e = record { whole = sym e; laid = record { size = refl; lines = λ i low. refl; outside = λ at out. refl } }

-- what is known of the next line
pub next_over : (scratch first : ℕ) (bits front : List ℕ) (line : ℕ) (rest : List ℕ) (old mid : List (List ℕ)) → AreLines bits → (left : List ℕ) → left ≡ line ∷ rest → HasLaidOver scratch first bits front left old mid → line < 64
next_over scratch first bits front line rest old mid are left next found =
    let h = subst (λ l. HasLaidOver scratch first bits front l old mid) next found in next_inside front line rest (subst AreLines h.whole are)

pub one_over : (scratch first : ℕ) (bits front : List ℕ) (line : ℕ) (rest : List ℕ) (old mid new : List (List ℕ)) → AreLines bits → first + 64 ≤ scratch → scratch + 64 ≡ length old
    → (left : List ℕ) → left ≡ line ∷ rest → HasLaidOver scratch first bits front left old mid → new ≡ set mid (first + line) (line_of mid (scratch + line))
    → HasLaidOver scratch first bits (front ++ line ∷ []) rest old new
one_over scratch first bits front line rest old mid new are before size left next found e = record {
  whole = h.whole ∙ sym (append_assoc front (line ∷ []) rest);
  laid = record {
    size = ap length e ∙ length-set mid (first + line) _ ∙ h.laid.size;
    lines = λ i less. each i less (cases_eq i line);
    outside = λ at out. ap (λ l. line_of l at) e ∙ get_or-set_other mid (first + line) at _ [] (off at out) ∙ h.laid.outside at out;
  };
}
  where
    h : HasLaidOver scratch first bits front (line ∷ rest) old mid
    h = subst (λ l. HasLaidOver scratch first bits front l old mid) next found

    whole : AreLines (front ++ line ∷ rest)
    whole = subst AreLines h.whole are

    low : line < 64
    low = next_inside front line rest whole

    off : (at : ℕ) → (at < first) ⊎ (first + 64 ≤ at) → at ≡ first + line → ⊥
    off at (inl out) s = omega (arith, out, s)
    off at (inr out) s = omega (arith, out, s, low)

    now : (i : ℕ) → has_line (front ++ line ∷ []) i ≡ (nat_eq line i || has_line front i)
    now i = ap (λ l. has_line l i) (sym (with_next front line rest whole)) ∙ has_with front line i

    each : (i : ℕ) → i < 64 → (i ≡ line) ⊎ (i ≡ line → ⊥) → line_of new (first + i) ≡ cond (has_line (front ++ line ∷ []) i) (line_of old (scratch + i)) (line_of old (first + i))
    each i less (inl s) =
        let has : has_line (front ++ line ∷ []) i ≡ true = ap (has_line (front ++ line ∷ [])) s ∙ has_next front line [] in
        ap (λ i. line_of new (first + i)) s
        ∙ ap (λ l. line_of l (first + line)) e
        ∙ get_or-set_same mid (first + line) _ [] (omega (arith, size, h.laid.size, before, low))
        ∙ h.laid.outside (scratch + line) (inr (omega (arith, before)))
        ∙ ap (λ i. line_of old (scratch + i)) (sym s)
        ∙ sym (ap (λ b. cond b (line_of old (scratch + i)) (line_of old (first + i))) has)
    each i less (inr n) =
        let other : nat_eq line i ≡ false = grind (arith, nat_tests) in
        let same : has_line (front ++ line ∷ []) i ≡ has_line front i = now i ∙ ap (λ b. b || has_line front i) other in
        ap (λ l. line_of l (first + i)) e
        ∙ get_or-set_other mid (first + line) (first + i) _ [] (λ s. n (omega (arith, s)))
        ∙ h.laid.lines i less
        ∙ sym (ap (λ b. cond b (line_of old (scratch + i)) (line_of old (first + i))) same)

pub all_over : (scratch first : ℕ) (bits front rest : List ℕ) (old new : List (List ℕ)) → HasLaidOver scratch first bits front rest old new → rest ≡ [] → LaysOver scratch first bits old new
all_over scratch first bits front rest old new h e =
    subst (λ b. LaysOver scratch first b old new) (sym (h.whole ∙ ap (λ r. front ++ r) e ∙ append-nil front)) h.laid

-- The lines of a frame that is taken changed.

pub frame_filled : (old new : Store) (frame : ℕ) → IsStore old → IsFrame old frame → KeepsLinesOutside (64 * frame) 64 old.lines new.lines → new.blocks ≡ old.blocks → new.segments ≡ old.segments → FillsFrame old new frame
frame_filled old new frame is f lines blocks segments = record {
  blocks = blocks;
  same = segments;
  segments = segments_stay old new (16 * frame) (64 * frame) 64 alters f.alone;
  frames = λ other n there. frame_stays old new (16 * frame) (64 * frame) 64 alters other there (λ e. n (omega (arith, e)));
  scratch = scratch_stays old new (16 * frame) (64 * frame) 64 alters (omega (arith, frame_inside old is frame f));
  stays = record { taken = subst (λ ps. IsPiece ps (taken_at (16 * frame) 4)) (sym blocks) f.taken; alone = none };
  store = next_store old new (16 * frame) (64 * frame) 64 alters (λ segment here. absurd (some_none segment (sym here ∙ none)));
}
  where
    none : segment_at new (16 * frame) ≡ None
    none = ap (λ l. get_or l (16 * frame) None) segments ∙ f.alone

    alters : Alters old new (16 * frame) (64 * frame) 64
    alters = record {
      is = is;
      range = frame_range old is frame f;
      lines = lines;
      same = λ v n. ap (λ l. get_or l v None) segments;
      taken = λ v j taken n. subst (λ ps. IsPiece ps (taken_at v j)) (sym blocks) taken;
      pieces = subst ArePieces (sym blocks) is.pieces;
      units = ap units_in blocks;
      size = ap length segments;
    }

-- A frame is copied to another one, and lines of scratch over it.

pub record HasComposed (old new : Store) (from : ℕ) (bits : List ℕ) (to : ℕ) : Type 0 where
  pub fills : FillsFrame old new to
  pub lines : (line : ℕ) → line < 64 → frame_line new to line ≡ composed_line old from bits line

pub composed_frame : (old new : Store) (mid : List (List ℕ)) (from : ℕ) (bits : List ℕ) (to : ℕ) → IsStore old → IsFrame old to → CopiesPage (64 * from) (64 * to) old.lines mid
    → LaysOver (length mid - 64) (64 * to) bits mid new.lines → new.blocks ≡ old.blocks → new.segments ≡ old.segments → HasComposed old new from bits to
composed_frame old new mid from bits to is f page lay blocks segments = record {
  fills = frame_filled old new to is f (record { size = lay.size ∙ page.size; outside = λ at out. lay.outside at out ∙ page.outside at out }) blocks segments;
  lines = λ line low. lay.lines line low ∙ ap₂ (cond (has_line bits line)) (scratch_same line) (page.lines line low);
}
  where
    scratch_same : (line : ℕ) → line_of mid (length mid - 64 + line) ≡ line_of old.lines (4 * units_in old.blocks + line)
    scratch_same line =
        let place : length mid - 64 + line ≡ 4 * units_in old.blocks + line = omega (arith, page.size, is.lines) in
        ap (line_of mid) place ∙ page.outside (4 * units_in old.blocks + line) (inr (omega (arith, frame_inside old is to f)))

-- The lines of a segment are laid in a frame.

pub apart_frame : (store : Store) (block : Block) (frame : ℕ) → IsStore store → IsSegment store block → IsFrame store frame → IsApartFrom block (64 * frame)
apart_frame store block frame is there f = at (segment_range store is block there (16 * frame) 4 f.taken (λ e. some_none there.segment (sym there.there ∙ ap (segment_at store) (sym e) ∙ f.alone)))
  where
    at : (4 * (16 * frame + 2 ^ 4) ≤ 4 * block.unit) ⊎ (4 * block.unit + 4 * 2 ^ block.order ≤ 4 * (16 * frame)) → IsApartFrom block (64 * frame)
    at (inl h) = inl (omega (arith, h))
    at (inr h) = inr (omega (arith, h))

pub record HasLaidInFrame (old new : Store) (block : Block) (bits : List ℕ) (frame : ℕ) : Type 0 where
  pub fills : FillsFrame old new frame
  pub lines : (line : ℕ) → line < 64 → frame_line new frame line ≡ cond (has_line bits line) (line_in old block line) (frame_line old frame line)

pub laid_in_frame : (old new : Store) (block : Block) (bits : List ℕ) (frame : ℕ) → IsStore old → IsFrame old frame → AreLines bits
    → LiftsLines (64 * frame) block bits old.lines new.lines → new.blocks ≡ old.blocks → new.segments ≡ old.segments → HasLaidInFrame old new block bits frame
laid_in_frame old new block bits frame is f are lift blocks segments = record {
  fills = frame_filled old new frame is f (record { size = lift.size; outside = λ at out. lift.others at (λ line has e. off at out (are.inside line has) e) }) blocks segments;
  lines = λ line low. each line (has_line bits line) refl;
}
  where
    off : (at : ℕ) {line : ℕ} → (at < 64 * frame) ⊎ (64 * frame + 64 ≤ at) → line < 64 → at ≡ 64 * frame + line → ⊥
    off at (inl out) low e = omega (arith, out, e)
    off at (inr out) low e = omega (arith, out, low, e)

    each : (line : ℕ) (t : Bool) → has_line bits line ≡ t → frame_line new frame line ≡ cond t (line_in old block line) (frame_line old frame line)
    each line true has = lift.lifted line has
    each line false has = lift.others (64 * frame + line) (λ other also e. true≢false (sym also ∙ (let same : other ≡ line = omega (arith, e) in ap (has_line bits) same) ∙ has))

-- Lines are put into a frame.

pub record HasPutFrame (old new : Store) (frame : ℕ) (given : List (List ℕ)) : Type 0 where
  pub fills : FillsFrame old new frame
  pub lines : (line : ℕ) → line < 64 → frame_line new frame line ≡ line_of given line

pub put_in_frame : (old new : Store) (frame : ℕ) (given : List (List ℕ)) → IsStore old → IsFrame old frame → length given ≡ 64 → new.lines ≡ with_put old.lines (64 * frame) given 64 → length new.lines ≡ length old.lines
    → new.blocks ≡ old.blocks → new.segments ≡ old.segments → HasPutFrame old new frame given
put_in_frame old new frame given is f many put size blocks segments = record {
  fills = frame_filled old new frame is f (record {
    size = size;
    outside = λ at out. ap (λ l. line_of l at) put ∙ put_out old.lines (64 * frame) given 64 (omega (arith, many)) fits at out;
  }) blocks segments;
  lines = λ line low. ap (λ l. line_of l (64 * frame + line)) put ∙ put_in old.lines (64 * frame) given 64 (omega (arith, many)) fits line low;
}
  where
    fits : 64 * frame + 64 ≤ length old.lines
    fits = omega (arith, frame_inside old is frame f, is.lines)

use Rattle.std.proofs.Common.{◌≡◌, ℕ, ◌+◌, ◌*◌, ◌^◌, ◌<◌, ◌≤◌, Bool, true, false, ◌||◌, nat_eq, ◌⊎◌, inl, inr, List, [], ◌∷◌, ◌++◌, append-nil, length, set, sym, ap, subst, refl, ◌∙◌, arith, append_assoc, true≢false}
use Rattle.std.proofs.lemmas.Bool.{cases_eq}
use Rattle.std.proofs.lemmas.Bool.Decides.{nat_tests}
use Rattle.std.proofs.lemmas.List.{get_or-set_same, get_or-set_other, length-set}
use Rattle.line_store.specs.Lines.{line_of}
use Rattle.unit_map.specs.declared.block.Block.{Block}
use Rattle.overlay_bits.specs.Lines.{AreLines, has_line}
use Rattle.overlay_bits.specs.Laws.{are_front, front_lacks, has_next, has_with, next_inside, with_next}
use Rattle.segment_store.specs.Pointers.{slot_of}
use Rattle.segment_store.specs.Store.{place_in}
use Rattle.segment_store.specs.Places.{HasBlock, HasLifted, IsApartFrom, LiesIn, LiftsLines}
use Rattle.segment_store.specs.Laws.{place_same}

-- Segments that are lifted into scratch, and laid from there.

-- a line of the first ones and the next
pub has_more : (front : List ℕ) (line : ℕ) (rest : List ℕ) → AreLines (front ++ line ∷ rest) → (i : ℕ) → has_line (front ++ line ∷ []) i ≡ true → (i ≡ line) ⊎ (has_line front i ≡ true)
has_more front line rest are i has = at (cases_eq i line)
  where
    at : (i ≡ line) ⊎ (i ≡ line → ⊥) → (i ≡ line) ⊎ (has_line front i ≡ true)
    at (inl e) = inl e
    at (inr n) =
        let off : nat_eq line i ≡ false = grind (arith, nat_tests) in
        inr (sym (ap (λ b. b || has_line front i) off) ∙ sym (has_with front line i) ∙ ap (λ l. has_line l i) (with_next front line rest are) ∙ has)

has_front : (front : List ℕ) (line : ℕ) (rest : List ℕ) → AreLines (front ++ line ∷ rest) → (i : ℕ) → has_line front i ≡ true → has_line (front ++ line ∷ []) i ≡ true
has_front front line rest are i has = ap (λ l. has_line l i) (sym (with_next front line rest are)) ∙ has_with front line i ∙ ap (λ b. nat_eq line i || b) has ∙ or_true (nat_eq line i)
  where
    or_true : (b : Bool) → (b || true) ≡ true
    or_true true = refl
    or_true false = refl

pub none_lifted : (scratch : ℕ) (block : Block) (bits rest : List ℕ) (lines : List (List ℕ)) → rest ≡ bits → HasLifted scratch block bits [] rest lines lines
none_lifted scratch block bits rest lines e = record {
  whole = sym e;
  lifted = record { size = refl; lifted = λ line has. absurd (true≢false (sym has)); others = λ at n. refl };
}

-- lines of the block stay where some of the 64 lines were written
same_in : (scratch : ℕ) (block : Block) (front : List ℕ) (old mid : List (List ℕ)) → IsApartFrom block scratch → AreLines front → LiftsLines scratch block front old mid
    → (x : ℕ) → 4 * block.unit ≤ x → x < 4 * (block.unit + 2 ^ block.order) → line_of mid x ≡ line_of old x
same_in scratch block front old mid apart are lift x from to = lift.others x (λ i has e. off apart (are.inside i has) e)
  where
    off : {i : ℕ} → IsApartFrom block scratch → i < 64 → x ≡ scratch + i → ⊥
    off (inl h) low e = omega (arith, h, from, low, e)
    off (inr h) low e = omega (arith, h, to, e)

-- a line of the block is none of the 64
pub is_other : (block : Block) (first x y : ℕ) → IsApartFrom block first → 4 * block.unit ≤ x → x < 4 * (block.unit + 2 ^ block.order) → first ≤ y → y < first + 64 → (x < y) ⊎ (y < x)
is_other block first x y (inl h) from to above below = inr (omega (arith, h, from, below))
is_other block first x y (inr h) from to above below = inl (omega (arith, h, to, above))

-- what is known of the next line
pub record IsNextLifted (block : Block) (line : ℕ) (old mid : List (List ℕ)) : Type 0 where
  pub low : line < 64
  pub above : 4 * block.unit ≤ place_in mid block.unit block.order line
  pub below : place_in mid block.unit block.order line < 4 * (block.unit + 2 ^ block.order)
  pub pointers : line_of mid (4 * block.unit) ≡ line_of old (4 * block.unit)
  pub within : HasBlock mid block

pub next_lifted : (scratch : ℕ) (block : Block) (bits front : List ℕ) (line : ℕ) (rest : List ℕ) (old mid : List (List ℕ))
    → AreLines bits → HasBlock old block → IsApartFrom block scratch → ((line : ℕ) → has_line bits line ≡ true → LiesIn old block.unit block.order line)
    → (left : List ℕ) → left ≡ line ∷ rest → HasLifted scratch block bits front left old mid → IsNextLifted block line old mid
next_lifted scratch block bits front line rest old mid are within apart lie left next found =
    let h = subst (λ l. HasLifted scratch block bits front l old mid) next found in
    let has_it : has_line bits line ≡ true = ap (λ l. has_line l line) h.whole ∙ has_next front line rest in
    let l = lie line has_it in
    let pointers = same_in scratch block front old mid apart (are_front front (line ∷ rest) (subst AreLines h.whole are)) h.lifted (4 * block.unit) (omega arith) (omega (arith, l.from, l.to)) in
    let was = place_same mid old block.unit block.order line within.order (λ less. ap (λ p. slot_of p line) pointers) in
    record {
      low = next_inside front line rest (subst AreLines h.whole are);
      above = omega (arith, was, l.from);
      below = omega (arith, was, l.to);
      pointers = pointers;
      within = record { order = within.order; inside = omega (arith, within.inside, h.lifted.size); few = omega (arith, within.few, h.lifted.size) };
    }

pub one_lifted : (scratch : ℕ) (block : Block) (bits front : List ℕ) (line : ℕ) (rest : List ℕ) (old mid new : List (List ℕ)) (at : ℕ)
    → AreLines bits → HasBlock old block → IsApartFrom block scratch → scratch + 64 ≤ length old → ((line : ℕ) → has_line bits line ≡ true → LiesIn old block.unit block.order line)
    → (left : List ℕ) → left ≡ line ∷ rest → HasLifted scratch block bits front left old mid
    → at ≡ place_in mid block.unit block.order line → new ≡ set mid (scratch + line) (line_of mid at)
    → HasLifted scratch block bits (front ++ line ∷ []) rest old new
one_lifted scratch block bits front line rest old mid new at are within apart size lie left next found place e = record {
  whole = h.whole ∙ sym (append_assoc front (line ∷ []) rest);
  lifted = record {
    size = ap length e ∙ length-set mid (scratch + line) _ ∙ h.lifted.size;
    lifted = λ i has. each i (has_more front line rest whole i has);
    others = λ x n.
        ap (λ l. line_of l x) e ∙ get_or-set_other mid (scratch + line) x _ [] (n line (has_next_here))
        ∙ h.lifted.others x (λ i has. n i (has_front front line rest whole i has));
  };
}
  where
    h : HasLifted scratch block bits front (line ∷ rest) old mid
    h = subst (λ l. HasLifted scratch block bits front l old mid) next found

    whole : AreLines (front ++ line ∷ rest)
    whole = subst AreLines h.whole are

    has_next_here : has_line (front ++ line ∷ []) line ≡ true
    has_next_here = has_next front line []

    low : line < 64
    low = next_inside front line rest whole

    has_it : has_line bits line ≡ true
    has_it = ap (λ l. has_line l line) h.whole ∙ has_next front line rest

    same : (x : ℕ) → 4 * block.unit ≤ x → x < 4 * (block.unit + 2 ^ block.order) → line_of mid x ≡ line_of old x
    same = same_in scratch block front old mid apart (are_front front (line ∷ rest) whole) h.lifted

    was : place_in mid block.unit block.order line ≡ place_in old block.unit block.order line
    was = place_same mid old block.unit block.order line within.order (λ less. ap (λ p. slot_of p line) (same (4 * block.unit) (omega arith) (omega (arith, (lie line has_it).from, (lie line has_it).to))))

    each : (i : ℕ) → (i ≡ line) ⊎ (has_line front i ≡ true) → line_of new (scratch + i) ≡ line_of old (place_in old block.unit block.order i)
    each i (inl s) =
        ap (λ i. line_of new (scratch + i)) s
        ∙ ap (λ l. line_of l (scratch + line)) e
        ∙ get_or-set_same mid (scratch + line) _ [] (omega (arith, size, h.lifted.size, low))
        ∙ ap (line_of mid) (place ∙ was)
        ∙ same (place_in old block.unit block.order line) (lie line has_it).from (lie line has_it).to
        ∙ ap (λ i. line_of old (place_in old block.unit block.order i)) (sym s)
    each i (inr has) =
        ap (λ l. line_of l (scratch + i)) e
        ∙ get_or-set_other mid (scratch + line) (scratch + i) _ [] (λ s. true≢false (sym has ∙ (let s : i ≡ line = omega (arith, s) in ap (has_line front) s) ∙ front_lacks front line rest whole))
        ∙ h.lifted.lifted i has

pub all_lifted : (scratch : ℕ) (block : Block) (bits front rest : List ℕ) (old new : List (List ℕ)) → HasLifted scratch block bits front rest old new → rest ≡ [] → LiftsLines scratch block bits old new
all_lifted scratch block bits front rest old new h e =
    subst (λ b. LiftsLines scratch block b old new) (sym (h.whole ∙ ap (λ r. front ++ r) e ∙ append-nil front)) h.lifted

use Rattle.std.proofs.Common.{◌≡◌, ℕ, ◌+◌, ◌<◌, ◌⊎◌, inl, inr, Bool, cond, List, [], length, get_or, slice_index_or, slice_set, sym, ap, ◌∙◌, arith}
use Rattle.std.proofs.lemmas.List.{get_or_default, get_or-set_same, get_or-set_other, length-set, same_lists}
use Rattle.std.proofs.lemmas.Bool.{cases_eq}
use Rattle.overlay_bits.specs.Composed.{composed, composed_at, composed_count, line_composed}

-- A page that is composed line by line.

-- the lines below one are composed, of a page of 64
pub record IsSoFar (frame over : List (List ℕ)) (lines : List ℕ) (out : List (List ℕ)) (line : ℕ) : Type 0 where
  pub page : length out ≡ 64
  pub so_far : (i : ℕ) → i < line → slice_index_or out i [] ≡ line_composed frame over lines i

pub none_yet : (frame over : List (List ℕ)) (lines : List ℕ) (out : List (List ℕ)) → length out ≡ 64 → IsSoFar frame over lines out 0
none_yet frame over lines out page = record { page = page; so_far = λ i lt. absurd (omega (arith, lt)) }

pub one_more : (frame over : List (List ℕ)) (lines : List ℕ) (out : List (List ℕ)) (line : ℕ) (new : List ℕ)
    → IsSoFar frame over lines out line → line < 64 → new ≡ line_composed frame over lines line
    → IsSoFar frame over lines (slice_set out line new) (line + 1)
one_more frame over lines out line new h lt is =
    record { page = length-set out line new ∙ h.page; so_far = λ i below. at i below (cases_eq i line) }
  where
    at : (i : ℕ) → i < line + 1 → (i ≡ line) ⊎ (i ≡ line → ⊥)
        → slice_index_or (slice_set out line new) i [] ≡ line_composed frame over lines i
    at i below (inl same) =
        ap (λ j. slice_index_or (slice_set out line new) j []) same ∙ get_or-set_same out line new [] (omega (arith, lt, h.page))
        ∙ is ∙ ap (line_composed frame over lines) (sym same)
    at i below (inr other) = get_or-set_other out line i new [] other ∙ h.so_far i (omega (arith, below, other))

-- the line that is taken, by the test
pub taken : {x : List ℕ} (b : Bool) (one other : List ℕ) (c : Bool) → b ≡ c → x ≡ cond c one other → x ≡ cond b one other
taken b one other c same h = h ∙ ap (λ (t : Bool). cond t one other) (sym same)

pub all_done : (frame over : List (List ℕ)) (lines : List ℕ) (out : List (List ℕ)) → IsSoFar frame over lines out 64
    → out ≡ composed frame over lines
all_done frame over lines out h =
    same_lists out (composed frame over lines) (h.page ∙ sym (composed_count frame over lines 64))
    (λ i d lt. at i d (omega (arith, lt, h.page)) ∙ sym (composed_at frame over lines 64 i d (omega (arith, lt, h.page))))
  where
    at : (i : ℕ) (d : List ℕ) → i < 64 → get_or out i d ≡ line_composed frame over lines i
    at i d lt = get_or_default out i d [] (omega (arith, lt, h.page)) ∙ h.so_far i lt

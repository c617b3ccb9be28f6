use Rattle.std.proofs.Common.{◌≡◌, ℕ, ◌+◌, ◌-◌, ◌<◌, ◌≤◌, ◌⊎◌, inl, inr, List, ◌++◌, length, get_or, take, drop, set, replicate, sym, ap, ◌∙◌, refl, subst, arith, length-drop, length-set}
use Rattle.std.proofs.lemmas.Bool.{cases_lt}
use Rattle.std.proofs.lemmas.List.{length-append, length-replicate, length-take-le, get_or-replicate, get_or_append_left, get_or-append_right, get_or-take, get_or-drop, set-append_left, replicate-append-replicate, append_assoc, take-append-le, drop-append-le, same_lists}
use Rattle.std.proofs.lemmas.List.Edits.{length-paste, drop-paste}
use Rattle.std.proofs.lemmas.Slice.{put_mid-paste}
use Rattle.std.proofs.VecSteps.Gaps.{all_new}
use Rattle.std.specs.List.{refill}
use Rattle.line_store.specs.Lines.{zero_lines, with_copied, with_put}
use Rattle.line_store.specs.Kept.{kept_lines, EndsInZero, AreLinesKept}

-- Lines of which the first are kept.

length-zero_lines : (n : ℕ) → length (zero_lines n) ≡ n
unfolding zero_lines
length-zero_lines n = length-replicate n (replicate 64 0)

get_or-zero_lines : (n at : ℕ) (d : List ℕ) → at < n → get_or (zero_lines n) at d ≡ replicate 64 0
unfolding zero_lines
get_or-zero_lines n at d h = get_or-replicate n at (replicate 64 0) d h

zero_lines-append : (n m : ℕ) → zero_lines n ++ zero_lines m ≡ zero_lines (n + m)
unfolding zero_lines
zero_lines-append n m = replicate-append-replicate n m (replicate 64 0)

pub length-kept_lines : (first : List (List ℕ)) (count : ℕ) → length first ≤ count → length (kept_lines first count) ≡ count
length-kept_lines first count below = omega (arith, length-append first (zero_lines (count - length first)), length-zero_lines (count - length first))

-- a line that is kept, and one that isn't
pub line_kept : (first : List (List ℕ)) (count at : ℕ) (d : List ℕ) → at < length first → get_or (kept_lines first count) at d ≡ get_or first at d
line_kept first count at d h = get_or_append_left first (zero_lines (count - length first)) d at h

pub line_behind : (first : List (List ℕ)) (count at : ℕ) (d : List ℕ) → length first ≤ at → at < count → get_or (kept_lines first count) at d ≡ replicate 64 0
line_behind first count at d h k =
    get_or-append_right first (zero_lines (count - length first)) (length first) at d refl h
    ∙ get_or-zero_lines (count - length first) (at - length first) d (omega arith)

-- a line near the end of those kept, or behind it
line_near : (first : List (List ℕ)) (count at : ℕ) (d : List ℕ) → EndsInZero first → length first ≤ at + 64 → at < count → get_or (kept_lines first count) at d ≡ replicate 64 0
line_near first count at d ends near h = elim (cases_lt at (length first)) [
  | inl low ↦ line_kept first count at d low ∙ ends at d near low
  | inr high ↦ line_behind first count at d high h
]

-- a page that is kept, and one that isn't kept whole
pub page_kept : (first : List (List ℕ)) (count at : ℕ) → at + 64 ≤ length first → take 64 (drop at first) ≡ take 64 (drop at (kept_lines first count))
page_kept first count at h =
    let zeros = zero_lines (count - length first) in
    let room : 64 ≤ length (drop at first) = omega (arith, length-drop at first) in
    let low : at ≤ length first = omega arith in
    sym (ap (take 64) (drop-append-le at first zeros low) ∙ take-append-le 64 (drop at first) zeros room)

pub page_behind : (first : List (List ℕ)) (count at : ℕ) → EndsInZero first → length first ≤ count → length first < at + 64 → at + 64 ≤ count
    → zero_lines 64 ≡ take 64 (drop at (kept_lines first count))
page_behind first count at ends below near h =
    let all = kept_lines first count in
    let room : 64 ≤ length (drop at all) = omega (arith, length-drop at all, length-kept_lines first count below) in
    same_lists (zero_lines 64) (take 64 (drop at all)) (length-zero_lines 64 ∙ sym (length-take-le 64 (drop at all) room)) (λ k d low.
    let short : k < 64 = omega (arith, low, length-zero_lines 64) in
    let near_k : length first ≤ (at + k) + 64 = omega arith in
    let low_k : at + k < count = omega arith in
    get_or-zero_lines 64 k d short
    ∙ sym (get_or-take 64 (drop at all) k d short ∙ get_or-drop at all k d ∙ line_near first count (at + k) d ends near_k low_k))

-- what the callers know of a page that isn't kept whole
pub page_of_zeros : (first : List (List ℕ)) (count at : ℕ) → AreLinesKept first count → length first < at + 64 → at + 64 ≤ count
    → zero_lines 64 ≡ take 64 (drop at (kept_lines first count))
page_of_zeros first count at kept near h = elim kept.ends [
  | inl whole ↦ absurd (omega (arith, whole))
  | inr ends ↦ page_behind first count at ends kept.below near h
]

-- what is kept once so much was reached
pub far : (len count end k : ℕ) → (len ≡ count) ⊎ (end + 64 ≤ len) → k ≤ end → end ≤ count → k ≤ len
far len count end k reached h low = elim reached [ inl whole ↦ omega (arith, whole) | inr behind ↦ omega (arith, behind) ]

-- more zero lines are kept
pub more_same : (first : List (List ℕ)) (count more : ℕ) → length first + more ≤ count → kept_lines (first ++ zero_lines more) count ≡ kept_lines first count
more_same first count more h =
    let kept = first ++ zero_lines more in
    let rest : more + (count - length kept) ≡ count - length first = omega (arith, length-append first (zero_lines more), length-zero_lines more) in
    append_assoc first (zero_lines more) (zero_lines (count - length kept))
    ∙ ap (λ l. first ++ l) (zero_lines-append more (count - length kept) ∙ ap zero_lines rest)

-- the lines kept, after zero lines were put behind them until there were so many
grown : (first new : List (List ℕ)) (wanted : ℕ) → new ≡ first ++ replicate (wanted - length first) (replicate 64 0) → new ≡ first ++ zero_lines (wanted - length first)
unfolding zero_lines
grown first new wanted is = is

pub grown_same : (first new : List (List ℕ)) (count wanted : ℕ) → new ≡ first ++ replicate (wanted - length first) (replicate 64 0) → length first ≤ count
    → wanted ≤ count → kept_lines new count ≡ kept_lines first count
grown_same first new count wanted is h k = ap (λ l. kept_lines l count) (grown first new wanted is) ∙ more_same first count (wanted - length first) (omega arith)

-- a line is written
pub set_same : (first : List (List ℕ)) (count at : ℕ) (w : List ℕ) → at < length first → kept_lines (set first at w) count ≡ set (kept_lines first count) at w
set_same first count at w h =
    ap (λ (n : ℕ). set first at w ++ zero_lines (count - n)) (length-set first at w)
    ∙ sym (set-append_left first (zero_lines (count - length first)) at w h)

-- lines are copied, through a slice of those kept
pub copied : (first seen written : List (List ℕ)) (made from to n : ℕ) → made ≡ length first → seen ≡ first → from + n ≤ length first → to + n ≤ length first
    → written ≡ with_copied seen from to n → refill made first written ≡ with_copied first from to n
copied first seen written made from to n count same source target is =
    let now : written ≡ with_copied first from to n = is ∙ ap (λ l. with_copied l from to n) same in
    all_new made first written (omega (arith, count, ap length now, length-paste first to (drop from first) n target (omega (arith, source, length-drop from first)))) ∙ now

-- lines are put over those kept

pub length-with_put : (first : List (List ℕ)) (to : ℕ) (given : List (List ℕ)) (n : ℕ) → n ≤ length given → to + n ≤ length first → length (with_put first to given n) ≡ length first
length-with_put first to given n h k = length-paste first to given n k h

pub put_same : (first : List (List ℕ)) (count to : ℕ) (given : List (List ℕ)) (n : ℕ) → n ≤ length given → to + n ≤ length first
    → kept_lines (with_put first to given n) count ≡ with_put (kept_lines first count) to given n
put_same first count to given n h k =
    let zeros = zero_lines (count - length first) in
    let to_low : to ≤ length first = omega arith in
    ap (λ (m : ℕ). with_put first to given n ++ zero_lines (count - m)) (length-with_put first to given n h k)
    ∙ append_assoc (take to first ++ take n given) (drop (to + n) first) zeros
    ∙ sym (ap (λ l. l ++ take n given ++ drop (to + n) (first ++ zeros)) (take-append-le to first zeros to_low)
    ∙ ap (λ l. take to first ++ take n given ++ l) (drop-append-le (to + n) first zeros k))

put_ends : (first : List (List ℕ)) (to : ℕ) (given : List (List ℕ)) (n : ℕ) → n ≤ length given → (to + n) + 64 ≤ length first → EndsInZero first
    → EndsInZero (with_put first to given n)
put_ends first to given n h k ends at d near low =
    let long = length-with_put first to given n h (omega arith) in
    let to_low : to ≤ length first = omega arith in
    let behind : (to + n) + (at - (to + n)) ≡ at = omega (arith, long) in
    let put = with_put first to given n in
    ap (λ (i : ℕ). get_or put i d) (sym behind)
    ∙ sym (get_or-drop (to + n) put (at - (to + n)) d)
    ∙ ap (λ l. get_or l (at - (to + n)) d) (drop-paste first to given n to_low h)
    ∙ get_or-drop (to + n) first (at - (to + n)) d
    ∙ ap (λ (i : ℕ). get_or first i d) behind
    ∙ ends at d (omega (arith, long)) (omega (arith, long))

pub put_kept : (first new : List (List ℕ)) (count to : ℕ) (given : List (List ℕ)) (n end : ℕ) → new ≡ with_put first to given n → n ≤ length given → to + n ≤ length first
    → (length first ≡ count) ⊎ (end + 64 ≤ length first) → to + n ≤ end → AreLinesKept first count → AreLinesKept new count
put_kept first new count to given n end is h k reached inside kept =
    let long = ap length is ∙ length-with_put first to given n h k in
    let below = kept.below in
    record {
      few = kept.few;
      below = omega (arith, long, below);
      ends = elim kept.ends [
        | inl whole ↦ inl (long ∙ whole)
        | inr ends ↦ elim reached [
          | inl whole ↦ inl (long ∙ whole)
          | inr behind ↦ inr (subst EndsInZero (sym is) (put_ends first to given n h (omega (arith, behind)) ends))
        ]
      ];
    }

-- through a slice of those kept
pub was_put : (first seen written given : List (List ℕ)) (made at k n : ℕ) → made ≡ length first → seen ≡ first → written ≡ given → n ≡ k → n ≡ length given → at + n ≤ length first
    → refill made first (take at seen ++ (written ++ drop k (drop at seen))) ≡ with_put first at given n
was_put first seen written given made at k n count same is many size fits =
    let put : take at seen ++ (written ++ drop k (drop at seen)) ≡ with_put first at given n = put_mid-paste at k seen written given n is many size ∙ ap (λ l. with_put l at given n) same in
    all_new made first _ (omega (arith, count, ap length put, length-with_put first at given n (omega (arith, size)) fits)) ∙ put

-- lines of their own are copied

pub copy_same : (first : List (List ℕ)) (count from to n : ℕ) → from + n ≤ length first → to + n ≤ length first
    → kept_lines (with_copied first from to n) count ≡ with_copied (kept_lines first count) from to n
copy_same first count from to n h k =
    let zeros = zero_lines (count - length first) in
    let room : n ≤ length (drop from first) = omega (arith, length-drop from first) in
    let from_low : from ≤ length first = omega arith in
    put_same first count to (drop from first) n room k
    ∙ sym (ap (λ l. take to (first ++ zeros) ++ l ++ drop (to + n) (first ++ zeros)) (ap (take n) (drop-append-le from first zeros from_low) ∙ take-append-le n (drop from first) zeros room))

pub copy_kept : (first new : List (List ℕ)) (count from to n end : ℕ) → new ≡ with_copied first from to n → from + n ≤ length first → to + n ≤ length first
    → (length first ≡ count) ⊎ (end + 64 ≤ length first) → to + n ≤ end → AreLinesKept first count → AreLinesKept new count
copy_kept first new count from to n end is h k reached inside kept = put_kept first new count to (drop from first) n end is (omega (arith, length-drop from first)) k reached inside kept

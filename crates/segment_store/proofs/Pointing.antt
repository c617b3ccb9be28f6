use Rattle.std.proofs.Common.{◌≡◌, ℕ, zero, suc, ◌+◌, ◌-◌, ◌*◌, ◌/◌, ◌%◌, ◌^◌, ◌<◌, ◌≤◌, true, false, cond, ◌||◌, nat_eq, ◌⊎◌, inl, inr, List, [], length, replicate, set, sym, ap, refl, ◌∙◌, arith, w32, true≢false, pow_mono}
use Rattle.std.proofs.lemmas.Nat.{field_of, pow_pos, shr-shr, shr_le}
use Rattle.std.proofs.Math.Nat.{zero-mod}
use Rattle.std.proofs.lemmas.Nat.Bits.{bit_at-trailing_zeros, bit_at-zero, bit_at_mask_inside, bit_at_mask_below, bit_at_mask_above}
use Rattle.std.proofs.Math.Pow.{mod-mod-pow}
use Rattle.std.proofs.lemmas.Bool.{cases_eq, cases_lt, cases_order}
use Rattle.std.specs.Int.{bit_at, trailing_zeros}
use Rattle.overlay_bits.specs.Lines.{AreLines, has_line, with_line}
use Rattle.overlay_bits.specs.Laws.{count_with, has_with}
use Rattle.std.proofs.lemmas.Bool.Decides.{nat_tests}
use Rattle.segment_store.specs.Pointers.{bytes_number, bits_from, slot_of, free_word, free_bit, free_count, ArePointers, HasWritten, HasTaken, IsLowestFree}
use Rattle.segment_store.proofs.Numbers.{field_below, field_above, above_it, has_written, number_set}

-- The pointer line of a set of lines.

-- a bit of the free word
pub bit_of_word : (pointers : List ℕ) (slot : ℕ) → slot < 32 → bit_at (free_word pointers) slot ≡ free_bit pointers slot
bit_of_word pointers slot h =
    let n = bytes_number pointers in
    let e : 31 - slot + 1 + slot ≡ 32 = omega (arith, h) in
    ap (λ k. n / 2 ^ 320 % 2 ^ k / 2 ^ slot % 2) (sym e)
    ∙ ap (λ x. x % 2) (field_of (n / 2 ^ 320) (31 - slot + 1) slot)
    ∙ mod-mod-pow (n / 2 ^ 320 / 2 ^ slot) (31 - slot) 1
    ∙ ap (λ x. x % 2 ^ 1) (shr-shr n 320 slot)

-- no bit of a word that is 0
no_bit : (n slot : ℕ) → n ≡ 0 → bit_at n slot ≡ 0
no_bit n slot e = ap (λ x. bit_at x slot) e ∙ bit_at-zero slot

pub none_free : (pointers : List ℕ) (k : ℕ) → k < 32 → free_word pointers ≡ 0 → free_count pointers k ≡ 0
none_free pointers zero h e = refl
none_free pointers (suc k) h e = omega (arith, none_free pointers k (omega (arith, h)) e, bit_of_word pointers (suc k) h, no_bit (free_word pointers) (suc k) e)

-- the lowest bit of the free word is the lowest free slot
pub lowest_is : (pointers : List ℕ) (slot : ℕ) → 0 < free_word pointers → free_word pointers < 2 ^ 32 → slot ≡ trailing_zeros w32 (free_word pointers) → IsLowestFree pointers slot
lowest_is pointers slot some small e =
    let t = bit_at-trailing_zeros w32 (free_word pointers) some small in
    let below : slot < 32 = omega (arith, e, t.0) in
    record {
      below = below;
      free = sym (bit_of_word pointers slot below) ∙ ap (bit_at (free_word pointers)) e ∙ t.1;
      lowest = λ other h. sym (bit_of_word pointers other (omega (arith, h, below))) ∙ t.2 other (omega (arith, h, e));
    }

-- a slot written, and its bit cleared
pub has_taken : (line slot : ℕ) (old mid new : List ℕ) → line < 64 → slot < 32 → length mid ≡ length old → length new ≡ length mid
    → HasWritten (5 * line) 5 slot (bytes_number old) (bytes_number mid) → HasWritten (320 + slot) 1 0 (bytes_number mid) (bytes_number new) → HasTaken line slot old new
has_taken line slot old mid new low small size_mid size_new w c = record {
  bytes = size_new ∙ size_mid;
  here = field_below (320 + slot) 1 0 _ _ (5 * line) 5 c (omega (arith, low)) ∙ w.there;
  others = λ other below differ. field_below (320 + slot) 1 0 _ _ (5 * other) 5 c (omega (arith, below)) ∙ by_side other differ (cases_order other line);
  taken = c.there;
  free = λ other below differ. by_bit other differ (cases_order other slot) ∙ field_above (5 * line) 5 slot _ _ (320 + other) 1 w (omega (arith, low));
  above = above_it (320 + slot) 1 0 _ _ 352 c (omega (arith, small)) ∙ above_it (5 * line) 5 slot _ _ 352 w (omega (arith, low));
}
  where
    by_side : (other : ℕ) → (other ≡ line → ⊥) → (other ≡ line) ⊎ ((other < line) ⊎ (line < other)) → slot_of mid other ≡ slot_of old other
    by_side other differ (inl e) = absurd (differ e)
    by_side other differ (inr (inl h)) = field_below (5 * line) 5 slot _ _ (5 * other) 5 w (omega (arith, h))
    by_side other differ (inr (inr h)) = field_above (5 * line) 5 slot _ _ (5 * other) 5 w (omega (arith, h))

    by_bit : (other : ℕ) → (other ≡ slot → ⊥) → (other ≡ slot) ⊎ ((other < slot) ⊎ (slot < other)) → free_bit new other ≡ free_bit mid other
    by_bit other differ (inl e) = absurd (differ e)
    by_bit other differ (inr (inl h)) = field_below (320 + slot) 1 0 _ _ (320 + other) 1 c (omega (arith, h))
    by_bit other differ (inr (inr h)) = field_above (320 + slot) 1 0 _ _ (320 + other) 1 c (omega (arith, h))

-- the bit stays while the slot is written
pub still_free : (line slot other : ℕ) (old mid : List ℕ) → line < 64 → HasWritten (5 * line) 5 slot (bytes_number old) (bytes_number mid) → free_bit mid other ≡ free_bit old other
still_free line slot other old mid low w = field_above (5 * line) 5 slot _ _ (320 + other) 1 w (omega (arith, low))

-- How many slots are free.

free_same : (k slot : ℕ) (old new : List ℕ) → k < slot → slot < 32 → ((other : ℕ) → other < 32 → (other ≡ slot → ⊥) → free_bit new other ≡ free_bit old other) → free_count new k ≡ free_count old k
free_same zero slot old new h small same = refl
free_same (suc k) slot old new h small same =
    omega (arith, free_same k slot old new (omega (arith, h)) small same, same (suc k) (omega (arith, h, small)) (λ e. absurd (omega (arith, h, e))))

free_less : (k slot : ℕ) (old new : List ℕ) → 1 ≤ slot → slot ≤ k → k < 32 → free_bit old slot ≡ 1 → free_bit new slot ≡ 0
    → ((other : ℕ) → other < 32 → (other ≡ slot → ⊥) → free_bit new other ≡ free_bit old other) → free_count new k + 1 ≡ free_count old k
free_less zero slot old new one h small was is same = absurd (omega (arith, one, h))
free_less (suc k) slot old new one h small was is same = at (λ low. free_less k slot old new one low (omega (arith, small)) was is same) (cases_eq slot (suc k))
  where
    at : (slot ≤ k → free_count new k + 1 ≡ free_count old k) → (slot ≡ suc k) ⊎ (slot ≡ suc k → ⊥) → free_count new (suc k) + 1 ≡ free_count old (suc k)
    at rest (inl e) =
        omega (arith, free_same k slot old new (omega (arith, e)) (omega (arith, h, small)) same, ap (free_bit old) e, ap (free_bit new) e, was, is)
    at rest (inr n) = omega (arith, rest (omega (arith, h, n)), same (suc k) small (λ e. n (sym e)))

-- A line gets a place.

-- where fewer lines are there than slots, one is free
pub some_free : (slots : ℕ) (lines pointers : List ℕ) → slots < 32 → ArePointers slots lines pointers → length lines < slots → 0 < free_word pointers
some_free slots lines pointers small are h = at (cases_eq (free_word pointers) 0)
  where
    at : (free_word pointers ≡ 0) ⊎ (free_word pointers ≡ 0 → ⊥) → 0 < free_word pointers
    at (inl e) = absurd (omega (arith, h, are.left, none_free pointers slots small e))
    at (inr n) = omega (arith, n)

-- the lowest free slot is one of the segment's
pub lowest_in : (slots : ℕ) (lines pointers : List ℕ) (slot : ℕ) → ArePointers slots lines pointers → IsLowestFree pointers slot → (1 ≤ slot) × (slot ≤ slots)
lowest_in slots lines pointers slot are lowest = (at (cases_eq slot 0), up (cases_lt slots slot))
  where
    at : (slot ≡ 0) ⊎ (slot ≡ 0 → ⊥) → 1 ≤ slot
    at (inl e) = absurd (omega (arith, lowest.free, are.none slot lowest.below (inl e)))
    at (inr n) = omega (arith, n)

    up : (slots < slot) ⊎ (slot ≤ slots) → slot ≤ slots
    up (inl h) = absurd (omega (arith, lowest.free, are.none slot lowest.below (inr h)))
    up (inr h) = h

pub with_one_more : (slots : ℕ) (lines more old new : List ℕ) (line slot : ℕ) → slots < 32 → ArePointers slots lines old → line < 64 → has_line lines line ≡ false
    → ((i : ℕ) → has_line lines i ≡ true → i < 64)
    → length more ≡ length lines + 1
    → ((i : ℕ) → i ≡ line → has_line more i ≡ true) → ((i : ℕ) → (i ≡ line → ⊥) → has_line more i ≡ has_line lines i)
    → IsLowestFree old slot → HasTaken line slot old new → ArePointers slots more new
with_one_more slots lines more old new line slot small are low absent inside size same other lowest t = record {
  bytes = t.bytes ∙ are.bytes;
  absent = λ i h no_i. at_absent i h no_i (cases_eq i line);
  present = λ i is. at_present i is (cases_eq i line);
  differ = λ i j is js e. at_differ i j is js e (cases_eq i line) (cases_eq j line);
  taken = λ i is. at_taken i is (cases_eq i line);
  free = λ s one h none. at_free s one h none (cases_eq s slot);
  none = λ s h out. t.free s h (λ e. out_of s e out) ∙ are.none s h out;
  above = t.above ∙ are.above;
  left = omega (arith, size, are.left, free_less slots slot old new within.0 within.1 small lowest.free t.taken t.free);
}
  where
    within : (1 ≤ slot) × (slot ≤ slots)
    within = lowest_in slots lines old slot are lowest

    out_of : (s : ℕ) → s ≡ slot → (s ≡ 0) ⊎ (slots < s) → ⊥
    out_of s e (inl z) = omega (arith, within.0, e, z)
    out_of s e (inr h) = omega (arith, within.1, e, h)

    kept : (i : ℕ) → (i ≡ line → ⊥) → has_line more i ≡ true → has_line lines i ≡ true
    kept i n is = sym (other i n) ∙ is

    slot_kept : (i : ℕ) → (i ≡ line → ⊥) → has_line more i ≡ true → slot_of new i ≡ slot_of old i
    slot_kept i n is = t.others i (inside i (kept i n is)) n

    slot_here : (i : ℕ) → i ≡ line → slot_of new i ≡ slot
    slot_here i e = ap (slot_of new) e ∙ t.here

    -- no line had the slot
    unlike : (i : ℕ) → has_line lines i ≡ true → slot_of old i ≡ slot → ⊥
    unlike i is e = omega (arith, lowest.free, sym (ap (free_bit old) e) ∙ are.taken i is)

    at_absent : (i : ℕ) → i < 64 → has_line more i ≡ false → (i ≡ line) ⊎ (i ≡ line → ⊥) → slot_of new i ≡ 0
    at_absent i h no_i (inl e) = absurd (true≢false (sym (same i e) ∙ no_i))
    at_absent i h no_i (inr n) = t.others i h n ∙ are.absent i h (sym (other i n) ∙ no_i)

    at_present : (i : ℕ) → has_line more i ≡ true → (i ≡ line) ⊎ (i ≡ line → ⊥) → (1 ≤ slot_of new i) × (slot_of new i ≤ slots)
    at_present i is (inl e) = (omega (arith, slot_here i e, within.0), omega (arith, slot_here i e, within.1))
    at_present i is (inr n) = let p = are.present i (kept i n is) in (omega (arith, slot_kept i n is, p.0), omega (arith, slot_kept i n is, p.1))

    at_differ : (i j : ℕ) → has_line more i ≡ true → has_line more j ≡ true → slot_of new i ≡ slot_of new j → (i ≡ line) ⊎ (i ≡ line → ⊥) → (j ≡ line) ⊎ (j ≡ line → ⊥) → i ≡ j
    at_differ i j is js e (inl a) (inl b) = a ∙ sym b
    at_differ i j is js e (inl a) (inr b) = absurd (unlike j (kept j b js) (sym (slot_kept j b js) ∙ sym e ∙ slot_here i a))
    at_differ i j is js e (inr a) (inl b) = absurd (unlike i (kept i a is) (sym (slot_kept i a is) ∙ e ∙ slot_here j b))
    at_differ i j is js e (inr a) (inr b) = are.differ i j (kept i a is) (kept j b js) (sym (slot_kept i a is) ∙ e ∙ slot_kept j b js)

    at_taken : (i : ℕ) → has_line more i ≡ true → (i ≡ line) ⊎ (i ≡ line → ⊥) → free_bit new (slot_of new i) ≡ 0
    at_taken i is (inl e) = ap (free_bit new) (slot_here i e) ∙ t.taken
    at_taken i is (inr n) =
        let old_is = kept i n is in
        ap (free_bit new) (slot_kept i n is)
        ∙ t.free (slot_of old i) (omega (arith, (are.present i old_is).1, small)) (unlike i old_is)
        ∙ are.taken i old_is

    at_free : (s : ℕ) → 1 ≤ s → s ≤ slots → ((i : ℕ) → has_line more i ≡ true → slot_of new i ≡ s → ⊥) → (s ≡ slot) ⊎ (s ≡ slot → ⊥) → free_bit new s ≡ 1
    at_free s one h none (inl e) = absurd (none line (same line refl) (t.here ∙ sym e))
    at_free s one h none (inr n) =
        t.free s (omega (arith, h, small)) n
        ∙ are.free s one h (λ i is e. by_line i is e (cases_eq i line))
      where
        by_line : (i : ℕ) → has_line lines i ≡ true → slot_of old i ≡ s → (i ≡ line) ⊎ (i ≡ line → ⊥) → ⊥
        by_line i is e (inl a) = true≢false (sym is ∙ ap (has_line lines) a ∙ absent)
        by_line i is e (inr m) = none i (other i m ∙ is) (t.others i (inside i is) m ∙ e)

-- No line has a slot yet.

-- the number of some bytes that are 0 but for four
pub word_laid : (word : ℕ) → word < 2 ^ 32
    → bytes_number (set (set (set (set (replicate 64 0) 40 (word % 256)) 41 (word / 256 % 256)) 42 (word / 65536 % 256)) 43 (word / 16777216)) ≡ word * 2 ^ 320
unfolding bytes_number
word_laid word small =
    let zeros : List ℕ = replicate 64 0 in
    let one = set zeros 40 (word % 256) in
    let two = set one 41 (word / 256 % 256) in
    let three = set two 42 (word / 65536 % 256) in
    omega (
      arith,
      small,
      number_set 40 zeros (word % 256) (omega arith),
      number_set 41 one (word / 256 % 256) (omega arith),
      number_set 42 two (word / 65536 % 256) (omega arith),
      number_set 43 three (word / 16777216) (omega arith),
    )

zero_field : (low count : ℕ) → bits_from low count 0 ≡ 0
zero_field low count = let e : 0 / 2 ^ low ≡ 0 = omega (arith, shr_le 0 low) in ap (λ n. n % 2 ^ count) e ∙ zero-mod (2 ^ count)

all_one : (k : ℕ) (pointers : List ℕ) → ((slot : ℕ) → 1 ≤ slot → slot ≤ k → free_bit pointers slot ≡ 1) → free_count pointers k ≡ k
all_one zero pointers h = refl
all_one (suc k) pointers h = omega (arith, all_one k pointers (λ s one le. h s one (omega (arith, le))), h (suc k) (omega arith) (omega arith))

pub none_taken : (slots : ℕ) (pointers : List ℕ) → slots < 32 → length pointers ≡ 64 → bytes_number pointers ≡ (2 ^ (slots + 1) - 2) * 2 ^ 320 → ArePointers slots [] pointers
none_taken slots pointers small size is = record {
  bytes = size;
  absent = λ line h no_line. field_below 320 32 word 0 _ (5 * line) 5 w (omega (arith, h)) ∙ zero_field (5 * line) 5;
  present = λ line h. absurd (true≢false (sym h));
  differ = λ one two h g e. absurd (true≢false (sym h));
  taken = λ line h. absurd (true≢false (sym h));
  free = λ slot one le h. free_is slot one le;
  none = λ slot low out. sym (bit_of_word pointers slot low) ∙ ap (λ n. bit_at n slot) w.there ∙ out_of slot out;
  above = above_it 320 32 word 0 _ 352 w (omega arith) ∙ (let e : 0 / 2 ^ 352 ≡ 0 = omega arith in e);
  left = omega (arith, all_one slots pointers free_is);
}
  where
    word : ℕ
    word = 2 ^ (slots + 1) - 2

    fits : word < 2 ^ 32
    fits = let h : slots + 1 ≤ 32 = omega (arith, small) in omega (arith, pow_mono h, pow_pos 32)

    w : HasWritten 320 32 word 0 (bytes_number pointers)
    w = has_written 320 32 0 word 0 (bytes_number pointers) fits (zero_field 320 32) (omega (arith, is))

    free_is : (slot : ℕ) → 1 ≤ slot → slot ≤ slots → free_bit pointers slot ≡ 1
    free_is slot one le = sym (bit_of_word pointers slot (omega (arith, le, small))) ∙ ap (λ n. bit_at n slot) w.there ∙ bit_at_mask_inside 1 (slots + 1) slot one (omega (arith, le))

    out_of : (slot : ℕ) → (slot ≡ 0) ⊎ (slots < slot) → bit_at word slot ≡ 0
    out_of slot (inl e) = bit_at_mask_below 1 (slots + 1) slot (omega (arith, e))
    out_of slot (inr h) = bit_at_mask_above 1 (slots + 1) slot (omega (arith, h))

-- a line that came in
pub inserted : (slots : ℕ) (lines old new : List ℕ) (line slot : ℕ) → slots < 32 → ArePointers slots lines old → AreLines lines → line < 64 → has_line lines line ≡ false
    → IsLowestFree old slot → HasTaken line slot old new → ArePointers slots (with_line lines line) new
inserted slots lines old new line slot small are set low absent lowest t =
    with_one_more slots lines (with_line lines line) old new line slot small are low absent set.inside
    (count_with lines line set low ∙ ap (λ b. length lines + cond b 0 1) absent)
    (λ i e. has_with lines line i ∙ (let b : nat_eq line i ≡ true = grind (arith, nat_tests) in ap (λ b. b || has_line lines i) b))
    (λ i n. has_with lines line i ∙ (let b : nat_eq line i ≡ false = grind (arith, nat_tests) in ap (λ b. b || has_line lines i) b))
    lowest t

use Rattle.std.proofs.Common.{◌≡◌, ℕ, zero, suc, ◌+◌, ◌-◌, ◌*◌, ◌/◌, ◌%◌, ◌<◌, ◌≤◌, ◌⊎◌, Bool, inl, inr, List, [], ◌∷◌, length, get_or, take, drop, replicate, slice_set, Some, refl, sym, ap, subst, ◌∙◌, arith}
use Rattle.std.specs.Prelude.{slice_get, slice_index}
use Rattle.std.proofs.lemmas.Bool.{cases_eq, cases_order}
use Rattle.std.proofs.lemmas.Grind.{get_or_default_zero}
use Rattle.std.proofs.lemmas.List.{get_or-set_other, get_or-set_same, get_or-replicate, length-replicate, length-set, length-take}
use Rattle.byteorder.specs.Endian.{little_number}
use Rattle.rv_decode.specs.declared.names.Name.{Name}
use Rattle.rv_decode.specs.declared.instruction.Instr.{Instr}
use Rattle.decoded_lines.specs.Decoded.{AreCountedBy, AreDecoded, AreFromBy, AreOfLine, IsOfWordBy, line_word}
use Rattle.decoded_lines.specs.declared.TheConstants.{KEPT_LINES, LINE_WORDS}

-- Elements of a list of which one is written, and of a part of one.

module _ {X : Type 0} where
  pub slice_get-set_same : (xs : List X) (at : ℕ) (x : X) → at < length xs → slice_get (slice_set xs at x) at ≡ Some x
  slice_get-set_same [] at x inside = absurd (omega (arith, inside))
  slice_get-set_same (y ∷ xs) zero x inside = refl
  slice_get-set_same (y ∷ xs) (suc at) x inside = slice_get-set_same xs at x (omega (arith, inside))

  pub slice_get-set_other : (xs : List X) (at i : ℕ) (x : X) → (i ≡ at → ⊥) → slice_get (slice_set xs at x) i ≡ slice_get xs i
  slice_get-set_other [] at i x other = refl
  slice_get-set_other (y ∷ xs) zero zero x other = absurd (other refl)
  slice_get-set_other (y ∷ xs) zero (suc i) x other = refl
  slice_get-set_other (y ∷ xs) (suc at) zero x other = refl
  slice_get-set_other (y ∷ xs) (suc at) (suc i) x other = slice_get-set_other xs at i x (λ same. other (ap suc same))

  slice_get-drop : (n : ℕ) (xs : List X) (i : ℕ) → slice_get (drop n xs) i ≡ slice_get xs (n + i)
  slice_get-drop zero xs i = let same : i ≡ 0 + i = omega arith in ap (slice_get xs) same
  slice_get-drop (suc n) [] i = refl
  slice_get-drop (suc n) (y ∷ xs) i =
      let same : suc (n + i) ≡ suc n + i = omega arith in slice_get-drop n xs i ∙ ap (slice_get (y ∷ xs)) same

  slice_get-take : (n : ℕ) (xs : List X) (i : ℕ) → i < n → slice_get (take n xs) i ≡ slice_get xs i
  slice_get-take zero xs i below = absurd (omega (arith, below))
  slice_get-take (suc n) [] i below = refl
  slice_get-take (suc n) (y ∷ xs) zero below = refl
  slice_get-take (suc n) (y ∷ xs) (suc i) below = slice_get-take n xs i (omega (arith, below))

-- Words that are counted mean the same where they stay.

pub counted_where : (has : Name → Bool) (old now : List Instr) (at count : ℕ) (line : List ℕ) (place : ℕ)
    → ((k : ℕ) → k < count → slice_get now (at + k) ≡ slice_get old (at + k))
    → AreCountedBy has old at count line place → AreCountedBy has now at count line place
counted_where has old now at count line place same are = record {
  within = are.within;
  words = λ k below. subst (λ o. IsOfWordBy has o (line_word line (place + k))) (sym (same k below)) (are.words k below);
}

none_counted : (has : Name → Bool) (now : List Instr) (at : ℕ) (line : List ℕ) (place : ℕ) → place ≤ LINE_WORDS → AreCountedBy has now at 0 line place
none_counted has now at line place low = record { within = omega (arith, low); words = λ k below. absurd (omega (arith, below)) }

-- one more before them
one_counted : (has : Name → Bool) (now : List Instr) (at count : ℕ) (line : List ℕ) (place : ℕ) → place < LINE_WORDS
    → IsOfWordBy has (slice_get now at) (line_word line place)
    → AreCountedBy has now (at + 1) count line (place + 1) → AreCountedBy has now at (count + 1) line place
one_counted has now at count line place low first are = record {
  within = let w = are.within in omega (arith, w);
  words = words;
}
  where
    words : (k : ℕ) → k < count + 1 → IsOfWordBy has (slice_get now (at + k)) (line_word line (place + k))
    words zero below =
        let here : at ≡ at + 0 = omega arith in
        let word : place ≡ place + 0 = omega arith in
        subst (λ n. IsOfWordBy has (slice_get now n) (line_word line (place + 0))) here
        (subst (λ n. IsOfWordBy has (slice_get now at) (line_word line n)) word first)
    words (suc k) below =
        let here : at + 1 + k ≡ at + suc k = omega arith in
        let word : place + 1 + k ≡ place + suc k = omega arith in
        subst (λ n. IsOfWordBy has (slice_get now n) (line_word line (place + suc k))) here
        (subst (λ n. IsOfWordBy has (slice_get now (at + 1 + k)) (line_word line n)) word (are.words k (omega (arith, below))))

-- A line is decoded word by word, from the last one on.

-- those from a place on were, of which so many are instructions at that place
pub record IsDecoding (has : Name → Bool) (slot : ℕ) (line : List ℕ) (old now : List Instr) (counts counts_now : List ℕ) (place count : ℕ) : Type 0 where
  pub low : place ≤ LINE_WORDS
  pub all : length now ≡ length old
  pub counted : length counts_now ≡ length counts
  pub run : AreCountedBy has now (LINE_WORDS * slot + place) count line place
  pub here : (p : ℕ) → place ≤ p → p < LINE_WORDS → AreCountedBy has now (LINE_WORDS * slot + p) (slice_index counts_now (LINE_WORDS * slot + p)) line p
  pub beside : (at : ℕ) → (at < LINE_WORDS * slot) ⊎ (LINE_WORDS * slot + LINE_WORDS ≤ at) → slice_get now at ≡ slice_get old at
  pub counts_beside : (at : ℕ) → (at < LINE_WORDS * slot) ⊎ (LINE_WORDS * slot + LINE_WORDS ≤ at) → slice_index counts_now at ≡ slice_index counts at

pub decoding_none : (has : Name → Bool) (slot : ℕ) (line : List ℕ) (old : List Instr) (counts : List ℕ) → IsDecoding has slot line old old counts counts LINE_WORDS 0
decoding_none has slot line old counts = record {
  low = omega arith;
  all = refl;
  counted = refl;
  run = none_counted has old (LINE_WORDS * slot + LINE_WORDS) line LINE_WORDS (omega arith);
  here = λ p from below. absurd (omega (arith, from, below));
  beside = λ at out. refl;
  counts_beside = λ at out. refl;
}

module _ (has : Name → Bool) (slot : ℕ) (line : List ℕ) (old now next : List Instr) (counts counts_now : List ℕ) (place done behind count : ℕ)
    (so : IsDecoding has slot line old now counts counts_now done behind) (one : done ≡ place + 1) (inside : slot < KEPT_LINES)
    (counted : length counts ≡ LINE_WORDS * KEPT_LINES) (long : length next ≡ length now)
    (first : (count ≡ 0) ⊎ ((count ≡ behind + 1) × IsOfWordBy has (slice_get next (LINE_WORDS * slot + place)) (line_word line place)))
    (others : (i : ℕ) → (i ≡ LINE_WORDS * slot + place → ⊥) → slice_get next i ≡ slice_get now i) where
  abbrev at : ℕ
  at = LINE_WORDS * slot + place

  low : place < LINE_WORDS
  low = let l = so.low in omega (arith, l, one)

  stays : (n k : ℕ) → at < n → slice_get next (n + k) ≡ slice_get now (n + k)
  stays n k past = others (n + k) (λ same. omega (arith, past, same))

  run_behind : AreCountedBy has next (at + 1) behind line (place + 1)
  run_behind =
      let here : LINE_WORDS * slot + done ≡ at + 1 = omega (arith, one) in
      counted_where has now next (at + 1) behind line (place + 1) (λ k below. stays (at + 1) k (omega arith))
      (subst (λ n. AreCountedBy has now n behind line (place + 1)) here
      (subst (λ n. AreCountedBy has now (LINE_WORDS * slot + done) behind line n) one so.run))

  run_here : AreCountedBy has next at count line place
  run_here = by first
    where
      by : (count ≡ 0) ⊎ ((count ≡ behind + 1) × IsOfWordBy has (slice_get next at) (line_word line place)) → AreCountedBy has next at count line place
      by (inl none) = subst (λ n. AreCountedBy has next at n line place) (sym none) (none_counted has next at line place (omega (arith, low)))
      by (inr (more, is)) =
          subst (λ n. AreCountedBy has next at n line place) (sym more) (one_counted has next at behind line place low is run_behind)

  abbrev counts_next : List ℕ
  counts_next = slice_set counts_now at count

  here_next : (p : ℕ) → place ≤ p → p < LINE_WORDS → AreCountedBy has next (LINE_WORDS * slot + p) (slice_index counts_next (LINE_WORDS * slot + p)) line p
  here_next p from below = by_order (cases_eq p place)
    where
      by_order : (p ≡ place) ⊎ (p ≡ place → ⊥) → AreCountedBy has next (LINE_WORDS * slot + p) (slice_index counts_next (LINE_WORDS * slot + p)) line p
      by_order (inl same) =
          subst (λ n. AreCountedBy has next (LINE_WORDS * slot + n) (slice_index counts_next (LINE_WORDS * slot + n)) line n) (sym same)
          (subst (λ n. AreCountedBy has next at n line place)
          (sym (get_or-set_same counts_now at count 0 (let c = so.counted in omega (arith, low, inside, counted, c)))) run_here)
      by_order (inr other) =
          subst (λ n. AreCountedBy has next (LINE_WORDS * slot + p) n line p)
          (sym (get_or-set_other counts_now at (LINE_WORDS * slot + p) count 0 (λ same. other (omega (arith, same)))))
          (counted_where has now next (LINE_WORDS * slot + p) (slice_index counts_now (LINE_WORDS * slot + p)) line p
          (λ k more. stays (LINE_WORDS * slot + p) k (omega (arith, from, other)))
          (so.here p (omega (arith, from, other, one)) below))

  apart : (i : ℕ) → (i < LINE_WORDS * slot) ⊎ (LINE_WORDS * slot + LINE_WORDS ≤ i) → i ≡ at → ⊥
  apart i (inl before) same = omega (arith, before, same)
  apart i (inr behind) same = omega (arith, behind, same, low)

  pub decoding_next : IsDecoding has slot line old next counts counts_next place count
  decoding_next = record {
    low = omega (arith, low);
    all = long ∙ so.all;
    counted = length-set counts_now at count ∙ so.counted;
    run = run_here;
    here = here_next;
    beside = λ i out. others i (apart i out) ∙ so.beside i out;
    counts_beside = λ i out. get_or-set_other counts_now at i count 0 (apart i out) ∙ so.counts_beside i out;
  }

-- A line was put in a slot.

module _ (has : Name → Bool) (lines : List (List ℕ)) (old now : List Instr) (counts counts_now : List ℕ) (slot : ℕ) (line : List ℕ)
    (are : AreDecoded has lines old counts) (low : slot < KEPT_LINES) (here : AreOfLine has now counts_now slot line)
    (beside : (at : ℕ) → (at < LINE_WORDS * slot) ⊎ (LINE_WORDS * slot + LINE_WORDS ≤ at) → slice_get now at ≡ slice_get old at)
    (counts_beside : (at : ℕ) → (at < LINE_WORDS * slot) ⊎ (LINE_WORDS * slot + LINE_WORDS ≤ at) → slice_index counts_now at ≡ slice_index counts at) where
  apart_from : (k p : ℕ) → (k ≡ slot → ⊥) → p < LINE_WORDS → (LINE_WORDS * k + p < LINE_WORDS * slot) ⊎ (LINE_WORDS * slot + LINE_WORDS ≤ LINE_WORDS * k + p)
  apart_from k p other inside = by (cases_order k slot)
    where
      by : (k ≡ slot) ⊎ ((k < slot) ⊎ (slot < k)) → (LINE_WORDS * k + p < LINE_WORDS * slot) ⊎ (LINE_WORDS * slot + LINE_WORDS ≤ LINE_WORDS * k + p)
      by (inl same) = absurd (other same)
      by (inr (inl less)) = inl (omega (arith, less, inside))
      by (inr (inr more)) = inr (omega (arith, more))

  -- lines in other slots stay
  other_stays : (k : ℕ) → k < KEPT_LINES → (k ≡ slot → ⊥) → AreOfLine has now counts_now k (get_or lines k [])
  other_stays k below other place inside =
      subst (λ n. AreCountedBy has now (LINE_WORDS * k + place) n (get_or lines k []) place)
      (sym (counts_beside (LINE_WORDS * k + place) (apart_from k place other inside)))
      (counted_where has old now (LINE_WORDS * k + place) (slice_index counts (LINE_WORDS * k + place)) (get_or lines k []) place stays was)
    where
      was : AreCountedBy has old (LINE_WORDS * k + place) (slice_index counts (LINE_WORDS * k + place)) (get_or lines k []) place
      was = are.each k below place inside

      stays : (i : ℕ) → i < slice_index counts (LINE_WORDS * k + place) → slice_get now (LINE_WORDS * k + place + i) ≡ slice_get old (LINE_WORDS * k + place + i)
      stays i less =
          let w = was.within in
          let same : LINE_WORDS * k + (place + i) ≡ LINE_WORDS * k + place + i = omega arith in
          subst (λ n. slice_get now n ≡ slice_get old n) same
          (beside (LINE_WORDS * k + (place + i)) (apart_from k (place + i) other (omega (arith, w, less))))

  pub entered : length now ≡ length old → length counts_now ≡ length counts → AreDecoded has (slice_set lines slot line) now counts_now
  entered long counted = record {
    count = length-set lines slot line ∙ are.count;
    all = long ∙ are.all;
    counted = counted ∙ are.counted;
    each = each;
  }
    where
      each : (k : ℕ) → k < KEPT_LINES → AreOfLine has now counts_now k (get_or (slice_set lines slot line) k [])
      each k below = by_slot (cases_eq k slot)
        where
          by_slot : (k ≡ slot) ⊎ (k ≡ slot → ⊥) → AreOfLine has now counts_now k (get_or (slice_set lines slot line) k [])
          by_slot (inl same) =
              subst (λ n. AreOfLine has now counts_now n (get_or (slice_set lines slot line) n [])) (sym same)
              (subst (AreOfLine has now counts_now slot) (sym (get_or-set_same lines slot line [] (let c = are.count in omega (arith, low, c)))) here)
          by_slot (inr other) =
              subst (AreOfLine has now counts_now k) (sym (get_or-set_other lines slot k line [] other)) (other_stays k below other)

-- No word is told.

pub none_told : (has : Name → Bool) (line : List ℕ) (i : Instr)
    → AreDecoded has (replicate KEPT_LINES line) (replicate (LINE_WORDS * KEPT_LINES) i) (replicate {A = ℕ} (LINE_WORDS * KEPT_LINES) 0)
none_told has line i = record {
  count = length-replicate KEPT_LINES line;
  all = length-replicate (LINE_WORDS * KEPT_LINES) i;
  counted = length-replicate {A = ℕ} (LINE_WORDS * KEPT_LINES) 0;
  each = λ slot low place inside.
      subst (λ n. AreCountedBy has (replicate (LINE_WORDS * KEPT_LINES) i) (LINE_WORDS * slot + place) n (get_or (replicate KEPT_LINES line) slot []) place)
      (sym (get_or-replicate (LINE_WORDS * KEPT_LINES) (LINE_WORDS * slot + place) 0 0 (omega (arith, low, inside))))
      (none_counted has (replicate (LINE_WORDS * KEPT_LINES) i) (LINE_WORDS * slot + place) (get_or (replicate KEPT_LINES line) slot []) place
      (omega (arith, inside)));
}

-- a word as it is read
pub word_at : (line : List ℕ) (place : ℕ) → little_number 4 (take (4 * place + 4 - 4 * place) (drop (4 * place) line)) ≡ line_word line place
word_at line place = let four : 4 * place + 4 - 4 * place ≡ 4 = omega arith in ap (λ n. little_number 4 (take n (drop (4 * place) line))) four

-- The words from one on, of which as many are told as is read.

module _ (has : Name → Bool) (lines : List (List ℕ)) (instructions : List Instr) (counts : List ℕ) (word count : ℕ) (are : AreDecoded has lines instructions counts)
    (count_is : count ≡ get_or counts (word % (LINE_WORDS * KEPT_LINES)) count) where
  abbrev first : ℕ
  first = word % (LINE_WORDS * KEPT_LINES)

  abbrev slot : ℕ
  slot = word / LINE_WORDS % KEPT_LINES

  are_counted : AreCountedBy has instructions first count (get_or lines slot []) (word % LINE_WORDS)
  are_counted =
      let at : LINE_WORDS * slot + word % LINE_WORDS ≡ first = omega arith in
      let all = are.counted in
      let low : first < length counts = omega (arith, all) in
      subst (λ n. AreCountedBy has instructions first n (get_or lines slot []) (word % LINE_WORDS)) (sym (count_is ∙ get_or_default_zero counts first count low))
      (subst (λ n. AreCountedBy has instructions n (slice_index counts n) (get_or lines slot []) (word % LINE_WORDS)) at
      (are.each slot (omega arith) (word % LINE_WORDS) (omega arith)))

  -- they end in the line
  pub words_within : word % LINE_WORDS + count ≤ LINE_WORDS
  words_within = are_counted.within

  -- and stand one after the other
  pub words_behind : AreFromBy has (take (first + count - first) (drop first instructions)) (word % LINE_WORDS) (get_or lines slot [])
  words_behind k inside =
      let size = length-take (first + count - first) (drop first instructions) in
      let low : k < first + count - first = omega (arith, size, inside) in
      subst (λ o. IsOfWordBy has o (line_word (get_or lines slot []) (word % LINE_WORDS + k)))
      (sym (slice_get-take (first + count - first) (drop first instructions) k low ∙ slice_get-drop first instructions k))
      (are_counted.words k (omega (arith, low)))

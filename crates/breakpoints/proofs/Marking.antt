use Rattle.std.proofs.Common.{◌≡◌, ℕ, ◌+◌, ◌*◌, ◌/◌, ◌%◌, ◌<◌, ◌≤◌, ◌⊎◌, inl, inr, ◌||◌, Bool, true, false, cond, List, [], get_or, Option, Some, None, slice_set, sym, ap, ◌∙◌, refl, arith}
use Rattle.std.specs.Prelude.{nat_eq, IfSome}
use Rattle.std.proofs.lemmas.Bool.{cases_eq, eq-eqb, eqb-true}
use Rattle.std.proofs.lemmas.List.{get_or-set_other, get_or-set_same, length-set}
use Rattle.std.specs.List.{list_any}
use Rattle.std.specs.Ordering.{nat_cmp}
use Rattle.std.specs.FinSet.{contains, from_list}
use Rattle.overlay_bits.specs.Laws.{has_with}
use Rattle.overlay_bits.specs.Lines.{IsLeastFrom, has_line, with_line}
use Rattle.breakpoints.specs.Marks.{AreMarked, piece_marks, piece_of, word_place}
use Rattle.breakpoints.specs.declared.TheConstants.{MARKED_PIECES, PIECE_BYTES, PIECE_WORDS}
use Rattle.breakpoints.proofs.Sets.{has_is}

-- Marks of addresses.

-- an address whose word has no mark isn't there
pub none_marked : (ks : List ℕ) (marks : List (List ℕ)) (a : ℕ) → AreMarked ks marks → has_line (piece_marks marks a) (word_place a) ≡ false
    → contains (from_list {R = nat_cmp} ks) a ≡ false
none_marked ks marks a are bare = by_member (list_any (nat_eq a) ks) refl
  where
    by_member : (b : Bool) → list_any (nat_eq a) ks ≡ b → contains (from_list {R = nat_cmp} ks) a ≡ false
    by_member true there = absurd (let both = sym bare ∙ are.each a there in cc)
    by_member false none = has_is ks a ∙ none

-- and so at a word behind another one in its piece
pub none_behind : (ks : List ℕ) (marks : List (List ℕ)) (a k : ℕ) → AreMarked ks marks → word_place a + k < PIECE_WORDS
    → has_line (piece_marks marks a) (word_place a + k) ≡ false → contains (from_list {R = nat_cmp} ks) (a + 4 * k) ≡ false
none_behind ks marks a k are inside bare =
    let piece : piece_of (a + 4 * k) ≡ piece_of a = ap (λ n. n % MARKED_PIECES) (let same : (a + 4 * k) / PIECE_BYTES ≡ a / PIECE_BYTES = omega (arith, inside) in same) in
    let word : word_place (a + 4 * k) ≡ word_place a + k = omega (arith, inside) in
    none_marked ks marks (a + 4 * k) are
    (ap (λ n. has_line (get_or marks n []) (word_place (a + 4 * k))) piece ∙ ap (has_line (piece_marks marks a)) word ∙ bare)

-- so are those before the least marked one behind the first, and all where there is none
pub none_past : (ks : List ℕ) (marks : List (List ℕ)) (bits : List ℕ) (a word most count : ℕ) (o : Option ℕ) → AreMarked ks marks → bits ≡ piece_marks marks a
    → word ≡ word_place a → word_place a + most ≤ PIECE_WORDS → IsLeastFrom bits (word + 1) o → count ≤ most → IfSome o (λ next. count + word ≤ next)
    → (k : ℕ) → 0 < k → k < count → contains (from_list {R = nat_cmp} ks) (a + 4 * k) ≡ false
none_past ks marks bits a word most count o are is same inside least few before k some low =
    none_behind ks marks a k are (omega (arith, inside, few, low)) (sym (ap (λ l. has_line l (word_place a + k)) is) ∙ by o least before)
  where
    by : (o : Option ℕ) → IsLeastFrom bits (word + 1) o → IfSome o (λ next. count + word ≤ next) → has_line bits (word_place a + k) ≡ false
    by None none before = none (word_place a + k) (omega (arith, some, same))
    by (Some next) first before = first.3 (word_place a + k) (omega (arith, some, same)) (omega (arith, before, same, low))

-- one more is marked
module _ (old new : List ℕ) (marks : List (List ℕ)) (a : ℕ) (are : AreMarked old marks)
    (has : (q : ℕ) → list_any (nat_eq q) new ≡ cond (nat_eq a q) true (list_any (nat_eq q) old)) where
  abbrev next : List (List ℕ)
  next = slice_set marks (piece_of a) (with_line (piece_marks marks a) (word_place a))

  each : (q : ℕ) → list_any (nat_eq q) new ≡ true → has_line (piece_marks next q) (word_place q) ≡ true
  each q there = by_piece (cases_eq (piece_of q) (piece_of a)) (nat_eq a q) refl
    where
      was : nat_eq a q ≡ false → has_line (piece_marks marks q) (word_place q) ≡ true
      was other = are.each q (sym (ap (λ b. cond b true (list_any (nat_eq q) old)) other) ∙ sym (has q) ∙ there)

      or_true : (b : Bool) → (b || true) ≡ true
      or_true true = refl
      or_true false = refl

      by_piece : (piece_of q ≡ piece_of a) ⊎ (piece_of q ≡ piece_of a → ⊥) → (b : Bool) → nat_eq a q ≡ b → has_line (piece_marks next q) (word_place q) ≡ true
      by_piece (inl same) b test =
          let here = get_or-set_same marks (piece_of a) (with_line (piece_marks marks a) (word_place a)) [] (omega (arith, are.count)) in
          ap (λ n. has_line (get_or next n []) (word_place q)) same ∙ ap (λ l. has_line l (word_place q)) here ∙ has_with (piece_marks marks a) (word_place a) (word_place q)
          ∙ by_test b test
        where
          by_test : (b : Bool) → nat_eq a q ≡ b → (nat_eq (word_place a) (word_place q) || has_line (piece_marks marks a) (word_place q)) ≡ true
          by_test true test = ap (λ n. nat_eq (word_place a) (word_place n) || has_line (piece_marks marks a) (word_place n)) (sym (eqb-true a q test)) ∙ (λ i. eq-eqb (word_place a) (word_place a) refl i || has_line (piece_marks marks a) (word_place a))
          by_test false test =
              ap (λ n. nat_eq (word_place a) (word_place q) || has_line (get_or marks n []) (word_place q)) (sym same)
              ∙ ap (λ b. nat_eq (word_place a) (word_place q) || b) (was test) ∙ or_true (nat_eq (word_place a) (word_place q))
      by_piece (inr other) true test = absurd (other (ap piece_of (sym (eqb-true a q test))))
      by_piece (inr other) false test =
          ap (λ l. has_line l (word_place q)) (get_or-set_other marks (piece_of a) (piece_of q) (with_line (piece_marks marks a) (word_place a)) [] other) ∙ was test

  pub marked_more : AreMarked new next
  marked_more = record { count = length-set marks (piece_of a) (with_line (piece_marks marks a) (word_place a)) ∙ are.count; each = each }

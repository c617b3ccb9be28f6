use Rattle.std.proofs.Common.{◌≡◌, ℕ, zero, suc, ◌+◌, ◌*◌, ◌/◌, ◌%◌, ◌<◌, ◌≤◌, ◌⊎◌, inl, inr, Option, Some, None, List, length, get_or, set, replicate, max, sym, ap, ◌∙◌, refl, arith}
use Rattle.std.proofs.lemmas.Bool.{cases_lt, cases_eq}
use Rattle.std.proofs.lemmas.List.{length-set, length-replicate, get_or-replicate, get_or-set_same, get_or-set_other, get_or_past}
use Rattle.std.proofs.lemmas.Nat.Bits.{bit_at_or, bit_at-zero, bit_at-lt}
use Rattle.std.specs.Int.{bit_at}
use Rattle.std.specs.Int.Bits.{bit_or}
use Rattle.mark_levels.specs.Levels.{or_of, AreMarks, AreMarksBut, HasBit, LackBit, LackBitIn, IsEndBit, IsEndBitIn, IsLeastBit, IsNearer}
use Rattle.mark_levels.specs.declared.levels.End.{End}
use Rattle.mark_levels.specs.declared.levels.End.TheVariants.{Low, High}

-- The bits of some bytes together.

-- one of the bytes has a bit that they have together
pub or_some : (bytes : List ℕ) (from n k : ℕ) → bit_at (or_of bytes from n) k ≡ 1 → (x : ℕ) × ((from ≤ x) × (x < from + n) × (bit_at (get_or bytes x 0) k ≡ 1))
unfolding or_of
or_some bytes from zero k h = absurd (omega (arith, h, bit_at-zero k))
or_some bytes from (suc n) k h = at (cases_eq (bit_at (or_of bytes from n) k) 1) (or_some bytes from n k)
  where
    at : (bit_at (or_of bytes from n) k ≡ 1) ⊎ (bit_at (or_of bytes from n) k ≡ 1 → ⊥)
        → (bit_at (or_of bytes from n) k ≡ 1 → (x : ℕ) × ((from ≤ x) × (x < from + n) × (bit_at (get_or bytes x 0) k ≡ 1)))
        → (x : ℕ) × ((from ≤ x) × (x < from + suc n) × (bit_at (get_or bytes x 0) k ≡ 1))
    at (inl e) rest = let r = rest e in (r.0, (r.1.0, omega (arith, r.1.1), r.1.2))
    at (inr clear) rest =
        (from + n, (omega arith, omega arith, omega (arith, h, bit_at_or (or_of bytes from n) (get_or bytes (from + n) 0) k, clear, bit_at-lt (or_of bytes from n) k)))

-- and each of them lacks one that they lack together
pub or_none : (bytes : List ℕ) (from n k : ℕ) → bit_at (or_of bytes from n) k ≡ 0 → LackBitIn bytes k from (from + n)
unfolding or_of
or_none bytes from zero k h x le lt = absurd (omega (arith, le, lt))
or_none bytes from (suc n) k h x le lt = at (cases_lt x (from + n)) (λ less. or_none bytes from n k (omega (arith, both)) x le less)
  where
    both : max (bit_at (or_of bytes from n) k) (bit_at (get_or bytes (from + n) 0) k) ≡ 0
    both = sym (bit_at_or (or_of bytes from n) (get_or bytes (from + n) 0) k) ∙ h

    at : (x < from + n) ⊎ (from + n ≤ x) → (x < from + n → bit_at (get_or bytes x 0) k ≡ 0) → bit_at (get_or bytes x 0) k ≡ 0
    at (inl less) rest = rest less
    at (inr more) rest = let e : x ≡ from + n = omega (arith, more, lt) in ap (λ y. bit_at (get_or bytes y 0) k) e ∙ omega (arith, both)

pub or_same : (bytes other : List ℕ) (from n : ℕ) → ((x : ℕ) → from ≤ x → x < from + n → get_or bytes x 0 ≡ get_or other x 0) → or_of bytes from n ≡ or_of other from n
unfolding or_of
or_same bytes other from zero e = refl
or_same bytes other from (suc n) e =
    ap (λ b. bit_or b (get_or bytes (from + n) 0)) (or_same bytes other from n (λ x le lt. e x le (omega (arith, lt))))
    ∙ ap (bit_or (or_of other from n)) (e (from + n) (omega arith) (omega arith))

pub or_more : (bytes : List ℕ) (from n : ℕ) → bit_or (or_of bytes from n) (get_or bytes (from + n) 0) ≡ or_of bytes from (n + 1)
unfolding or_of
or_more bytes from n = let e : suc n ≡ n + 1 = omega arith in ap (or_of bytes from) e

pub or_zero : (bytes : List ℕ) (from n : ℕ) → ((x : ℕ) → get_or bytes x 0 ≡ 0) → or_of bytes from n ≡ 0
unfolding or_of
or_zero bytes from zero h = refl
or_zero bytes from (suc n) h = ap (λ a. bit_or a (get_or bytes (from + n) 0)) (or_zero bytes from n h) ∙ ap (bit_or 0) (h (from + n))

-- Marks of bytes that are all 0, and of bytes one of which is written.

pub zero_at : (n x : ℕ) → ◌≡◌ {A = ℕ} (get_or (replicate n 0) x 0) 0
zero_at n x = elim (cases_lt x n) [ inl lt ↦ get_or-replicate n x 0 0 lt | inr le ↦ get_or_past (replicate n 0) x 0 (omega (arith, length-replicate {A = ℕ} n 0, le)) ]

pub zero_marks : (n m : ℕ) → n ≤ 16 * m → AreMarks (replicate n 0) (replicate m 0)
zero_marks n m le = record {
  enough = omega (arith, length-replicate {A = ℕ} n 0, length-replicate {A = ℕ} m 0, le);
  marked = λ g. zero_at m g ∙ sym (or_zero (replicate n 0) (16 * g) 16 (zero_at n));
}

-- the mark of a group whose bytes were written
pub group_marked : (bytes marks : List ℕ) (group : ℕ) → group < length marks → AreMarksBut group bytes marks → AreMarks bytes (set marks group (or_of bytes (16 * group) 16))
group_marked bytes marks group lt but = record {
  enough = omega (arith, but.marks_was.enough, but.size, length-set marks group (or_of bytes (16 * group) 16));
  marked = λ g. by g (cases_eq g group);
}
  where
    by : (g : ℕ) → (g ≡ group) ⊎ (g ≡ group → ⊥) → get_or (set marks group (or_of bytes (16 * group) 16)) g 0 ≡ or_of bytes (16 * g) 16
    by g (inl e) =
        ap (λ f. get_or (set marks group (or_of bytes (16 * group) 16)) f 0) e
        ∙ get_or-set_same marks group (or_of bytes (16 * group) 16) 0 lt
        ∙ ap (λ f. or_of bytes (16 * f) 16) (sym e)
    by g (inr differs) =
        get_or-set_other marks group g (or_of bytes (16 * group) 16) 0 differs ∙ but.marks_was.marked g
        ∙ or_same but.was bytes (16 * g) 16 (λ x le less. sym (but.others x (elim (cases_lt x (16 * group)) [ inl lt ↦ inl lt | inr high ↦ inr (omega (arith, high, le, less, differs)) ])))

pub set_marks : (bytes marks : List ℕ) (at byte : ℕ) → at < length bytes → AreMarks bytes marks → AreMarks (set bytes at byte) (set marks (at / 16) (or_of (set bytes at byte) (16 * (at / 16)) 16))
set_marks bytes marks at byte lt are = group_marked (set bytes at byte) marks (at / 16) (omega (arith, are.enough, lt)) (record {
  was = bytes;
  marks_was = are;
  size = length-set bytes at byte;
  others = λ x out. get_or-set_other bytes at x byte 0 (λ e. apart x e out);
})
  where
    apart : (x : ℕ) → x ≡ at → (x < 16 * (at / 16)) ⊎ (16 * (at / 16) + 16 ≤ x) → ⊥
    apart x e (inl h) = omega (arith, e, h)
    apart x e (inr h) = omega (arith, e, h)

-- The bits of all bytes.

-- of sixteen bytes alone
pub all_some : (bytes : List ℕ) (bits k : ℕ) → bits ≡ or_of bytes 0 16 → bit_at bits k ≡ 1 → HasBit bytes k
all_some bytes bits k e bit = let x = or_some bytes 0 16 k (sym (ap (λ b. bit_at b k) e) ∙ bit) in (x.0, x.1.2)

all_lack : (bytes : List ℕ) (k : ℕ) → length bytes ≡ 16 → LackBitIn bytes k 0 16 → LackBit bytes k
all_lack bytes k size lack x = elim (cases_lt x 16) [ inl lt ↦ lack x (omega arith) lt | inr past ↦ ap (λ b. bit_at b k) (get_or_past bytes x 0 (omega (arith, size, past))) ∙ bit_at-zero k ]

pub all_none : (bytes : List ℕ) (bits k : ℕ) → length bytes ≡ 16 → bits ≡ or_of bytes 0 16 → bit_at bits k ≡ 0 → LackBit bytes k
all_none bytes bits k size e bit = all_lack bytes k size (or_none bytes 0 16 k (sym (ap (λ b. bit_at b k) e) ∙ bit))

-- a group has a bit, or none of its bytes has it
in_group : (bytes marks : List ℕ) (k g : ℕ) → AreMarks bytes marks → bit_at (get_or marks g 0) k ≡ 1 → (x : ℕ) × ((16 * g ≤ x) × (x < 16 * g + 16) × (bit_at (get_or bytes x 0) k ≡ 1))
in_group bytes marks k g are bit = or_some bytes (16 * g) 16 k (sym (ap (λ b. bit_at b k) (are.marked g)) ∙ bit)

not_in_group : (bytes marks : List ℕ) (k x : ℕ) → AreMarks bytes marks → bit_at (get_or marks (x / 16) 0) k ≡ 0 → bit_at (get_or bytes x 0) k ≡ 0
not_in_group bytes marks k x are bit = or_none bytes (16 * (x / 16)) 16 k (sym (ap (λ b. bit_at b k) (are.marked (x / 16))) ∙ bit) x (omega arith) (omega arith)

pub marks_some : (bytes marks : List ℕ) (k : ℕ) → AreMarks bytes marks → HasBit marks k → HasBit bytes k
marks_some bytes marks k are has = let x = in_group bytes marks k has.0 are has.1 in (x.0, x.1.2)

pub marks_none : (bytes marks : List ℕ) (k : ℕ) → AreMarks bytes marks → LackBit marks k → LackBit bytes k
marks_none bytes marks k are lack x = not_in_group bytes marks k x are (lack (x / 16))

-- a group of which the mark has a bit is there
pub group_there : (bytes marks : List ℕ) (k g : ℕ) → AreMarks bytes marks → length bytes % 16 ≡ 0 → bit_at (get_or marks g 0) k ≡ 1 → 16 * g + 16 ≤ length bytes
group_there bytes marks k g are whole bit =
    let x = in_group bytes marks k g are bit in
    elim (cases_lt x.0 (length bytes)) [
      | inl lt ↦ omega (arith, lt, x.1.0, x.1.1, whole)
      | inr past ↦ absurd (omega (arith, x.1.2, ap (λ b. bit_at b k) (get_or_past bytes x.0 0 past), bit_at-zero k))
    ]

-- the byte nearest to an end stands in the group nearest to it
nearer : (end : End) (x at g : ℕ) → 16 * g ≤ at → at < 16 * g + 16 → (x / 16 ≡ g → ⊥) → IsNearer end x at → IsNearer end (x / 16) g
nearer Low x at g le lt differs h = omega (arith, le, lt, differs, h)
nearer High x at g le lt differs h = omega (arith, le, lt, differs, h)

pub end_bit : (bytes marks : List ℕ) (k g : ℕ) (end : End) (o : Option ℕ) → AreMarks bytes marks → IsEndBit marks k end (Some g) → IsEndBitIn bytes k end (16 * g) o → IsEndBit bytes k end o
end_bit bytes marks k g end None are group none = let x = in_group bytes marks k g are group.0 in absurd (omega (arith, x.1.2, none x.0 x.1.0 x.1.1))
end_bit bytes marks k g end (Some at) are group here = (
  here.2,
  λ x h. elim (cases_eq (x / 16) g) [
    | inl e ↦ here.3 x (omega (arith, e)) (omega (arith, e)) h
    | inr differs ↦ not_in_group bytes marks k x are (group.1 (x / 16) (nearer end x at g here.0 here.1 differs h))
  ],
)

-- The least bit of marks is that of the bytes.
pub least_marked : (bytes marks : List ℕ) (from below : ℕ) (o : Option ℕ) → AreMarks bytes marks → IsLeastBit marks from below o → IsLeastBit bytes from below o
least_marked bytes marks from below None are none = λ k low high. marks_none bytes marks k are (none k low high)
least_marked bytes marks from below (Some bit) are least = (least.0, least.1, marks_some bytes marks bit are least.2, λ k low high. marks_none bytes marks k are (least.3 k low high))

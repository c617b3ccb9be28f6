use Rattle.std.proofs.Common.{◌≡◌, ℕ, ◌+◌, ◌*◌, ◌^◌, ◌<◌, ◌≤◌, ◌⊎◌, inl, inr, List, length, get_or, set, sym, ap, ◌∙◌, refl, arith}
use Rattle.std.proofs.lemmas.Bool.{cases_lt}
use Rattle.std.proofs.lemmas.List.{length-set, get_or-set_same, get_or-set_other}
use Rattle.mark_levels.specs.Levels.{AreMarks, AreMarksBut}
use Rattle.unit_map.specs.Cells.{AreSameBut, AreInside}

-- Bytes of the table are written.

pub same_self : (u m : ℕ) (cells : List ℕ) → AreSameBut u m cells cells
same_self u m cells = record { units = refl; before = λ x lt. refl; behind = λ x le. refl }

pub same_set : (u m x v : ℕ) (old cells : List ℕ) → u ≤ x → x < u + m → AreSameBut u m old cells → AreSameBut u m old (set cells x v)
same_set u m x v old cells low high same = record {
  units = length-set cells x v ∙ same.units;
  before = λ y lt. get_or-set_other cells x y v 0 (λ e. omega (arith, e, lt, low)) ∙ same.before y lt;
  behind = λ y le. get_or-set_other cells x y v 0 (λ e. omega (arith, e, le, high)) ∙ same.behind y le;
}

-- one range within another
pub same_wider : (u m v n : ℕ) (old new : List ℕ) → v ≤ u → u + m ≤ v + n → AreSameBut u m old new → AreSameBut v n old new
same_wider u m v n old new low high same = record {
  units = same.units;
  before = λ x lt. same.before x (omega (arith, lt, low));
  behind = λ x le. same.behind x (omega (arith, le, high));
}

-- units at which no block starts, but for what is written
pub inside_set : (cells : List ℕ) (from to x v : ℕ) → (from ≤ x → x < to → ⊥) → AreInside cells from to → AreInside (set cells x v) from to
inside_set cells from to x v apart inside y le lt = get_or-set_other cells x y v 0 (λ e. apart (omega (arith, e, le)) (omega (arith, e, lt))) ∙ inside y le lt

pub inside_less : (cells : List ℕ) (from to a b : ℕ) → from ≤ a → b ≤ to → AreInside cells from to → AreInside cells a b
inside_less cells from to a b low high inside y le lt = inside y (omega (arith, low, le)) (omega (arith, high, lt))

-- one byte more is copied
pub copied_more : (old part : List ℕ) (from i v : ℕ) → v ≡ get_or old (from + i) 0 → i < length part → ((j : ℕ) → j < i → get_or part j 0 ≡ get_or old (from + j) 0)
    → (j : ℕ) → j < i + 1 → get_or (set part i v) j 0 ≡ get_or old (from + j) 0
copied_more old part from i v e there was j lt = elim (cases_lt j i) [
  | inl less ↦ get_or-set_other part i j v 0 (λ h. omega (arith, h, less)) ∙ was j less
  | inr more ↦ let same : j ≡ i = omega (arith, more, lt) in ap (λ k. get_or (set part i v) k 0) same ∙ get_or-set_same part i v 0 there ∙ e ∙ ap (λ k. get_or old (from + k) 0) (sym same)
]

-- a unit lies in the range, or its byte stays
pub same_side : (u m : ℕ) (old new : List ℕ) (x : ℕ) → AreSameBut u m old new → ((u ≤ x) × (x < u + m)) ⊎ (((x < u) ⊎ (u + m ≤ x)) × (get_or new x 0 ≡ get_or old x 0))
same_side u m old new x same = elim (cases_lt x u) [
  | inl lt ↦ inr (inl lt, same.before x lt)
  | inr low ↦ elim (cases_lt x (u + m)) [ inl lt ↦ inl (low, lt) | inr le ↦ inr (inr le, same.behind x le) ]
]

-- The marks of frames, but for one that was written.
pub marks_but : (old new marks : List ℕ) (g : ℕ) → AreMarks old marks → AreSameBut (16 * g) (2 ^ 4) old new → AreMarksBut g new marks
marks_but old new marks g are same = record {
  was = old;
  marks_was = are;
  size = same.units;
  others = λ x out. elim out [ inl lt ↦ same.before x lt | inr le ↦ same.behind x le ];
}

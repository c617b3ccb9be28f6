use Rattle.std.proofs.Common.{◌≡◌, ℕ, zero, suc, ◌+◌, ◌-◌, ◌^◌, ◌%◌, ◌<◌, ◌≤◌, Bool, true, ◌⊎◌, inl, inr, List, get_or, sym, ap, subst, ◌∙◌, refl, arith}
use Rattle.std.proofs.lemmas.Bool.{cases_lt, cases_eq}
use Rattle.std.proofs.lemmas.Nat.{pow_pos}
use Rattle.std.proofs.Math.Nat.{two-pow-succ}
use Rattle.unit_map.specs.Pieces.{AreTwoHalves, Fills, units_in}
use Rattle.unit_map.specs.Cells.{code, pieces_in, AreInside, AreSameBut, IsBlockOrHalf, IsIn, IsTiled, IsTwo}
use Rattle.unit_map.proofs.Codes.{code_some, code_same}
use Rattle.unit_map.proofs.Lists.{fills_append, units_append}
use Rattle.unit_map.proofs.Numbers.{less_aligned, next_aligned, nested, twice}
use Rattle.unit_map.proofs.Reading.{in_two, one_piece}

-- Ranges that blocks fill.

-- the block that starts at a unit of the range of a block of the order k at u
pub record IsTile (cells : List ℕ) (x u k : ℕ) : Type 0 where
  pub free : Bool
  pub order : ℕ
  pub low : order ≤ k
  pub code : get_or cells x 0 ≡ code free order
  pub inside : AreInside cells (x + 1) (x + 2 ^ order)
  pub fits : x + 2 ^ order ≤ u + 2 ^ k
  pub aligned : x % 2 ^ order ≡ 0

-- the halves of an aligned block
pub half_aligned : (k u : ℕ) → u % 2 ^ suc k ≡ 0 → (u % 2 ^ k ≡ 0) × ((u + 2 ^ k) % 2 ^ k ≡ 0)
half_aligned k u aligned = let a = less_aligned k (suc k) u (omega arith) aligned in (a, next_aligned k u a)

wider : (cells : List ℕ) (x u v k : ℕ) → v + 2 ^ k ≤ u + 2 ^ suc k → (get_or cells x 0 ≡ 0) ⊎ IsTile cells x v k → (get_or cells x 0 ≡ 0) ⊎ IsTile cells x u (suc k)
wider cells x u v k le (inl e) = inl e
wider cells x u v k le (inr t) = inr (record { free = t.free; order = t.order; low = omega (arith, t.low); code = t.code; inside = t.inside; fits = omega (arith, t.fits, le); aligned = t.aligned })

-- a byte of a range is 0, or it is that of a block there
pub tile_at : (k : ℕ) (cells : List ℕ) (u x : ℕ) → u % 2 ^ k ≡ 0 → IsTiled k cells u → u ≤ x → x < u + 2 ^ k → (get_or cells x 0 ≡ 0) ⊎ IsTile cells x u k
unfolding IsTwo
tile_at k cells u x aligned (inl is) from below = elim (cases_eq x u) [
  | inl e ↦ inr (subst (λ y. IsTile cells y u k) (sym e) (record { free = is.0; order = k; low = omega arith; code = is.1; inside = is.2; fits = omega arith; aligned = aligned }))
  | inr differs ↦ inl (is.2 x (omega (arith, from, differs)) below)
]
tile_at zero cells u x aligned (inr is) from below = absurd is
tile_at (suc k) cells u x aligned (inr is) from below =
    let size = two-pow-succ k in
    let half = half_aligned k u aligned in
    elim (cases_lt x (u + 2 ^ k)) [
      | inl lt ↦ wider cells x u u k (omega (arith, size)) (tile_at k cells u x half.0 is.0 from lt)
      | inr le ↦ wider cells x u (u + 2 ^ k) k (omega (arith, size)) (tile_at k cells (u + 2 ^ k) x half.1 is.1 le (omega (arith, below, size)))
    ]

-- so a byte of a block has a block there
pub tile_of : (k : ℕ) (cells : List ℕ) (u x j : ℕ) (b : Bool) → k ≤ 4 → j ≤ 4 → u % 2 ^ k ≡ 0 → IsTiled k cells u → u ≤ x → x < u + 2 ^ k → get_or cells x 0 ≡ code b j
    → (j ≤ k) × (x + 2 ^ j ≤ u + 2 ^ k) × (x % 2 ^ j ≡ 0) × AreInside cells (x + 1) (x + 2 ^ j)
tile_of k cells u x j b low less aligned is from below e = elim (tile_at k cells u x aligned is from below) [
  | inl none ↦ absurd (code_some b j (sym e ∙ none))
  | inr t ↦
      let same = (code_same t.free b t.order j (omega (arith, t.low, low)) less (sym t.code ∙ e)).1 in
      subst (λ i. (i ≤ k) × (x + 2 ^ i ≤ u + 2 ^ k) × (x % 2 ^ i ≡ 0) × AreInside cells (x + 1) (x + 2 ^ i)) same (t.low, t.fits, t.aligned, t.inside)
]

-- whether a range is filled is seen by its bytes, wherever they lie
at_start : (k : ℕ) (cells new : List ℕ) (u w : ℕ) → ((j : ℕ) → j < 2 ^ k → get_or new (w + j) 0 ≡ get_or cells (u + j) 0) → get_or new w 0 ≡ get_or cells u 0
at_start k cells new u w same =
    let a : w ≡ w + 0 = omega arith in
    let b : u + 0 ≡ u = omega arith in
    ap (λ x. get_or new x 0) a ∙ same 0 (pow_pos k) ∙ ap (λ x. get_or cells x 0) b

upper_moved : (k : ℕ) (cells new : List ℕ) (u w : ℕ) → ((j : ℕ) → j < 2 ^ suc k → get_or new (w + j) 0 ≡ get_or cells (u + j) 0) → (j : ℕ) → j < 2 ^ k → get_or new (w + 2 ^ k + j) 0 ≡ get_or cells (u + 2 ^ k + j) 0
upper_moved k cells new u w same j lt =
    let a : w + 2 ^ k + j ≡ w + (2 ^ k + j) = omega arith in
    let b : u + (2 ^ k + j) ≡ u + 2 ^ k + j = omega arith in
    ap (λ x. get_or new x 0) a ∙ same (2 ^ k + j) (omega (arith, lt, two-pow-succ k)) ∙ ap (λ x. get_or cells x 0) b

pub tiled_moved : (k : ℕ) (cells new : List ℕ) (u w : ℕ) → ((j : ℕ) → j < 2 ^ k → get_or new (w + j) 0 ≡ get_or cells (u + j) 0) → IsTiled k cells u → IsTiled k new w
unfolding IsTwo
tiled_moved k cells new u w same (inl is) = inl (
  is.0,
  at_start k cells new u w same ∙ is.1,
  λ x low high.
      let e : x ≡ w + (x - w) = omega (arith, low) in
      ap (λ y. get_or new y 0) e ∙ same (x - w) (omega (arith, low, high)) ∙ is.2 (u + (x - w)) (omega (arith, low)) (omega (arith, low, high)),
)
tiled_moved zero cells new u w same (inr is) = absurd is
tiled_moved (suc k) cells new u w same (inr is) =
    let lower = λ (j : ℕ) (lt : j < 2 ^ k). same j (omega (arith, lt, two-pow-succ k)) in
    let upper = upper_moved k cells new u w same in
    inr (
      tiled_moved k cells new u w lower is.0,
      tiled_moved k cells new (u + 2 ^ k) (w + 2 ^ k) upper is.1,
      λ a b. is.2 (sym (at_start k cells new u w lower) ∙ a) (sym (at_start k cells new (u + 2 ^ k) (w + 2 ^ k) upper) ∙ b),
    )

-- one that stays where it is
pub tiled_same : (k : ℕ) (cells new : List ℕ) (u : ℕ) → ((x : ℕ) → u ≤ x → x < u + 2 ^ k → get_or new x 0 ≡ get_or cells x 0) → IsTiled k cells u → IsTiled k new u
tiled_same k cells new u same is = tiled_moved k cells new u u (λ j lt. same (u + j) (omega arith) (omega (arith, lt))) is

-- the pieces of such a range
pub tiled_fills : (k : ℕ) (cells : List ℕ) (u : ℕ) → k ≤ 4 → IsTiled k cells u → Fills u (pieces_in cells u (2 ^ k)) × (units_in (pieces_in cells u (2 ^ k)) ≡ 2 ^ k)
unfolding IsTwo
tiled_fills k cells u low (inl is) = let e = one_piece cells u k is.0 low is.1 is.2 in (subst (Fills u) (sym e) (refl, tt), ap units_in e ∙ omega arith)
tiled_fills zero cells u low (inr is) = absurd is
tiled_fills (suc k) cells u low (inr is) =
    let lower = tiled_fills k cells u (omega (arith, low)) is.0 in
    let upper = tiled_fills k cells (u + 2 ^ k) (omega (arith, low)) is.1 in
    let e = ap (pieces_in cells u) (two-pow-succ k) ∙ in_two cells u (2 ^ k) (2 ^ k) in
    let ps = pieces_in cells u (2 ^ k) in
    let qs = pieces_in cells (u + 2 ^ k) (2 ^ k) in
    (subst (Fills u) (sym e) (fills_append u ps qs lower.0 (subst (λ n. Fills (u + n) qs) (sym lower.1) upper.0)), ap units_in e ∙ omega (arith, units_append ps qs, lower.1, upper.1, two-pow-succ k))

-- Other blocks in place of one, if they aren't one free block.

-- a byte that is that of a free block was so before
still : (cells new : List ℕ) (v j k w : ℕ) → k ≤ 4 → j ≤ k → v % 2 ^ j ≡ 0 → AreSameBut v (2 ^ j) cells new → IsTiled j new v → (get_or new v 0 ≡ code true j → ⊥) → w ≤ v
    → get_or new w 0 ≡ code true k → get_or cells w 0 ≡ code true k
still cells new v j k w low le aligned same is differs before e = elim (cases_lt w v) [
  | inl lt ↦ sym (same.before w lt) ∙ e
  | inr more ↦
      let at : w ≡ v = omega (arith, before, more) in
      let here = ap (λ x. get_or new x 0) (sym at) ∙ e in
      let t = tile_of j new v v k true (omega (arith, low, le)) low aligned is (omega arith) (omega (arith, pow_pos j)) here in
      let order : k ≡ j = omega (arith, t.0, le) in
      absurd (differs (here ∙ ap (code true) order))
]

pub replaced : (k : ℕ) (cells new : List ℕ) (u v j : ℕ) (b : Bool) → k ≤ 4 → j ≤ 4 → u % 2 ^ k ≡ 0 → IsTiled k cells u → u ≤ v → v < u + 2 ^ k → get_or cells v 0 ≡ code b j
    → AreSameBut v (2 ^ j) cells new → IsTiled j new v → (get_or new v 0 ≡ code true j → ⊥) → IsTiled k new u
unfolding IsTwo
replaced k cells new u v j b low less aligned (inl is) from below e same tiled differs = elim (cases_eq v u) [
  | inl at ↦
      let order = (code_same b is.0 j k less low (sym e ∙ ap (λ x. get_or cells x 0) at ∙ is.1)).1 in
      subst (IsTiled k new) at (subst (λ i. IsTiled i new v) order tiled)
  | inr apart ↦ absurd (code_some b j (sym e ∙ is.2 v (omega (arith, from, apart)) below))
]
replaced zero cells new u v j b low less aligned (inr is) from below e same tiled differs = absurd is
replaced (suc k) cells new u v j b low less aligned (inr is) from below e same tiled differs =
    let high : k ≤ 4 = omega (arith, low) in
    let half = half_aligned k u aligned in
    elim (cases_lt v (u + 2 ^ k)) [
      | inl lt ↦
          let t = tile_of k cells u v j b high less half.0 is.0 from lt e in
          inr (
            replaced k cells new u v j b high less half.0 is.0 from lt e same tiled differs,
            tiled_same k cells new (u + 2 ^ k) (λ x le lt. same.behind x (omega (arith, t.1, le))) is.1,
            λ a c. is.2 (still cells new v j k u high t.0 t.2 same tiled differs from a) (sym (same.behind (u + 2 ^ k) t.1) ∙ c),
          )
      | inr le ↦
          let more : v < u + 2 ^ k + 2 ^ k = omega (arith, below, two-pow-succ k) in
          let t = tile_of k cells (u + 2 ^ k) v j b high less half.1 is.1 le more e in
          inr (
            tiled_same k cells new u (λ x low lt. same.before x (omega (arith, lt, le))) is.0,
            replaced k cells new (u + 2 ^ k) v j b high less half.1 is.1 le more e same tiled differs,
            λ a c. is.2 (sym (same.before u (omega (arith, le, pow_pos k))) ∙ a) (still cells new v j k (u + 2 ^ k) high t.0 t.2 same tiled differs le c),
          )
    ]

-- The half of a block that a smaller one lies in.

pub lower_in : (v j u k : ℕ) → IsIn v j u (suc k) → j ≤ k → v < u + 2 ^ k → IsIn v j u k
lower_in v j u k is less lt = record { low = less; high = omega (arith, is.high); aligned = is.aligned; outer = (half_aligned k u is.outer).0; from = is.from; below = lt }

pub upper_in : (v j u k : ℕ) → IsIn v j u (suc k) → j ≤ k → u + 2 ^ k ≤ v → IsIn v j (u + 2 ^ k) k
upper_in v j u k is less le = record { low = less; high = omega (arith, is.high); aligned = is.aligned; outer = (half_aligned k u is.outer).1; from = le; below = omega (arith, is.below, two-pow-succ k) }

-- one of the same size is that block
pub whole_in : (v j u k : ℕ) → IsIn v j u k → k ≡ j → v ≡ u
whole_in v j u k is e =
    let n = nested j k v u v is.high is.low is.aligned is.outer (omega arith) (omega (arith, pow_pos j)) is.from is.below in
    omega (arith, n.0, n.1, ap (λ i. 2 ^ i) e)

-- and it ends in the larger one
pub ends_in : (v j u k : ℕ) → IsIn v j u k → v + 2 ^ j ≤ u + 2 ^ k
ends_in v j u k is = (nested j k v u v is.high is.low is.aligned is.outer (omega arith) (omega (arith, pow_pos j)) is.from is.below).1

-- A range in which a block of a smaller order stands is split.
pub split_at : (cells : List ℕ) (u k x i : ℕ) (b : Bool) → suc k ≤ 4 → i ≤ k → u ≤ x → x < u + 2 ^ suc k → get_or cells x 0 ≡ code b i → IsTiled (suc k) cells u → IsTwo (suc k) cells u
split_at cells u k x i b low less from below e (inr two) = two
split_at cells u k x i b low less from below e (inl one) = elim (cases_eq x u) [
  | inl at ↦ absurd (omega (arith, less, (code_same b one.0 i (suc k) (omega (arith, low, less)) low (sym e ∙ ap (λ y. get_or cells y 0) at ∙ one.1)).1))
  | inr apart ↦ absurd (code_some b i (sym e ∙ one.2 x (omega (arith, from, apart)) below))
]

-- so each block within a filled range in which a smaller one stands is filled
pub part_at : (k : ℕ) (cells : List ℕ) (v j u i : ℕ) (b : Bool) → IsIn v j u k → i < j → get_or cells v 0 ≡ code b i → IsTiled k cells u → IsTiled j cells v
unfolding IsTwo
part_at zero cells v j u i b is less e tiled = absurd (omega (arith, is.low, less))
part_at (suc k) cells v j u i b is less e tiled = elim (cases_eq (suc k) j) [
  | inl same ↦ subst (λ n. IsTiled n cells v) same (subst (IsTiled (suc k) cells) (sym (whole_in v j u (suc k) is same)) tiled)
  | inr smaller ↦
      let le : j ≤ k = omega (arith, is.low, smaller) in
      let two = split_at cells u k v i b is.high (omega (arith, less, le)) is.from is.below e tiled in
      elim (cases_lt v (u + 2 ^ k)) [ inl lt ↦ part_at k cells v j u i b (lower_in v j u k is le lt) less e two.0 | inr more ↦ part_at k cells v j (u + 2 ^ k) i b (upper_in v j u k is le more) less e two.1 ]
]

-- the block that holds one of a smaller order lies in the larger block
held_in : (v j u k x : ℕ) → IsIn v j u k → j < k → (x ≡ v) ⊎ ((j < 4) × AreTwoHalves v x j) → (u ≤ x) × (x < u + 2 ^ k)
held_in v j u k x is lt (inl e) = (omega (arith, e, is.from), omega (arith, e, is.below))
held_in v j u k x is lt (inr (less, inl b)) =
    let n = nested (j + 1) k v u v is.high (omega (arith, lt)) b.0 is.outer (omega arith) (omega (arith, pow_pos (j + 1))) is.from is.below in
    (omega (arith, b.1, is.from), omega (arith, b.1, n.1, twice j, pow_pos j))
held_in v j u k x is lt (inr (less, inr b)) =
    let n = nested (j + 1) k x u v is.high (omega (arith, lt)) b.0 is.outer (omega (arith, b.1)) (omega (arith, b.1, twice j, pow_pos j)) is.from is.below in
    (n.0, omega (arith, n.1, pow_pos (j + 1)))

pub halves : (cells : List ℕ) (v j u k : ℕ) → IsIn v j u (suc k) → (suc k ≡ j → ⊥) → IsBlockOrHalf cells v j → IsTiled (suc k) cells u → IsTiled k cells u × IsTiled k cells (u + 2 ^ k)
unfolding IsTwo
halves cells v j u k is smaller held tiled =
    let x = held_in v j u (suc k) held.at is (omega (arith, is.low, smaller)) held.place in
    let two = split_at cells u k held.at j held.free is.high (omega (arith, is.low, smaller)) x.0 x.1 held.is tiled in
    (two.0, two.1)

use Rattle.std.proofs.Common.{◌≡◌, ℕ, suc, ◌+◌, ◌-◌, ◌^◌, ◌<◌, ◌≤◌, true, false, inl, inr, List, [], ◌∷◌, ◌++◌, get_or, set, sym, ap, subst, ◌∙◌, arith}
use Rattle.std.proofs.lemmas.Bool.{cases_lt, cases_eq}
use Rattle.std.proofs.lemmas.List.{get_or-set_same, get_or-set_other}
use Rattle.std.proofs.lemmas.Nat.{pow_pos}
use Rattle.unit_map.specs.Pieces.{free_at}
use Rattle.unit_map.specs.Changes.{split}
use Rattle.unit_map.specs.Cells.{code, pieces_in, AreInside, IsRange, IsSplit, IsTiled, IsTwo}
use Rattle.unit_map.proofs.Codes.{code_same, free_small}
use Rattle.unit_map.proofs.Numbers.{pow_mono, twice}
use Rattle.unit_map.proofs.Reading.{in_same, in_two, one_piece}
use Rattle.unit_map.proofs.Tiles.{tiled_same}
use Rattle.unit_map.proofs.Writes.{same_self, same_set, inside_set, inside_less}

-- A free block of the order f is split.

pub split_start : (cells new : List ℕ) (u f o c : ℕ) → new ≡ set cells u c → c ≡ code false o → o ≤ f → IsRange cells u f → AreInside cells (u + 1) (u + 2 ^ f) → IsSplit cells new u f o o
split_start cells new u f o c is e le range inside =
    let here : get_or (set cells u c) u 0 ≡ code false o = get_or-set_same cells u c 0 (omega (arith, range.fits, pow_pos f)) ∙ e in
    let none : 0 ≡ o - o = omega arith in
    let rest = inside_set cells (u + 1) (u + 2 ^ f) u c (λ h g. omega (arith, h)) inside in
    let own = inside_less (set cells u c) (u + 1) (u + 2 ^ f) (u + 1) (u + 2 ^ o) (omega arith) (omega (arith, pow_mono le)) rest in
    subst (λ cs. IsSplit cells cs u f o o) (sym is) (record {
      from = omega arith;
      to = le;
      same = same_set u (2 ^ f) u c cells cells (omega arith) (omega (arith, pow_pos f)) (same_self u (2 ^ f) cells);
      rest = inside_less (set cells u c) (u + 1) (u + 2 ^ f) (u + 2 ^ o) (u + 2 ^ f) (omega (arith, pow_pos o)) (omega arith) rest;
      taken = here;
      free = λ x low high. omega (arith, own x (omega (arith, low)) high);
      tiled = inl (false, here, own);
      pieces = one_piece (set cells u c) u o false (omega (arith, le, range.low)) here own ∙ ap (split u o) none;
    })

pub split_more : (old cells : List ℕ) (u f o k x c : ℕ) → x ≡ u + 2 ^ k → c ≡ code true k → k < f → IsRange old u f → IsSplit old cells u f o k → IsSplit old (set cells x c) u f o (k + 1)
unfolding IsTwo
split_more old cells u f o k x c ex ec lt range far = record {
  from = omega (arith, far.from);
  to = omega (arith, lt);
  same = same_set u (2 ^ f) x c old cells (omega (arith, ex)) (omega (arith, ex, size, twice k, pow_pos k)) far.same;
  rest = inside_set cells (u + 2 ^ (k + 1)) (u + 2 ^ f) x c (λ h g. omega (arith, h, ex, twice k, pow_pos k)) (inside_less cells (u + 2 ^ k) (u + 2 ^ f) (u + 2 ^ (k + 1)) (u + 2 ^ f) (omega (arith, twice k)) (omega arith) far.rest);
  taken = stays u (omega (arith, pow_pos k)) ∙ far.taken;
  free = λ y low high. free y low high;
  tiled = subst (λ n. IsTiled n new u) next (inr (tiled_same k cells new u (λ y low high. stays y high) far.tiled, inl (true, here, upper), λ a b. apart (sym (stays u (omega (arith, pow_pos k)) ∙ far.taken) ∙ a)));
  pieces =
      ap (pieces_in new u) (twice k) ∙ in_two new u (2 ^ k) (2 ^ k)
      ∙ ap (λ ps. ps ++ pieces_in new (u + 2 ^ k) (2 ^ k)) (in_same new cells u (2 ^ k) (λ y ge less. stays y less) ∙ far.pieces)
      ∙ ap (λ ps. split u o (k - o) ++ ps) (one_piece new (u + 2 ^ k) k true (omega (arith, lt, range.low)) here upper)
      ∙ ap (λ n. split u o (k - o) ++ (free_at (u + 2 ^ n) n ∷ [])) all
      ∙ ap (split u o) times;
}
  where
    new : List ℕ
    new = set cells x c

    size : 2 ^ (k + 1) ≤ 2 ^ f
    size = pow_mono (omega (arith, lt))

    next : suc k ≡ k + 1
    next = omega arith

    stays : (y : ℕ) → y < u + 2 ^ k → get_or new y 0 ≡ get_or cells y 0
    stays y less = get_or-set_other cells x y c 0 (λ e. omega (arith, e, ex, less))

    here : get_or new (u + 2 ^ k) 0 ≡ code true k
    here = ap (λ y. get_or new y 0) (sym ex) ∙ get_or-set_same cells x c 0 (omega (arith, ex, range.fits, far.same.units, size, twice k, pow_pos k)) ∙ ec

    upper : AreInside new (u + 2 ^ k + 1) (u + 2 ^ k + 2 ^ k)
    upper = inside_set cells (u + 2 ^ k + 1) (u + 2 ^ k + 2 ^ k) x c (λ h g. omega (arith, h, ex)) (inside_less cells (u + 2 ^ k) (u + 2 ^ f) (u + 2 ^ k + 1) (u + 2 ^ k + 2 ^ k) (omega arith) (omega (arith, size, twice k)) far.rest)

    apart : code false o ≡ code true k → ⊥
    apart e = let b : false ≡ true = (code_same false true o k (omega (arith, far.from, lt, range.low)) (omega (arith, lt, range.low)) e).0 in cc

    free : (y : ℕ) → u < y → y < u + 2 ^ (k + 1) → get_or new y 0 < 32
    free y low high = elim (cases_lt y (u + 2 ^ k)) [
      | inl less ↦ omega (arith, stays y less, far.free y low less)
      | inr more ↦ elim (cases_eq y (u + 2 ^ k)) [
        | inl e ↦ omega (arith, ap (λ z. get_or new z 0) e ∙ here, free_small k (omega (arith, lt, range.low)))
        | inr differs ↦ omega (arith, upper y (omega (arith, more, differs)) (omega (arith, high, twice k)))
      ]
    ]

    all : k ≡ o + (k - o)
    all = omega (arith, far.from)

    times : suc (k - o) ≡ k + 1 - o
    times = omega (arith, far.from)

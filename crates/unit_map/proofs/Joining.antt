use Rattle.std.proofs.Common.{◌≡◌, ℕ, suc, ◌+◌, ◌^◌, ◌%◌, ◌<◌, ◌≤◌, true, ◌⊎◌, inl, inr, List, [], ◌∷◌, ◌++◌, length, get_or, set, sym, ap, subst, ◌∙◌, refl, arith}
use Rattle.std.proofs.lemmas.Bool.{cases_lt, cases_eq}
use Rattle.std.proofs.lemmas.List.{length-set, get_or-set_same, get_or-set_other}
use Rattle.std.proofs.lemmas.Nat.{pow_pos}
use Rattle.unit_map.specs.Pieces.{Piece, AreTwoHalves, free_at}
use Rattle.unit_map.specs.Changes.{Merges}
use Rattle.unit_map.specs.Changes.Merges.{Done, Step}
use Rattle.unit_map.specs.Cells.{code, pieces_in, pieces_of, behind, with_free, AreHalves, AreInside, AreNotFree, AreSameBut, CanClear, IsCleared, IsIn, IsMerged, IsByteKept, IsTiled, IsTwo, IsWiped}
use Rattle.unit_map.proofs.Codes.{code_same, free_small}
use Rattle.unit_map.proofs.Numbers.{less_aligned, next_aligned, twice}
use Rattle.unit_map.proofs.Reading.{in_three, in_three_new, in_two, one_piece}
use Rattle.unit_map.proofs.Tiles.{halves, tile_of, tiled_same, whole_in}
use Rattle.unit_map.proofs.Writes.{same_self, same_set, same_side}

-- Two halves of the order k at u are joined.

pub joined_not : (cells : List ℕ) (u k : ℕ) → AreHalves cells u k → AreNotFree cells u k → IsMerged cells u k cells
unfolding IsTwo
joined_not cells u k are apart =
    let next : suc k ≡ k + 1 = omega arith in
    record { units = refl; stays = λ x. inl refl; tiled = subst (λ n. IsTiled n cells u) next (inr (are.lower, are.upper, apart)); merges = Done (pieces_of cells) }

module _ (cells : List ℕ) (u v k c : ℕ) (are : AreHalves cells u k) (ev : v ≡ u + 2 ^ k) (ec : c ≡ code true (k + 1)) (a : get_or cells u 0 ≡ code true k) (b : get_or cells v 0 ≡ code true k) where
  high : k ≤ 4
  high = omega (arith, are.low)

  lower : u % 2 ^ k ≡ 0
  lower = less_aligned k (k + 1) u (omega arith) are.aligned

  own : AreInside cells (u + 1) (u + 2 ^ k)
  own = (tile_of k cells u u k true high high lower are.lower (omega arith) (omega (arith, pow_pos k)) a).3

  other : AreInside cells (v + 1) (v + 2 ^ k)
  other = subst (λ x. AreInside cells (x + 1) (x + 2 ^ k)) (sym ev) (tile_of k cells (u + 2 ^ k) (u + 2 ^ k) k true high high (next_aligned k u lower) are.upper (omega arith) (omega (arith, pow_pos k)) (ap (λ x. get_or cells x 0) (sym ev) ∙ b)).3

  here : get_or (set (set cells v 0) u c) u 0 ≡ code true (k + 1)
  here = get_or-set_same (set cells v 0) u c 0 (omega (arith, length-set cells v 0, are.fits, pow_pos (k + 1))) ∙ ec

  gone : get_or (set (set cells v 0) u c) v 0 ≡ 0
  gone = get_or-set_other (set cells v 0) u v c 0 (λ e. omega (arith, e, ev, pow_pos k)) ∙ get_or-set_same cells v 0 0 (omega (arith, ev, are.fits, twice k, pow_pos k))

  else_same : (x : ℕ) → (x ≡ u → ⊥) → (x ≡ v → ⊥) → get_or (set (set cells v 0) u c) x 0 ≡ get_or cells x 0
  else_same x apart differs = get_or-set_other (set cells v 0) u x c 0 apart ∙ get_or-set_other cells v x 0 0 differs

  stays : (x : ℕ) → (get_or (set (set cells v 0) u c) x 0 ≡ get_or cells x 0) ⊎ ((get_or cells x 0 ≡ code true k) × (get_or (set (set cells v 0) u c) x 0 < 32) × ((x ≡ u) ⊎ (x ≡ u + 2 ^ k)))
  stays x = elim (cases_eq x u) [
    | inl e ↦ inr (ap (λ y. get_or cells y 0) e ∙ a, omega (arith, ap (λ y. get_or (set (set cells v 0) u c) y 0) e ∙ here, free_small (k + 1) (omega (arith, are.low))), inl e)
    | inr apart ↦ elim (cases_eq x v) [
      | inl e ↦ inr (ap (λ y. get_or cells y 0) e ∙ b, omega (arith, ap (λ y. get_or (set (set cells v 0) u c) y 0) e ∙ gone), inr (e ∙ ev))
      | inr differs ↦ inl (else_same x apart differs)
    ]
  ]

  inside : AreInside (set (set cells v 0) u c) (u + 1) (u + 2 ^ (k + 1))
  inside x le lt = elim (cases_eq x v) [
    | inl e ↦ ap (λ y. get_or (set (set cells v 0) u c) y 0) e ∙ gone
    | inr differs ↦ else_same x (λ e. omega (arith, e, le)) differs ∙ elim (cases_lt x v) [
      | inl less ↦ own x le (omega (arith, less, ev))
      | inr more ↦ other x (omega (arith, more, differs)) (omega (arith, lt, ev, twice k))
    ]
  ]

  both : pieces_in cells u (2 ^ (k + 1)) ≡ free_at u k ∷ free_at v k ∷ []
  both =
      ap (pieces_in cells u) (twice k) ∙ in_two cells u (2 ^ k) (2 ^ k)
      ∙ ap (λ ps. ps ++ pieces_in cells (u + 2 ^ k) (2 ^ k)) (one_piece cells u k true high a own)
      ∙ ap (λ w. free_at u k ∷ pieces_in cells w (2 ^ k)) (sym ev)
      ∙ ap (λ ps. free_at u k ∷ ps) (one_piece cells v k true high b other)

  same : AreSameBut u (2 ^ (k + 1)) cells (set (set cells v 0) u c)
  same =
      same_set u (2 ^ (k + 1)) u c cells (set cells v 0) (omega arith) (omega (arith, pow_pos (k + 1)))
      (same_set u (2 ^ (k + 1)) v 0 cells cells (omega (arith, ev)) (omega (arith, ev, twice k, pow_pos k)) (same_self u (2 ^ (k + 1)) cells))

  -- two free pieces before, and one of them made
  pub joined_was : pieces_of cells ≡ pieces_in cells 0 u ++ free_at u k ∷ free_at v k ∷ behind cells u (2 ^ (k + 1))
  joined_was = in_three cells u (2 ^ (k + 1)) are.fits ∙ ap (λ ps. pieces_in cells 0 u ++ (ps ++ behind cells u (2 ^ (k + 1)))) both

  pub joined_now : pieces_of (set (set cells v 0) u c) ≡ pieces_in cells 0 u ++ free_at u (k + 1) ∷ behind cells u (2 ^ (k + 1))
  joined_now =
      in_three_new cells (set (set cells v 0) u c) u (2 ^ (k + 1)) are.fits same
      ∙ ap (λ ps. pieces_in cells 0 u ++ (ps ++ behind cells u (2 ^ (k + 1)))) (one_piece (set (set cells v 0) u c) u (k + 1) true (omega (arith, are.low)) here inside)

  pub joined : IsMerged cells u k (set (set cells v 0) u c)
  joined = record {
    units = length-set (set cells v 0) u c ∙ length-set cells v 0;
    stays = λ x. stays x;
    tiled = inl (true, here, inside);
    merges = Step (pieces_of cells) (pieces_of (set (set cells v 0) u c)) (pieces_of (set (set cells v 0) u c)) (record {
      front = pieces_in cells 0 u;
      lower = free_at u k;
      upper = free_at v k;
      back = behind cells u (2 ^ (k + 1));
      halves = record { lower = refl; upper = refl; order = are.low; same = refl; unit = are.aligned; beside = ev };
      was = joined_was;
      now = joined_now;
    }) (Done (pieces_of (set (set cells v 0) u c)));
  }

-- A block of the order j at v is cleared, which lies in one of the order n at u: it is that block.

pub wiped_now : (old new : List ℕ) (v j : ℕ) → v + 2 ^ j ≤ length old → j ≤ 4 → IsWiped old v j new → pieces_of new ≡ with_free old v j
wiped_now old new v j fits low wiped = in_three_new old new v (2 ^ j) fits wiped.same ∙ ap (λ ps. pieces_in old 0 v ++ (ps ++ behind old v (2 ^ j))) (one_piece new v j true low wiped.here wiped.inside)

pub cleared_whole : (old new : List ℕ) (v j u n : ℕ) → n ≡ j → CanClear old v j u n → IsWiped old v j new → IsCleared old v j u n new
cleared_whole old new v j u n e can wiped = record {
  same = subst (λ x. AreSameBut x (2 ^ n) old new) at (subst (λ i. AreSameBut v (2 ^ i) old new) (sym e) wiped.same);
  kept = λ x. kept x;
  part = subst (λ i. IsTiled i old v) e (subst (IsTiled n old) (sym at) can.tiled);
  tiled = subst (IsTiled n new) at (subst (λ i. IsTiled i new v) (sym e) (inl (true, wiped.here, wiped.inside)));
  merges = subst (Merges (with_free old v j)) (sym (wiped_now old new v j fits can.held.low wiped)) (Done (with_free old v j));
}
  where
    at : v ≡ u
    at = whole_in v j u n can.place e

    fits : v + 2 ^ j ≤ length old
    fits = omega (arith, can.fits, at, ap (λ i. 2 ^ i) e)

    kept : (x : ℕ) → IsByteKept old v j new x
    kept x = elim (same_side v (2 ^ j) old new x wiped.same) [
      | inr same ↦ inr (same.0, inl same.1)
      | inl within ↦ inl (
        within,
        elim (cases_eq x v) [
          | inl e ↦ omega (arith, ap (λ y. get_or new y 0) e ∙ wiped.here, free_small j can.held.low)
          | inr differs ↦ omega (arith, wiped.inside x (omega (arith, within.0, differs)) within.1)
        ],
      )
    ]

-- It lies in a half, the order of which is k, at w: that can be cleared.

halves_of : (cells : List ℕ) (v j u n k : ℕ) → k + 1 ≡ n → (n ≡ j → ⊥) → CanClear cells v j u n → IsTiled k cells u × IsTiled k cells (u + 2 ^ k)
halves_of cells v j u n k e smaller can =
    let up : n ≡ suc k = omega (arith, e) in
    halves cells v j u k (subst (IsIn v j u) up can.place) (λ h. smaller (up ∙ h)) can.held (subst (λ i. IsTiled i cells u) up can.tiled)

pub half_clears : (cells : List ℕ) (v j u n w k : ℕ) → k + 1 ≡ n → (n ≡ j → ⊥) → IsIn v j w k → (w ≡ u) ⊎ (w ≡ u + 2 ^ k) → CanClear cells v j u n → CanClear cells v j w k
half_clears cells v j u n w k e smaller place half can =
    let two = halves_of cells v j u n k e smaller can in
    record {
      place = place;
      fits = elim half [ inl h ↦ omega (arith, h, can.fits, size, twice k) | inr h ↦ omega (arith, h, can.fits, size, twice k) ];
      few = can.few;
      held = can.held;
      tiled = elim half [ inl h ↦ subst (IsTiled k cells) (sym h) two.0 | inr h ↦ subst (IsTiled k cells) (sym h) two.1 ];
    }
  where
    size : 2 ^ (k + 1) ≡ 2 ^ n
    size = ap (λ i. 2 ^ i) e

-- the two can be joined then
pub halves_join : (old mid : List ℕ) (v j u n w k : ℕ) → k + 1 ≡ n → (n ≡ j → ⊥) → (w ≡ u) ⊎ (w ≡ u + 2 ^ k) → CanClear old v j u n → IsCleared old v j w k mid → AreHalves mid u k
halves_join old mid v j u n w k e smaller half can cleared = record {
  low = omega (arith, e, can.place.high);
  aligned = subst (λ i. u % 2 ^ i ≡ 0) (sym e) can.place.outer;
  fits = omega (arith, can.fits, ap (λ i. 2 ^ i) e, cleared.same.units);
  few = omega (arith, can.few, cleared.same.units);
  lower = elim half [ inl h ↦ subst (IsTiled k mid) h cleared.tiled | inr h ↦ tiled_same k old mid u (λ x low high. cleared.same.before x (omega (arith, high, h))) two.0 ];
  upper = elim half [ inl h ↦ tiled_same k old mid (u + 2 ^ k) (λ x low high. cleared.same.behind x (omega (arith, low, h))) two.1 | inr h ↦ subst (IsTiled k mid) h cleared.tiled ];
}
  where
    two : IsTiled k old u × IsTiled k old (u + 2 ^ k)
    two = halves_of old v j u n k e smaller can

merges_both : (old mid new : List Piece) → Merges old mid → Merges mid new → Merges old new
merges_both old mid new (Done ps) m = m
merges_both old mid new (Step a next b j rest) m = Step old next new j (merges_both next mid new rest m)

-- two different halves of a block
halves_beside : (u k v x : ℕ) → u % 2 ^ (k + 1) ≡ 0 → (v ≡ u) ⊎ (v ≡ u + 2 ^ k) → (x ≡ u) ⊎ (x ≡ u + 2 ^ k) → (x ≡ v → ⊥) → AreTwoHalves v x k
halves_beside u k v x aligned (inl a) (inl b) differs = absurd (differs (b ∙ sym a))
halves_beside u k v x aligned (inl a) (inr b) differs = inl (subst (λ y. y % 2 ^ (k + 1) ≡ 0) (sym a) aligned, omega (arith, a, b))
halves_beside u k v x aligned (inr a) (inl b) differs = inr (subst (λ y. y % 2 ^ (k + 1) ≡ 0) (sym b) aligned, omega (arith, a, b))
halves_beside u k v x aligned (inr a) (inr b) differs = absurd (differs (b ∙ sym a))

pub cleared_more : (old mid new : List ℕ) (v j u n w k : ℕ) → k + 1 ≡ n → IsIn v j w k → (w ≡ u) ⊎ (w ≡ u + 2 ^ k) → CanClear old v j u n → IsCleared old v j w k mid → IsMerged mid u k new → IsCleared old v j u n new
cleared_more old mid new v j u n w k e place half can cleared joined = record {
  same = subst (λ i. AreSameBut u (2 ^ i) old new) e (record {
    units = joined.units ∙ cleared.same.units;
    before = λ x lt. at x (λ h. omega (arith, h, lt)) (λ h. omega (arith, h, lt)) ∙ cleared.same.before x (elim half [ inl h ↦ omega (arith, h, lt) | inr h ↦ omega (arith, h, lt) ]);
    behind = λ x le.
        at x (λ h. omega (arith, h, le, twice k, pow_pos k)) (λ h. omega (arith, h, le, twice k, pow_pos k))
        ∙ cleared.same.behind x (elim half [ inl h ↦ omega (arith, h, le, twice k) | inr h ↦ omega (arith, h, le, twice k) ]);
  });
  kept = λ x. by x (cleared.kept x) (joined.stays x);
  part = cleared.part;
  tiled = subst (λ i. IsTiled i new u) e joined.tiled;
  merges = merges_both (with_free old v j) (pieces_of mid) (pieces_of new) cleared.merges joined.merges;
}
  where
    at : (x : ℕ) → (x ≡ u → ⊥) → (x ≡ u + 2 ^ k → ⊥) → get_or new x 0 ≡ get_or mid x 0
    at x a b = elim (joined.stays x) [ inl same ↦ same | inr changed ↦ elim changed.2 [ inl h ↦ absurd (a h) | inr h ↦ absurd (b h) ] ]

    small : (x : ℕ) → get_or mid x 0 ≡ code true k → get_or mid x 0 < 32
    small x h = omega (arith, h, free_small k (omega (arith, e, can.place.high)))

    -- a block that was joined beside the cleared one is its other half
    other : (x : ℕ) → (x < v) ⊎ (v + 2 ^ j ≤ x) → k ≡ j → (x ≡ u) ⊎ (x ≡ u + 2 ^ k) → AreTwoHalves v x j
    other x out order at =
        let own = whole_in v j w k place order in
        subst (AreTwoHalves v x) order
        (halves_beside u k v x (subst (λ i. u % 2 ^ i ≡ 0) (sym e) can.place.outer) (elim half [ inl h ↦ inl (own ∙ h) | inr h ↦ inr (own ∙ h) ]) at (λ h. elim out [ inl lt ↦ omega (arith, lt, h) | inr le ↦ omega (arith, le, h, pow_pos j) ]))

    by : (x : ℕ) → IsByteKept old v j mid x
        → (get_or new x 0 ≡ get_or mid x 0) ⊎ ((get_or mid x 0 ≡ code true k) × (get_or new x 0 < 32) × ((x ≡ u) ⊎ (x ≡ u + 2 ^ k)))
        → IsByteKept old v j new x
    by x (inl h) (inl same) = inl (h.0, omega (arith, same, h.1))
    by x (inl h) (inr changed) = inl (h.0, changed.1)
    by x (inr (out, inl kept)) (inl same) = inr (out, inl (same ∙ kept))
    by x (inr (out, inl kept)) (inr changed) = inr (
      out,
      inr (
        omega (arith, kept, small x changed.0),
        changed.1,
        λ h. other x out (code_same true true k j (omega (arith, e, can.place.high)) can.held.low (sym changed.0 ∙ kept ∙ h)).1 changed.2,
      ),
    )
    by x (inr (out, inr merged)) (inl same) = inr (out, inr (merged.0, omega (arith, same, merged.1), merged.2))
    by x (inr (out, inr merged)) (inr changed) = inr (out, inr (merged.0, changed.1, merged.2))

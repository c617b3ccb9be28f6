use Rattle.std.proofs.Common.{◌≡◌, ℕ, ◌+◌, ◌-◌, ◌*◌, ◌^◌, ◌<◌, ◌≤◌, ◌⊎◌, ◌&&◌, true, false, cond, nat_le, nat_lt, inl, inr, List, [], ◌∷◌, ◌++◌, Option, Some, None, IfSome, option_to_list, length, sym, ap, subst, refl, ◌∙◌, arith}
use Rattle.std.proofs.lemmas.Bool.{cases_lt}
use Rattle.std.proofs.lemmas.Bool.Decides.{nat_tests}
use Rattle.std.proofs.Math.Pow.{pow_mono}
use Rattle.unit_map.specs.Pieces.{free_at}
use Rattle.unit_map.specs.Laws.{twice, within}
use Rattle.store_compaction.specs.declared.moves.Move.{Move}
use Rattle.store_compaction.specs.Next.{Ascend}
use Rattle.overlay_bits.specs.Lines.{has_line}
use Rattle.segment_store.specs.declared.segment.Segment.{Segment}
use Rattle.segment_store.specs.Store.{Store, segment_at}
use Rattle.segment_store.specs.Kept.{IsStore}
use Rattle.segment_store.specs.Changes.{AreCarried, AreLow, GoesAlong, IsKept, IsOutside, IsTarget, KeepsSegment, MakesMove, MakesMoves, SegmentsOutsideStay, block_of, moved_lines, unit_after, units_after}
use Rattle.segment_store.specs.Laws.{lines_there, some_none, stays_twice}

-- What holds of moves that were made one after the other.

-- more of them
pub made_more : (old mid new : Store) (ms ns : List Move) → MakesMoves old ms mid → MakesMoves mid ns new → MakesMoves old (ms ++ ns) new
made_more old mid new [] ns e made = subst (λ s. MakesMoves s ns new) (sym e) made
made_more old mid new (m ∷ ms) ns made more = (made.0, (made.1.0, made_more made.0 mid new ms ns made.1.1 more))

-- what stays through two changes stays
kept_twice : (one two three : Store) → IsKept one two → IsKept two three → IsKept one three
kept_twice one two three a b = record {
  whole = λ unit segment four there.
      let first = a.whole unit segment four there in
      stays_twice one two three (block_of unit segment) first (b.whole unit segment four (first.there ∙ there));
  frames = λ frame f.
      let first = a.frames frame f in
      let then = b.frames frame first.stays in
      record { stays = then.stays; lines = λ line h. then.lines line h ∙ first.lines line h };
  scratch = λ line h. b.scratch line h ∙ a.scratch line h;
  free = b.free ∙ a.free;
  units = b.units ∙ a.units;
  store = b.store;
}

kept_same : (store : Store) → IsStore store → IsKept store store
kept_same store is = record {
  whole = λ unit segment four there. record { there = refl; places = λ line has. refl; lines = λ line has. refl };
  frames = λ frame f. record { stays = f; lines = λ line h. refl };
  scratch = λ line h. refl;
  free = refl;
  units = refl;
  store = is;
}

pub made_keeps : (old new : Store) (ms : List Move) → IsStore old → MakesMoves old ms new → IsKept old new
made_keeps old new [] is e = subst (IsKept old) e (kept_same old is)
made_keeps old new (m ∷ ms) is made = kept_twice old made.0 new made.1.0.kept (made_keeps made.0 new ms made.1.0.kept.store made.1.1)

pub made_outside : (old new : Store) (ms : List Move) → MakesMoves old ms new → SegmentsOutsideStay old new ms
made_outside old new [] e unit segment there out = subst (λ s. KeepsSegment old s (block_of unit segment)) e (record { there = refl; places = λ line has. refl; lines = λ line has. refl })
made_outside old new (m ∷ ms) made unit segment there out =
    let first = made.1.0.moves.others unit segment there out.0 in
    stays_twice old made.0 new (block_of unit segment) first (made_outside made.0 new ms made.1.1 unit segment (first.there ∙ there) out.1)

-- How many there are, and how many lines they copy.

pub ascend_more : (from below : ℕ) (ms : List Move) (o : Option Move) → Ascend from below ms → IfSome o (λ m. m.order ≡ below) → Ascend from (below + 1) (ms ++ option_to_list o)
ascend_more from below [] None up last = omega (arith, up)
ascend_more from below [] (Some m) up last = (omega (arith, up, last), omega (arith, last))
ascend_more from below (m ∷ ms) o up last = (up.0, ascend_more (m.order + 1) below ms o up.1 last)

pub ascend_length : (from below : ℕ) (ms : List Move) → Ascend from below ms → from + length ms ≤ below
ascend_length from below [] up = omega (arith, up)
ascend_length from below (m ∷ ms) up = omega (arith, up.0, ascend_length (m.order + 1) below ms up.1)

pub ascend_lines : (from below : ℕ) (ms : List Move) → Ascend from below ms → moved_lines ms + 4 * 2 ^ from ≤ 4 * 2 ^ below
ascend_lines from below [] up = omega (arith, pow_mono up)
ascend_lines from below (m ∷ ms) up = omega (arith, ascend_lines (m.order + 1) below ms up.1, twice m.order, pow_mono up.0)

pub lines_more : (ms ns : List Move) → moved_lines (ms ++ ns) ≡ moved_lines ms + moved_lines ns
lines_more [] ns = omega arith
lines_more (m ∷ ms) ns = omega (arith, lines_more ms ns)

-- Where segments go.

unit_inside : (m : Move) (unit : ℕ) → m.from ≤ unit → unit < m.from + 2 ^ m.order → unit_after m unit ≡ m.to + (unit - m.from)
unfolding unit_after
unit_inside m unit low high =
    let is : (nat_le m.from unit && nat_lt unit (m.from + 2 ^ m.order)) ≡ true = grind (arith, nat_tests) in
    ap (λ b. cond b (m.to + (unit - m.from)) unit) is

unit_outside : (m : Move) (unit : ℕ) → (unit < m.from) ⊎ (m.from + 2 ^ m.order ≤ unit) → unit_after m unit ≡ unit
unfolding unit_after
unit_outside m unit out = ap (λ b. cond b (m.to + (unit - m.from)) unit) (isnt out)
  where
    isnt : (unit < m.from) ⊎ (m.from + 2 ^ m.order ≤ unit) → (nat_le m.from unit && nat_lt unit (m.from + 2 ^ m.order)) ≡ false
    isnt (inl h) = grind (arith, nat_tests)
    isnt (inr h) = grind (arith, nat_tests)

by_range : {P : Type 0} (from count unit : ℕ) → (from ≤ unit → unit < from + count → P) → ((unit < from) ⊎ (from + count ≤ unit) → P) → P
by_range {P = P} from count unit in_it out = at (cases_lt unit from) (cases_lt unit (from + count))
  where
    at : (unit < from) ⊎ (from ≤ unit) → (unit < from + count) ⊎ (from + count ≤ unit) → P
    at (inl h) k = out (inl h)
    at (inr h) (inl k) = in_it h k
    at (inr h) (inr k) = out (inr k)

-- where a segment stays, it went to its own unit
stays_along : (old new : Store) (unit : ℕ) (segment : Segment) → segment_at old unit ≡ Some segment → KeepsSegment old new (block_of unit segment) → GoesAlong old new unit unit segment
stays_along old new unit segment there kept = record {
  there = kept.there ∙ there;
  places = λ line has. ap (λ n. n + 4 * unit) (kept.places line (ap (λ bits. has_line bits line) (lines_there old unit segment there) ∙ has));
  lines = λ line has. kept.lines line (ap (λ bits. has_line bits line) (lines_there old unit segment there) ∙ has);
}

along_twice : (one two three : Store) (u v w : ℕ) (segment : Segment) → GoesAlong one two u v segment → GoesAlong two three v w segment → GoesAlong one three u w segment
along_twice one two three u v w segment a b = record {
  there = b.there;
  places = λ line has. omega (arith, a.places line has, b.places line has);
  lines = λ line has. b.lines line has ∙ a.lines line has;
}

move_carries : (old new : Store) (m : Move) → MakesMove old new m → AreCarried old new (unit_after m)
move_carries old new m moves = record {
  along = λ unit segment there. by_range m.from (2 ^ m.order) unit
      (λ low high. subst (λ to. GoesAlong old new unit to segment) (sym (unit_inside m unit low high)) (moves.along unit segment there low high))
      (λ out. subst (λ to. GoesAlong old new unit to segment) (sym (unit_outside m unit out)) (stays_along old new unit segment there (moves.others unit segment there out)));
  back = λ unit segment there. by_range m.to (2 ^ m.order) unit
      (λ low high.
      let i : ℕ = unit - m.to in
      let same : m.to + i ≡ unit = omega (arith, low) in
      let below : i < 2 ^ m.order = omega (arith, low, high) in
      let was = sym (moves.segments.inside i below) ∙ ap (segment_at new) same ∙ there in
      (m.from + i, was, unit_inside m (m.from + i) (omega arith) (omega (arith, below)) ∙ omega (arith, low)))
      (λ beside. by_range m.from (2 ^ m.order) unit
      (λ low high.
      let i : ℕ = unit - m.from in
      let same : m.from + i ≡ unit = omega (arith, low) in
      absurd (some_none segment (sym there ∙ sym (ap (segment_at new) same) ∙ moves.segments.left i (omega (arith, low, high)))))
      (λ out. (unit, sym (moves.segments.outside unit out beside) ∙ there, unit_outside m unit out)));
}

carries_twice : (one two three : Store) (f g : ℕ → ℕ) → AreCarried one two f → AreCarried two three g → AreCarried one three (λ unit. g (f unit))
carries_twice one two three f g a b = record {
  along = λ unit segment there.
      let first = a.along unit segment there in
      along_twice one two three unit (f unit) (g (f unit)) segment first (b.along (f unit) segment first.there);
  back = λ unit segment there.
      let then = b.back unit segment there in
      let first = a.back then.0 segment then.1 in
      (first.0, first.1, ap g first.2 ∙ then.2);
}

pub made_carries : (old new : Store) (ms : List Move) → MakesMoves old ms new → AreCarried old new (units_after ms)
made_carries old new [] e = record {
  along = λ unit segment there. subst (λ s. GoesAlong old s unit unit segment) e (record { there = there; places = λ line has. refl; lines = λ line has. refl });
  back = λ unit segment there. (unit, ap (λ s. segment_at s unit) e ∙ there, refl);
}
made_carries old new (m ∷ ms) made = carries_twice old made.0 new (unit_after m) (units_after ms) (move_carries old made.0 m made.1.0.moves) (made_carries made.0 new ms made.1.1)

-- a segment that moved is in a block to which one of the moves went
pub lands : (ms : List Move) (unit : ℕ) → (units_after ms unit ≡ unit) ⊎ IsTarget ms (units_after ms unit)
lands [] unit = inl refl
lands (m ∷ ms) unit = at (lands ms (unit_after m unit))
  where
    at : (units_after ms (unit_after m unit) ≡ unit_after m unit) ⊎ IsTarget ms (units_after ms (unit_after m unit)) → (units_after (m ∷ ms) unit ≡ unit) ⊎ IsTarget (m ∷ ms) (units_after (m ∷ ms) unit)
    at (inr h) = inr (inr h)
    at (inl same) = by_range m.from (2 ^ m.order) unit
        (λ low high. let to = same ∙ unit_inside m unit low high in inr (inl (omega (arith, to), omega (arith, to, low, high))))
        (λ out. inl (same ∙ unit_outside m unit out))

-- one outside stays
pub outside_fixed : (ms : List Move) (unit : ℕ) → IsOutside ms unit → units_after ms unit ≡ unit
outside_fixed [] unit out = refl
outside_fixed (m ∷ ms) unit out =
    let same = unit_outside m unit out.0 in
    ap (units_after ms) same ∙ outside_fixed ms unit out.1

pub made_low : (old new : Store) (ms : List Move) → IsStore old → MakesMoves old ms new → AreLow ms
made_low old new [] is made = tt
made_low old new (m ∷ ms) is made =
    let one = made.1.0 in
    (one.can.low, omega (arith, within old.blocks is.pieces (free_at m.to m.order) one.can.there, is.pieces.few), made_low made.0 new ms one.kept.store made.1.1)

-- The last of a list.

pub low_last : (ms : List Move) (m : Move) → AreLow (ms ++ m ∷ []) → AreLow ms × (m.order < 4) × (m.to + 2 ^ m.order ≤ 2 ^ 20)
low_last [] m low = (tt, low.0, low.1)
low_last (x ∷ ms) m low = let rest = low_last ms m low.2 in ((low.0, low.1, rest.0), rest.1, rest.2)

pub target_last : (ms : List Move) (m : Move) (unit : ℕ) → IsTarget (ms ++ m ∷ []) unit → IsTarget ms unit ⊎ ((m.to ≤ unit) × (unit < m.to + 2 ^ m.order))
target_last [] m unit (inl h) = inr h
target_last [] m unit (inr h) = absurd h
target_last (x ∷ ms) m unit (inl h) = inl (inl h)
target_last (x ∷ ms) m unit (inr h) = elim (target_last ms m unit h) [ inl a ↦ inl (inr a) | inr b ↦ inr b ]

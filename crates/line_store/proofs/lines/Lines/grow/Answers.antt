use Rattle.std.proofs.Common.{◌≡◌, ◌+◌, ◌-◌, ◌≤◌, ℕ, List, [], ◌∷◌, ◌++◌, length, length-append, append_assoc, replicate, arith, ap, sym, ◌∙◌}
use Rattle.std.proofs.lemmas.List.{replicate-append-replicate}
use Rattle.line_store.proofs.lines.Lines.grow.Goals as goal

-- Zero lines behind which four more were put.
module _ (z : List ℕ) (old items new : List (List ℕ)) (longer : length old ≤ length items)
    (are : items ≡ old ++ replicate (length items - length old) z) (put : new ≡ items ++ z ∷ z ∷ z ∷ z ∷ []) where
  four_more : length new ≡ length items + 4
  four_more = ap length put ∙ length-append items (z ∷ z ∷ z ∷ z ∷ [])

  are_more : new ≡ old ++ replicate (length new - length old) z
  are_more =
      let k = length items - length old in
      let so : length new - length old ≡ k + 4 = omega (arith, four_more, longer) in
      put ∙ ap (λ l. l ++ replicate 4 z) are ∙ append_assoc old (replicate k z) (replicate 4 z)
      ∙ ap (λ l. old ++ l) (replicate-append-replicate k 4 z) ∙ ap (λ n. old ++ replicate n z) (sym so)

-- src/lines.rt:138:9
pub making-preserved : goal.making-preserved
making-preserved c =
    let was = c.making.invariant in
    let more = four_more (replicate 64 0) c.args.self.now.items c.making.self.items c.push_four.new.self.items was.longer was.items c.push_four.ensures.items in
    record {
      items = are_more (replicate 64 0) _ _ _ was.longer was.items c.push_four.ensures.items;
      longer = omega (arith, more, was.longer);
      few = omega (arith, more, was.longer, was.few, c.if-wanted-as_slice-lt4.false, ap length c.as_slice-in-making.ensures);
      piece = (c.push_four.ensures.piece.0 ∙ was.piece.0, c.push_four.ensures.piece.1 ∙ was.piece.1);
    }

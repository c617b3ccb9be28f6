use Rattle.std.proofs.Common.{◌≡◌, ℕ, ◌+◌, ◌*◌, ◌^◌, ◌%◌, ◌<◌, set, get_or, sym, ap, subst, ◌∙◌, refl, arith}
use Rattle.unit_map.specs.Cells.{behind, pieces_in, pieces_of, IsMerged}
use Rattle.unit_map.proofs.Counting.{can_few, counts_joined, goes_same, two_there}
use Rattle.unit_map.proofs.Joining.{joined, joined_not, joined_now, joined_was}
use Rattle.unit_map.proofs.Numbers.{size_is}
use Rattle.unit_map.proofs.cells.join.Goals as goal
use Rattle.unit_map.proofs.cells.join.Goals.{else-get-byte-via-then-get-byte+else-get-byte-2, else-get-byte-via-else-get-byte}

-- the two bytes, by the halves that they begin
upper_is : (u k v : ℕ) → k < 4 → v ≡ u + 1 * 2 ^ k % 4294967296 → v ≡ u + 2 ^ k
upper_is u k v low e = omega (arith, e, size_is k (omega (arith, low)))

pub join-requires : goal.join-requires
join-requires c =
    let u = c.args.lower.unit in
    let k = c.args.lower.order in
    let at = u + 1 * 2 ^ k % 4294967296 in
    let low = c.requires.halves.low in
    record {
      low = low;
      two = two_there c.args.counts.now (pieces_of c.args.cells.now) (pieces_in c.args.cells.now 0 u) (behind c.args.cells.now u (2 ^ (k + 1))) k u at (omega (arith, low))
          (joined_was c.args.cells.now u at k c.free.result c.requires.halves (upper_is u k at low refl) c.free.ensures
          (sym c.get.ensures ∙ c.if-get-byte.true ∙ c.free-byte.ensures) (sym c.get-then-get-byte.ensures ∙ c.if-get-byte-2.true ∙ c.free-byte.ensures)) c.requires.counts;
      few = can_few c.args.counts.now c.args.cells.now (k + 1) c.requires.halves.few (omega (arith, low)) c.requires.counts;
    }

pub returns-then-get-byte-2 : goal.returns-then-get-byte-2
returns-then-get-byte-2 c =
    let cells = c.args.cells.now in
    let u = c.args.lower.unit in
    let k = c.args.lower.order in
    let at = u + 1 * 2 ^ k % 4294967296 in
    let place = upper_is u k at c.requires.halves.low refl in
    let a = sym c.get.ensures ∙ c.if-get-byte.true ∙ c.free-byte.ensures in
    let b = sym c.get-then-get-byte.ensures ∙ c.if-get-byte-2.true ∙ c.free-byte.ensures in
    let made = c.set-then-get-byte-2.ensures ∙ ap (λ xs. set xs u c.free.result) c.set.ensures in
    record {
      joined = subst (IsMerged cells u k) (sym made) (joined cells u at k c.free.result c.requires.halves place c.free.ensures a b);
      counts = counts_joined c.args.counts.now c.join.new.counts (pieces_of cells) (pieces_of c.set-then-get-byte-2.new.self) (pieces_in cells 0 u) (behind cells u (2 ^ (k + 1))) k u at
          (joined_was cells u at k c.free.result c.requires.halves place c.free.ensures a b)
          (ap pieces_of made ∙ joined_now cells u at k c.free.result c.requires.halves place c.free.ensures a b)
          (c.join.ensures u at);
    }

pub returns-else-get-byte : goal.returns-else-get-byte
returns-else-get-byte c =
    let size = size_is c.args.lower.order (omega (arith, c.requires.halves.low)) in
    record {
      joined = joined_not c.args.cells.now c.args.lower.unit c.args.lower.order c.requires.halves (elim c.else-get-byte.branch [
        | else-get-byte-via-then-get-byte+else-get-byte-2 w ↦ λ a b. w.if-get-byte-2.false (w.get-then-get-byte.ensures ∙ ap (λ s. get_or c.args.cells.now (c.args.lower.unit + s) 0) size ∙ b ∙ sym c.free-byte.ensures)
        | else-get-byte-via-else-get-byte w ↦ λ a b. w.if-get-byte.false (c.get.ensures ∙ a ∙ sym c.free-byte.ensures)
      ]);
      counts = goes_same c.args.counts.now (pieces_of c.args.cells.now) (pieces_of c.args.cells.now) refl;
    }

use Rattle.std.proofs.Common.{◌≡◌, ℕ, zero, ◌+◌, ◌^◌, List, [], ◌∷◌, ◌++◌, subst, arith}
use Rattle.unit_map.specs.Pieces.{Piece, units_in, Fills}
pub use Rattle.unit_map.specs.Laws.{in_either, in_lower, in_upper, lies, units_append}

-- Pieces of two lists, one after the other.

pub fills_append : (u : ℕ) (ps qs : List Piece) → Fills u ps → Fills (u + units_in ps) qs → Fills u (ps ++ qs)
fills_append u [] qs h g = let same : u + zero ≡ u = omega arith in subst (λ n. Fills n qs) same g
fills_append u (p ∷ ps) qs h g =
    let same : u + (2 ^ p.order + units_in ps) ≡ u + 2 ^ p.order + units_in ps = omega arith in
    (h.0, fills_append (u + 2 ^ p.order) ps qs h.1 (subst (λ n. Fills n qs) same g))

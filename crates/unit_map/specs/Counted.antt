use Rattle.std.specs.Prelude.{◌≡◌, ℕ, ◌+◌, ◌^◌, ◌≤◌, List, length, get_or}
use Rattle.unit_map.specs.Pieces.{Piece, count}

-- The counts of a map, by order from 0 to 4.

-- they say how many free pieces there are of each order
pub record AreCounts (counts : List ℕ) (ps : List Piece) : Type 0 where
  pub size : length counts ≡ 5
  pub each : (k : ℕ) → k ≤ 4 → get_or counts k 0 ≡ count k ps

-- they say at least as many, and not many more
pub record CanCount (counts : List ℕ) (ps : List Piece) : Type 0 where
  pub size : length counts ≡ 5
  pub some : (k : ℕ) → k ≤ 4 → count k ps ≤ get_or counts k 0
  pub few : (k : ℕ) → k ≤ 4 → get_or counts k 0 ≤ count k ps + 2 ^ 20

-- they changed as pieces did
pub record GoAlong (old : List ℕ) (ps : List Piece) (new : List ℕ) (qs : List Piece) : Type 0 where
  pub size : length new ≡ length old
  pub each : (k : ℕ) → k ≤ 4 → get_or new k 0 + count k ps ≡ get_or old k 0 + count k qs

use Rattle.std.specs.Prelude.{◌≡◌, ℕ, ◌+◌, ◌-◌, ◌<◌, ◌≤◌, List, length, get_or}

-- elements from one place on stand from another one on too, and the others stay
pub record AreCopied {X : Type 0} (old new : List X) (from to n : ℕ) : Type 0 where
  pub size : length new ≡ length old
  pub copied : (i : ℕ) (d : X) → to ≤ i → i < to + n → get_or new i d ≡ get_or old (from + (i - to)) d
  pub below : (i : ℕ) (d : X) → i < to → get_or new i d ≡ get_or old i d
  pub above : (i : ℕ) (d : X) → to + n ≤ i → get_or new i d ≡ get_or old i d

use Rattle.std.proofs.Common.{◌≡◌, ◌≢◌, ℕ, ◌<◌, ◌≤◌, Bool, true, false, inl, inr, [], ◌∷◌, sym, ap, ◌∙◌, refl, arith}
use Rattle.std.proofs.lemmas.Bool.{cases_eq}
use Rattle.std.proofs.lemmas.Nat.{pow_pos}
use Rattle.std.proofs.lemmas.Nat.Bits.{bit_at-pow_other}
use Rattle.std.specs.Int.{bit_at}
use Rattle.unit_map.specs.Pieces.{Piece}
use Rattle.unit_map.specs.Cells.{code, piece_at}
use Rattle.unit_map.proofs.Numbers.{by_order, pow_mono}

-- The bytes of blocks.

abbrev pub block : ℕ → ℕ → Bool → Piece
block unit order free = record { unit = unit; order = order; free = free }

pub code_some : (b : Bool) (k : ℕ) → code b k ≡ 0 → ⊥
code_some true k h = omega (arith, h, pow_pos k)
code_some false k h = omega (arith, h)

pub piece_none : (u : ℕ) → piece_at u 0 ≡ []
unfolding piece_at
piece_none u = refl

pub piece_code : (u : ℕ) (b : Bool) (k : ℕ) → k ≤ 4 → piece_at u (code b k) ≡ block u k b ∷ []
unfolding piece_at
piece_code u true k h = by_order (λ k. piece_at u (code true k) ≡ block u k true ∷ []) refl refl refl refl refl k h
piece_code u false k h = by_order (λ k. piece_at u (code false k) ≡ block u k false ∷ []) refl refl refl refl refl k h

-- a byte is that of one kind and order
pub code_same : (b a : Bool) (k j : ℕ) → k ≤ 4 → j ≤ 4 → code b k ≡ code a j → (b ≡ a) × (k ≡ j)
code_same b a k j low less h =
    let both : block 0 k b ∷ [] ≡ block 0 j a ∷ [] = sym (piece_code 0 b k low) ∙ ap (piece_at 0) h ∙ piece_code 0 a j less in
    let one : block 0 k b ≡ block 0 j a = cc in
    (ap (λ (p : Piece). p.free) one, ap (λ (p : Piece). p.order) one)

-- the bits from 0 to 4 are those of free blocks
pub bit_code : (b : Bool) (k j : ℕ) → j ≤ 4 → bit_at (code b k) j ≡ 1 → (b ≡ true) × (k ≡ j)
bit_code true k j low h = elim (cases_eq k j) [
  | inl e ↦ (refl, e)
  | inr differs ↦ let other : j ≢ k = λ e. differs (sym e) in absurd (omega (arith, h, bit_at-pow_other k j other))
]
bit_code false k j low h =
    absurd (by_order (λ j. bit_at (code false k) j ≡ 1 → ⊥) (λ h. omega (arith, h)) (λ h. omega (arith, h)) (λ h. omega (arith, h)) (λ h. omega (arith, h)) (λ h. omega (arith, h)) j low h)

-- the bytes of taken blocks are those from 32 on
pub free_small : (k : ℕ) → k ≤ 4 → code true k < 32
free_small k low = omega (arith, pow_mono low)
